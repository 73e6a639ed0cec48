-- Each text computes to its tokens.
use Rattle.std.proofs.Common.{refl}
use Rattle.thread_tokens.specs.Form.{form_of, longest, symbol_of}
use Rattle.thread_tokens.specs.Piece.{blank_length, piece}
use Rattle.thread_tokens.specs.Scan.{scan_from, scan_of}
use Rattle.text_rows.proofs.worked_scans.worked_by_hand.Goals as goal

pub returns-clause-arrow_is_one : goal.returns-clause-arrow_is_one
unfolding symbol_of form_of longest blank_length piece scan_from scan_of
returns-clause-arrow_is_one c = refl

pub returns-clause-minus_then_arrow : goal.returns-clause-minus_then_arrow
unfolding symbol_of form_of longest blank_length piece scan_from scan_of
returns-clause-minus_then_arrow c = refl

pub returns-clause-comment_at_the_end : goal.returns-clause-comment_at_the_end
unfolding symbol_of form_of longest blank_length piece scan_from scan_of
returns-clause-comment_at_the_end c = refl

pub returns-clause-comment_then_line : goal.returns-clause-comment_then_line
unfolding symbol_of form_of longest blank_length piece scan_from scan_of
returns-clause-comment_then_line c = refl

pub returns-clause-number_then_name : goal.returns-clause-number_then_name
unfolding symbol_of form_of longest blank_length piece scan_from scan_of
returns-clause-number_then_name c = refl

pub returns-clause-names_once : goal.returns-clause-names_once
unfolding symbol_of form_of longest blank_length piece scan_from scan_of
returns-clause-names_once c = refl

pub returns-clause-longest_mark : goal.returns-clause-longest_mark
unfolding symbol_of form_of longest blank_length piece scan_from scan_of
returns-clause-longest_mark c = refl

pub returns-clause-not_closed : goal.returns-clause-not_closed
unfolding symbol_of form_of longest blank_length piece scan_from scan_of
returns-clause-not_closed c = refl

pub returns-clause-closed : goal.returns-clause-closed
unfolding symbol_of form_of longest blank_length piece scan_from scan_of
returns-clause-closed c = refl

pub returns-clause-no_token : goal.returns-clause-no_token
unfolding symbol_of form_of longest blank_length piece scan_from scan_of
returns-clause-no_token c = refl

pub returns-clause-number_bound : goal.returns-clause-number_bound
unfolding symbol_of form_of longest blank_length piece scan_from scan_of
returns-clause-number_bound c = refl

pub returns-clause-name_bound : goal.returns-clause-name_bound
unfolding symbol_of form_of longest blank_length piece scan_from scan_of
returns-clause-name_bound c = refl

pub returns-clause-end_behind_blanks : goal.returns-clause-end_behind_blanks
unfolding symbol_of form_of longest blank_length piece scan_from scan_of
returns-clause-end_behind_blanks c = refl
