-- The table's rows for statements of transactions, as the parser's functions use them.
use Rattle.std.proofs.Common.{◌≡◌, List, [], ◌∷◌, Some, None, refl, ap, ◌∙◌, true, false, cond}
use Rattle.thread_tree.specs.declared.token.Mark.TheVariants as mark
use Rattle.thread_tree.specs.declared.token.Token.{Token}
use Rattle.thread_tree.specs.declared.token.Token.TheVariants as token
use Rattle.thread_tree.specs.declared.token.Word.TheVariants as word
use Rattle.thread_tree.specs.Grammar.{turn, call_end, statement, stated_by, tstatement, transacted_by, is_mark, is_word, is_name, is_number, is_text, mark_number, word_number}
use Rattle.thread_tree.specs.Parts.{Part, TheMark, AName, ATBlock, TStatements, TOtherwise, AfterTName, TAssigned, MoreField, Values, Expression}
use Rattle.thread_text.specs.Bounds.{Counts, counted, own_counts, open_counts, close_counts}
use Rattle.thread_text.specs.Fate.{Reading, judged, ahead, next_of, sees, sees_word, skipped}
use Rattle.thread_text.specs.Kinds.{word_in}
use Rattle.thread_text.proofs.Steps.{ahead_alike, unseen, not_next, counting_same}
use Rattle.thread_text.proofs.ExpressionRows.{mark_row, word_row, then_alike}
use Rattle.thread_text.proofs.StatementRows.{said}

pub transacts_let : (parts : List Part) (r : Reading) → next_of word_in r ≡ Some word.Let → ahead (TStatements ∷ parts) r ≡ ahead (AName ∷ TheMark mark.Equals ∷ TAssigned ∷ TStatements ∷ parts) (skipped r)
unfolding turn call_end statement stated_by tstatement transacted_by counted own_counts open_counts close_counts is_mark is_word is_name is_number is_text mark_number word_number
transacts_let parts r h = said TStatements parts (AName ∷ TheMark mark.Equals ∷ TAssigned ∷ TStatements ∷ []) r word.Let h refl refl

pub transacts_free : (parts : List Part) (r : Reading) → next_of word_in r ≡ Some word.Free → ahead (TStatements ∷ parts) r ≡ ahead (Expression true (TheMark mark.Semicolon) ∷ TStatements ∷ parts) (skipped r)
unfolding turn call_end statement stated_by tstatement transacted_by counted own_counts open_counts close_counts is_mark is_word is_name is_number is_text mark_number word_number
transacts_free parts r h = said TStatements parts (Expression true (TheMark mark.Semicolon) ∷ TStatements ∷ []) r word.Free h refl refl

pub transacts_if : (parts : List Part) (r : Reading) → next_of word_in r ≡ Some word.If → ahead (TStatements ∷ parts) r ≡ ahead (Expression true ATBlock ∷ TOtherwise ∷ parts) (skipped r)
unfolding turn call_end statement stated_by tstatement transacted_by counted own_counts open_counts close_counts is_mark is_word is_name is_number is_text mark_number word_number
transacts_if parts r h = said TStatements parts (Expression true ATBlock ∷ TOtherwise ∷ []) r word.If h refl refl

pub transacts_while : (parts : List Part) (r : Reading) → next_of word_in r ≡ Some word.While → ahead (TStatements ∷ parts) r ≡ ahead (Expression true ATBlock ∷ TStatements ∷ parts) (skipped r)
unfolding turn call_end statement stated_by tstatement transacted_by counted own_counts open_counts close_counts is_mark is_word is_name is_number is_text mark_number word_number
transacts_while parts r h = said TStatements parts (Expression true ATBlock ∷ TStatements ∷ []) r word.While h refl refl

pub transacts_break : (parts : List Part) (r : Reading) → next_of word_in r ≡ Some word.Break → ahead (TStatements ∷ parts) r ≡ ahead (TheMark mark.Semicolon ∷ TStatements ∷ parts) (skipped r)
unfolding turn call_end statement stated_by tstatement transacted_by counted own_counts open_counts close_counts is_mark is_word is_name is_number is_text mark_number word_number
transacts_break parts r h = said TStatements parts (TheMark mark.Semicolon ∷ TStatements ∷ []) r word.Break h refl refl

pub transacts_abort : (parts : List Part) (r : Reading) → next_of word_in r ≡ Some word.Abort → ahead (TStatements ∷ parts) r ≡ ahead (TheMark mark.Semicolon ∷ TStatements ∷ parts) (skipped r)
unfolding turn call_end statement stated_by tstatement transacted_by counted own_counts open_counts close_counts is_mark is_word is_name is_number is_text mark_number word_number
transacts_abort parts r h = said TStatements parts (TheMark mark.Semicolon ∷ TStatements ∷ []) r word.Abort h refl refl

pub transacts_give : (parts : List Part) (r : Reading) → next_of word_in r ≡ Some word.Give → ahead (TStatements ∷ parts) r ≡ ahead (Values ∷ TStatements ∷ parts) (skipped r)
unfolding turn call_end statement stated_by tstatement transacted_by counted own_counts open_counts close_counts is_mark is_word is_name is_number is_text mark_number word_number
transacts_give parts r h = said TStatements parts (Values ∷ TStatements ∷ []) r word.Give h refl refl

pub telse_some : (parts : List Part) (r : Reading) → sees_word word.Else r ≡ true → ahead (TOtherwise ∷ parts) r ≡ ahead (ATBlock ∷ TStatements ∷ parts) (skipped r)
unfolding turn call_end statement stated_by tstatement transacted_by counted own_counts open_counts close_counts is_mark is_word is_name is_number is_text mark_number word_number
telse_some parts r h = word_row TOtherwise parts (ATBlock ∷ TStatements ∷ []) r word.Else r.counts h refl refl ∙ ap (λ q. ahead (ATBlock ∷ TStatements ∷ parts) q) (counting_same r)

pub telse_none : (parts : List Part) (r : Reading) → sees_word word.Else r ≡ false → ahead (TOtherwise ∷ parts) r ≡ ahead (TStatements ∷ parts) r
unfolding turn counted call_end
telse_none parts r h = ahead_alike TOtherwise TStatements parts (parts) r r.counts (λ t e. let f = unseen (is_word word.Else) r t h e in rw f (refl))

pub tassigns : (parts : List Part) (r : Reading) → sees mark.Equals r ≡ true → ahead (AfterTName ∷ parts) r ≡ ahead (TAssigned ∷ parts) (skipped r)
unfolding turn call_end statement stated_by tstatement transacted_by counted own_counts open_counts close_counts is_mark is_word is_name is_number is_text mark_number word_number
tassigns parts r h = mark_row AfterTName parts (TAssigned ∷ []) r mark.Equals r.counts h refl refl ∙ ap (λ q. ahead (TAssigned ∷ parts) q) (counting_same r)

pub stores : (parts : List Part) (r : Reading) → sees mark.Equals r ≡ false → ahead (AfterTName ∷ parts) r ≡ ahead (TheMark mark.Dot ∷ AName ∷ MoreField ∷ parts) r
unfolding turn counted call_end
stores parts r h = ahead_alike AfterTName (TheMark mark.Dot) parts (AName ∷ MoreField ∷ parts) r r.counts (λ t e. let f = unseen (is_mark mark.Equals) r t h e in rw f (then_alike (is_mark mark.Dot t) (AName ∷ MoreField ∷ []) _ parts))

pub makes : (parts : List Part) (r : Reading) → sees_word word.New r ≡ true → ahead (TAssigned ∷ parts) r ≡ ahead (AName ∷ TheMark mark.Semicolon ∷ parts) (skipped r)
unfolding turn call_end statement stated_by tstatement transacted_by counted own_counts open_counts close_counts is_mark is_word is_name is_number is_text mark_number word_number
makes parts r h = word_row TAssigned parts (AName ∷ TheMark mark.Semicolon ∷ []) r word.New r.counts h refl refl ∙ ap (λ q. ahead (AName ∷ TheMark mark.Semicolon ∷ parts) q) (counting_same r)

pub values : (parts : List Part) (r : Reading) → sees_word word.New r ≡ false → ahead (TAssigned ∷ parts) r ≡ ahead (Expression true (TheMark mark.Semicolon) ∷ parts) r
unfolding turn counted call_end
values parts r h = ahead_alike TAssigned (Expression true (TheMark mark.Semicolon)) parts (parts) r r.counts (λ t e. let f = unseen (is_word word.New) r t h e in rw f (refl))

pub field_more : (parts : List Part) (r : Reading) → sees mark.Dot r ≡ true → ahead (MoreField ∷ parts) r ≡ ahead (AName ∷ TheMark mark.Equals ∷ Expression true (TheMark mark.Semicolon) ∷ parts) (skipped r)
unfolding turn call_end statement stated_by tstatement transacted_by counted own_counts open_counts close_counts is_mark is_word is_name is_number is_text mark_number word_number
field_more parts r h = mark_row MoreField parts (AName ∷ TheMark mark.Equals ∷ Expression true (TheMark mark.Semicolon) ∷ []) r mark.Dot r.counts h refl refl ∙ ap (λ q. ahead (AName ∷ TheMark mark.Equals ∷ Expression true (TheMark mark.Semicolon) ∷ parts) q) (counting_same r)

pub field_over : (parts : List Part) (r : Reading) → sees mark.Dot r ≡ false → ahead (MoreField ∷ parts) r ≡ ahead (TheMark mark.Equals ∷ Expression true (TheMark mark.Semicolon) ∷ parts) r
unfolding turn counted call_end
field_over parts r h = ahead_alike MoreField (TheMark mark.Equals) parts (Expression true (TheMark mark.Semicolon) ∷ parts) r r.counts (λ t e. let f = unseen (is_mark mark.Dot) r t h e in rw f (then_alike (is_mark mark.Equals t) (Expression true (TheMark mark.Semicolon) ∷ []) _ parts))

-- no word and no closing brace is next, so a name begins the statement
named_alike : (parts : List Part) (c : Counts) (t : Token) → word_in t ≡ None → is_mark mark.CloseBrace t ≡ false → judged (tstatement t) (close_counts t c) parts ≡ judged (cond (is_name t) (Some []) None) (Some c) (AfterTName ∷ TStatements ∷ parts)
unfolding judged tstatement close_counts is_name
named_alike parts c (token.Name _) w b = refl
named_alike parts c (token.Number _) w b = refl
named_alike parts c (token.Text _) w b = refl
named_alike parts c (token.Operator _) w b = refl
named_alike parts c (token.Word v) w b = unfold word_in in absurd (cc)
named_alike parts c (token.Mark mark.CloseBrace) w b = unfold is_mark mark_number in absurd (cc)
named_alike parts c (token.Mark mark.OpenBrace) w b = refl
named_alike parts c (token.Mark mark.OpenParenthesis) w b = refl
named_alike parts c (token.Mark mark.CloseParenthesis) w b = refl
named_alike parts c (token.Mark mark.OpenBracket) w b = refl
named_alike parts c (token.Mark mark.CloseBracket) w b = refl
named_alike parts c (token.Mark mark.Semicolon) w b = refl
named_alike parts c (token.Mark mark.Comma) w b = refl
named_alike parts c (token.Mark mark.Colon) w b = refl
named_alike parts c (token.Mark mark.Dot) w b = refl
named_alike parts c (token.Mark mark.Equals) w b = refl
named_alike parts c (token.Mark mark.Arrow) w b = refl

pub begins_tnamed : (parts : List Part) (r : Reading) → next_of word_in r ≡ None → sees mark.CloseBrace r ≡ false → ahead (TStatements ∷ parts) r ≡ ahead (AName ∷ AfterTName ∷ TStatements ∷ parts) r
unfolding turn counted
begins_tnamed parts r w b = ahead_alike TStatements AName parts (AfterTName ∷ TStatements ∷ parts) r r.counts (λ t e. named_alike parts r.counts t (not_next word_in r t w e) (unseen (is_mark mark.CloseBrace) r t b e))
