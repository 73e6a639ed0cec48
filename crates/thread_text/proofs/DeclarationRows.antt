-- The table's rows for declarations, as the parser's functions use them.
use Rattle.std.proofs.Common.{◌≡◌, List, [], ◌∷◌, Option, Some, None, IsSome, refl, ap, ◌∙◌, true, false}
use Rattle.thread_tree.specs.declared.token.Mark.TheVariants as mark
use Rattle.thread_tree.specs.declared.token.Token.{Token}
use Rattle.thread_tree.specs.declared.token.Token.TheVariants as token
use Rattle.thread_tree.specs.declared.token.Word.TheVariants as word
use Rattle.thread_tree.specs.Grammar.{turn, call_end, declared, declared_by, statement, stated_by, tstatement, transacted_by, is_mark, is_word, is_name, is_number, is_text, mark_number, word_number}
use Rattle.thread_tree.specs.Parts.{Part, TheMark, TheWord, AName, ANumber, MoreNames, Channel, Parameters, Numbers, ABlock}
use Rattle.thread_text.specs.Bounds.{counted, own_counts, open_counts, close_counts}
use Rattle.thread_text.specs.Fate.{Reading, StuckAt, ahead, next, next_of, sees_word, skipped}
use Rattle.thread_text.specs.Kinds.{word_in}
use Rattle.thread_text.proofs.Steps.{begins_takes, begins_stuck, ahead_alike, unseen, not_next, counting_same}
use Rattle.thread_text.proofs.ExpressionRows.{word_row}
use Rattle.thread_text.proofs.Taken.{next_a_word}

pub declares_type : (r : Reading) → next_of word_in r ≡ Some word.Type → ahead [] r ≡ ahead (AName ∷ TheMark mark.OpenBrace ∷ AName ∷ MoreNames (TheMark mark.CloseBrace) ∷ []) (skipped r)
unfolding declared declared_by
declares_type r h = begins_takes (AName ∷ TheMark mark.OpenBrace ∷ AName ∷ MoreNames (TheMark mark.CloseBrace) ∷ []) r (token.Word word.Type) (next_a_word r word.Type h) refl

pub declares_object : (r : Reading) → next_of word_in r ≡ Some word.Object → ahead [] r ≡ ahead (AName ∷ TheMark mark.Colon ∷ AName ∷ TheMark mark.Semicolon ∷ []) (skipped r)
unfolding declared declared_by
declares_object r h = begins_takes (AName ∷ TheMark mark.Colon ∷ AName ∷ TheMark mark.Semicolon ∷ []) r (token.Word word.Object) (next_a_word r word.Object h) refl

pub declares_queue : (r : Reading) → next_of word_in r ≡ Some word.Queue → ahead [] r ≡ ahead (AName ∷ TheMark mark.OpenBracket ∷ ANumber ∷ TheMark mark.CloseBracket ∷ Channel ∷ []) (skipped r)
unfolding declared declared_by
declares_queue r h = begins_takes (AName ∷ TheMark mark.OpenBracket ∷ ANumber ∷ TheMark mark.CloseBracket ∷ Channel ∷ []) r (token.Word word.Queue) (next_a_word r word.Queue h) refl

pub declares_semaphore : (r : Reading) → next_of word_in r ≡ Some word.Semaphore → ahead [] r ≡ ahead (AName ∷ TheMark mark.Equals ∷ ANumber ∷ TheWord word.Max ∷ ANumber ∷ TheMark mark.Semicolon ∷ []) (skipped r)
unfolding declared declared_by
declares_semaphore r h = begins_takes (AName ∷ TheMark mark.Equals ∷ ANumber ∷ TheWord word.Max ∷ ANumber ∷ TheMark mark.Semicolon ∷ []) r (token.Word word.Semaphore) (next_a_word r word.Semaphore h) refl

pub declares_fn : (r : Reading) → next_of word_in r ≡ Some word.Fn → ahead [] r ≡ ahead (AName ∷ TheMark mark.OpenParenthesis ∷ Parameters ∷ ABlock ∷ []) (skipped r)
unfolding declared declared_by
declares_fn r h = begins_takes (AName ∷ TheMark mark.OpenParenthesis ∷ Parameters ∷ ABlock ∷ []) r (token.Word word.Fn) (next_a_word r word.Fn h) refl

pub declares_thread : (r : Reading) → next_of word_in r ≡ Some word.Thread → ahead [] r ≡ ahead (AName ∷ TheMark mark.OpenParenthesis ∷ Parameters ∷ TheWord word.Priority ∷ ANumber ∷ ABlock ∷ []) (skipped r)
unfolding declared declared_by
declares_thread r h = begins_takes (AName ∷ TheMark mark.OpenParenthesis ∷ Parameters ∷ TheWord word.Priority ∷ ANumber ∷ ABlock ∷ []) r (token.Word word.Thread) (next_a_word r word.Thread h) refl

pub declares_start : (r : Reading) → next_of word_in r ≡ Some word.Start → ahead [] r ≡ ahead (AName ∷ TheMark mark.OpenParenthesis ∷ Numbers ∷ TheMark mark.Semicolon ∷ []) (skipped r)
unfolding declared declared_by
declares_start r h = begins_takes (AName ∷ TheMark mark.OpenParenthesis ∷ Numbers ∷ TheMark mark.Semicolon ∷ []) r (token.Word word.Start) (next_a_word r word.Start h) refl

pub channel_some : (parts : List Part) (r : Reading) → sees_word word.Input r ≡ true → ahead (Channel ∷ parts) r ≡ ahead (ANumber ∷ TheMark mark.Semicolon ∷ parts) (skipped r)
unfolding turn call_end statement stated_by tstatement transacted_by counted own_counts open_counts close_counts is_mark is_word is_name is_number is_text mark_number word_number
channel_some parts r h = word_row Channel parts (ANumber ∷ TheMark mark.Semicolon ∷ []) r word.Input r.counts h refl refl ∙ ap (λ q. ahead (ANumber ∷ TheMark mark.Semicolon ∷ parts) q) (counting_same r)

pub channel_none : (parts : List Part) (r : Reading) → sees_word word.Input r ≡ false → ahead (Channel ∷ parts) r ≡ ahead (TheMark mark.Semicolon ∷ parts) r
unfolding turn counted call_end
channel_none parts r h = ahead_alike Channel (TheMark mark.Semicolon) parts (parts) r r.counts (λ t e. let f = unseen (is_word word.Input) r t h e in rw f (refl))

pub declares_stuck : (r : Reading) (w : word.the_data) → next_of word_in r ≡ Some w → declared_by w ≡ None → ahead [] r ≡ StuckAt r.left
unfolding declared
declares_stuck r w h none = begins_stuck r (token.Word w) (next_a_word r w h) none

no_declaration : (t : Token) → word_in t ≡ None → declared t ≡ None
unfolding word_in declared
no_declaration (token.Word w) h = absurd (cc)
no_declaration (token.Name _) h = refl
no_declaration (token.Number _) h = refl
no_declaration (token.Text _) h = refl
no_declaration (token.Mark _) h = refl
no_declaration (token.Operator _) h = refl

pub declares_no_word : (r : Reading) → IsSome (next r.left) → next_of word_in r ≡ None → ahead [] r ≡ StuckAt r.left
declares_no_word r some h = go (next r.left) refl some where
  go : (o : Option Token) → next r.left ≡ o → IsSome o → ahead [] r ≡ StuckAt r.left
  go (Some t) e s = begins_stuck r t e (no_declaration t (not_next word_in r t h e))
  go None e s = absurd (cc)
