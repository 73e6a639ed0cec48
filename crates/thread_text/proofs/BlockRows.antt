-- The rows of braces, and of words that begin nothing.
use Rattle.std.proofs.Common.{◌≡◌, ◌<◌, ◌≤◌, ◌+◌, ◌-◌, List, [], ◌∷◌, Option, Some, None, refl, ap, ◌∙◌, true, false, arith}
use Rattle.std.proofs.lemmas.Bool.Decides.{nat_tests}
use Rattle.std.specs.Prelude.{nat_lt}
use Rattle.thread_tree.specs.declared.token.Mark.TheVariants as mark
use Rattle.thread_tree.specs.declared.token.Token.{Token}
use Rattle.thread_tree.specs.declared.token.Token.TheVariants as token
use Rattle.thread_tree.specs.declared.token.Word.TheVariants as word
use Rattle.thread_tree.specs.Grammar.{turn, declared_by, plain_by, statement, stated_by, tstatement, transacted_by, is_mark, mark_number}
use Rattle.thread_tree.specs.Pieces.{shape}
use Rattle.thread_tree.specs.Parts.{Part, ABlock, Statements, ATBlock, TStatements}
use Rattle.thread_text.specs.Bounds.{counted, open_counts, close_counts, one_block, block_less}
use Rattle.thread_text.specs.Fate.{Reading, StuckAt, LongAt, ahead, next, next_of, sees, counting}
use Rattle.thread_text.specs.Kinds.{word_in}
use Rattle.thread_text.proofs.Steps.{ahead_long, ahead_stuck, ahead_end, seen, unseen}
use Rattle.grammar_laws.proofs.Callers.{is_the_mark}
use Rattle.thread_text.proofs.Taken.{next_a_word}
use Rattle.thread_text.proofs.ExpressionRows.{mark_row}

pub block_opened : (parts : List Part) (r : Reading) → sees mark.OpenBrace r ≡ true → r.counts.blocks < 24 → ahead (ABlock ∷ parts) r ≡ ahead (Statements ∷ parts) (counting (record r.counts { blocks = r.counts.blocks + 1 }) r)
unfolding turn counted open_counts one_block is_mark mark_number
block_opened parts r h room =
    let b : nat_lt r.counts.blocks 24 ≡ true = grind (arith, nat_tests) in
    mark_row ABlock parts (Statements ∷ []) r mark.OpenBrace (record r.counts { blocks = r.counts.blocks + 1 }) h refl (rw b refl)

pub block_long : (parts : List Part) (r : Reading) → sees mark.OpenBrace r ≡ true → 24 ≤ r.counts.blocks → ahead (ABlock ∷ parts) r ≡ LongAt r.left
unfolding turn counted open_counts one_block is_mark mark_number
block_long parts r h full =
    let b : nat_lt r.counts.blocks 24 ≡ false = grind (arith, nat_tests) in
    let s = seen (is_mark mark.OpenBrace) r h in
    let e = is_the_mark mark.OpenBrace s.0 s.2 in
    ahead_long ABlock parts (Statements ∷ []) r (token.Mark mark.OpenBrace) (s.1 ∙ ap (λ t. Some t) e) refl (rw b refl)

pub block_stuck : (parts : List Part) (r : Reading) → sees mark.OpenBrace r ≡ false → ahead (ABlock ∷ parts) r ≡ StuckAt r.left
unfolding turn
block_stuck parts r h = go (next r.left) refl where
  go : (o : Option Token) → next r.left ≡ o → ahead (ABlock ∷ parts) r ≡ StuckAt r.left
  go None e = ahead_end ABlock parts r e
  go (Some t) e = let f = unseen (is_mark mark.OpenBrace) r t h e in ahead_stuck ABlock parts r t e (rw f refl)

pub block_closed : (parts : List Part) (r : Reading) → sees mark.CloseBrace r ≡ true → ahead (Statements ∷ parts) r ≡ ahead parts (counting (record r.counts { blocks = r.counts.blocks - 1 }) r)
unfolding turn statement tstatement counted close_counts block_less is_mark mark_number
block_closed parts r h = mark_row Statements parts [] r mark.CloseBrace (record r.counts { blocks = r.counts.blocks - 1 }) h refl refl

pub tblock_opened : (parts : List Part) (r : Reading) → sees mark.OpenBrace r ≡ true → r.counts.blocks < 24 → ahead (ATBlock ∷ parts) r ≡ ahead (TStatements ∷ parts) (counting (record r.counts { blocks = r.counts.blocks + 1 }) r)
unfolding turn counted open_counts one_block is_mark mark_number
tblock_opened parts r h room =
    let b : nat_lt r.counts.blocks 24 ≡ true = grind (arith, nat_tests) in
    mark_row ATBlock parts (TStatements ∷ []) r mark.OpenBrace (record r.counts { blocks = r.counts.blocks + 1 }) h refl (rw b refl)

pub tblock_long : (parts : List Part) (r : Reading) → sees mark.OpenBrace r ≡ true → 24 ≤ r.counts.blocks → ahead (ATBlock ∷ parts) r ≡ LongAt r.left
unfolding turn counted open_counts one_block is_mark mark_number
tblock_long parts r h full =
    let b : nat_lt r.counts.blocks 24 ≡ false = grind (arith, nat_tests) in
    let s = seen (is_mark mark.OpenBrace) r h in
    let e = is_the_mark mark.OpenBrace s.0 s.2 in
    ahead_long ATBlock parts (TStatements ∷ []) r (token.Mark mark.OpenBrace) (s.1 ∙ ap (λ t. Some t) e) refl (rw b refl)

pub tblock_stuck : (parts : List Part) (r : Reading) → sees mark.OpenBrace r ≡ false → ahead (ATBlock ∷ parts) r ≡ StuckAt r.left
unfolding turn
tblock_stuck parts r h = go (next r.left) refl where
  go : (o : Option Token) → next r.left ≡ o → ahead (ATBlock ∷ parts) r ≡ StuckAt r.left
  go None e = ahead_end ATBlock parts r e
  go (Some t) e = let f = unseen (is_mark mark.OpenBrace) r t h e in ahead_stuck ATBlock parts r t e (rw f refl)

pub tblock_closed : (parts : List Part) (r : Reading) → sees mark.CloseBrace r ≡ true → ahead (TStatements ∷ parts) r ≡ ahead parts (counting (record r.counts { blocks = r.counts.blocks - 1 }) r)
unfolding turn statement tstatement counted close_counts block_less is_mark mark_number
tblock_closed parts r h = mark_row TStatements parts [] r mark.CloseBrace (record r.counts { blocks = r.counts.blocks - 1 }) h refl refl

pub statement_stuck : (parts : List Part) (r : Reading) (w : word.the_data) → next_of word_in r ≡ Some w → stated_by w ≡ None → ahead (Statements ∷ parts) r ≡ StuckAt r.left
unfolding turn statement
statement_stuck parts r w h none = ahead_stuck Statements parts r (token.Word w) (next_a_word r w h) none

pub tstatement_stuck : (parts : List Part) (r : Reading) (w : word.the_data) → next_of word_in r ≡ Some w → transacted_by w ≡ None → ahead (TStatements ∷ parts) r ≡ StuckAt r.left
unfolding turn tstatement
tstatement_stuck parts r w h none = ahead_stuck TStatements parts r (token.Word w) (next_a_word r w h) none

-- a word that begins no statement, no statement of a transaction, no declaration
plain_nothing : (w : word.the_data) → (w ≡ word.Let → ⊥) → (w ≡ word.If → ⊥) → (w ≡ word.While → ⊥) → (w ≡ word.Ploop → ⊥) → (w ≡ word.Break → ⊥) → (w ≡ word.Return → ⊥) → (w ≡ word.Atomic → ⊥) → plain_by w ≡ None
unfolding plain_by
plain_nothing word.Let nLet nIf nWhile nPloop nBreak nReturn nAtomic = absurd (nLet refl)
plain_nothing word.If nLet nIf nWhile nPloop nBreak nReturn nAtomic = absurd (nIf refl)
plain_nothing word.While nLet nIf nWhile nPloop nBreak nReturn nAtomic = absurd (nWhile refl)
plain_nothing word.Ploop nLet nIf nWhile nPloop nBreak nReturn nAtomic = absurd (nPloop refl)
plain_nothing word.Break nLet nIf nWhile nPloop nBreak nReturn nAtomic = absurd (nBreak refl)
plain_nothing word.Return nLet nIf nWhile nPloop nBreak nReturn nAtomic = absurd (nReturn refl)
plain_nothing word.Atomic nLet nIf nWhile nPloop nBreak nReturn nAtomic = absurd (nAtomic refl)
plain_nothing _ nLet nIf nWhile nPloop nBreak nReturn nAtomic = refl

pub states_nothing : (w : word.the_data) → shape w ≡ None → (w ≡ word.Let → ⊥) → (w ≡ word.If → ⊥) → (w ≡ word.While → ⊥) → (w ≡ word.Ploop → ⊥) → (w ≡ word.Break → ⊥) → (w ≡ word.Return → ⊥) → (w ≡ word.Atomic → ⊥) → stated_by w ≡ None
unfolding stated_by
states_nothing w none nLet nIf nWhile nPloop nBreak nReturn nAtomic = rw (none, stated_by) (plain_nothing w nLet nIf nWhile nPloop nBreak nReturn nAtomic)

pub transacts_nothing : (w : word.the_data) → (w ≡ word.Let → ⊥) → (w ≡ word.Free → ⊥) → (w ≡ word.If → ⊥) → (w ≡ word.While → ⊥) → (w ≡ word.Break → ⊥) → (w ≡ word.Abort → ⊥) → (w ≡ word.Give → ⊥) → transacted_by w ≡ None
unfolding transacted_by
transacts_nothing word.Let nLet nFree nIf nWhile nBreak nAbort nGive = absurd (nLet refl)
transacts_nothing word.If nLet nFree nIf nWhile nBreak nAbort nGive = absurd (nIf refl)
transacts_nothing word.While nLet nFree nIf nWhile nBreak nAbort nGive = absurd (nWhile refl)
transacts_nothing word.Break nLet nFree nIf nWhile nBreak nAbort nGive = absurd (nBreak refl)
transacts_nothing word.Give nLet nFree nIf nWhile nBreak nAbort nGive = absurd (nGive refl)
transacts_nothing word.Abort nLet nFree nIf nWhile nBreak nAbort nGive = absurd (nAbort refl)
transacts_nothing word.Free nLet nFree nIf nWhile nBreak nAbort nGive = absurd (nFree refl)
transacts_nothing _ nLet nFree nIf nWhile nBreak nAbort nGive = refl

pub declares_nothing : (w : word.the_data) → (w ≡ word.Type → ⊥) → (w ≡ word.Object → ⊥) → (w ≡ word.Queue → ⊥) → (w ≡ word.Semaphore → ⊥) → (w ≡ word.Fn → ⊥) → (w ≡ word.Thread → ⊥) → (w ≡ word.Start → ⊥) → declared_by w ≡ None
unfolding declared_by
declares_nothing word.Type nType nObject nQueue nSemaphore nFn nThread nStart = absurd (nType refl)
declares_nothing word.Object nType nObject nQueue nSemaphore nFn nThread nStart = absurd (nObject refl)
declares_nothing word.Queue nType nObject nQueue nSemaphore nFn nThread nStart = absurd (nQueue refl)
declares_nothing word.Semaphore nType nObject nQueue nSemaphore nFn nThread nStart = absurd (nSemaphore refl)
declares_nothing word.Fn nType nObject nQueue nSemaphore nFn nThread nStart = absurd (nFn refl)
declares_nothing word.Thread nType nObject nQueue nSemaphore nFn nThread nStart = absurd (nThread refl)
declares_nothing word.Start nType nObject nQueue nSemaphore nFn nThread nStart = absurd (nStart refl)
declares_nothing _ nType nObject nQueue nSemaphore nFn nThread nStart = refl
