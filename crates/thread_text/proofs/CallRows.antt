-- The rows of calls, as the parser's functions use them.
use Rattle.std.proofs.Common.{◌≡◌, List, [], ◌∷◌, ◌++◌, Some, true, refl, ap, ◌∙◌, append_assoc}
use Rattle.thread_tree.specs.declared.slot.Slot.{Slot}
use Rattle.thread_tree.specs.declared.slot.Slot.TheVariants as slot
use Rattle.thread_tree.specs.declared.token.Word.{Word}
use Rattle.thread_tree.specs.declared.token.Word.TheVariants as word
use Rattle.thread_tree.specs.Grammar.{turn, statement, stated_by, row}
use Rattle.thread_tree.specs.Parts.{Part, Statements}
use Rattle.thread_tree.specs.Pieces.{shape}
use Rattle.thread_tree.specs.declared.needed.Needed.TheVariants.{Queue, Semaphore}
use Rattle.thread_text.specs.Bounds.{counted, close_counts}
use Rattle.thread_text.specs.Fate.{Reading, ahead, next_of, skipped}
use Rattle.thread_text.specs.Kinds.{word_in}
use Rattle.thread_text.specs.Operands.{goes_on}
use Rattle.thread_text.proofs.StatementRows.{said}

-- the statement of a word that begins a call
stated_call : (w : Word) (slots : List Slot) → shape w ≡ Some slots → stated_by w ≡ Some (row slots ++ Statements ∷ [])
unfolding stated_by
stated_call w slots h = rw (h, stated_by) refl

pub states_call : (parts : List Part) (r : Reading) (w : Word) (slots : List Slot) → next_of word_in r ≡ Some w → shape w ≡ Some slots → ahead (Statements ∷ parts) r ≡ ahead (row slots ++ Statements ∷ parts) (skipped r)
unfolding turn statement counted close_counts
states_call parts r w slots h places =
    said Statements parts (row slots ++ Statements ∷ []) r w h (stated_call w slots places) refl ∙ ap (λ ps. ahead ps (skipped r)) (append_assoc (row slots) (Statements ∷ []) parts)

-- the places that stand before others
pub first_goes_on : (w : Word) (a b : Slot) (slots : List Slot) → shape w ≡ Some (a ∷ b ∷ slots) → goes_on a ≡ true
unfolding shape
first_goes_on word.Setprio a b slots h = let e : a ≡ slot.Whom = cc in rw e refl
first_goes_on word.Send a b slots h = let e : a ≡ slot.Name Queue = cc in rw e refl
first_goes_on word.Receive a b slots h = let e : a ≡ slot.Name Queue = cc in rw e refl
first_goes_on word.Take a b slots h = let e : a ≡ slot.Name Semaphore = cc in rw e refl
first_goes_on _ a b slots h = absurd (cc)

pub second_goes_on : (w : Word) (a b c : Slot) (slots : List Slot) → shape w ≡ Some (a ∷ b ∷ c ∷ slots) → goes_on b ≡ true
unfolding shape
second_goes_on word.Send a b c slots h = let e : b ≡ slot.Value = cc in rw e refl
second_goes_on _ a b c slots h = absurd (cc)

-- no word has more than three
pub no_four : (w : Word) (a b c d : Slot) (slots : List Slot) → shape w ≡ Some (a ∷ b ∷ c ∷ d ∷ slots) → ⊥
unfolding shape
no_four word.Send a b c d slots h = cc
no_four _ a b c d slots h = cc
