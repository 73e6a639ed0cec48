-- One token of a block.
use Rattle.std.proofs.Common.{◌≡◌, ◌+◌, ◌-◌, nat_le, nat_lt, Bool, true, false, if◌then◌else◌, List, [], ◌∷◌, Option, Some, None, refl, ap, ◌∙◌}
use Rattle.thread_tree.specs.declared.token.Mark.TheVariants as mark
use Rattle.thread_tree.specs.declared.token.Token.{Token}
use Rattle.thread_tree.specs.declared.token.Token.TheVariants as token
use Rattle.thread_tree.specs.declared.token.Word.{Word}
use Rattle.thread_tree.specs.declared.token.Word.TheVariants as word
use Rattle.thread_tree.specs.Parts.{Part}
use Rattle.thread_text.specs.Bounds.{Counts, one_block, block_less, close_counts}
use Rattle.text_bounds.specs.Tally.{Tally, anew, marked, told, within}
use Rattle.thread_tree.specs.Grammar.{statement, tstatement, stated_by, plain_by, transacted_by}
use Rattle.thread_tree.specs.Pieces.{shape}
use Rattle.text_bounds.proofs.Agreement.{Need, Nothing, Fresh, Has, need_of, nothing, renewing, fits, Level, Agrees, plain, Kept, none, on, past, level_named, one_more, one_less, halves, opens, renewed}

-- where nothing is needed
pub nothing_has : (n : Need) (c : Counts) (s : Tally) → nothing n ≡ true → Has n c s
nothing_has Nothing c s h = tt
nothing_has _ c s h = absurd (cc)

-- outside of the declaration of a type
pub untyped : {ps : List Part} {y : Tally} {found : Option (List Part)} {o : Option Counts} (b : Bool) (x : Tally) → b ≡ false → Kept ps y found o → Kept ps (if b then x else y) found o
untyped false x h k = k
untyped true x h k = absurd (cc)

-- the opening brace of a block
abbrev pub opened : Tally → Tally
opened s = record (anew s) { blocks = s.blocks + 1 }

block_in : (s : Tally) (c : Counts) (b : Bool) → s.blocks ≡ c.blocks → nat_lt c.blocks 24 ≡ b → nat_le (s.blocks + 1) 24 ≡ b
block_in s c b e h = one_more s.blocks 24 ∙ (ap (λ n. nat_lt n 24) e ∙ h)

level_opened : {c : Counts} {s : Tally} → nat_lt c.blocks 24 ≡ true → Level false c s → Level false (record c { blocks = c.blocks + 1 }) (opened s)
level_opened {c} {s} h l = record { same_blocks = ap (λ n. n + 1) l.same_blocks; few_operators = refl; few_parentheses = refl; few_blocks = block_in s c true l.same_blocks h; type_declared = l.type_declared }

past_blocks : (c : Counts) (s : Tally) → nat_lt c.blocks 24 ≡ false → Level false c s → within (opened s) ≡ false
unfolding within
past_blocks c s h l = block_in s c false l.same_blocks h

opened_has : (n : Need) (c : Counts) (s : Tally) → renewing n ≡ true → Has n c (opened s)
opened_has Nothing c s h = tt
opened_has Fresh c s h = (refl, refl, refl)
opened_has _ c s h = absurd (cc)

opened_agrees : (l : List Part) (c : Counts) (s : Tally) → opens l ≡ true → nat_lt c.blocks 24 ≡ true → Level false c s → Agrees l (record c { blocks = c.blocks + 1 }) (opened s)
opened_agrees l c s h t k = let e = halves (renewing (need_of l)) (fits l) h in plain e.1 (opened_has (need_of l) _ s e.0) (level_opened t k)

pub open_kept : (part : Part) (ps : List Part) (c : Counts) (s : Tally) → opens (part ∷ ps) ≡ true → Level false c s → Kept ps (opened s) (Some (part ∷ [])) (one_block c)
unfolding one_block
open_kept part ps c s h l = go (nat_lt c.blocks 24) refl where
  go : (b : Bool) → nat_lt c.blocks 24 ≡ b → Kept ps (opened s) (Some (part ∷ [])) (if b then Some (record c { blocks = c.blocks + 1 }) else None)
  go true t = on (opened_agrees (part ∷ ps) c s h t l)
  go false t = past (past_blocks c s t l)

-- the closing brace of a block
abbrev pub closed : Tally → Tally
closed s = record (anew s) { blocks = s.blocks - 1 }

level_closed : {c : Counts} {s : Tally} → Level false c s → Level false (block_less c) (closed s)
unfolding block_less
level_closed {c} {s} l = record { same_blocks = ap (λ n. n - 1) l.same_blocks; few_operators = refl; few_parentheses = refl; few_blocks = one_less s.blocks l.few_blocks; type_declared = l.type_declared }

-- whether a block may end here
abbrev pub ended : List Part → Bool
ended ps = if nothing (need_of ps) then fits ps else false

closed_kept : (ps : List Part) (c : Counts) (s : Tally) → ended ps ≡ true → Level false c s → Kept ps (closed s) (Some []) (Some (block_less c))
closed_kept ps c s k l = let e = halves (nothing (need_of ps)) (fits ps) k in on (plain e.1 (nothing_has (need_of ps) _ _ e.0) (level_closed l))

-- the word that a statement begins with, and a token where one may begin
stated_row : (w : Word) (ps : List Part) (c : Counts) (s : Tally) → ended ps ≡ true → Level false c s → Kept ps (told (token.Word w) s) (stated_by w) (Some c)
unfolding told stated_by plain_by shape
stated_row word.Type ps c s k l = none
stated_row _ ps c s k l = renewed (ended ps) _ ps c s k l

pub statement_row : (t : Token) (ps : List Part) (c : Counts) (s : Tally) → ended ps ≡ true → Level false c s → Kept ps (told t s) (statement t) (close_counts t c)
unfolding told marked statement close_counts
statement_row (token.Word w) ps c s k l = stated_row w ps c s k l
statement_row (token.Name _) ps c s k l = on (plain k refl (level_named true l))
statement_row (token.Mark mark.CloseBrace) ps c s k l = untyped s.typing _ l.type_declared (closed_kept ps c s k l)
statement_row (token.Mark _) ps c s k l = none
statement_row _ ps c s k l = none

-- the same in a transaction
transacted_row : (w : Word) (ps : List Part) (c : Counts) (s : Tally) → ended ps ≡ true → Level false c s → Kept ps (told (token.Word w) s) (transacted_by w) (Some c)
unfolding told transacted_by
transacted_row word.Type ps c s k l = none
transacted_row _ ps c s k l = renewed (ended ps) _ ps c s k l

pub tstatement_row : (t : Token) (ps : List Part) (c : Counts) (s : Tally) → ended ps ≡ true → Level false c s → Kept ps (told t s) (tstatement t) (close_counts t c)
unfolding told marked tstatement close_counts
tstatement_row (token.Word w) ps c s k l = transacted_row w ps c s k l
tstatement_row (token.Name _) ps c s k l = on (plain k tt (level_named true l))
tstatement_row (token.Mark mark.CloseBrace) ps c s k l = untyped s.typing _ l.type_declared (closed_kept ps c s k l)
tstatement_row (token.Mark _) ps c s k l = none
tstatement_row _ ps c s k l = none
