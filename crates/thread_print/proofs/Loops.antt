-- Loops that write several, and blocks.
use Rattle.std.proofs.Common.{◌≡◌, ℕ, ◌+◌, Bool, true, List, [], ◌∷◌, ◌++◌, take, length, nat_lt, Option, Some, append_assoc, append-nil, refl, sym, ap, ◌∙◌, arith}
use Rattle.std.specs.List.{slice_get, flat_map}
use Rattle.std.proofs.lemmas.Bool.Decides.{nat_tests}
use Rattle.std.proofs.lemmas.List.{take_more, length-take-le}
use Rattle.std.proofs.lemmas.List.Concat.{flat_map-append}
use Rattle.std.proofs.lemmas.Option.{slice_get_within, get_or_from_slice_get}
use Rattle.thread_tree.specs.declared.action.Item.{Item}
use Rattle.thread_tree.specs.declared.block.Block.{Block, out-Block}
use Rattle.thread_tree.specs.declared.block.Stmt.{Stmt, out-Stmt}
use Rattle.thread_tree.specs.declared.expr.Expr.{Expr}
use Rattle.thread_tree.specs.declared.name.Name.{Name}
use Rattle.thread_tree.specs.declared.place.At.{At}
use Rattle.thread_tree.specs.declared.place.Num.{Num}
use Rattle.thread_tree.specs.declared.token.Mark.TheVariants.{Arrow, CloseBrace, CloseParenthesis, Comma, OpenBrace, OpenParenthesis}
use Rattle.thread_tree.specs.declared.token.Token.{Token}
use Rattle.thread_tree.specs.declared.token.Token.TheVariants as token
use Rattle.thread_tree.specs.declared.transaction.TBlock.{TBlock, out-TBlock}
use Rattle.thread_tree.specs.declared.transaction.TStmt.{TStmt, out-TStmt}
use Rattle.thread_print.specs.Canonical.{block, expression, is_compound, item_tokens, mark, mark_if, name_of, names as names_tokens, numbered, operand, separated, statement, statement_parts, tblock, to, tstatement, tstatement_parts}
use Rattle.thread_print.specs.Wrote.{Wrote}
use Rattle.thread_print.proofs.Layers.{block_out, statement_out, tblock_out, tstatement_out}
use Rattle.thread_print.proofs.Writer.{wrote_two}

-- one more of several
pub take_at : {A : Type 0} (xs : List A) (i : ℕ) (x : A) → slice_get xs i ≡ Some x → take (i + 1) xs ≡ take i xs ++ x ∷ []
take_at xs i x there = take_more xs i x (slice_get_within xs i x there) ∙ ap (λ y. take i xs ++ y ∷ []) (get_or_from_slice_get xs i x x there)

-- one more with a comma before it, where it isn't the first
separated_push : {A : Type 0} (f : A → List Token) (xs : List A) (x : A) → separated f (xs ++ x ∷ []) ≡ separated f xs ++ (mark_if (nat_lt 0 (length xs)) Comma ++ f x)
unfolding mark_if
separated_push f [] x = refl
separated_push f (y ∷ []) x = refl
separated_push f (y ∷ z ∷ zs) x =
    let some : nat_lt 0 (length (y ∷ z ∷ zs)) ≡ true = grind (arith, nat_tests) in
    let one : nat_lt 0 (length (z ∷ zs)) ≡ true = grind (arith, nat_tests) in
    let rest : separated f ((z ∷ zs) ++ x ∷ []) ≡ separated f (z ∷ zs) ++ (token.Mark Comma ∷ f x) = separated_push f (z ∷ zs) x ∙ rw (one) refl in
    rw (some) (ap (λ ts. f y ++ (token.Mark Comma ∷ ts)) rest ∙ sym (append_assoc (f y) (token.Mark Comma ∷ separated f (z ∷ zs)) (token.Mark Comma ∷ f x)))

separated_more : {A : Type 0} (f : A → List Token) (xs : List A) (i : ℕ) (x : A) → slice_get xs i ≡ Some x → separated f (take (i + 1) xs) ≡ separated f (take i xs) ++ (mark_if (nat_lt 0 i) Comma ++ f x)
separated_more f xs i x there =
    let count : length (take i xs) ≡ i = length-take-le i xs (omega (arith, slice_get_within xs i x there)) in
    ap (separated f) (take_at xs i x there) ∙ (separated_push f (take i xs) x ∙ ap (λ n. separated f (take i xs) ++ (mark_if (nat_lt 0 n) Comma ++ f x)) count)

-- a step of a loop that writes several with commas between
separated_step : {A : Type 0} {names : List Name} {a b c d : Option (List ℕ)} (f : A → List Token) (xs : List A) (i : ℕ) (x : A) → Wrote names a b (separated f (take i xs)) → slice_get xs i ≡ Some x → Wrote names b c (mark_if (nat_lt 0 i) Comma) → Wrote names c d (f x) → Wrote names a d (separated f (take (i + 1) xs))
separated_step f xs i x so_far there comma one = wrote_two so_far (wrote_two comma one refl) (separated_more f xs i x there)

pub names_step : {names : List Name} {a b c d : Option (List ℕ)} (xs : List At) (i : ℕ) (x : At) → Wrote names a b (separated name_of (take i xs)) → slice_get xs i ≡ Some x → Wrote names b c (mark_if (nat_lt 0 i) Comma) → Wrote names c d (name_of x) → Wrote names a d (separated name_of (take (i + 1) xs))
names_step {names} {a} {b} {c} {d} xs i x so_far there comma one = separated_step name_of xs i x so_far there comma one

pub numbers_step : {names : List Name} {a b c d : Option (List ℕ)} (xs : List Num) (i : ℕ) (x : Num) → Wrote names a b (separated numbered (take i xs)) → slice_get xs i ≡ Some x → Wrote names b c (mark_if (nat_lt 0 i) Comma) → Wrote names c d (numbered x) → Wrote names a d (separated numbered (take (i + 1) xs))
numbers_step {names} {a} {b} {c} {d} xs i x so_far there comma one = separated_step numbered xs i x so_far there comma one

pub expressions_step : {names : List Name} {a b c d : Option (List ℕ)} (xs : List Expr) (i : ℕ) (x : Expr) → Wrote names a b (separated expression (take i xs)) → slice_get xs i ≡ Some x → Wrote names b c (mark_if (nat_lt 0 i) Comma) → Wrote names c d (expression x) → Wrote names a d (separated expression (take (i + 1) xs))
expressions_step {names} {a} {b} {c} {d} xs i x so_far there comma one = separated_step expression xs i x so_far there comma one

pub items_step : {names : List Name} {a b c d : Option (List ℕ)} (xs : List Item) (i : ℕ) (x : Item) → Wrote names a b (separated item_tokens (take i xs)) → slice_get xs i ≡ Some x → Wrote names b c (mark_if (nat_lt 0 i) Comma) → Wrote names c d (item_tokens x) → Wrote names a d (separated item_tokens (take (i + 1) xs))
items_step {names} {a} {b} {c} {d} xs i x so_far there comma one = separated_step item_tokens xs i x so_far there comma one

-- a comma and what stands behind it
pub wrote_next : {names : List Name} {a b c : Option (List ℕ)} {tokens : List Token} → Wrote names a b (token.Mark Comma ∷ []) → Wrote names b c tokens → Wrote names a c (token.Mark Comma ∷ tokens)
wrote_next {names} {a} {b} {c} {tokens} comma one = wrote_two comma one refl

-- an operand, with parentheses round it where it wants them
pub wrote_operand : {names : List Name} {a b c d : Option (List ℕ)} (e x y z : Expr) {opens closes : Bool} → x ≡ e → y ≡ e → z ≡ e → opens ≡ is_compound x → closes ≡ is_compound z → Wrote names a b (mark_if opens OpenParenthesis) → Wrote names b c (expression y) → Wrote names c d (mark_if closes CloseParenthesis) → Wrote names a d (operand e (expression e))
wrote_operand {names} {a} {b} {c} {d} e x y z {opens} {closes} x_is y_is z_is opened closed front inside behind =
    let open_is : is_compound e ≡ opens = sym (opened ∙ ap is_compound x_is) in
    let close_is : is_compound e ≡ closes = sym (closed ∙ ap is_compound z_is) in
    let tokens : operand e (expression e) ≡ mark_if opens OpenParenthesis ++ (expression y ++ mark_if closes CloseParenthesis) =
    ap (λ holds. mark_if holds OpenParenthesis ++ (expression e ++ mark_if (is_compound e) CloseParenthesis)) open_is
    ∙ (ap (λ holds. mark_if opens OpenParenthesis ++ (expression e ++ mark_if holds CloseParenthesis)) close_is
    ∙ ap (λ u. mark_if opens OpenParenthesis ++ (expression u ++ mark_if closes CloseParenthesis)) (sym y_is)) in
    wrote_two front (wrote_two inside behind refl) tokens

-- names behind an arrow, where there are some
arrow_before : (ats : List At) → to ats ≡ mark_if (nat_lt 0 (length ats)) Arrow ++ names_tokens ats
unfolding mark_if
arrow_before [] = refl
arrow_before (x ∷ ats) = let some : nat_lt 0 (length (x ∷ ats)) ≡ true = grind (arith, nat_tests) in rw (some) refl

pub wrote_to : {names : List Name} {a b c : Option (List ℕ)} (ats : List At) → Wrote names a b (mark_if (nat_lt 0 (length ats)) Arrow) → Wrote names b c (names_tokens ats) → Wrote names a c (to ats)
wrote_to {names} {a} {b} {c} ats arrow all = wrote_two arrow all (arrow_before ats)

-- a step of a loop that writes statements one after another
flat_more : {A : Type 0} (f : A → List Token) (xs : List A) (i : ℕ) (x : A) → slice_get xs i ≡ Some x → flat_map f (take (i + 1) xs) ≡ flat_map f (take i xs) ++ f x
flat_more f xs i x there =
    ap (flat_map f) (take_at xs i x there) ∙ (flat_map-append f (take i xs) (x ∷ []) ∙ ap (λ ts. flat_map f (take i xs) ++ ts) (append-nil (f x)))

pub statements_step : {names : List Name} {a b c : Option (List ℕ)} (xs : List Stmt) (i : ℕ) (x : Stmt) → Wrote names a b (flat_map statement (take i xs)) → slice_get xs i ≡ Some x → Wrote names b c (statement_parts (out-Stmt x)) → Wrote names a c (flat_map statement (take (i + 1) xs))
statements_step {names} {a} {b} {c} xs i x so_far there one = wrote_two so_far one (flat_more statement xs i x there ∙ ap (λ ts. flat_map statement (take i xs) ++ ts) (statement_out x))

pub tstatements_step : {names : List Name} {a b c : Option (List ℕ)} (xs : List TStmt) (i : ℕ) (x : TStmt) → Wrote names a b (flat_map tstatement (take i xs)) → slice_get xs i ≡ Some x → Wrote names b c (tstatement_parts (out-TStmt x)) → Wrote names a c (flat_map tstatement (take (i + 1) xs))
tstatements_step {names} {a} {b} {c} xs i x so_far there one = wrote_two so_far one (flat_more tstatement xs i x there ∙ ap (λ ts. flat_map tstatement (take i xs) ++ ts) (tstatement_out x))

-- a block
pub wrote_block : {names : List Name} {a b c d : Option (List ℕ)} (x : Block) → Wrote names a b (mark OpenBrace) → Wrote names b c (flat_map statement (out-Block x).stmts) → Wrote names c d (mark CloseBrace) → Wrote names a d (block x)
wrote_block {names} {a} {b} {c} {d} x opens inside closes = wrote_two opens (wrote_two inside closes refl) (block_out x)

pub wrote_tblock : {names : List Name} {a b c d : Option (List ℕ)} (x : TBlock) → Wrote names a b (mark OpenBrace) → Wrote names b c (flat_map tstatement (out-TBlock x).stmts) → Wrote names c d (mark CloseBrace) → Wrote names a d (tblock x)
wrote_tblock {names} {a} {b} {c} {d} x opens inside closes = wrote_two opens (wrote_two inside closes refl) (tblock_out x)
