-- Where a thread starts.
use Rattle.std.proofs.Common.{◌≡◌, ◌≢◌, ℕ, ◌-◌, ◌==◌, List, true, false, refl, ap, sym, ◌∙◌, arith, length}
use Rattle.std.proofs.lemmas.Bool.Decides.{nat_tests}
use Rattle.std.proofs.lemmas.Option.{none-some}
use Rattle.std.specs.Prelude.{slice_get, Option, Some, None, IfSome, IsSomeAnd, option_and_then}
use Rattle.thread_tree.specs.Program.{Program, Template}
use Rattle.thread_tree.specs.LocalState.{LocalState, birth}
use Rattle.thread_tree.specs.Actions.{Spot, inside, loops}
use Rattle.thread_tree.specs.Relive.{started, where_as_many}
use Rattle.thread_tree.specs.Relive.Start.{Loop}
use Rattle.kernel_image.specs.Decoded.{RowWords}
use Rattle.boot_recovery.proofs.Choices.{by_test}
use Rattle.replay_list.specs.Records.{start_in, values_in}
use Rattle.boot_recovery.proofs.StartLaws.{start_is}

-- a state with as many values as names
found_many : (names values : List ℕ) (made s : LocalState) → where_as_many names values made ≡ Some s → length values ≡ length names
found_many names values made s is = by_test (length names == length values) _
    (λ same. grind (arith, nat_tests))
    (λ other. let none : where_as_many names values made ≡ None = rw other refl in absurd (none-some s (sym none ∙ is)))

gives_many : (names values : List ℕ) (made s : LocalState) → length values ≡ length names → s ≡ made → where_as_many names values made ≡ Some s
gives_many names values made s same is = let test : (length names == length values) ≡ true = grind (arith, nat_tests) in rw test (ap (λ (t : LocalState). Some t) (sym is))

found_in : {X : Type 0} (o : Option X) (names : X → List ℕ) (made : X → LocalState) (values : List ℕ) (s : LocalState) → option_and_then (λ x. where_as_many (names x) values (made x)) o ≡ Some s → IsSomeAnd o (λ x. length values ≡ length (names x))
found_in None names made values s is = absurd (none-some s is)
found_in (Some x) names made values s is = found_many (names x) values (made x) s is

gives_in : {X : Type 0} (o : Option X) (names : X → List ℕ) (made : X → LocalState) (values : List ℕ) (s : LocalState) → IsSomeAnd o (λ x. length values ≡ length (names x)) → IfSome o (λ x. s ≡ made x) → option_and_then (λ x. where_as_many (names x) values (made x)) o ≡ Some s
gives_in None names made values s same is = absurd same
gives_in (Some x) names made values s same is = gives_many (names x) values (made x) s same is

loop_is : (row : RowWords) (start : ℕ) (values : List ℕ) → row.start ≡ start → start ≢ 0 → values_in row ≡ values → start_in row ≡ Loop (start - 1) values
loop_is row start values is some same =
    let test : (row.start == 0) ≡ false = grind (arith, nat_tests) in
    rw test (λ i. Loop (is i - 1) (same i))

-- a birth
pub finds_birth : (p : Program) (row : RowWords) (template : ℕ) (values : List ℕ) (s : LocalState) → row.start ≡ 0 → row.template ≡ template → values_in row ≡ values → started p (start_in row) ≡ Some s → IsSomeAnd (slice_get p.templates template) (λ (t : Template). length values ≡ length t.parameters)
finds_birth p row template values s none is same given = found_in (slice_get p.templates template) (λ (t : Template). t.parameters) (λ (t : Template). birth t values) values s (ap (started p) (sym (start_is row template values none is same)) ∙ given)

pub starts_birth : (p : Program) (row : RowWords) (template : ℕ) (values : List ℕ) (s : LocalState) → row.start ≡ 0 → row.template ≡ template → values_in row ≡ values → IsSomeAnd (slice_get p.templates template) (λ (t : Template). length values ≡ length t.parameters) → IfSome (slice_get p.templates template) (λ (t : Template). s ≡ birth t values) → started p (start_in row) ≡ Some s
starts_birth p row template values s none is same many given = ap (started p) (start_is row template values none is same) ∙ gives_in (slice_get p.templates template) (λ (t : Template). t.parameters) (λ (t : Template). birth t values) values s many given

-- a loop
pub finds_loop : (p : Program) (row : RowWords) (start : ℕ) (values : List ℕ) (s : LocalState) → row.start ≡ start → start ≢ 0 → values_in row ≡ values → started p (start_in row) ≡ Some s → IsSomeAnd (slice_get (loops p) (start - 1)) (λ (spot : Spot). length values ≡ length spot.scope)
finds_loop p row start values s is some same given = found_in (slice_get (loops p) (start - 1)) (λ (spot : Spot). spot.scope) (λ (spot : Spot). inside spot values) values s (ap (started p) (sym (loop_is row start values is some same)) ∙ given)

pub starts_loop : (p : Program) (row : RowWords) (start : ℕ) (values : List ℕ) (s : LocalState) → row.start ≡ start → start ≢ 0 → values_in row ≡ values → IsSomeAnd (slice_get (loops p) (start - 1)) (λ (spot : Spot). length values ≡ length spot.scope) → IfSome (slice_get (loops p) (start - 1)) (λ (spot : Spot). s ≡ inside spot values) → started p (start_in row) ≡ Some s
starts_loop p row start values s is some same many given = ap (started p) (loop_is row start values is some same) ∙ gives_in (slice_get (loops p) (start - 1)) (λ (spot : Spot). spot.scope) (λ (spot : Spot). inside spot values) values s many given
