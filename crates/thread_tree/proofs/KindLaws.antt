-- How many results the kinds have.
use Rattle.std.proofs.Common.{◌≡◌, ℕ, ◌-◌, ◌<◌, ◌==◌, refl, arith, if◌then◌else◌, false}
use Rattle.std.specs.Prelude.{slice_index}
use Rattle.std.proofs.lemmas.Bool.Decides.{nat_tests}
use Rattle.std.proofs.lemmas.Bool.{cond-false}
use Rattle.std.proofs.lemmas.List.{get_or_past}
use Rattle.thread_tree.specs.Kinds.{results, result_count}

-- a kind behind the last one has no results
pub result_count_none : (kind given : ℕ) → 16 < kind → result_count kind given ≡ 0
result_count_none kind given high =
    let other : (kind == 16) ≡ false = grind (arith, nat_tests) in
    let first : slice_index results (kind - 1) ≡ 0 = get_or_past results (kind - 1) 0 (omega arith) in
    let second : (if kind == 16 then given else 0) ≡ 0 = cond-false (kind == 16) given 0 other in
    rw (first, second) refl
