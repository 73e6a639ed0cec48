-- The text of locals, place by place.
use Rattle.std.proofs.Common.{◌≡◌, ℕ, suc, ◌+◌, ◌<◌, ◌≤◌, List, [], ◌∷◌, ◌++◌, length, drop, refl, sym, ◌∙◌, ap, arith, append_assoc, append-nil}
use Rattle.std.proofs.Math.Seq.{drop-cons}
use Rattle.std.proofs.Math.ListN.{drop_of_length-le}
use Rattle.std.specs.Prelude.{slice_index_or}
use Rattle.thread_tree.specs.declared.local.Local.{Local}
use Rattle.thread_tree.specs.Program.{Program}
use Rattle.boot_report.specs.Lines.{locals_text}
use Rattle.boot_report.specs.Parts.{local_text}

-- the local at a place, before those behind it
from_place : (d : Local) (locals : List Local) (at : ℕ) → at < length locals → drop at locals ≡ slice_index_or locals at d ∷ drop (at + 1) locals
from_place d locals at low =
    let one : suc at ≡ at + 1 = omega arith in
    drop-cons locals at d low ∙ ap (λ (n : ℕ). slice_index_or locals at d ∷ drop n locals) one

locals_next : (p : Program) (d : Local) (locals : List Local) (at : ℕ) → at < length locals → locals_text p (drop at locals) ≡ local_text p (slice_index_or locals at d) ++ locals_text p (drop (at + 1) locals)
unfolding locals_text
locals_next p d locals at low = ap (locals_text p) (from_place d locals at low)

-- at first none of them stands behind the line
pub locals_none : (p : Program) (line : List ℕ) (locals : List Local) → line ++ locals_text p (drop 0 locals) ≡ line ++ locals_text p locals
locals_none p line locals = refl

-- then one more
pub local_put : (p : Program) (d : Local) (line later all : List ℕ) (locals : List Local) (at : ℕ) → at < length locals
    → line ++ locals_text p (drop at locals) ≡ all → later ≡ line ++ local_text p (slice_index_or locals at d)
    → later ++ locals_text p (drop (at + 1) locals) ≡ all
local_put p d line later all locals at low so_far put =
    let rest = locals_text p (drop (at + 1) locals) in
    ap (λ (text : List ℕ). text ++ rest) put
    ∙ append_assoc line (local_text p (slice_index_or locals at d)) rest
    ∙ ap (λ (text : List ℕ). line ++ text) (sym (locals_next p d locals at low))
    ∙ so_far

-- at last all of them
pub locals_last : (p : Program) (line all : List ℕ) (locals : List Local) (at : ℕ) → length locals ≤ at → line ++ locals_text p (drop at locals) ≡ all → line ≡ all
unfolding locals_text
locals_last p line all locals at past so_far =
    sym (append-nil line) ∙ ap (λ (rest : List Local). line ++ locals_text p rest) (sym (drop_of_length-le locals past)) ∙ so_far
