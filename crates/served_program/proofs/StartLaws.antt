-- The threads that declarations start, one declaration after another.
use Rattle.std.proofs.Common.{◌≡◌, ℕ, ◌+◌, List, ◌∷◌, length, drop, Some, ap, ◌∙◌, arith}
use Rattle.std.specs.List.{slice_get}
use Rattle.thread_tree.specs.declared.tree.Decl.{Decl}
use Rattle.thread_tree.specs.declared.tree.Decl.TheVariants as decl
use Rattle.thread_tree.specs.Program.{sorted}
use Rattle.served_program.specs.Served.{starts_in}
use Rattle.thread_check.proofs.Callers.{drop_at}

-- the threads that a declaration and others start
pub starts_more : (d : Decl) (ds : List Decl) → length (sorted (d ∷ ds)).starts ≡ starts_in d + length (sorted ds).starts
starts_more (decl.Kind name fields) ds = omega arith
starts_more (decl.Object name kind) ds = omega arith
starts_more (decl.Queue name capacity channel) ds = omega arith
starts_more (decl.Semaphore name count maximum) ds = omega arith
starts_more (decl.Function name parameters body) ds = omega arith
starts_more (decl.Thread name parameters priority body) ds = omega arith
starts_more (decl.Start place name arguments) ds = omega arith

-- the threads that the declarations from a place on start
pub starts_next : (ds : List Decl) (i : ℕ) (d : Decl) → slice_get ds i ≡ Some d → length (sorted (drop i ds)).starts ≡ starts_in d + length (sorted (drop (i + 1) ds)).starts
starts_next ds i d there = ap (λ rest. length (sorted rest).starts) (drop_at ds i d there) ∙ starts_more d (drop (i + 1) ds)
