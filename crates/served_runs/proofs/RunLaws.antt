-- The run of a served program by steps: all its live threads are ready, so that no tick wakes one.
use Rattle.std.proofs.Common.{◌≡◌, ℕ, zero, suc, ◌+◌, ◌-◌, List, [], ◌∷◌, length, map, take, replicate, filter_map, Option, Some, None, slice_get, option_map, refl, ap, ◌∙◌}
use Rattle.std.specs.Prelude.{IsTrue, nat_lt}
use Rattle.std.specs.List.{cons_option, enumerate_from}
use Rattle.kernel_model.specs.declared.event.Event.TheVariants.{Step}
use Rattle.kernel_model.specs.Kernel.{Activity, Thread, Row, State, thread_of}
use Rattle.kernel_model.specs.Kernel.Activity.{Ready}
use Rattle.kernel_model.specs.Kernel.Row.{Free, Ended, Live}
use Rattle.thread_tree.specs.Numbers.{template_number}
use Rattle.kernel_model.specs.Order.{in_order, Numbered}
use Rattle.kernel_model.specs.Calls.{born}
use Rattle.kernel_model.specs.Run.{row_count, counted, one, start_row, start_rows, initial, on, after}
use Rattle.kernel_model.specs.Show.{wake_tick, timed_list}
use Rattle.kernel_model.proofs.Callers.{threads_from, birth-written, both-All}
use Rattle.thread_tree.specs.declared.tree.Tree.{Tree}
use Rattle.thread_tree.specs.Program.{Program, Template, Start, program_of}
use Rattle.served_program.specs.Served.{is_served}
use Rattle.served_runs.proofs.KernelLaws.{IsServedRow, AreServedRows, IsServedKernel, ready_thread, step_served}

module _ (tree : Tree) (is : IsTrue (is_served tree)) where
  abbrev p : Program
  p = program_of tree

  -- the row where a thread of a template begins
  begins : (number : ℕ) (arguments : List ℕ) (stamp : ℕ) (o : Option Template) → slice_get p.templates number ≡ o →
      IsServedRow p (elim o [ None ↦ Free | Some template ↦ Live (born number template arguments stamp) ])
  begins number arguments stamp None e = tt
  begins number arguments stamp (Some template) e = record { ready = refl; todo = birth-written tree number template arguments e }

  -- the rows where none lives
  free_rows : (n : ℕ) → AreServedRows p (replicate n Free)
  free_rows zero = tt
  free_rows (suc n) = (tt, free_rows n)

  -- the rows of the threads that run from the start
  starts : (these : List Start) (n : ℕ) → AreServedRows p (map (start_row p) (enumerate_from n these))
  starts [] n = tt
  starts (start ∷ these) n =
      let number = template_number p start.template in
      (begins number start.arguments n (slice_get p.templates number) refl, starts these (n + 1))

  -- the kernel at the start
  begun : IsServedKernel p (initial p)
  unfolding initial
  begun = both-All (IsServedRow p) (start_rows p) (replicate (row_count - length p.starts) Free) (starts p.starts 0) (free_rows (row_count - length p.starts))

  -- steps keep the kernel so
  goes_on : (n steps : ℕ) (K : State) → IsServedKernel p K → IsServedKernel p (on p K (take n (replicate steps Step)))
  unfolding on
  goes_on zero zero K h = h
  goes_on zero (suc steps) K h = h
  goes_on (suc n) zero K h = h
  goes_on (suc n) (suc steps) K h = goes_on n steps (one p K Step) (step_served tree is (counted K) h)

-- the tick that wakes a numbered thread, with its number
abbrev timed : Numbered → Option (ℕ × ℕ)
timed a = option_map (λ wake. (a.0, wake)) (wake_tick a.1.activity)

-- among ready threads nobody is timed
none_timed : (p : Program) (n : ℕ) (rows : List Row) → AreServedRows p rows → filter_map timed (threads_from n rows) ≡ []
none_timed p n [] h = refl
none_timed p n (Free ∷ rows) h = none_timed p (n + 1) rows h.1
none_timed p n (Ended template priority code ∷ rows) h = none_timed p (n + 1) rows h.1
none_timed p n (Live thread ∷ rows) h =
    ap (λ (a : Activity). cons_option (option_map (λ (wake : ℕ). (n, wake)) (wake_tick a)) (filter_map timed (threads_from (n + 1) rows))) h.0.ready
    ∙ none_timed p (n + 1) rows h.1

-- the run of a served program
served_run : (tree : Tree) (steps n : ℕ) → IsTrue (is_served tree) → IsServedKernel (program_of tree) (after (program_of tree) (replicate steps Step) n)
served_run tree steps n served = goes_on tree served n steps (initial (program_of tree)) (begun tree served)

-- its threads are ready
pub ready_run : (tree : Tree) (steps n t : ℕ) (thread : Thread) → IsTrue (is_served tree) → thread_of (after (program_of tree) (replicate steps Step) n) t ≡ Some thread → thread.activity ≡ Ready
ready_run tree steps n t thread served lives = ready_thread (program_of tree) (after (program_of tree) (replicate steps Step) n) t thread (served_run tree steps n served) lives

-- no tick wakes one
pub untimed_run : (tree : Tree) (steps n : ℕ) → IsTrue (is_served tree) → timed_list (after (program_of tree) (replicate steps Step) n) ≡ []
untimed_run tree steps n served =
    ap (λ (xs : List (ℕ × ℕ)). in_order (λ a b. nat_lt a.1 b.1) xs) (none_timed (program_of tree) 0 (after (program_of tree) (replicate steps Step) n).rows (served_run tree steps n served))
