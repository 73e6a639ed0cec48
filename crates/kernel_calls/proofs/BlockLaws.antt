-- A thread is taken out of its lists, and put into others.
use Rattle.std.proofs.Common.{◌≡◌, ℕ, ◌+◌, ◌<◌, Bool, List, Option, length, refl, ap, subst, ◌∙◌, arith}
use Rattle.std.proofs.lemmas.List.{get_or-set_same}
use Rattle.thread_tree.specs.Program.{Program}
use Rattle.thread_machine.specs.declared.context.Ctx.{Ctx}
use Rattle.thread_machine.specs.Context.{local_of}
use Rattle.kernel_model.specs.declared.wait.Wait.{Wait}
use Rattle.kernel_model.specs.Kernel.{State, Thread, live_in, with_row}
use Rattle.kernel_model.specs.Kernel.Activity.{Ready, Delayed, Waiting}
use Rattle.kernel_model.specs.Kernel.Row.{Free}
use Rattle.kernel_model.specs.Serve.{settle, finish}
use Rattle.kernel_model.specs.Serve.Fate.{Sleeps, Blocks}
use Rattle.kernel_image.specs.Decoded.{Decoded, row_at}
use Rattle.ready_delay_lists.specs.Lists.{AreListed, Bears, IsAside, IsListed, unlisted, stands_behind, stands_timed}
use Rattle.replay_list.specs.Finished.{IsFinished}
use Rattle.kernel_calls.specs.Matches.{Matches, nobody}
use Rattle.kernel_calls.specs.Calling.{IsCalling, IsAwaited}
use Rattle.kernel_calls.proofs.KernelLaws.{stands-again, stands-timed_again, blocks-lives, sleeps-lives}
use Rattle.kernel_calls.proofs.FrameLaws.{matches-open}
use Rattle.kernel_calls.proofs.ResultLaws.{Finished, listed_finished, listed_recorded, matches-woken}

-- it stands in no list then
pub aside_left : (e : Decoded) (K : State) (t : ℕ) (thread : Thread) → t < 16 → length K.rows ≡ 16 → AreListed e (with_row K t Free) → Bears (row_at e t) thread → IsAside e (with_row K t Free) t thread
aside_left e K t thread low sixteen listed bears = record {
  listed = listed;
  nowhere = ap live_in (get_or-set_same K.rows t Free Free (omega (arith, low, sixteen)));
  bears = bears;
}

-- the caller is delayed
pub matches-asleep : (p : Program) (whose : ℕ → Bool) (d left e : Decoded) (contexts : List (Option Ctx)) (K : State) (t : ℕ) (thread : Thread) (wake : ℕ)
    → t < 16
    → IsCalling p whose t d contexts K thread
    → unlisted left ≡ unlisted d
    → AreListed e (stands_timed (with_row K t Free) t thread wake)
    → unlisted e ≡ unlisted left
    → Matches p nobody whose e contexts (settle p t (Sleeps wake) K)
matches-asleep p whose d left e contexts K t thread wake low calling first listed second =
    subst (Matches p nobody whose e contexts) (sleeps-lives p K t thread wake calling.lives)
    (matches-open p whose d e contexts K t thread (Delayed wake) thread.stamp K.stamp low calling.matches calling.lives refl
    (subst (AreListed e) (stands-timed_again K t thread wake) listed) (second ∙ first))

-- the caller waits
pub matches-blocked : (p : Program) (whose : ℕ → Bool) (d left e : Decoded) (contexts : List (Option Ctx)) (K : State) (t : ℕ) (thread : Thread) (wait : Wait)
    → t < 16
    → IsCalling p whose t d contexts K thread
    → unlisted left ≡ unlisted d
    → AreListed e (stands_behind (with_row K t Free) t thread (Waiting wait))
    → unlisted e ≡ unlisted left
    → Matches p nobody whose e contexts (settle p t (Blocks wait) K)
matches-blocked p whose d left e contexts K t thread wait low calling first listed second =
    subst (Matches p nobody whose e contexts) (blocks-lives p K t thread wait calling.lives)
    (matches-open p whose d e contexts K t thread (Waiting wait) K.stamp (K.stamp + 1) low calling.matches calling.lives refl
    (subst (AreListed e) (stands-again K t thread (Waiting wait)) listed) (second ∙ first))

-- a thread that waits or is delayed has its record, and is to be taken out of its lists
pub awaited_listed : (p : Program) (caller : ℕ) (whose : ℕ → Bool) (d middle : Decoded) (contexts later : List (Option Ctx)) (K : State) (t : ℕ) (thread : Thread) (results : List ℕ) (ctx : Ctx)
    → (awaited : IsAwaited p caller whose d contexts K t thread results)
    → IsFinished p t results ctx awaited.awaiting.awaited d middle contexts later
    → IsListed middle K t thread
awaited_listed p caller whose d middle contexts later K t thread results ctx awaited finished = record {
  listed = listed_recorded d middle K t _ results finished.appended awaited.matches.listed;
  lives = awaited.lives;
}

-- and put behind its equals
pub matches-awake : Finished → (p : Program) (caller : ℕ) (whose : ℕ → Bool) (d middle left e : Decoded) (contexts later : List (Option Ctx)) (K : State) (t : ℕ) (thread : Thread) (results : List ℕ) (ctx : Ctx)
    → t < 16
    → (awaited : IsAwaited p caller whose d contexts K t thread results)
    → local_of p ctx ≡ thread.local
    → IsFinished p t results ctx awaited.awaiting.awaited d middle contexts later
    → unlisted left ≡ unlisted middle
    → AreListed e (stands_behind (with_row K t Free) t thread Ready)
    → unlisted e ≡ unlisted left
    → Matches p caller whose e later (finish p K t results)
matches-awake law p caller whose d middle left e contexts later K t thread results ctx low awaited at finished first listed second =
    matches-woken law p caller whose d middle e contexts later K t thread results ctx low awaited at finished
    (listed_finished p e K t thread results awaited.lives (subst (AreListed e) (stands-again K t thread Ready) listed))
    (second ∙ first)
