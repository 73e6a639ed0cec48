-- What can't be done at once, and what an action's outcome tells of it.
use Rattle.std.proofs.Common.{◌≡◌, ◌≢◌, ℕ, Bool, List, Option, Some, if◌then◌else◌, refl, sym, ap, subst}
use Rattle.arrayvec.specs.ArrayVec.{ArrayVec}
use Rattle.thread_tree.specs.Program.{Program}
use Rattle.thread_machine.specs.declared.context.Ctx.{Ctx}
use Rattle.kernel_model.specs.declared.wait.Wait.{Wait}
use Rattle.kernel_model.specs.declared.what.What.{What}
use Rattle.kernel_model.specs.Kernel.{State}
use Rattle.kernel_model.specs.Serve.{Effect, answers, becomes, held, settle, timed_out, until_of}
use Rattle.kernel_model.specs.Serve.Fate.{Blocks}
use Rattle.kernel_image.specs.Decoded.{Decoded}
use Rattle.replay_list.specs.declared.outcome.Outcome.TheVariants.{Results, Blocked}
use Rattle.kernel_calls.specs.Matches.{Matches, nobody}
use Rattle.kernel_calls.specs.Calling.{Acted}
use Rattle.kernel_calls.proofs.FrameLaws.{other_than}

-- with limit 0 it is given up
pub held-now : (p : Program) (K : State) (what : What) (target value limit : ℕ) → limit ≡ 0 → held p K what target value limit ≡ answers (timed_out p what target) K
held-now p K what target value limit none = ap (λ (n : ℕ). held p K what target value n) none

-- with any other one the caller waits
pub held-later : (p : Program) (K : State) (what : What) (target value limit : ℕ) → limit ≢ 0 → held p K what target value limit ≡ becomes (Blocks (record { what = what; target = target; value = value; until = until_of K limit })) K
held-later p K what target value limit some =
    ap (λ (b : Bool). if b then answers (timed_out p what target) K else becomes (Blocks (record { what = what; target = target; value = value; until = until_of K limit })) K) (other_than limit 0 some)

-- an action that is finished at once, and one that waits
pub acted-answers : (p : Program) (whose : ℕ → Bool) (t : ℕ) (d : Decoded) (contexts : List (Option Ctx)) (effect : Effect) (K : State) (results : List ℕ) (own : ArrayVec ℕ) → effect ≡ answers results K → own.items ≡ results → Matches p t whose d contexts K → Acted p whose t d contexts effect (Results own)
acted-answers p whose t d contexts effect K results own is same matches =
    subst (λ (e : Effect). Acted p whose t d contexts e (Results own)) (sym is) (ap (λ (rs : List ℕ). Some rs) (sym same), matches)

pub acted-blocks : (p : Program) (whose : ℕ → Bool) (t : ℕ) (d : Decoded) (contexts : List (Option Ctx)) (effect : Effect) (K : State) (wait : Wait) → effect ≡ becomes (Blocks wait) K → Matches p nobody whose d contexts (settle p t (Blocks wait) K) → Acted p whose t d contexts effect Blocked
acted-blocks p whose t d contexts effect K wait is matches =
    subst (λ (e : Effect). Acted p whose t d contexts e Blocked) (sym is) (refl, matches)
