-- What an image that stands for a kernel keeps to besides what it shows.
use Rattle.std.proofs.Common.{◌≡◌, ℕ, ◌<◌, ◌≤◌, List, [], ◌∷◌, Option, Some, subst, arith}
use Rattle.std.proofs.lemmas.List.Elements.{All-from_recursion}
use Rattle.std.specs.List.{AllByRecursion}
use Rattle.std.specs.Prelude.{All, IfSome}
use Rattle.thread_tree.specs.Program.{Program}
use Rattle.kernel_model.specs.Kernel as kernel
use Rattle.kernel_model.specs.Kernel.{Activity, State, Thread, live_in, thread_of}
use Rattle.kernel_model.specs.Kernel.Activity.{Ready, Delayed, Waiting}
use Rattle.kernel_model.specs.Kernel.Row.{Free, Ended, Live}
use Rattle.kernel_model.specs.declared.wait.Wait.{Wait}
use Rattle.kernel_model.specs.declared.what.What.{What}
use Rattle.kernel_model.specs.declared.what.What.TheVariants.{Send, Receive, Take}
use Rattle.kernel_image.specs.Agree.{Agrees, Both, Does, HasHeader}
use Rattle.kernel_image.specs.Decoded.{Decoded, RowWords, row_at}
use Rattle.kernel_image.specs.Shown.{number_of_what}
use Rattle.replay_list.specs.Stands.{Stands, IsRow}
use Rattle.replay_list.proofs.RowLaws.{row_live, live_within}

-- a live thread starts with at most sixteen values
pub few_values : (p : Program) (d : Decoded) (K : State) (t : ℕ) (thread : Thread) → Stands p d K → thread_of K t ≡ Some thread → (row_at d t).start_count ≤ 16
few_values p d K t thread stands live = let few = (row_live p d.rows K.rows t thread stands.rows live).1.few in omega (arith, few)

-- its stamp is below the next one
pub past_stamp : (p : Program) (d : Decoded) (K : State) (t : ℕ) (thread : Thread) → Stands p d K → thread_of K t ≡ Some thread → (row_at d t).stamp < d.stamp
past_stamp p d K t thread stands live =
    let same = (row_live p d.rows K.rows t thread stands.rows live).0.stamp in
    let next = stands.stamp in
    let past : thread.stamp < K.stamp = subst (λ (o : Option Thread). IfSome o (λ found. found.stamp < K.stamp)) live (stands.sound.rows.past t Free (live_within K.rows t thread live)) in
    omega (arith, same, next, past)

-- each object has the header of its type
pub has_headers : (p : Program) (d : Decoded) (K : State) → Stands p d K → All (HasHeader d.heap) K.objects
has_headers p d K stands = All-from_recursion (HasHeader d.heap) K.objects stands.layout.headers

-- a row is in one of the five states
does-state : (row : RowWords) (activity : Activity) → Does row activity → row.state ≤ 4
does-state row Ready does = omega (arith, does)
does-state row (Delayed wake) does = omega (arith, does.0)
does-state row (Waiting wait) does = omega (arith, does.0)

row-state : (row : RowWords) (r : kernel.Row) → Agrees row r → row.state ≤ 4
row-state row Free is = omega (arith, is)
row-state row (Ended template priority code) is = omega (arith, is.state)
row-state row (Live thread) is = does-state row thread.activity is.does

row-states : (p : Program) (rows : List RowWords) (krows : List kernel.Row) → Both (IsRow p) rows krows → AllByRecursion (λ (row : RowWords). row.state ≤ 4) rows
row-states p [] krows both = tt
row-states p (row ∷ rows) [] both = absurd both
row-states p (row ∷ rows) (k ∷ krows) both = (row-state row k both.0.0, row-states p rows krows both.1)

pub known_states : (p : Program) (d : Decoded) (K : State) → Stands p d K → All (λ (row : RowWords). row.state ≤ 4) d.rows
known_states p d K stands = All-from_recursion (λ (row : RowWords). row.state ≤ 4) d.rows (row-states p d.rows K.rows stands.rows)

-- what a thread waits for has one of three numbers
what-number : (what : What) → (1 ≤ number_of_what what) × (number_of_what what ≤ 3)
what-number Send = (omega arith, omega arith)
what-number Receive = (omega arith, omega arith)
what-number Take = (omega arith, omega arith)

pub known_waits : (p : Program) (d : Decoded) (K : State) (t : ℕ) (thread : Thread) (wait : Wait) → Stands p d K → thread_of K t ≡ Some thread → thread.activity ≡ Waiting wait → (1 ≤ (row_at d t).what) × ((row_at d t).what ≤ 3)
known_waits p d K t thread wait stands live waits =
    let does : Does (row_at d t) (Waiting wait) = subst (Does (row_at d t)) waits (row_live p d.rows K.rows t thread stands.rows live).0.does in
    let number = what-number wait.what in
    (omega (arith, does.2, number.0), omega (arith, does.2, number.1))
