-- From the parts of the image to what it shows.
use Rattle.std.proofs.Common.{◌≡◌, ℕ, ◌+◌, List, [], ◌∷◌, refl, ap, ◌∙◌}
use Rattle.std.specs.Prelude.{map}
use Rattle.std.specs.List.{enumerate_from}
use Rattle.thread_tree.specs.Program as program
use Rattle.thread_tree.specs.Program.{Program}
use Rattle.kernel_model.specs.declared.what.What.TheVariants.{Send, Receive, Take}
use Rattle.kernel_model.specs.Kernel as kernel
use Rattle.kernel_model.specs.Kernel.{State}
use Rattle.kernel_model.specs.Sound.{IsSound}
use Rattle.kernel_model.specs.Show as show
use Rattle.kernel_model.specs.Show.{visible}
use Rattle.kernel_image.specs.Agree.{Agrees, Both}
use Rattle.kernel_image.specs.Decoded.{Decoded, RowWords, queue_at, semaphore_at}
use Rattle.kernel_image.specs.Shown.{items_of, objects_in, shown, shown_queue, shown_semaphore}
use Rattle.kernel_image.proofs.Callers.{rows-agree, ready_lists-agree, timed-agree, waiting-agree}
use Rattle.replay_list.specs.Stands.{IsRow, items_in, counts_in, console_in}
use Rattle.replay_list.proofs.BothLaws.{both_weaker}

-- the rows agree
pub rows_agree : (p : Program) (rows : List RowWords) (krows : List kernel.Row) → Both (IsRow p) rows krows → Both Agrees rows krows
rows_agree p rows krows both = both_weaker (IsRow p) Agrees (λ row r is. is.0) rows krows both

module _ (p : Program) (d : Decoded) (K : State) (agree : Both Agrees d.rows K.rows) where
  queues_from : (n : ℕ) (qs : List program.Queue) →
      map (shown_queue d) (enumerate_from n qs)
      ≡ map (show.shown_queue K) (enumerate_from n (map (λ (queue : ℕ × program.Queue). items_of queue.1.capacity (queue_at d queue.0)) (enumerate_from n qs)))
  queues_from n [] = refl
  queues_from n (q ∷ qs) =
      let senders = waiting-agree d.rows K.rows agree Send n in
      let receivers = waiting-agree d.rows K.rows agree Receive n in
      let items : List ℕ = items_of q.capacity (queue_at d n) in
      let first : shown_queue d (n, q) ≡ show.shown_queue K (n, items) = λ i. record { items = items; senders = senders i; receivers = receivers i } in
      let rest = queues_from (n + 1) qs in
      λ i. first i ∷ rest i

  semaphores_from : (n : ℕ) (ss : List program.Semaphore) →
      map (shown_semaphore d) (enumerate_from n ss)
      ≡ map (show.shown_semaphore K) (enumerate_from n (map (λ (semaphore : ℕ × program.Semaphore). (semaphore_at d semaphore.0).count) (enumerate_from n ss)))
  semaphores_from n [] = refl
  semaphores_from n (s ∷ ss) =
      let takers = waiting-agree d.rows K.rows agree Take n in
      let count : ℕ = (semaphore_at d n).count in
      let first : shown_semaphore d (n, s) ≡ show.shown_semaphore K (n, count) = λ i. record { count = count; takers = takers i } in
      let rest = semaphores_from (n + 1) ss in
      λ i. first i ∷ rest i

-- the image shows what can be seen of the kernel that its parts stand for
pub shows_parts : (p : Program) (d : Decoded) (K : State) → IsSound p K → d.events ≡ K.events → d.ticks ≡ K.ticks → Both (IsRow p) d.rows K.rows →
    items_in p d ≡ K.queues → counts_in p d ≡ K.counts → console_in d ≡ K.console → objects_in p d.heap d.live ≡ K.objects → shown p d ≡ visible p K
unfolding shown visible
shows_parts p d K sound events ticks rows queues counts console objects =
    let agree = rows_agree p d.rows K.rows rows in
    let first = rows-agree d.rows K.rows agree in
    let lists = ready_lists-agree d.rows K.rows agree in
    let timed = timed-agree d.rows K.rows agree in
    let queues_shown = queues_from p d K agree 0 p.queues ∙ ap (λ (q : List (List ℕ)). map (show.shown_queue K) (enumerate_from 0 q)) queues in
    let counts_shown = semaphores_from p d K agree 0 p.semaphores ∙ ap (λ (q : List ℕ). map (show.shown_semaphore K) (enumerate_from 0 q)) counts in
    λ i. record {
      events = events i;
      ticks = ticks i;
      rows = first i;
      ready = lists i;
      timed = timed i;
      queues = queues_shown i;
      semaphores = counts_shown i;
      objects = objects i;
      console = console i;
    }
