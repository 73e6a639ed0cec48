-- An image whose unread words are as formatting gave them has nothing linked.
use Rattle.std.proofs.Common.{◌≡◌, ℕ, List, [], ◌∷◌, Option, Some, None, length, refl, sym, ap, ◌∙◌}
use Rattle.std.specs.Prelude.{map, replicate, take, slice_get}
use Rattle.std.specs.List.{range_with_len}
use Rattle.thread_tree.specs.Program.{Program, Start}
use Rattle.kernel_model.specs.Kernel.{State}
use Rattle.kernel_image.specs.Agree.{Agrees, Both}
use Rattle.kernel_image.specs.Decoded.{Decoded, decoded_of, listed, row_of}
use Rattle.kernel_image.specs.Initial.{initial_cell, initial_row_word, started_word}
use Rattle.kernel_image.specs.Unread.{links_of, heads_of, unread, unread_of_queue, unread_of_semaphore, Unread, IsUnread}
use Rattle.ready_delay_lists.specs.Lists.{AreListed, Links, links_in, unlinked, heads_of_queue, heads_of_semaphore}

-- a function of each element, after one of which it is the head
through : {X Y Z : Type 0} (f : X → Y) (g : Y → Z) (h : X → Z) → ((x : X) → g (f x) ≡ h x) → (xs : List X) → map g (map f xs) ≡ map h xs
through f g h same [] = refl
through f g h same (x ∷ xs) = let first = same x in let rest = through f g h same xs in λ i. first i ∷ rest i

-- what is the same of each element
each : {X Y : Type 0} (f : X → Y) (y : Y) → ((x : X) → f x ≡ y) → (xs : List X) → map f xs ≡ replicate (length xs) y
each f y same [] = refl
each f y same (x ∷ xs) = let first = same x in let rest = each f y same xs in λ i. first i ∷ rest i

-- the links among the unread words
links_from : Unread → Links
links_from words = record {
  heads = words.heads;
  of_rows = words.links;
  of_queues = map (take 2) words.of_queues;
  of_semaphores = map (take 1) words.of_semaphores;
}

links-read : (d : Decoded) → links_in d ≡ links_from (unread d)
unfolding links_from
links-read d =
    let queues = through unread_of_queue (take 2) heads_of_queue (λ queue. refl) d.queues in
    let semaphores = through unread_of_semaphore (take 1) heads_of_semaphore (λ semaphore. refl) d.semaphores in
    λ i. record {
      heads = heads_of d;
      of_rows = map links_of d.rows;
      of_queues = sym queues i;
      of_semaphores = sym semaphores i;
    }

-- a word of a row that formatting leaves 0
no_word : (p : Program) (t word : ℕ) → ((start : Start) → started_word p t word start ≡ 0) → initial_row_word p t word ≡ 0
no_word p t word none = go (slice_get p.starts t)
  where
    go : (o : Option Start) → ◌≡◌ {A = ℕ} (elim o [ None ↦ 0 | Some start ↦ started_word p t word start ]) 0
    go None = refl
    go (Some start) = none start

-- the row of a thread has no links in the image that formatting writes
no_links : (p : Program) (t : ℕ) → links_of (row_of (initial_cell p) t) ≡ replicate 4 0
unfolding initial_cell
no_links p t =
    let next = no_word p t 9 (λ start. refl) in
    let previous = no_word p t 10 (λ start. refl) in
    let timed_next = no_word p t 11 (λ start. refl) in
    let timed_previous = no_word p t 12 (λ start. refl) in
    λ i. next i ∷ previous i ∷ timed_next i ∷ timed_previous i ∷ []

initial-unlinked : (p : Program) → links_in (decoded_of (initial_cell p)) ≡ unlinked
unfolding decoded_of listed initial_cell
initial-unlinked p =
    let rows : map links_of (listed 16 (row_of (initial_cell p))) ≡ replicate 16 (replicate 4 0) =
    through (row_of (initial_cell p)) links_of (λ t. links_of (row_of (initial_cell p) t)) (λ t. refl) (range_with_len 0 16) ∙ each (λ t. links_of (row_of (initial_cell p) t)) (replicate 4 0) (no_links p) (range_with_len 0 16) in
    ap (λ (rows : List (List ℕ)). record unlinked { of_rows = rows }) rows

pub listed_from : (p : Program) (d : Decoded) (K : State) → Both Agrees d.rows K.rows → d.stamp ≡ K.stamp → IsUnread p d → AreListed d K
listed_from p d K rows stamp unread = record {
  rows = rows;
  stamp = stamp;
  links = links-read d ∙ ap links_from unread ∙ sym (links-read (decoded_of (initial_cell p))) ∙ initial-unlinked p;
}
