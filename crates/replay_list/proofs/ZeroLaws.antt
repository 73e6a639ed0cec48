-- The words that nothing reads are 0.
use Rattle.std.proofs.Common.{◌≡◌, ℕ, zero, suc, ◌+◌, [], ◌∷◌, Option, Some, None, refl, ◌∙◌, replicate}
use Rattle.std.specs.Prelude.{map, slice_get}
use Rattle.std.specs.List.{range_with_len}
use Rattle.thread_tree.specs.Program.{Program, Start}
use Rattle.kernel_model.specs.Kernel.{State}
use Rattle.kernel_image.specs.Decoded.{Decoded, decoded_of, listed, row_of, queue_of, semaphore_of}
use Rattle.kernel_image.specs.Initial.{initial_cell, started_word}
use Rattle.kernel_image.specs.Unread.{links_of, unread_of_queue, unread_of_semaphore, unread}
use Rattle.replay_list.specs.Stands.{Stands}
use Rattle.replay_list.specs.Zeros.{zeros}

-- what is the same at each number is repeated
all-same : {X : Type 0} (f : ℕ → X) (c : X) → ((i : ℕ) → f i ≡ c) → (n from : ℕ) → map f (range_with_len from n) ≡ replicate n c
all-same f c same zero from = refl
all-same f c same (suc n) from = let rest = all-same f c same n (from + 1) in λ j. same from j ∷ rest j

-- also what is read off each
all-read : {X Y : Type 0} (g : X → Y) (f : ℕ → X) (c : Y) → ((i : ℕ) → g (f i) ≡ c) → (n from : ℕ) → map g (map f (range_with_len from n)) ≡ replicate n c
all-read g f c same zero from = refl
all-read g f c same (suc n) from = let rest = all-read g f c same n (from + 1) in λ j. same from j ∷ rest j

-- the links that formatting writes
initial-links : (p : Program) (t : ℕ) → links_of (row_of (initial_cell p) t) ≡ replicate 4 0
unfolding initial_cell
initial-links p t = go (slice_get p.starts t)
  where
    word_in : Option Start → ℕ → ℕ
    word_in found word = elim found [ None ↦ 0 | Some start ↦ started_word p t word start ]

    go : (found : Option Start) → (word_in found 9 ∷ word_in found 10 ∷ word_in found 11 ∷ word_in found 12 ∷ []) ≡ replicate 4 0
    go None = refl
    go (Some start) = refl

-- and the words of queues and semaphores
initial-of_queue : (p : Program) (q : ℕ) → unread_of_queue (queue_of (initial_cell p) q) ≡ replicate 14 0
unfolding initial_cell listed
initial-of_queue p q = refl

initial-of_semaphore : (p : Program) (s : ℕ) → unread_of_semaphore (semaphore_of (initial_cell p) s) ≡ replicate 3 0
unfolding initial_cell
initial-of_semaphore p s = refl

-- formatting writes 0 into each of them
initial-unread : (p : Program) → unread (decoded_of (initial_cell p)) ≡ zeros
unfolding decoded_of initial_cell listed
initial-unread p =
    let links = all-read links_of (row_of (initial_cell p)) (replicate 4 0) (initial-links p) 16 0 in
    let queues = all-read unread_of_queue (queue_of (initial_cell p)) (replicate 14 0) (initial-of_queue p) 16 0 in
    let semaphores = all-read unread_of_semaphore (semaphore_of (initial_cell p)) (replicate 3 0) (initial-of_semaphore p) 16 0 in
    let header = all-same (λ (i : ℕ). 0) 0 (λ i. refl) 48 0 in
    let behind = all-same (λ (i : ℕ). 0) 0 (λ i. refl) 1856 0 in
    λ j. record { heads = replicate 9 0; links = links j; of_queues = queues j; of_semaphores = semaphores j; header = header j; behind = behind j }

pub unread_zero : (p : Program) (d : Decoded) (K : State) → Stands p d K → unread d ≡ zeros
unread_zero p d K stands = stands.unread ∙ initial-unread p
