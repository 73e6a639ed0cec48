-- The items of a queue in the image.
use Rattle.std.proofs.Common.{◌≡◌, ℕ, ◌+◌, ◌<◌, ◌≤◌, ◌%◌, ap, subst, ◌∙◌, arith, slice_index}
use Rattle.std.proofs.Math.Nat.{mod-lt}
use Rattle.kernel_image.specs.declared.cell.Cell.{Cell}
use Rattle.kernel_image.specs.declared.cell.Cell.TheVariants.{QueueWord, QueueItem}
use Rattle.kernel_image.specs.Decoded.{QueueWords, decoded_of, queue_at, queue_of}
use Rattle.kernel_image.specs.Shown.{items_of}
use Rattle.kernel_image.proofs.Listed.{listed-at}
use Rattle.kernel_image.proofs.StoreLaws.{queue_at-decoded}

-- an item of a queue whose words are these
item-of : (word : Cell → ℕ) (q place capacity : ℕ) → place < word (QueueWord q 0) → (word (QueueWord q 1) + place) % capacity < 48 → slice_index (items_of capacity (queue_of word q)) place ≡ word (QueueItem q ((word (QueueWord q 1) + place) % capacity))
item-of word q place capacity some slot =
    listed-at (word (QueueWord q 0)) (λ i. slice_index (queue_of word q).slots ((word (QueueWord q 1) + i) % capacity)) place 0 some
    ∙ listed-at 48 (λ i. word (QueueItem q i)) ((word (QueueWord q 1) + place) % capacity) 0 slot

-- an item of a queue of the image
pub item-at : (word : Cell → ℕ) (q place capacity : ℕ) → q < 16 → 1 ≤ capacity → capacity ≤ 48 → place < (queue_at (decoded_of word) q).count → slice_index (items_of capacity (queue_at (decoded_of word) q)) place ≡ word (QueueItem q ((word (QueueWord q 1) + place) % capacity))
item-at word q place capacity low some few held =
    let same = queue_at-decoded word q low in
    let held' : place < word (QueueWord q 0) = subst (λ (queue : QueueWords). place < queue.count) same held in
    let within : (word (QueueWord q 1) + place) % capacity < capacity = mod-lt (word (QueueWord q 1) + place) some in
    let slot : (word (QueueWord q 1) + place) % capacity < 48 = omega (arith, within, few) in
    ap (λ (queue : QueueWords). slice_index (items_of capacity queue) place) same ∙ item-of word q place capacity held' slot
