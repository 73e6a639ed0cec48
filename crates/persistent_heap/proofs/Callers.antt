-- What the crates above may cite of these proofs: laws, and sets of laws for `using`.
pub use Rattle.persistent_heap.proofs.Chain.{holes-is, holes-linked}
pub use Rattle.persistent_heap.proofs.Unique.{holes-unique}
pub use Rattle.persistent_heap.proofs.Parts.{ChangesOnly-beside}
pub use Rattle.persistent_heap.proofs.Kept.{HeapBecomes-beside, HeapBecomes-taken}
use Rattle.persistent_heap.proofs.Kept.{holes-same, holes-with_place, holes-with_word, holes-beside, IsTaken-taken, IsTaken-without_block, IsTaken-behind_block, IsTaken-before_block, IsTaken-becomes, IsHeap-formatted}

-- a heap whose places are all free
pub ruleset formatted_laws = (IsHeap-formatted)

-- what leaves the heap, and what a change of the heap leaves
pub ruleset kept_laws = (holes-same, holes-with_place, holes-with_word, holes-beside, HeapBecomes-beside, HeapBecomes-taken)

-- blocks that aren't free
pub ruleset taken_laws = (IsTaken-taken, IsTaken-without_block, IsTaken-behind_block, IsTaken-before_block, IsTaken-becomes)
