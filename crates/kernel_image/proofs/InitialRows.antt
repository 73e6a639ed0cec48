-- The rows, queues and semaphores of the image that formatting writes stand for those of the kernel at the start.
use Rattle.std.proofs.Common.{◌≡◌, ℕ, zero, suc, ◌+◌, ◌-◌, ◌<◌, ◌≤◌, ◌==◌, List, [], ◌∷◌, ◌++◌, Bool, true, false, refl, ap, sym, subst, ◌∙◌, arith, length}
use Rattle.std.proofs.lemmas.Bool.Decides.{nat_tests}
use Rattle.std.proofs.lemmas.Bool.{false≢true}
use Rattle.std.proofs.lemmas.Option.{none-some, slice_get_within, get_or_from_slice_get}
use Rattle.std.proofs.Math.ListN.{get_or-eq_default}
use Rattle.std.specs.Prelude.{◌%◌, map, find, replicate, if◌then◌else◌, nat_lt, slice_get, slice_index, slice_index_or, Option, Some, None, IsSome}
use Rattle.std.specs.List.{enumerate_from, range_with_len, position_or_len}
use Rattle.kernel_model.specs.Kernel.Row.{Free, Live}
use Rattle.thread_tree.specs.Numbers.{template_number}
use Rattle.kernel_model.specs.Calls.{born}
use Rattle.kernel_model.specs.Run.{start_row, start_rows}
use Rattle.thread_tree.specs.Program as program
use Rattle.thread_tree.specs.Program.{Program, Template, Start}
use Rattle.thread_tree.specs.Limits.{IsWithinLimits, template_named}
use Rattle.kernel_image.specs.Decoded.{RowWords, QueueWords, SemaphoreWords, decoded_of, listed, row_of, queue_of, queue_at, semaphore_at, blank_queue}
use Rattle.kernel_image.specs.Shown.{items_of}
use Rattle.kernel_image.specs.Agree.{Agrees, Both}
use Rattle.kernel_image.specs.Initial.{initial_cell, initial_row_word, started_word}
use Rattle.kernel_image.proofs.CellLaws.{by_test}
use Rattle.kernel_image.proofs.Listed.{length-listed}
use Rattle.kernel_image.proofs.StoreLaws.{queue_at-decoded, semaphore_at-decoded}

-- what is found stands at the first place that passes
find-here : {X : Type 0} (test : X → Bool) (y : X) (here : Bool) (xs : List X) (x : X) → test y ≡ here → (if here then Some y else find test xs) ≡ Some x → (find test xs ≡ Some x → slice_get xs (position_or_len test xs) ≡ Some x) → slice_get (y ∷ xs) (position_or_len test (y ∷ xs)) ≡ Some x
find-here test y true xs x is found rest = rw is found
find-here test y false xs x is found rest = let next : 1 + position_or_len test xs ≡ suc (position_or_len test xs) = omega arith in rw is (ap (λ (n : ℕ). slice_get (y ∷ xs) n) next ∙ rest found)

find-position : {X : Type 0} (test : X → Bool) (xs : List X) (x : X) → find test xs ≡ Some x → slice_get xs (position_or_len test xs) ≡ Some x
find-position test [] x is = absurd (none-some x is)
find-position test (y ∷ xs) x is = find-here test y (test y) xs x refl is (find-position test xs x)

-- a word of a started thread's row
row_word-at : (p : Program) (t word : ℕ) (s : Start) → slice_get p.starts t ≡ Some s → initial_row_word p t word ≡ started_word p t word s
row_word-at p t word s is = ap (λ (o : Option Start). elim o [ None ↦ 0 | Some start ↦ started_word p t word start ]) is

-- a started thread's row
start-agrees : (p : Program) (t : ℕ) (s : Start) (template : Template) → slice_get p.starts t ≡ Some s → slice_get p.templates (template_number p s.template) ≡ Some template → Agrees (row_of (initial_cell p) t) (start_row p (t, s))
unfolding initial_cell
start-agrees p t s template is found =
    subst (λ (o : Option Template). Agrees (row_of (initial_cell p) t) (elim o [ None ↦ Free | Some template ↦ Live (born (template_number p s.template) template s.arguments t) ])) (sym found)
    (record {
      template = row_word-at p t 1 s is;
      priority = row_word-at p t 2 s is ∙ ap (λ (o : Option Template). elim o [ None ↦ 0 | Some template ↦ template.priority ]) found;
      stamp = row_word-at p t 8 s is;
      does = row_word-at p t 0 s is;
    })

-- a row where none is started
free-agrees : (p : Program) (t : ℕ) → slice_get p.starts t ≡ None → Agrees (row_of (initial_cell p) t) Free
unfolding initial_cell
free-agrees p t is = ap (λ (o : Option Start). elim o [ None ↦ 0 | Some start ↦ started_word p t 0 start ]) is

-- the template that a start names
named-template : (p : Program) (s : Start) (o : Option Template) → template_named p s.template ≡ o → IsSome o → (template : Template) × (slice_get p.templates (template_number p s.template) ≡ Some template)
named-template p s None is some = absurd (false≢true some)
named-template p s (Some template) is some = (template, find-position (λ (t : Template). t.name == s.template) p.templates template is)

start-agrees-within : (p : Program) (t : ℕ) (s : Start) → IsWithinLimits p → slice_get p.starts t ≡ Some s → Agrees (row_of (initial_cell p) t) (start_row p (t, s))
start-agrees-within p t s within is =
    let low : t < length p.starts = slice_get_within p.starts t s is in
    let here : slice_index_or p.starts t s ≡ s = get_or_from_slice_get p.starts t s s is in
    let some : IsSome (template_named p s.template) = subst (λ (r : Start). IsSome (template_named p r.template)) here (within.start_templates t s low) in
    let template = named-template p s (template_named p s.template) refl some in
    start-agrees p t s template.0 is template.1

-- rows of a function of the number, against starts and free rows
free-rows : (row : ℕ → RowWords) (a n : ℕ) → ((i : ℕ) → Agrees (row (a + i)) Free) → Both Agrees (map row (range_with_len a n)) (replicate n Free)
free-rows row a zero agree = tt
free-rows row a (suc n) agree =
    (subst (λ (m : ℕ). Agrees (row m) Free) (omega arith) (agree 0), free-rows row (a + 1) n (λ i. subst (λ (m : ℕ). Agrees (row m) Free) (omega arith) (agree (i + 1))))

started-rows : (p : Program) (row : ℕ → RowWords) (a n : ℕ) (starts : List Start) → length starts ≤ n → ((i : ℕ) (s : Start) → slice_get starts i ≡ Some s → Agrees (row (a + i)) (start_row p (a + i, s))) → ((i : ℕ) → slice_get starts i ≡ None → Agrees (row (a + i)) Free) → Both Agrees (map row (range_with_len a n)) (map (start_row p) (enumerate_from a starts) ++ replicate (n - length starts) Free)
started-rows p row a n [] few agree free = subst (λ (m : ℕ). Both Agrees (map row (range_with_len a n)) (replicate m Free)) (omega arith) (free-rows row a n (λ i. free i refl))
started-rows p row a zero (s ∷ starts) few agree free = absurd (omega (arith, few))
started-rows p row a (suc n) (s ∷ starts) few agree free =
    let less : n - length starts ≡ suc n - suc (length starts) = omega arith in (
      subst (λ (m : ℕ). Agrees (row m) (start_row p (m, s))) (omega arith) (agree 0 s refl),
      subst (λ (m : ℕ). Both Agrees (map row (range_with_len (a + 1) n)) (map (start_row p) (enumerate_from (a + 1) starts) ++ replicate m Free)) less
          (started-rows p row (a + 1) n starts (omega (arith, few))
          (λ i r is. subst (λ (m : ℕ). Agrees (row m) (start_row p (m, r))) (omega arith) (agree (suc i) r is))
          (λ i is. subst (λ (m : ℕ). Agrees (row m) Free) (omega arith) (free (suc i) is))),
    )

-- the rows at the start
pub initial-rows : (p : Program) → IsWithinLimits p → Both Agrees (listed 16 (row_of (initial_cell p))) (start_rows p ++ replicate (16 - length p.starts) Free)
unfolding listed
initial-rows p within = started-rows p (row_of (initial_cell p)) 0 16 p.starts within.starts
    (λ i s is. subst (λ (m : ℕ). Agrees (row_of (initial_cell p) m) (start_row p (m, s))) (omega arith) (start-agrees-within p i s within is))
    (λ i is. subst (λ (m : ℕ). Agrees (row_of (initial_cell p) m) Free) (omega arith) (free-agrees p i is))

-- no queue has items at the start
initial-queue : (p : Program) (q : ℕ) → (queue_at (decoded_of (initial_cell p)) q).count ≡ 0
unfolding initial_cell decoded_of
initial-queue p q = by_test (nat_lt q 16) _
    (λ low. ap (λ (queue : QueueWords). queue.count) (queue_at-decoded (initial_cell p) q (grind (arith, nat_tests))))
    (λ high. ap (λ (queue : QueueWords). queue.count) (get_or-eq_default (listed 16 (queue_of (initial_cell p))) blank_queue (let long = length-listed 16 (queue_of (initial_cell p)) in let past : 16 ≤ q = grind (arith, nat_tests) in omega (arith, long, past))))

pub initial-items : (p : Program) (q capacity : ℕ) → items_of capacity (queue_at (decoded_of (initial_cell p)) q) ≡ []
unfolding listed
initial-items p q capacity =
    ap (λ (n : ℕ). listed n (λ i. slice_index (queue_at (decoded_of (initial_cell p)) q).slots (((queue_at (decoded_of (initial_cell p)) q).front + i) % capacity))) (initial-queue p q)

-- each semaphore has its count
pub initial-semaphore : (p : Program) (s : ℕ) (semaphore : program.Semaphore) → IsWithinLimits p → slice_get p.semaphores s ≡ Some semaphore → (semaphore_at (decoded_of (initial_cell p)) s).count ≡ semaphore.count
unfolding initial_cell
initial-semaphore p s semaphore within is =
    let low : s < length p.semaphores = slice_get_within p.semaphores s semaphore is in
    ap (λ (words : SemaphoreWords). words.count) (semaphore_at-decoded (initial_cell p) s (omega (arith, low, within.semaphores))) ∙ ap (λ (o : Option program.Semaphore). elim o [ None ↦ 0 | Some semaphore ↦ semaphore.count ]) is
