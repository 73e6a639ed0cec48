-- The image that formatting writes stands for the kernel at the start.
use Rattle.std.proofs.Common.{◌≡◌, ℕ, zero, suc, ◌+◌, ◌-◌, ◌<◌, ◌≤◌, ◌==◌, List, [], ◌∷◌, ◌++◌, Bool, true, false, refl, ap, sym, subst, ◌∙◌, arith, length, take, slice_index}
use Rattle.std.proofs.lemmas.Bool.Decides.{nat_tests}
use Rattle.std.proofs.lemmas.List.FromFn.{get_or-map-range_with_len}
use Rattle.std.proofs.lemmas.Option.{slice_get_within, get_or_from_slice_get}
use Rattle.std.specs.Prelude.{map, find, replicate, slice_get, slice_index_or, Option, Some, None, IfSome}
use Rattle.std.specs.List.{enumerate_from, range_with_len, position_or_len}
use Rattle.thread_tree.specs.Program as program
use Rattle.thread_tree.specs.Program.{Program, Template, Start}
use Rattle.thread_tree.specs.Limits.{IsWithinLimits, template_named}
use Rattle.thread_tree.specs.Relive as relive
use Rattle.thread_tree.specs.Relive.Start.{Birth, Loop}
use Rattle.kernel_model.specs.Kernel as kernel
use Rattle.kernel_model.specs.Kernel.Row.{Free, Live}
use Rattle.thread_tree.specs.Numbers.{template_number}
use Rattle.kernel_model.specs.Calls.{born}
use Rattle.kernel_model.specs.Objects.{end_of, first_place, static_objects, object_at}
use Rattle.kernel_model.specs.Visible.{Object}
use Rattle.kernel_model.specs.Run.{start_row, start_rows, initial}
use Rattle.kernel_model.specs.Relived.{IsRelived}
use Rattle.kernel_model.specs.Sound.{IsSound, IsPacked}
use Rattle.kernel_model.specs.Show.{visible}
use Rattle.kernel_image.specs.Agree.{Agrees, Both}
use Rattle.kernel_image.specs.Decoded.{RowWords, decoded_of, listed, row_of, queue_at, semaphore_at}
use Rattle.kernel_image.specs.Shown.{items_of, shown}
use Rattle.kernel_image.specs.Initial.{initial_cell, initial_row_word, started_word, initial_heap_word, hole_word, first_hole, end_after}
use Rattle.boot_recovery.proofs.Choices.{by_test}
use Rattle.kernel_image.proofs.Callers.{initial-rows, initial-items, initial-semaphore, initial-objects, initial-headers}
use Rattle.persistent_objects.specs.Layout.{AreHoles}
use Rattle.replay_list.specs.Records.{start_in, values_in}
use Rattle.replay_list.specs.Stands.{Stands, IsLife, HasLife}

-- a thread that is born is given back by its birth
abbrev pub BornRelived : Program → Type 0
BornRelived p = (number : ℕ) (t : Template) (arguments : List ℕ) (stamp : ℕ) → slice_get p.templates number ≡ Some t → length arguments ≡ length t.parameters → IsRelived p (Birth number arguments) [] (born number t arguments stamp)

-- two relations on the same lists
both_and : {X Y : Type 0} (R S : X → Y → Type 0) (xs : List X) (ys : List Y) → Both R xs ys → Both S xs ys → Both (λ x y. R x y × S x y) xs ys
both_and R S [] [] a b = tt
both_and R S [] (y ∷ ys) a b = a
both_and R S (x ∷ xs) [] a b = a
both_and R S (x ∷ xs) (y ∷ ys) a b = ((a.0, b.0), both_and R S xs ys a.1 b.1)

-- the first of listed words are those of a list
take-listed : (xs : List ℕ) (f : ℕ → ℕ) (a n : ℕ) → length xs ≤ n → ((i : ℕ) → f (a + i) ≡ slice_index xs i) → take (length xs) (map f (range_with_len a n)) ≡ xs
take-listed [] f a n few same = refl
take-listed (x ∷ xs) f a zero few same = absurd (omega (arith, few))
take-listed (x ∷ xs) f a (suc n) few same =
    let first : f a ≡ x = ap f (omega arith) ∙ same 0 in
    let rest = take-listed xs f (a + 1) n (omega (arith, few)) (λ i. ap f (omega arith) ∙ same (suc i)) in
    λ i. first i ∷ rest i

take_listed : (xs : List ℕ) (f : ℕ → ℕ) (n : ℕ) → length xs ≤ n → ((i : ℕ) → f i ≡ slice_index xs i) → take (length xs) (listed n f) ≡ xs
unfolding listed
take_listed xs f n few same = take-listed xs f 0 n few (λ i. ap f (omega arith) ∙ same i)

-- what is found stands at the position of the first that passes
find-here : {X : Type 0} (test : X → Bool) (x : X) (xs : List X) → slice_get xs (position_or_len test xs) ≡ find test xs → slice_get (x ∷ xs) (position_or_len test (x ∷ xs)) ≡ find test (x ∷ xs)
find-here test x xs rest = by_test (test x) _
    (λ is. rw is refl)
    (λ other. let next : 1 + position_or_len test xs ≡ suc (position_or_len test xs) = omega arith in rw other (ap (λ (n : ℕ). slice_get (x ∷ xs) n) next ∙ rest))

find_at : {X : Type 0} (test : X → Bool) (xs : List X) → slice_get xs (position_or_len test xs) ≡ find test xs
find_at test [] = refl
find_at test (x ∷ xs) = find-here test x xs (find_at test xs)

-- a word of a started thread's row
row_word : (p : Program) (t word : ℕ) (s : Start) → slice_get p.starts t ≡ Some s → initial_row_word p t word ≡ started_word p t word s
row_word p t word s is = ap (λ (o : Option Start). elim o [ None ↦ 0 | Some start ↦ started_word p t word start ]) is

pub start_is : (row : RowWords) (template : ℕ) (values : List ℕ) → row.start ≡ 0 → row.template ≡ template → values_in row ≡ values → start_in row ≡ Birth template values
start_is row template values none is same =
    let test : (row.start == 0) ≡ true = grind (arith, nat_tests) in
    rw test (λ i. Birth (is i) (same i))

-- a started thread has its life
start_life : (p : Program) → BornRelived p → (t : ℕ) (s : Start) (template : Template) → slice_get p.starts t ≡ Some s → slice_get p.templates (template_number p s.template) ≡ Some template → length template.parameters ≡ length s.arguments → length s.arguments ≤ 16 → IsLife p (row_of (initial_cell p) t) (born (template_number p s.template) template s.arguments t)
unfolding initial_cell
start_life p birth t s template is found same few =
    let row = row_of (initial_cell p) t in
    let values : values_in row ≡ s.arguments =
    ap (λ (n : ℕ). take n row.start_values) (row_word p t 14 s is)
    ∙ take_listed s.arguments _ 16 few (λ i. ap (λ (o : Option Start). elim o [ None ↦ 0 | Some start ↦ slice_index start.arguments i ]) is) in
    let start : start_in row ≡ Birth (template_number p s.template) s.arguments = start_is row _ _ (row_word p t 13 s is) (row_word p t 1 s is) values in
    record {
      records = [];
      words = ap (λ (n : ℕ). take n row.records) (row_word p t 15 s is);
      relived = subst (λ (b : relive.Start). IsRelived p b [] (born (template_number p s.template) template s.arguments t)) (sym start) (birth (template_number p s.template) template s.arguments t found (sym same));
      used = row_word p t 15 s is;
      few = subst (λ (n : ℕ). n ≤ 16) (sym (row_word p t 14 s is)) few;
    }

-- what is found of a start's template
template_fits : (p : Program) (t : ℕ) (s : Start) (template : Template) → IsWithinLimits p → slice_get p.starts t ≡ Some s → slice_get p.templates (template_number p s.template) ≡ Some template → (length template.parameters ≡ length s.arguments) × (length template.parameters ≤ 8)
template_fits p t s template within is found =
    let low : t < length p.starts = slice_get_within p.starts t s is in
    let here : slice_index_or p.starts t s ≡ s = get_or_from_slice_get p.starts t s s is in
    let named : template_named p s.template ≡ Some template = sym (find_at (λ (template : Template). template.name == s.template) p.templates) ∙ found in
    let arguments : IfSome (template_named p s.template) (λ (r : Template). length r.parameters ≡ length s.arguments) = subst (λ (r : Start). IfSome (template_named p r.template) (λ (q : Template). length q.parameters ≡ length r.arguments)) here (within.start_arguments t s low) in
    let same : length template.parameters ≡ length s.arguments = subst (λ (o : Option Template). IfSome o (λ (r : Template). length r.parameters ≡ length s.arguments)) named arguments in
    let number = template_number p s.template in
    let there : number < length p.templates = slice_get_within p.templates number template found in
    let fit = within.each_template number template there in
    let at : slice_index_or p.templates number template ≡ template = get_or_from_slice_get p.templates number template template found in
    let few : length template.parameters ≤ 8 = subst (λ (r : Template). length r.parameters ≤ 8) at fit.parameters in
    (same, few)

row_life : (p : Program) → BornRelived p → IsWithinLimits p → (t : ℕ) (s : Start) → slice_get p.starts t ≡ Some s → HasLife p (row_of (initial_cell p) t) (start_row p (t, s))
row_life p birth within t s is = go (slice_get p.templates (template_number p s.template)) refl where
  go : (o : Option Template) → slice_get p.templates (template_number p s.template) ≡ o → HasLife p (row_of (initial_cell p) t) (elim o [ None ↦ Free | Some template ↦ Live (born (template_number p s.template) template s.arguments t) ])
  go None found = tt
  go (Some template) found =
      let fits = template_fits p t s template within is found in
      let same = fits.0 in
      let few = fits.1 in
      start_life p birth t s template is found same (omega (arith, same, few))

-- rows by their number against started and free rows
free_rows : (R : RowWords → kernel.Row → Type 0) (row : ℕ → RowWords) (a n : ℕ) → ((i : ℕ) → R (row (a + i)) Free) → Both R (map row (range_with_len a n)) (replicate n Free)
free_rows R row a zero agree = tt
free_rows R row a (suc n) agree =
    (subst (λ (m : ℕ). R (row m) Free) (omega arith) (agree 0), free_rows R row (a + 1) n (λ i. subst (λ (m : ℕ). R (row m) Free) (omega arith) (agree (i + 1))))

started_rows : (R : RowWords → kernel.Row → Type 0) (p : Program) (row : ℕ → RowWords) (a n : ℕ) (starts : List Start) → length starts ≤ n → ((i : ℕ) (s : Start) → slice_get starts i ≡ Some s → R (row (a + i)) (start_row p (a + i, s))) → ((i : ℕ) → R (row i) Free) → Both R (map row (range_with_len a n)) (map (start_row p) (enumerate_from a starts) ++ replicate (n - length starts) Free)
started_rows R p row a n [] few agree free = subst (λ (m : ℕ). Both R (map row (range_with_len a n)) (replicate m Free)) (omega arith) (free_rows R row a n (λ i. free (a + i)))
started_rows R p row a zero (s ∷ starts) few agree free = absurd (omega (arith, few))
started_rows R p row a (suc n) (s ∷ starts) few agree free =
    let less : n - length starts ≡ suc n - suc (length starts) = omega arith in (
      subst (λ (m : ℕ). R (row m) (start_row p (m, s))) (omega arith) (agree 0 s refl),
      subst (λ (m : ℕ). Both R (map row (range_with_len (a + 1) n)) (map (start_row p) (enumerate_from (a + 1) starts) ++ replicate m Free)) less
          (started_rows R p row (a + 1) n starts (omega (arith, few))
          (λ i r is. subst (λ (m : ℕ). R (row m) (start_row p (m, r))) (omega arith) (agree (suc i) r is)) free),
    )

-- the rows at the start have their lives
initial_lives : (p : Program) → BornRelived p → IsWithinLimits p → Both (HasLife p) (listed 16 (row_of (initial_cell p))) (start_rows p ++ replicate (16 - length p.starts) Free)
unfolding listed
initial_lives p birth within = started_rows (HasLife p) p (row_of (initial_cell p)) 0 16 p.starts within.starts
    (λ i s is. subst (λ (m : ℕ). HasLife p (row_of (initial_cell p) m) (start_row p (m, s))) (omega arith) (row_life p birth within i s is))
    (λ i. tt)

-- no queue has items at the start
initial_queues : (p : Program) (n : ℕ) (queues : List program.Queue) → map (λ (queue : ℕ × program.Queue). items_of queue.1.capacity (queue_at (decoded_of (initial_cell p)) queue.0)) (enumerate_from n queues) ≡ map (λ (queue : program.Queue). []) queues
initial_queues p n [] = refl
initial_queues p n (queue ∷ queues) =
    let items = initial-items p n queue.capacity in
    let rest = initial_queues p (n + 1) queues in
    λ i. items i ∷ rest i

-- each semaphore has its count
initial_counts : (p : Program) (n : ℕ) (semaphores : List program.Semaphore) → ((i : ℕ) (s : program.Semaphore) → slice_get semaphores i ≡ Some s → (semaphore_at (decoded_of (initial_cell p)) (n + i)).count ≡ s.count) → map (λ (semaphore : ℕ × program.Semaphore). (semaphore_at (decoded_of (initial_cell p)) semaphore.0).count) (enumerate_from n semaphores) ≡ map (λ (semaphore : program.Semaphore). semaphore.count) semaphores
initial_counts p n [] counts = refl
initial_counts p n (semaphore ∷ semaphores) counts =
    let count : (semaphore_at (decoded_of (initial_cell p)) n).count ≡ semaphore.count = subst (λ (m : ℕ). (semaphore_at (decoded_of (initial_cell p)) m).count ≡ semaphore.count) (omega arith) (counts 0 semaphore refl) in
    let rest = initial_counts p (n + 1) semaphores (λ i s is. subst (λ (m : ℕ). (semaphore_at (decoded_of (initial_cell p)) m).count ≡ s.count) (omega arith) (counts (suc i) s is)) in
    λ i. count i ∷ rest i

-- the static objects lie one after another
packed_end : (from to : ℕ) (objects : List Object) → IsPacked from objects to → (end_after from objects ≡ to) × (from ≤ to)
packed_end from to [] packed = (packed, omega (arith, packed))
packed_end from to (o ∷ os) packed =
    let rest = packed_end (end_of o) to os packed.1 in
    let at = packed.0 in
    let above = rest.1 in
    (rest.0, omega (arith, at, above))

-- none of them begins behind their end
none_behind : (from to q : ℕ) (objects : List Object) → IsPacked from objects to → to ≤ q → object_at objects q ≡ None
none_behind from to q [] packed behind = refl
none_behind from to q (o ∷ os) packed behind =
    let at = packed.0 in
    let above = (packed_end (end_of o) to os packed.1).1 in
    let other : (o.place == q) ≡ false = grind (arith, nat_tests) in
    rw other (none_behind (end_of o) to q os packed.1 behind)

-- the words behind them are those of one hole
hole_at : (p : Program) (q : ℕ) → object_at (static_objects p) q ≡ None → initial_heap_word p q ≡ hole_word p q
hole_at p q none = ap (λ (o : Option Object). elim o [ Some object ↦ object.kind + 1 + 65536 | None ↦ hole_word p q ]) none

hole_here : (p : Program) (q : ℕ) → q ≡ first_hole p → hole_word p q ≡ 4096 - q
hole_here p q is = let test : (q == first_hole p) ≡ true = grind (arith, nat_tests) in rw test (omega (arith, is))

hole_none : (p : Program) (q : ℕ) → first_hole p < q → hole_word p q ≡ 0
hole_none p q behind = let test : (q == first_hole p) ≡ false = grind (arith, nat_tests) in rw test refl

heap_word : (p : Program) (q : ℕ) → q < 4096 → slice_index (listed 4096 (initial_heap_word p)) q ≡ initial_heap_word p q
unfolding listed
heap_word p q low = get_or-map-range_with_len (initial_heap_word p) 0 4096 q q 0 low (omega arith)

packed_holes : (heap : List ℕ) (link from to : ℕ) (objects : List Object) → IsPacked from objects to → to < 4096 → link ≡ to → slice_index heap to ≡ 4096 - to → slice_index heap (to + 1) ≡ 0 → AreHoles heap link from objects
packed_holes heap link from to [] packed low is size last =
    let test : (from == 4096) ≡ false = grind (arith, nat_tests) in
    rw test (omega (arith, packed, is), subst (λ (m : ℕ). slice_index heap m ≡ 4096 - m) (sym packed) size, subst (λ (m : ℕ). slice_index heap (m + 1) ≡ 0) (sym packed) last)
packed_holes heap link from to (o ∷ os) packed low is size last =
    let at = packed.0 in
    let test : (from == o.place) ≡ true = grind (arith, nat_tests) in
    rw test (packed_holes heap link (end_of o) to os packed.1 low is size last)

initial_holes : (p : Program) (to : ℕ) → IsPacked first_place (static_objects p) to → to ≤ 770 → AreHoles (listed 4096 (initial_heap_word p)) (first_hole p) first_place (static_objects p)
initial_holes p to packed low =
    let end : first_hole p ≡ to = (packed_end first_place to (static_objects p) packed).0 in
    packed_holes (listed 4096 (initial_heap_word p)) (first_hole p) first_place to (static_objects p) packed (omega (arith, low)) end
    (heap_word p to (omega (arith, low)) ∙ hole_at p to (none_behind first_place to to (static_objects p) packed (omega arith)) ∙ hole_here p to (sym end))
    (heap_word p (to + 1) (omega (arith, low)) ∙ hole_at p (to + 1) (none_behind first_place to (to + 1) (static_objects p) packed (omega arith)) ∙ hole_none p (to + 1) (omega (arith, end)))

no_bytes : (f : ℕ → ℕ) → listed 0 f ≡ []
unfolding listed
no_bytes f = refl

-- all parts together
pub initial_stands : (p : Program) → IsWithinLimits p → BornRelived p → IsSound p (initial p) → shown p (decoded_of (initial_cell p)) ≡ visible p (initial p) → (to : ℕ) → IsPacked first_place (static_objects p) to → to ≤ 770 → Stands p (decoded_of (initial_cell p)) (initial p)
unfolding decoded_of initial_cell initial
initial_stands p within birth sound shows to packed low = record {
  sound = sound;
  shows = shows;
  events = refl;
  ticks = refl;
  rows = both_and Agrees (HasLife p) _ _ (initial-rows p within) (initial_lives p birth within);
  queues = initial_queues p 0 p.queues;
  counts = initial_counts p 0 p.semaphores (λ i s is. subst (λ (m : ℕ). (semaphore_at (decoded_of (initial_cell p)) m).count ≡ s.count) (omega arith) (initial-semaphore p i s within is));
  console = no_bytes _;
  objects = initial-objects p within;
  layout = record { holes = initial_holes p to packed low; headers = initial-headers p within };
  unread = refl;
  stamp = refl;
  few_stamps = within.starts;
}
