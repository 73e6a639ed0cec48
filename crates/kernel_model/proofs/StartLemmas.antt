-- The kernel of a program at its start is sound.
use Rattle.std.proofs.Common.{append-nil, append_assoc, leb, ◌≡◌, ◌≢◌, ℕ, zero, suc, ◌+◌, ◌-◌, ◌*◌, ◌%◌, ◌<◌, ◌≤◌, Bool, true, false, cond, not, ◌==◌, List, [], ◌∷◌, ◌++◌, length, map, fold, find, get_or, replicate, All, AllPairs, Option, Some, None, IfSome, IsSome, is_some, slice_get, refl, sym, ap, subst, ◌∙◌, arith, length-append, true≢false}
use Rattle.std.specs.Prelude.{⊤}
use Rattle.std.proofs.lemmas.List.{length-map, map-append}
use Rattle.std.specs.List.{AllByRecursion, position_or_len, enumerate_from}
use Rattle.std.proofs.lemmas.List.Elements.{All-from_recursion, recursion_from_All, All-nil, All-push, All-append, All-replicate}
use Rattle.std.proofs.lemmas.Option.{slice_get_within, get_or_from_slice_get}
use Rattle.std.proofs.lemmas.Bool.{cond_both, leb-false, lt-leb}
use lib.ListN.{length-replicate}
use Rattle.kernel_model.specs.Visible.{Object}
use Rattle.thread_tree.specs.Numbers.{fields_of, kind_number}
use Rattle.kernel_model.specs.Objects.{kind_in, declared_kind, block_size, end_of, first_place, end_place, least_from, least, static_object, with_static, static_objects}
use Rattle.kernel_model.specs.Kernel.{Row}
use Rattle.kernel_model.specs.Kernel.Row.{Free, Live}
use Rattle.thread_tree.specs.Numbers.{template_number}
use Rattle.kernel_model.specs.Calls.{born, birth_row, capacity_of}
use Rattle.kernel_model.specs.Run.{row_count, start_row, start_rows, initial}
use Rattle.kernel_model.specs.Sound.{IsLaid, IsPacked, HasKind, AreSoundObjects, IsSoundRow, stamp_in, IsPast, IsApart, IsSound}
use Rattle.kernel_model.proofs.ObjectLemmas.{block_size-even}
use Rattle.thread_tree.specs.Program as program
use Rattle.thread_tree.specs.Program.{Program, Kind, Queue, Semaphore, Template, Start}
use Rattle.thread_tree.specs.Limits.{IsWithinLimits, IsFitSemaphore, kind_named}

-- the thing of a number that was found by name is the one of that name
pub found : {X : Type 0} (test : X → Bool) (xs : List X) → slice_get xs (position_or_len test xs) ≡ find test xs
found test [] = refl
found test (x ∷ xs) = go (test x) (found test xs)
  where
    go : (b : Bool) → slice_get xs (position_or_len test xs) ≡ find test xs →
        slice_get (x ∷ xs) (cond (not b) (1 + position_or_len test xs) 0) ≡ cond b (Some x) (find test xs)
    go true rest = refl
    go false rest = let e : 1 + position_or_len test xs ≡ suc (position_or_len test xs) = omega arith in ap (slice_get (x ∷ xs)) e ∙ rest

-- their least free place is the one behind them
pub packed-least : (objects : List Object) (from to size : ℕ) → IsPacked from objects to → to + size ≤ end_place → 1 ≤ size →
    least_from from size objects ≡ to
packed-least [] from to size packed le some = cond_both (leb (from + size) end_place) from 0 (λ n. n ≡ to) (λ e. packed)
    (λ e. let l = leb-false (from + size) end_place e in absurd (omega arith))
packed-least (o ∷ os) from to size packed le some =
    ap (λ b. cond b from (least_from (end_of o) size os)) (lt-leb (from + size) o.place (omega (arith, packed.0)))
    ∙ packed-least os (end_of o) to size packed.1 le some

-- one more right behind them
pub packed-more : (objects : List Object) (from to : ℕ) (o : Object) → IsPacked from objects to → o.place ≡ to → IsPacked from (objects ++ o ∷ []) (end_of o)
packed-more [] from to o packed e = (e ∙ sym packed, refl)
packed-more (x ∷ xs) from to o packed e = (packed.0, packed-more xs (end_of x) to o packed.1 e)

-- they lie apart
pub packed-laid : (objects : List Object) (from to : ℕ) → IsPacked from objects to → to ≤ end_place → IsLaid from objects
packed-laid [] from to packed le = omega arith
packed-laid (o ∷ os) from to packed le = (omega (arith, packed.0), packed-laid os (end_of o) to packed.1 le)

-- so many static objects of a program, right behind each other from the first place on
pub record AreFirst (p : Program) (n : ℕ) (objects : List Object) : Type 0 where
  pub end : ℕ
  pub packed : IsPacked first_place objects end
  pub bound : end ≤ first_place + 12 * n
  pub end_even : end % 2 ≡ 0
  pub even : All (λ o. o.place % 2 ≡ 0) objects
  pub kinds : All (HasKind p) objects

-- one static object more
pub static-more : (p : Program) (n : ℕ) (objects : List Object) (declared : program.Object) → IsWithinLimits p → n < 64 →
    IsSome (kind_named p declared.kind) → AreFirst p n objects → AreFirst p (n + 1) (with_static p objects declared)
static-more p n objects declared limits l some h = go (slice_get p.kinds kind) refl (found (λ k. k.name == declared.kind) p.kinds)
  where
    kind : ℕ
    kind = kind_number p declared.kind

    new : Object
    new = static_object p objects declared

    go : (o : Option Kind) → slice_get p.kinds kind ≡ o → slice_get p.kinds kind ≡ kind_named p declared.kind → AreFirst p (n + 1) (with_static p objects declared)
    go None e f = absurd (true≢false (sym some ∙ ap is_some (sym f ∙ e)))
    go (Some k) e f =
        let few : length k.fields ≤ 10 = subst (λ (x : Kind). length x.fields ≤ 10) (get_or_from_slice_get p.kinds kind k k e)
        (limits.fields kind k (slice_get_within p.kinds kind k e)) in
        let fields : length (fields_of p kind) ≡ length k.fields = ap (λ (x : Kind). length x.fields) (get_or_from_slice_get p.kinds kind k (record { name = 0; fields = [] }) e) in
        let size : length new.values ≡ length k.fields = length-replicate (length (fields_of p kind)) 0 ∙ fields in
        let at : new.place ≡ h.end = ap (λ (o : Option Kind). elim o [ None ↦ 0 | Some k ↦ least objects (length k.fields) ]) e
        ∙ packed-least objects first_place h.end (block_size (length k.fields)) h.packed (omega (arith, h.bound)) (omega arith) in
        record {
          end = end_of new;
          packed = packed-more objects first_place h.end new h.packed at;
          bound = let b = h.bound in omega arith;
          end_even = let b = block_size-even (length new.values) in let a = h.end_even in omega arith;
          even = All-push (λ o. o.place % 2 ≡ 0) objects new h.even (ap (λ n. n % 2) at ∙ h.end_even);
          kinds = All-push (HasKind p) objects new h.kinds (record {
            of_program = slice_get_within p.kinds kind k e;
            fields = length-replicate (length (fields_of p kind)) 0;
          });
        }

-- all static objects
pub statics-first : (p : Program) (declared : List program.Object) (n : ℕ) (objects : List Object) → IsWithinLimits p → n + length declared ≤ 64 →
    AllByRecursion (λ o. IsSome (kind_named p o.kind)) declared → AreFirst p n objects → AreFirst p (n + length declared) (fold (with_static p) objects declared)
statics-first p [] n objects limits le all h = subst (λ (m : ℕ). AreFirst p m objects) (omega arith) h
statics-first p (d ∷ ds) n objects limits le all h = subst (λ (m : ℕ). AreFirst p m (fold (with_static p) (with_static p objects d) ds)) (omega arith)
    (statics-first p ds (n + 1) (with_static p objects d) limits (omega arith) all.1 (static-more p n objects d limits (omega arith) all.0 h))

-- the types of the static objects
statics-kinds : (p : Program) (declared : List program.Object) (objects : List Object) →
    map kind_in (fold (with_static p) objects declared) ≡ map kind_in objects ++ map (declared_kind p) declared
statics-kinds p [] objects = sym (append-nil (map kind_in objects))
statics-kinds p (d ∷ ds) objects = statics-kinds p ds (with_static p objects d)
    ∙ ap (λ xs. xs ++ map (declared_kind p) ds) (map-append kind_in objects (static_object p objects d ∷ []))
    ∙ append_assoc (map kind_in objects) (declared_kind p d ∷ []) (map (declared_kind p) ds)

-- the static objects have the types that are declared, in order of declaration
pub static_objects-kinds : (p : Program) → map kind_in (static_objects p) ≡ map (declared_kind p) p.objects
unfolding static_objects
static_objects-kinds p = statics-kinds p p.objects []

-- they lie right behind each other from the first place on
pub static_objects-packed : (p : Program) → IsWithinLimits p → (to : ℕ) × IsPacked first_place (static_objects p) to × (to ≤ 770)
unfolding static_objects
static_objects-packed p limits =
    let first = statics-first p p.objects 0 [] limits (let le = limits.objects in omega arith)
    (recursion_from_All (λ o. IsSome (kind_named p o.kind)) p.objects limits.object_kinds)
    (record { end = 2; packed = refl; bound = omega arith; end_even = refl; even = All-nil (λ o. o.place % 2 ≡ 0); kinds = All-nil (HasKind p) }) in
    (first.end, first.packed, let le = limits.objects in let b = first.bound in omega arith)

-- the objects at the start
pub static_objects-sound : (p : Program) → IsWithinLimits p → AreSoundObjects p (static_objects p)
unfolding static_objects
static_objects-sound p limits =
    let first = statics-first p p.objects 0 [] limits (let le = limits.objects in omega arith)
    (recursion_from_All (λ o. IsSome (kind_named p o.kind)) p.objects limits.object_kinds)
    (record { end = 2; packed = refl; bound = omega arith; end_even = refl; even = All-nil (λ o. o.place % 2 ≡ 0); kinds = All-nil (HasKind p) }) in
    record {
      laid = packed-laid (static_objects p) first_place first.end first.packed (let le = limits.objects in let b = first.bound in omega arith);
      even = first.even;
      kinds = first.kinds;
      statics = refl;
    }

-- the items of a queue at the start, and the count of a semaphore
abbrev no_items : Queue → List ℕ
no_items queue = []

abbrev first_count : Semaphore → ℕ
first_count semaphore = semaphore.count

-- rows whose stamps, where they have one, count up from a number
abbrev pub AreStamped : ℕ → List Row → Type 0
AreStamped n [] = ⊤
AreStamped n (row ∷ rows) = IfSome (stamp_in row) (λ s. s ≡ n) × AreStamped (n + 1) rows

pub stamped_at : (rows : List Row) (n k : ℕ) (d : Row) → AreStamped n rows → k < length rows → IfSome (stamp_in (get_or rows k d)) (λ s. s ≡ n + k)
stamped_at [] n k d h l = absurd (omega arith)
stamped_at (row ∷ rows) n zero d h l = move (stamp_in row) h.0
  where
    move : (o : Option ℕ) → IfSome o (λ s. s ≡ n) → IfSome o (λ s. s ≡ n + 0)
    move None h = tt
    move (Some s) h = omega arith
stamped_at (row ∷ rows) n (suc k) d h l = move (stamp_in (get_or rows k d)) (stamped_at rows (n + 1) k d h.1 (omega arith))
  where
    move : (o : Option ℕ) → IfSome o (λ s. s ≡ n + 1 + k) → IfSome o (λ s. s ≡ n + suc k)
    move None h = tt
    move (Some s) h = omega arith

-- their stamps differ
pub stamped-apart : (rows : List Row) (n : ℕ) → AreStamped n rows → AllPairs IsApart rows
stamped-apart rows n h = λ i j d below l. go (stamp_in (get_or rows i d)) (stamp_in (get_or rows j d)) i j below
    (stamped_at rows n i d h (omega arith)) (stamped_at rows n j d h l)
  where
    go : (a b : Option ℕ) (i j : ℕ) → i < j → IfSome a (λ s. s ≡ n + i) → IfSome b (λ s. s ≡ n + j) → IfSome a (λ s. IfSome b (λ t. s ≢ t))
    go None None i j below e f = tt
    go None (Some t) i j below e f = tt
    go (Some s) None i j below e f = tt
    go (Some s) (Some t) i j below e f = λ same. absurd (omega arith)

-- free rows have no stamps
pub free-stamped : (count n : ℕ) → AreStamped n (replicate count Free)
free-stamped zero n = tt
free-stamped (suc count) n = (tt, free-stamped count (n + 1))

pub append-stamped : (rows more : List Row) (n : ℕ) → AreStamped n rows → ((m : ℕ) → AreStamped m more) → AreStamped n (rows ++ more)
append-stamped [] more n h all = all n
append-stamped (row ∷ rows) more n h all = (h.0, append-stamped rows more (n + 1) h.1 all)

module _ (p : Program) (limits : IsWithinLimits p) where
  -- the row of a thread that begins
  birth-sound : (ticks : ℕ) (queues : List (List ℕ)) (counts : List ℕ) (number : ℕ) (arguments : List ℕ) (stamp : ℕ) →
      IsSoundRow p ticks queues counts (birth_row p number arguments stamp) × IfSome (stamp_in (birth_row p number arguments stamp)) (λ s. s ≡ stamp)
  birth-sound ticks queues counts number arguments stamp = go (slice_get p.templates number) refl
    where
      go : (o : Option Template) → slice_get p.templates number ≡ o →
          IsSoundRow p ticks queues counts (elim o [ None ↦ Free | Some template ↦ Live (born number template arguments stamp) ])
          × IfSome (stamp_in (elim o [ None ↦ Free | Some template ↦ Live (born number template arguments stamp) ])) (λ s. s ≡ stamp)
      go None e = (tt, tt)
      go (Some template) e = (
        record {
          known = record {
            of_program = slice_get_within p.templates number template e;
            in_range = subst (λ (x : Template). x.priority ≤ 7) (get_or_from_slice_get p.templates number template template e)
                (limits.each_template number template (slice_get_within p.templates number template e)).priority;
          };
          paid = omega arith;
          doing = tt;
        },
        refl,
      )

  -- the rows of the threads that run from the start
  starts-sound : (queues : List (List ℕ)) (counts : List ℕ) (starts : List Start) (n : ℕ) →
      AllByRecursion (IsSoundRow p 0 queues counts) (map (start_row p) (enumerate_from n starts))
  starts-sound queues counts [] n = tt
  starts-sound queues counts (s ∷ ss) n = ((birth-sound 0 queues counts (template_number p s.template) s.arguments n).0, starts-sound queues counts ss (n + 1))

  starts-stamped : (starts : List Start) (n : ℕ) → AreStamped n (map (start_row p) (enumerate_from n starts))
  starts-stamped [] n = tt
  starts-stamped (s ∷ ss) n = ((birth-sound 0 [] [] (template_number p s.template) s.arguments n).1, starts-stamped ss (n + 1))

  starts-past : (starts : List Start) (n to : ℕ) → n + length starts ≤ to → AllByRecursion (IsPast to) (map (start_row p) (enumerate_from n starts))
  starts-past [] n to le = tt
  starts-past (s ∷ ss) n to le = (below (slice_get p.templates (template_number p s.template)), starts-past ss (n + 1) to (omega arith))
    where
      below : (o : Option Template) → IsPast to (elim o [ None ↦ Free | Some template ↦ Live (born (template_number p s.template) template s.arguments n) ])
      below None = tt
      below (Some template) = omega arith

  starts-length : (starts : List Start) (n : ℕ) → length (map (start_row p) (enumerate_from n starts)) ≡ length starts
  starts-length [] n = refl
  starts-length (s ∷ ss) n = ap suc (starts-length ss (n + 1))

  -- empty queues and the counts at the start
  empty-items : (queues : List Queue) (k : ℕ) → get_or (map no_items queues) k [] ≡ []
  empty-items [] k = refl
  empty-items (q ∷ qs) zero = refl
  empty-items (q ∷ qs) (suc k) = empty-items qs k

  start-counts : (semaphores : List Semaphore) (k : ℕ) (d : Semaphore) → AllByRecursion IsFitSemaphore semaphores →
      get_or (map first_count semaphores) k 0 ≤ (get_or semaphores k d).maximum
  start-counts [] k d all = omega arith
  start-counts (s ∷ ss) zero d all = all.0.count
  start-counts (s ∷ ss) (suc k) d all = start-counts ss k d all.1

  -- the kernel at the start is sound
  pub initial-sound : IsSound p (initial p)
  unfolding initial
  initial-sound = record {
    rows = record {
      sixteen = length-append (start_rows p) (replicate (row_count - length p.starts) Free)
          ∙ ap (λ n. n + length (replicate (row_count - length p.starts) Free)) (starts-length p.starts 0)
          ∙ ap (λ n. length p.starts + n) (length-replicate (row_count - length p.starts) Free)
          ∙ (let le = limits.starts in omega arith);
      each = All-append (IsSoundRow p 0 (map no_items p.queues) (map first_count p.semaphores)) (start_rows p)
          (replicate (row_count - length p.starts) Free)
          (All-from_recursion (IsSoundRow p 0 (map no_items p.queues) (map first_count p.semaphores)) (start_rows p)
          (starts-sound (map no_items p.queues) (map first_count p.semaphores) p.starts 0))
          (All-replicate (IsSoundRow p 0 (map no_items p.queues) (map first_count p.semaphores)) (row_count - length p.starts) Free tt);
      past = All-append (IsPast (length p.starts)) (start_rows p) (replicate (row_count - length p.starts) Free)
          (All-from_recursion (IsPast (length p.starts)) (start_rows p) (starts-past p.starts 0 (length p.starts) (omega arith)))
          (All-replicate (IsPast (length p.starts)) (row_count - length p.starts) Free tt);
      apart = stamped-apart (start_rows p ++ replicate (row_count - length p.starts) Free) 0
          (append-stamped (start_rows p) (replicate (row_count - length p.starts) Free) 0 (starts-stamped p.starts 0)
          (λ m. free-stamped (row_count - length p.starts) m));
    };
    ticks = omega arith;
    queues = record {
      queue_count = length-map p.queues no_items;
      items = λ k. subst (λ (xs : List ℕ). length xs ≤ capacity_of p k) (sym (empty-items p.queues k)) (omega arith);
      semaphore_count = length-map p.semaphores first_count;
      count = λ k. start-counts p.semaphores k (record { name = 0; count = 0; maximum = 0 }) (recursion_from_All IsFitSemaphore p.semaphores limits.each_semaphore);
    };
    console = omega arith;
    objects = static_objects-sound p limits;
  }
