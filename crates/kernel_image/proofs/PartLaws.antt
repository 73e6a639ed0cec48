-- The parts of a program by their numbers, as its declarations give them.
use Rattle.std.proofs.Common.{◌≡◌, ℕ, suc, ◌+◌, ◌<◌, ◌≤◌, ◌==◌, List, [], ◌∷◌, Bool, true, false, refl, ap, sym, ◌∙◌, arith}
use Rattle.std.proofs.lemmas.Option.{unwrap_or-slice_get, none-some}
use Rattle.std.proofs.lemmas.Bool.{false≢true}
use Rattle.std.proofs.lemmas.List.Elements.{All-get_or}
use Rattle.std.specs.Prelude.{filter, filter_map, if◌then◌else◌, not, length, slice_get, slice_index_or, unwrap_or, All, Option, Some, None, is_some, option_and_then}
use Rattle.std.specs.List.{position_or_len, cons_option}
use Rattle.thread_tree.specs.declared.tree.Decl.{Decl}
use Rattle.thread_tree.specs.declared.tree.Decl.TheVariants as decl
use Rattle.thread_tree.specs.declared.tree.Tree.{Tree}
use Rattle.thread_tree.specs.Program.{Program, Kind, Queue, Template, program_of}
use Rattle.thread_tree.specs.Limits.{IsWithinLimits, IsFitQueue}
use Rattle.kernel_model.specs.Calls.{capacity_of}
use Rattle.thread_tree.specs.Numbers.{template_number, kind_number, fields_of}
use Rattle.kernel_image.specs.declared.sort.Sort.TheVariants as sort
use Rattle.kernel_image.specs.Declarations.{is_of, has_name, kind_in, template_in, queue_in, semaphore_in, capacity_in, count_in, priority_in, field_count_in}
use Rattle.kernel_image.specs.Initial.{initial_count, priority_of}
use Rattle.kernel_image.proofs.Sorted.{nth-kinds, nth-queues, nth-semaphores, nth-templates, sorted-kinds, sorted-templates, kind_in-is, template_in-is}

-- a number of something, and 0 of nothing
abbrev pub or_zero : {X : Type 0} → (X → ℕ) → Option X → ℕ
or_zero read None = 0
or_zero read (Some x) = read x

or_zero-default : {X : Type 0} (read : X → ℕ) (d : X) → read d ≡ 0 → (o : Option X) → read (unwrap_or o d) ≡ or_zero read o
or_zero-default read d blank None = blank
or_zero-default read d blank (Some x) = refl

-- a number of the n-th element, or of one of which it is 0
or_zero-nth : {X : Type 0} (read : X → ℕ) (d : X) → read d ≡ 0 → (xs : List X) (n : ℕ) (o : Option X) → slice_get xs n ≡ o → read (slice_index_or xs n d) ≡ or_zero read o
or_zero-nth read d blank xs n o is =
    ap read (sym (unwrap_or-slice_get xs n d) ∙ ap (λ (o : Option _). unwrap_or o d) is) ∙ or_zero-default read d blank o

pub capacity_of-found : (tree : Tree) (n : ℕ) (d : Decl) → slice_get (filter (is_of sort.Queue) tree.decls) n ≡ Some d → capacity_of (program_of tree) n ≡ capacity_in d
capacity_of-found tree n d is = or_zero-nth (λ (queue : _). queue.capacity) (record { name = 0; capacity = 0; channel = None }) refl (program_of tree).queues n (queue_in d) (nth-queues tree.decls n ∙ ap (option_and_then queue_in) is)

pub capacity_of-none : (tree : Tree) (n : ℕ) → slice_get (filter (is_of sort.Queue) tree.decls) n ≡ None → capacity_of (program_of tree) n ≡ 0
capacity_of-none tree n is = or_zero-nth (λ (queue : _). queue.capacity) (record { name = 0; capacity = 0; channel = None }) refl (program_of tree).queues n (None) (nth-queues tree.decls n ∙ ap (option_and_then queue_in) is)

pub initial_count-found : (tree : Tree) (n : ℕ) (d : Decl) → slice_get (filter (is_of sort.Semaphore) tree.decls) n ≡ Some d → initial_count (program_of tree) n ≡ count_in d
initial_count-found tree n d is = ap (or_zero (λ (semaphore : _). semaphore.count)) (nth-semaphores tree.decls n ∙ ap (option_and_then semaphore_in) is)

pub initial_count-none : (tree : Tree) (n : ℕ) → slice_get (filter (is_of sort.Semaphore) tree.decls) n ≡ None → initial_count (program_of tree) n ≡ 0
initial_count-none tree n is = ap (or_zero (λ (semaphore : _). semaphore.count)) (nth-semaphores tree.decls n ∙ ap (option_and_then semaphore_in) is)

pub priority_of-found : (tree : Tree) (n : ℕ) (d : Decl) → slice_get (filter (is_of sort.Thread) tree.decls) n ≡ Some d → priority_of (program_of tree) n ≡ priority_in d
priority_of-found tree n d is = ap (or_zero (λ (template : _). template.priority)) (nth-templates tree.decls n ∙ ap (option_and_then template_in) is)

pub priority_of-none : (tree : Tree) (n : ℕ) → slice_get (filter (is_of sort.Thread) tree.decls) n ≡ None → priority_of (program_of tree) n ≡ 0
priority_of-none tree n is = ap (or_zero (λ (template : _). template.priority)) (nth-templates tree.decls n ∙ ap (option_and_then template_in) is)

pub field_count-found : (tree : Tree) (n : ℕ) (d : Decl) → slice_get (filter (is_of sort.Kind) tree.decls) n ≡ Some d → length (fields_of (program_of tree) n) ≡ field_count_in d
field_count-found tree n d is = or_zero-nth (λ (kind : _). length kind.fields) (record { name = 0; fields = [] }) refl (program_of tree).kinds n (kind_in d) (nth-kinds tree.decls n ∙ ap (option_and_then kind_in) is)

pub field_count-none : (tree : Tree) (n : ℕ) → slice_get (filter (is_of sort.Kind) tree.decls) n ≡ None → length (fields_of (program_of tree) n) ≡ 0
field_count-none tree n is = or_zero-nth (λ (kind : _). length kind.fields) (record { name = 0; fields = [] }) refl (program_of tree).kinds n (None) (nth-kinds tree.decls n ∙ ap (option_and_then kind_in) is)

-- the first place of what an element gives, before the others
position-cons : {X Y : Type 0} (give : X → Option Y) (named_x : X → Bool) (named_y : Y → Bool) (x : X) (y : Option Y) (passes : Bool) (given : List Y) (passed : List X) → ((z : Y) → give x ≡ Some z → named_y z ≡ named_x x) → give x ≡ y → is_some y ≡ passes → position_or_len named_y given ≡ position_or_len named_x passed → position_or_len named_y (cons_option y given) ≡ position_or_len named_x (if passes then x ∷ passed else passed)
position-cons give named_x named_y x None false given passed agree is same rest = rest
position-cons give named_x named_y x None true given passed agree is same rest = absurd (false≢true same)
position-cons give named_x named_y x (Some y) false given passed agree is same rest = absurd (false≢true (sym same))
position-cons give named_x named_y x (Some y) true given passed agree is same rest = rw (agree y is, rest) refl

position-filter_map : {X Y : Type 0} (give : X → Option Y) (test named_x : X → Bool) (named_y : Y → Bool) → ((x : X) → is_some (give x) ≡ test x) → ((x : X) (y : Y) → give x ≡ Some y → named_y y ≡ named_x x) → (xs : List X) → position_or_len named_y (filter_map give xs) ≡ position_or_len named_x (filter test xs)
position-filter_map give test named_x named_y some agree [] = refl
position-filter_map give test named_x named_y some agree (x ∷ xs) =
    position-cons give named_x named_y x (give x) (test x) (filter_map give xs) (filter test xs) (agree x) refl (some x) (position-filter_map give test named_x named_y some agree xs)

-- a declaration has the name of what it declares
template_in-name : (name : ℕ) (d : Decl) (template : Template) → template_in d ≡ Some template → (template.name == name) ≡ has_name name d
template_in-name name (decl.Kind at fields) template is = absurd (none-some _ is)
template_in-name name (decl.Object at kind) template is = absurd (none-some _ is)
template_in-name name (decl.Queue at capacity channel) template is = absurd (none-some _ is)
template_in-name name (decl.Semaphore at count maximum) template is = absurd (none-some _ is)
template_in-name name (decl.Function at parameters body) template is = absurd (none-some _ is)
template_in-name name (decl.Thread at parameters priority body) template is = ap (λ (n : ℕ). n == name) (sym (ap (λ (t : Option Template). or_zero (λ (t : Template). t.name) t) is))
template_in-name name (decl.Start place at arguments) template is = absurd (none-some _ is)

kind_in-name : (name : ℕ) (d : Decl) (kind : Kind) → kind_in d ≡ Some kind → (kind.name == name) ≡ has_name name d
kind_in-name name (decl.Kind at fields) kind is = ap (λ (n : ℕ). n == name) (sym (ap (λ (k : Option Kind). or_zero (λ (k : Kind). k.name) k) is))
kind_in-name name (decl.Object at other) kind is = absurd (none-some _ is)
kind_in-name name (decl.Queue at capacity channel) kind is = absurd (none-some _ is)
kind_in-name name (decl.Semaphore at count maximum) kind is = absurd (none-some _ is)
kind_in-name name (decl.Function at parameters body) kind is = absurd (none-some _ is)
kind_in-name name (decl.Thread at parameters priority body) kind is = absurd (none-some _ is)
kind_in-name name (decl.Start place at arguments) kind is = absurd (none-some _ is)

-- the number of a template, and of a type
pub template_number-position : (tree : Tree) (name : ℕ) → template_number (program_of tree) name ≡ position_or_len (has_name name) (filter (is_of sort.Thread) tree.decls)
template_number-position tree name =
    ap (λ (ts : List Template). position_or_len (λ (t : Template). t.name == name) ts) (sorted-templates tree.decls)
    ∙ position-filter_map template_in (is_of sort.Thread) (has_name name) (λ (t : Template). t.name == name) template_in-is (template_in-name name) tree.decls

pub kind_number-position : (tree : Tree) (name : ℕ) → kind_number (program_of tree) name ≡ position_or_len (has_name name) (filter (is_of sort.Kind) tree.decls)
kind_number-position tree name =
    ap (λ (ks : List Kind). position_or_len (λ (k : Kind). k.name == name) ks) (sorted-kinds tree.decls)
    ∙ position-filter_map kind_in (is_of sort.Kind) (has_name name) (λ (k : Kind). k.name == name) kind_in-is (kind_in-name name) tree.decls

-- one place more, or the first one
position-few-cons : (here : Bool) (n m : ℕ) → n ≤ m → (if not here then 1 + n else 0) ≤ suc m
position-few-cons true n m low = omega arith
position-few-cons false n m low = omega arith

-- a first place is at most the length
pub position-few : {X : Type 0} (named : X → Bool) (xs : List X) → position_or_len named xs ≤ length xs
position-few named [] = omega arith
position-few named (x ∷ xs) = position-few-cons (named x) (position_or_len named xs) (length xs) (position-few named xs)

-- numbers within the limits are small
pub template_number-few : (tree : Tree) (name : ℕ) → IsWithinLimits (program_of tree) → position_or_len (has_name name) (filter (is_of sort.Thread) tree.decls) ≤ 32
template_number-few tree name within =
    let low = position-few (λ (t : Template). t.name == name) (program_of tree).templates in
    let same = template_number-position tree name in
    omega (arith, low, same, within.templates)

pub kind_number-few : (tree : Tree) (name : ℕ) → IsWithinLimits (program_of tree) → position_or_len (has_name name) (filter (is_of sort.Kind) tree.decls) ≤ 32
kind_number-few tree name within =
    let low = position-few (λ (k : Kind). k.name == name) (program_of tree).kinds in
    let same = kind_number-position tree name in
    omega (arith, low, same, within.kinds)

-- a declared queue is fit
fit_at : (queues : List Queue) (n : ℕ) (d : Queue) → All IsFitQueue queues → n < length queues → IsFitQueue (slice_index_or queues n d)
fit_at queues n d fit low = All-get_or IsFitQueue queues n d low fit

pub capacity_of-least : (p : Program) (n : ℕ) → IsWithinLimits p → n < length p.queues → 1 ≤ capacity_of p n
capacity_of-least p n within low = (fit_at p.queues n _ within.each_queue low).least

pub capacity_of-most : (p : Program) (n : ℕ) → IsWithinLimits p → n < length p.queues → capacity_of p n ≤ 48
capacity_of-most p n within low = (fit_at p.queues n _ within.each_queue low).most
