-- The parts of a program are its declarations by their sort.
use Rattle.std.proofs.Common.{◌≡◌, ℕ, zero, suc, List, [], ◌∷◌, Bool, true, false, refl, ap, sym, ◌∙◌}
use Rattle.std.proofs.lemmas.Bool.{false≢true}
use Rattle.std.specs.List.{cons_option}
use Rattle.std.specs.Prelude.{if◌then◌else◌, filter, filter_map, length, slice_get, Option, Some, None, is_some, option_and_then, option_map}
use Rattle.thread_tree.specs.declared.tree.Decl.{Decl}
use Rattle.thread_tree.specs.declared.tree.Decl.TheVariants as decl
use Rattle.thread_tree.specs.Program.{sorted, names_of, values_of}
use Rattle.kernel_image.specs.declared.sort.Sort.TheVariants as sort
use Rattle.kernel_image.specs.Declarations.{is_of, kind_in, object_in, queue_in, semaphore_in, template_in, start_in}

-- what an element gives before the others, where it passes just if it gives something
nth-cons : {X Y : Type 0} (give : X → Option Y) (x : X) (y : Option Y) (passes : Bool) (given : List Y) (passed : List X) → give x ≡ y → is_some y ≡ passes → ((n : ℕ) → slice_get given n ≡ option_and_then give (slice_get passed n)) → (n : ℕ) → slice_get (cons_option y given) n ≡ option_and_then give (slice_get (if passes then x ∷ passed else passed) n)
nth-cons give x None false given passed is agree rest n = rest n
nth-cons give x None true given passed is agree rest n = absurd (false≢true agree)
nth-cons give x (Some y) false given passed is agree rest n = absurd (false≢true (sym agree))
nth-cons give x (Some y) true given passed is agree rest zero = sym is
nth-cons give x (Some y) true given passed is agree rest (suc n) = rest n

-- what the elements that pass give, where just these give something
pub nth-filter_map : {X Y : Type 0} (give : X → Option Y) (test : X → Bool) → ((x : X) → is_some (give x) ≡ test x) → (xs : List X) (n : ℕ) → slice_get (filter_map give xs) n ≡ option_and_then give (slice_get (filter test xs) n)
nth-filter_map give test agree [] n = refl
nth-filter_map give test agree (x ∷ xs) n =
    nth-cons give x (give x) (test x) (filter_map give xs) (filter test xs) refl (agree x) (nth-filter_map give test agree xs) n

-- how many elements give something
length-cons : {X Y : Type 0} (x : X) (y : Option Y) (passes : Bool) (given : List Y) (passed : List X) → is_some y ≡ passes → length given ≡ length passed → length (cons_option y given) ≡ length (if passes then x ∷ passed else passed)
length-cons x None false given passed agree rest = rest
length-cons x None true given passed agree rest = absurd (false≢true agree)
length-cons x (Some y) false given passed agree rest = absurd (false≢true (sym agree))
length-cons x (Some y) true given passed agree rest = ap (λ (n : ℕ). suc n) rest

pub length-filter_map : {X Y : Type 0} (give : X → Option Y) (test : X → Bool) → ((x : X) → is_some (give x) ≡ test x) → (xs : List X) → length (filter_map give xs) ≡ length (filter test xs)
length-filter_map give test agree [] = refl
length-filter_map give test agree (x ∷ xs) =
    length-cons x (give x) (test x) (filter_map give xs) (filter test xs) (agree x) (length-filter_map give test agree xs)

pub kind_in-is : (d : Decl) → is_some (kind_in d) ≡ is_of sort.Kind d
kind_in-is (decl.Kind name fields) = refl
kind_in-is (decl.Object name kind) = refl
kind_in-is (decl.Queue name capacity channel) = refl
kind_in-is (decl.Semaphore name count maximum) = refl
kind_in-is (decl.Function name parameters body) = refl
kind_in-is (decl.Thread name parameters priority body) = refl
kind_in-is (decl.Start place name arguments) = refl

pub sorted-kinds : (ds : List Decl) → (sorted ds).kinds ≡ filter_map kind_in ds
sorted-kinds [] = refl
sorted-kinds ((decl.Kind name fields) ∷ ds) = λ i. record { name = name.name; fields = names_of fields } ∷ sorted-kinds ds i
sorted-kinds ((decl.Object name kind) ∷ ds) = sorted-kinds ds
sorted-kinds ((decl.Queue name capacity channel) ∷ ds) = sorted-kinds ds
sorted-kinds ((decl.Semaphore name count maximum) ∷ ds) = sorted-kinds ds
sorted-kinds ((decl.Function name parameters body) ∷ ds) = sorted-kinds ds
sorted-kinds ((decl.Thread name parameters priority body) ∷ ds) = sorted-kinds ds
sorted-kinds ((decl.Start place name arguments) ∷ ds) = sorted-kinds ds

pub nth-kinds : (ds : List Decl) (n : ℕ) → slice_get (sorted ds).kinds n ≡ option_and_then kind_in (slice_get (filter (is_of sort.Kind) ds) n)
nth-kinds ds n = ap (λ (xs : List _). slice_get xs n) (sorted-kinds ds) ∙ nth-filter_map kind_in (is_of sort.Kind) kind_in-is ds n

pub object_in-is : (d : Decl) → is_some (object_in d) ≡ is_of sort.Object d
object_in-is (decl.Kind name fields) = refl
object_in-is (decl.Object name kind) = refl
object_in-is (decl.Queue name capacity channel) = refl
object_in-is (decl.Semaphore name count maximum) = refl
object_in-is (decl.Function name parameters body) = refl
object_in-is (decl.Thread name parameters priority body) = refl
object_in-is (decl.Start place name arguments) = refl

pub sorted-objects : (ds : List Decl) → (sorted ds).objects ≡ filter_map object_in ds
sorted-objects [] = refl
sorted-objects ((decl.Kind name fields) ∷ ds) = sorted-objects ds
sorted-objects ((decl.Object name kind) ∷ ds) = λ i. record { name = name.name; kind = kind.name } ∷ sorted-objects ds i
sorted-objects ((decl.Queue name capacity channel) ∷ ds) = sorted-objects ds
sorted-objects ((decl.Semaphore name count maximum) ∷ ds) = sorted-objects ds
sorted-objects ((decl.Function name parameters body) ∷ ds) = sorted-objects ds
sorted-objects ((decl.Thread name parameters priority body) ∷ ds) = sorted-objects ds
sorted-objects ((decl.Start place name arguments) ∷ ds) = sorted-objects ds

pub nth-objects : (ds : List Decl) (n : ℕ) → slice_get (sorted ds).objects n ≡ option_and_then object_in (slice_get (filter (is_of sort.Object) ds) n)
nth-objects ds n = ap (λ (xs : List _). slice_get xs n) (sorted-objects ds) ∙ nth-filter_map object_in (is_of sort.Object) object_in-is ds n

queue_in-is : (d : Decl) → is_some (queue_in d) ≡ is_of sort.Queue d
queue_in-is (decl.Kind name fields) = refl
queue_in-is (decl.Object name kind) = refl
queue_in-is (decl.Queue name capacity channel) = refl
queue_in-is (decl.Semaphore name count maximum) = refl
queue_in-is (decl.Function name parameters body) = refl
queue_in-is (decl.Thread name parameters priority body) = refl
queue_in-is (decl.Start place name arguments) = refl

sorted-queues : (ds : List Decl) → (sorted ds).queues ≡ filter_map queue_in ds
sorted-queues [] = refl
sorted-queues ((decl.Kind name fields) ∷ ds) = sorted-queues ds
sorted-queues ((decl.Object name kind) ∷ ds) = sorted-queues ds
sorted-queues ((decl.Queue name capacity channel) ∷ ds) = λ i. record { name = name.name; capacity = capacity.value; channel = option_map (λ number. number.value) channel } ∷ sorted-queues ds i
sorted-queues ((decl.Semaphore name count maximum) ∷ ds) = sorted-queues ds
sorted-queues ((decl.Function name parameters body) ∷ ds) = sorted-queues ds
sorted-queues ((decl.Thread name parameters priority body) ∷ ds) = sorted-queues ds
sorted-queues ((decl.Start place name arguments) ∷ ds) = sorted-queues ds

pub nth-queues : (ds : List Decl) (n : ℕ) → slice_get (sorted ds).queues n ≡ option_and_then queue_in (slice_get (filter (is_of sort.Queue) ds) n)
nth-queues ds n = ap (λ (xs : List _). slice_get xs n) (sorted-queues ds) ∙ nth-filter_map queue_in (is_of sort.Queue) queue_in-is ds n

semaphore_in-is : (d : Decl) → is_some (semaphore_in d) ≡ is_of sort.Semaphore d
semaphore_in-is (decl.Kind name fields) = refl
semaphore_in-is (decl.Object name kind) = refl
semaphore_in-is (decl.Queue name capacity channel) = refl
semaphore_in-is (decl.Semaphore name count maximum) = refl
semaphore_in-is (decl.Function name parameters body) = refl
semaphore_in-is (decl.Thread name parameters priority body) = refl
semaphore_in-is (decl.Start place name arguments) = refl

sorted-semaphores : (ds : List Decl) → (sorted ds).semaphores ≡ filter_map semaphore_in ds
sorted-semaphores [] = refl
sorted-semaphores ((decl.Kind name fields) ∷ ds) = sorted-semaphores ds
sorted-semaphores ((decl.Object name kind) ∷ ds) = sorted-semaphores ds
sorted-semaphores ((decl.Queue name capacity channel) ∷ ds) = sorted-semaphores ds
sorted-semaphores ((decl.Semaphore name count maximum) ∷ ds) = λ i. record { name = name.name; count = count.value; maximum = maximum.value } ∷ sorted-semaphores ds i
sorted-semaphores ((decl.Function name parameters body) ∷ ds) = sorted-semaphores ds
sorted-semaphores ((decl.Thread name parameters priority body) ∷ ds) = sorted-semaphores ds
sorted-semaphores ((decl.Start place name arguments) ∷ ds) = sorted-semaphores ds

pub nth-semaphores : (ds : List Decl) (n : ℕ) → slice_get (sorted ds).semaphores n ≡ option_and_then semaphore_in (slice_get (filter (is_of sort.Semaphore) ds) n)
nth-semaphores ds n = ap (λ (xs : List _). slice_get xs n) (sorted-semaphores ds) ∙ nth-filter_map semaphore_in (is_of sort.Semaphore) semaphore_in-is ds n

pub template_in-is : (d : Decl) → is_some (template_in d) ≡ is_of sort.Thread d
template_in-is (decl.Kind name fields) = refl
template_in-is (decl.Object name kind) = refl
template_in-is (decl.Queue name capacity channel) = refl
template_in-is (decl.Semaphore name count maximum) = refl
template_in-is (decl.Function name parameters body) = refl
template_in-is (decl.Thread name parameters priority body) = refl
template_in-is (decl.Start place name arguments) = refl

pub sorted-templates : (ds : List Decl) → (sorted ds).templates ≡ filter_map template_in ds
sorted-templates [] = refl
sorted-templates ((decl.Kind name fields) ∷ ds) = sorted-templates ds
sorted-templates ((decl.Object name kind) ∷ ds) = sorted-templates ds
sorted-templates ((decl.Queue name capacity channel) ∷ ds) = sorted-templates ds
sorted-templates ((decl.Semaphore name count maximum) ∷ ds) = sorted-templates ds
sorted-templates ((decl.Function name parameters body) ∷ ds) = sorted-templates ds
sorted-templates ((decl.Thread name parameters priority body) ∷ ds) = λ i. record { name = name.name; parameters = names_of parameters; priority = priority.value; body = body } ∷ sorted-templates ds i
sorted-templates ((decl.Start place name arguments) ∷ ds) = sorted-templates ds

pub nth-templates : (ds : List Decl) (n : ℕ) → slice_get (sorted ds).templates n ≡ option_and_then template_in (slice_get (filter (is_of sort.Thread) ds) n)
nth-templates ds n = ap (λ (xs : List _). slice_get xs n) (sorted-templates ds) ∙ nth-filter_map template_in (is_of sort.Thread) template_in-is ds n

pub start_in-is : (d : Decl) → is_some (start_in d) ≡ is_of sort.Start d
start_in-is (decl.Kind name fields) = refl
start_in-is (decl.Object name kind) = refl
start_in-is (decl.Queue name capacity channel) = refl
start_in-is (decl.Semaphore name count maximum) = refl
start_in-is (decl.Function name parameters body) = refl
start_in-is (decl.Thread name parameters priority body) = refl
start_in-is (decl.Start place name arguments) = refl

pub sorted-starts : (ds : List Decl) → (sorted ds).starts ≡ filter_map start_in ds
sorted-starts [] = refl
sorted-starts ((decl.Kind name fields) ∷ ds) = sorted-starts ds
sorted-starts ((decl.Object name kind) ∷ ds) = sorted-starts ds
sorted-starts ((decl.Queue name capacity channel) ∷ ds) = sorted-starts ds
sorted-starts ((decl.Semaphore name count maximum) ∷ ds) = sorted-starts ds
sorted-starts ((decl.Function name parameters body) ∷ ds) = sorted-starts ds
sorted-starts ((decl.Thread name parameters priority body) ∷ ds) = sorted-starts ds
sorted-starts ((decl.Start place name arguments) ∷ ds) = λ i. record { template = name.name; arguments = values_of arguments } ∷ sorted-starts ds i

pub nth-starts : (ds : List Decl) (n : ℕ) → slice_get (sorted ds).starts n ≡ option_and_then start_in (slice_get (filter (is_of sort.Start) ds) n)
nth-starts ds n = ap (λ (xs : List _). slice_get xs n) (sorted-starts ds) ∙ nth-filter_map start_in (is_of sort.Start) start_in-is ds n
