-- The numbers of a program's declarations.
use Rattle.std.proofs.Common.{◌≡◌, ℕ, ◌+◌, Bool, List, [], ◌∷◌, length, sym, arith, cond}
use Rattle.std.specs.List.{fold}
use Rattle.thread_tree.specs.declared.tree.Decl.{Decl}
use Rattle.thread_tree.specs.declared.tree.Decl.TheVariants as decl
use Rattle.thread_tree.specs.Program.{sorted}
use Rattle.thread_check.specs.declared.sort.Sort.{Sort}
use Rattle.thread_check.specs.declared.sort.Sort.TheVariants as sort
use Rattle.thread_check.specs.Names.{sort_of_declaration}
use Rattle.thread_check.specs.Uses.{same_sort}
use Rattle.thread_check.specs.Declarations.{is_of_sort, count_of}
use Rattle.thread_check.proofs.FewLaws.{count_of_none}

-- a count from some number on
fold-from : {A : Type 0} (p : A → Bool) (n : ℕ) (xs : List A) → fold (λ m y. m + cond (p y) 1 0) n xs ≡ n + fold (λ m y. m + cond (p y) 1 0) 0 xs
fold-from p n [] = omega arith
fold-from p n (x ∷ xs) =
    let from_x : fold (λ m y. m + cond (p y) 1 0) (n + cond (p x) 1 0) xs ≡ (n + cond (p x) 1 0) + fold (λ m y. m + cond (p y) 1 0) 0 xs = fold-from p (n + cond (p x) 1 0) xs in
    let from_zero : fold (λ m y. m + cond (p y) 1 0) (0 + cond (p x) 1 0) xs ≡ (0 + cond (p x) 1 0) + fold (λ m y. m + cond (p y) 1 0) 0 xs = fold-from p (0 + cond (p x) 1 0) xs in
    omega arith

-- one declaration more in front counts as one of its sort
count_of-cons : (wanted : Sort) (d : Decl) (ds : List Decl) → count_of wanted (d ∷ ds) ≡ (0 + cond (is_of_sort wanted d) 1 0) + count_of wanted ds
unfolding count_of
count_of-cons wanted d ds = fold-from (is_of_sort wanted) (0 + cond (is_of_sort wanted d) 1 0) ds

-- the kinds are the declarations of their sort
pub length-kinds : (ds : List Decl) → length (sorted ds).kinds ≡ count_of sort.Kind ds
unfolding sort_of_declaration same_sort
length-kinds [] = sym (count_of_none sort.Kind)
length-kinds (decl.Kind name fields ∷ ds) = let e : count_of sort.Kind (decl.Kind name fields ∷ ds) ≡ 1 + count_of sort.Kind ds = count_of-cons sort.Kind (decl.Kind name fields) ds in let h : length (sorted ds).kinds ≡ count_of sort.Kind ds = length-kinds ds in omega arith
length-kinds (decl.Object name kind ∷ ds) = let e : count_of sort.Kind (decl.Object name kind ∷ ds) ≡ 0 + count_of sort.Kind ds = count_of-cons sort.Kind (decl.Object name kind) ds in let h : length (sorted ds).kinds ≡ count_of sort.Kind ds = length-kinds ds in omega arith
length-kinds (decl.Queue name capacity channel ∷ ds) = let e : count_of sort.Kind (decl.Queue name capacity channel ∷ ds) ≡ 0 + count_of sort.Kind ds = count_of-cons sort.Kind (decl.Queue name capacity channel) ds in let h : length (sorted ds).kinds ≡ count_of sort.Kind ds = length-kinds ds in omega arith
length-kinds (decl.Semaphore name count maximum ∷ ds) = let e : count_of sort.Kind (decl.Semaphore name count maximum ∷ ds) ≡ 0 + count_of sort.Kind ds = count_of-cons sort.Kind (decl.Semaphore name count maximum) ds in let h : length (sorted ds).kinds ≡ count_of sort.Kind ds = length-kinds ds in omega arith
length-kinds (decl.Function name parameters body ∷ ds) = let e : count_of sort.Kind (decl.Function name parameters body ∷ ds) ≡ 0 + count_of sort.Kind ds = count_of-cons sort.Kind (decl.Function name parameters body) ds in let h : length (sorted ds).kinds ≡ count_of sort.Kind ds = length-kinds ds in omega arith
length-kinds (decl.Thread name parameters priority body ∷ ds) = let e : count_of sort.Kind (decl.Thread name parameters priority body ∷ ds) ≡ 0 + count_of sort.Kind ds = count_of-cons sort.Kind (decl.Thread name parameters priority body) ds in let h : length (sorted ds).kinds ≡ count_of sort.Kind ds = length-kinds ds in omega arith
length-kinds (decl.Start place name numbers ∷ ds) = let e : count_of sort.Kind (decl.Start place name numbers ∷ ds) ≡ 0 + count_of sort.Kind ds = count_of-cons sort.Kind (decl.Start place name numbers) ds in let h : length (sorted ds).kinds ≡ count_of sort.Kind ds = length-kinds ds in omega arith

-- the objects are the declarations of their sort
pub length-objects : (ds : List Decl) → length (sorted ds).objects ≡ count_of sort.Object ds
unfolding sort_of_declaration same_sort
length-objects [] = sym (count_of_none sort.Object)
length-objects (decl.Kind name fields ∷ ds) = let e : count_of sort.Object (decl.Kind name fields ∷ ds) ≡ 0 + count_of sort.Object ds = count_of-cons sort.Object (decl.Kind name fields) ds in let h : length (sorted ds).objects ≡ count_of sort.Object ds = length-objects ds in omega arith
length-objects (decl.Object name kind ∷ ds) = let e : count_of sort.Object (decl.Object name kind ∷ ds) ≡ 1 + count_of sort.Object ds = count_of-cons sort.Object (decl.Object name kind) ds in let h : length (sorted ds).objects ≡ count_of sort.Object ds = length-objects ds in omega arith
length-objects (decl.Queue name capacity channel ∷ ds) = let e : count_of sort.Object (decl.Queue name capacity channel ∷ ds) ≡ 0 + count_of sort.Object ds = count_of-cons sort.Object (decl.Queue name capacity channel) ds in let h : length (sorted ds).objects ≡ count_of sort.Object ds = length-objects ds in omega arith
length-objects (decl.Semaphore name count maximum ∷ ds) = let e : count_of sort.Object (decl.Semaphore name count maximum ∷ ds) ≡ 0 + count_of sort.Object ds = count_of-cons sort.Object (decl.Semaphore name count maximum) ds in let h : length (sorted ds).objects ≡ count_of sort.Object ds = length-objects ds in omega arith
length-objects (decl.Function name parameters body ∷ ds) = let e : count_of sort.Object (decl.Function name parameters body ∷ ds) ≡ 0 + count_of sort.Object ds = count_of-cons sort.Object (decl.Function name parameters body) ds in let h : length (sorted ds).objects ≡ count_of sort.Object ds = length-objects ds in omega arith
length-objects (decl.Thread name parameters priority body ∷ ds) = let e : count_of sort.Object (decl.Thread name parameters priority body ∷ ds) ≡ 0 + count_of sort.Object ds = count_of-cons sort.Object (decl.Thread name parameters priority body) ds in let h : length (sorted ds).objects ≡ count_of sort.Object ds = length-objects ds in omega arith
length-objects (decl.Start place name numbers ∷ ds) = let e : count_of sort.Object (decl.Start place name numbers ∷ ds) ≡ 0 + count_of sort.Object ds = count_of-cons sort.Object (decl.Start place name numbers) ds in let h : length (sorted ds).objects ≡ count_of sort.Object ds = length-objects ds in omega arith

-- the queues are the declarations of their sort
pub length-queues : (ds : List Decl) → length (sorted ds).queues ≡ count_of sort.Queue ds
unfolding sort_of_declaration same_sort
length-queues [] = sym (count_of_none sort.Queue)
length-queues (decl.Kind name fields ∷ ds) = let e : count_of sort.Queue (decl.Kind name fields ∷ ds) ≡ 0 + count_of sort.Queue ds = count_of-cons sort.Queue (decl.Kind name fields) ds in let h : length (sorted ds).queues ≡ count_of sort.Queue ds = length-queues ds in omega arith
length-queues (decl.Object name kind ∷ ds) = let e : count_of sort.Queue (decl.Object name kind ∷ ds) ≡ 0 + count_of sort.Queue ds = count_of-cons sort.Queue (decl.Object name kind) ds in let h : length (sorted ds).queues ≡ count_of sort.Queue ds = length-queues ds in omega arith
length-queues (decl.Queue name capacity channel ∷ ds) = let e : count_of sort.Queue (decl.Queue name capacity channel ∷ ds) ≡ 1 + count_of sort.Queue ds = count_of-cons sort.Queue (decl.Queue name capacity channel) ds in let h : length (sorted ds).queues ≡ count_of sort.Queue ds = length-queues ds in omega arith
length-queues (decl.Semaphore name count maximum ∷ ds) = let e : count_of sort.Queue (decl.Semaphore name count maximum ∷ ds) ≡ 0 + count_of sort.Queue ds = count_of-cons sort.Queue (decl.Semaphore name count maximum) ds in let h : length (sorted ds).queues ≡ count_of sort.Queue ds = length-queues ds in omega arith
length-queues (decl.Function name parameters body ∷ ds) = let e : count_of sort.Queue (decl.Function name parameters body ∷ ds) ≡ 0 + count_of sort.Queue ds = count_of-cons sort.Queue (decl.Function name parameters body) ds in let h : length (sorted ds).queues ≡ count_of sort.Queue ds = length-queues ds in omega arith
length-queues (decl.Thread name parameters priority body ∷ ds) = let e : count_of sort.Queue (decl.Thread name parameters priority body ∷ ds) ≡ 0 + count_of sort.Queue ds = count_of-cons sort.Queue (decl.Thread name parameters priority body) ds in let h : length (sorted ds).queues ≡ count_of sort.Queue ds = length-queues ds in omega arith
length-queues (decl.Start place name numbers ∷ ds) = let e : count_of sort.Queue (decl.Start place name numbers ∷ ds) ≡ 0 + count_of sort.Queue ds = count_of-cons sort.Queue (decl.Start place name numbers) ds in let h : length (sorted ds).queues ≡ count_of sort.Queue ds = length-queues ds in omega arith

-- the semaphores are the declarations of their sort
pub length-semaphores : (ds : List Decl) → length (sorted ds).semaphores ≡ count_of sort.Semaphore ds
unfolding sort_of_declaration same_sort
length-semaphores [] = sym (count_of_none sort.Semaphore)
length-semaphores (decl.Kind name fields ∷ ds) = let e : count_of sort.Semaphore (decl.Kind name fields ∷ ds) ≡ 0 + count_of sort.Semaphore ds = count_of-cons sort.Semaphore (decl.Kind name fields) ds in let h : length (sorted ds).semaphores ≡ count_of sort.Semaphore ds = length-semaphores ds in omega arith
length-semaphores (decl.Object name kind ∷ ds) = let e : count_of sort.Semaphore (decl.Object name kind ∷ ds) ≡ 0 + count_of sort.Semaphore ds = count_of-cons sort.Semaphore (decl.Object name kind) ds in let h : length (sorted ds).semaphores ≡ count_of sort.Semaphore ds = length-semaphores ds in omega arith
length-semaphores (decl.Queue name capacity channel ∷ ds) = let e : count_of sort.Semaphore (decl.Queue name capacity channel ∷ ds) ≡ 0 + count_of sort.Semaphore ds = count_of-cons sort.Semaphore (decl.Queue name capacity channel) ds in let h : length (sorted ds).semaphores ≡ count_of sort.Semaphore ds = length-semaphores ds in omega arith
length-semaphores (decl.Semaphore name count maximum ∷ ds) = let e : count_of sort.Semaphore (decl.Semaphore name count maximum ∷ ds) ≡ 1 + count_of sort.Semaphore ds = count_of-cons sort.Semaphore (decl.Semaphore name count maximum) ds in let h : length (sorted ds).semaphores ≡ count_of sort.Semaphore ds = length-semaphores ds in omega arith
length-semaphores (decl.Function name parameters body ∷ ds) = let e : count_of sort.Semaphore (decl.Function name parameters body ∷ ds) ≡ 0 + count_of sort.Semaphore ds = count_of-cons sort.Semaphore (decl.Function name parameters body) ds in let h : length (sorted ds).semaphores ≡ count_of sort.Semaphore ds = length-semaphores ds in omega arith
length-semaphores (decl.Thread name parameters priority body ∷ ds) = let e : count_of sort.Semaphore (decl.Thread name parameters priority body ∷ ds) ≡ 0 + count_of sort.Semaphore ds = count_of-cons sort.Semaphore (decl.Thread name parameters priority body) ds in let h : length (sorted ds).semaphores ≡ count_of sort.Semaphore ds = length-semaphores ds in omega arith
length-semaphores (decl.Start place name numbers ∷ ds) = let e : count_of sort.Semaphore (decl.Start place name numbers ∷ ds) ≡ 0 + count_of sort.Semaphore ds = count_of-cons sort.Semaphore (decl.Start place name numbers) ds in let h : length (sorted ds).semaphores ≡ count_of sort.Semaphore ds = length-semaphores ds in omega arith

-- the functions are the declarations of their sort
pub length-functions : (ds : List Decl) → length (sorted ds).functions ≡ count_of sort.Function ds
unfolding sort_of_declaration same_sort
length-functions [] = sym (count_of_none sort.Function)
length-functions (decl.Kind name fields ∷ ds) = let e : count_of sort.Function (decl.Kind name fields ∷ ds) ≡ 0 + count_of sort.Function ds = count_of-cons sort.Function (decl.Kind name fields) ds in let h : length (sorted ds).functions ≡ count_of sort.Function ds = length-functions ds in omega arith
length-functions (decl.Object name kind ∷ ds) = let e : count_of sort.Function (decl.Object name kind ∷ ds) ≡ 0 + count_of sort.Function ds = count_of-cons sort.Function (decl.Object name kind) ds in let h : length (sorted ds).functions ≡ count_of sort.Function ds = length-functions ds in omega arith
length-functions (decl.Queue name capacity channel ∷ ds) = let e : count_of sort.Function (decl.Queue name capacity channel ∷ ds) ≡ 0 + count_of sort.Function ds = count_of-cons sort.Function (decl.Queue name capacity channel) ds in let h : length (sorted ds).functions ≡ count_of sort.Function ds = length-functions ds in omega arith
length-functions (decl.Semaphore name count maximum ∷ ds) = let e : count_of sort.Function (decl.Semaphore name count maximum ∷ ds) ≡ 0 + count_of sort.Function ds = count_of-cons sort.Function (decl.Semaphore name count maximum) ds in let h : length (sorted ds).functions ≡ count_of sort.Function ds = length-functions ds in omega arith
length-functions (decl.Function name parameters body ∷ ds) = let e : count_of sort.Function (decl.Function name parameters body ∷ ds) ≡ 1 + count_of sort.Function ds = count_of-cons sort.Function (decl.Function name parameters body) ds in let h : length (sorted ds).functions ≡ count_of sort.Function ds = length-functions ds in omega arith
length-functions (decl.Thread name parameters priority body ∷ ds) = let e : count_of sort.Function (decl.Thread name parameters priority body ∷ ds) ≡ 0 + count_of sort.Function ds = count_of-cons sort.Function (decl.Thread name parameters priority body) ds in let h : length (sorted ds).functions ≡ count_of sort.Function ds = length-functions ds in omega arith
length-functions (decl.Start place name numbers ∷ ds) = let e : count_of sort.Function (decl.Start place name numbers ∷ ds) ≡ 0 + count_of sort.Function ds = count_of-cons sort.Function (decl.Start place name numbers) ds in let h : length (sorted ds).functions ≡ count_of sort.Function ds = length-functions ds in omega arith

-- the templates are the declarations of their sort
pub length-templates : (ds : List Decl) → length (sorted ds).templates ≡ count_of sort.Thread ds
unfolding sort_of_declaration same_sort
length-templates [] = sym (count_of_none sort.Thread)
length-templates (decl.Kind name fields ∷ ds) = let e : count_of sort.Thread (decl.Kind name fields ∷ ds) ≡ 0 + count_of sort.Thread ds = count_of-cons sort.Thread (decl.Kind name fields) ds in let h : length (sorted ds).templates ≡ count_of sort.Thread ds = length-templates ds in omega arith
length-templates (decl.Object name kind ∷ ds) = let e : count_of sort.Thread (decl.Object name kind ∷ ds) ≡ 0 + count_of sort.Thread ds = count_of-cons sort.Thread (decl.Object name kind) ds in let h : length (sorted ds).templates ≡ count_of sort.Thread ds = length-templates ds in omega arith
length-templates (decl.Queue name capacity channel ∷ ds) = let e : count_of sort.Thread (decl.Queue name capacity channel ∷ ds) ≡ 0 + count_of sort.Thread ds = count_of-cons sort.Thread (decl.Queue name capacity channel) ds in let h : length (sorted ds).templates ≡ count_of sort.Thread ds = length-templates ds in omega arith
length-templates (decl.Semaphore name count maximum ∷ ds) = let e : count_of sort.Thread (decl.Semaphore name count maximum ∷ ds) ≡ 0 + count_of sort.Thread ds = count_of-cons sort.Thread (decl.Semaphore name count maximum) ds in let h : length (sorted ds).templates ≡ count_of sort.Thread ds = length-templates ds in omega arith
length-templates (decl.Function name parameters body ∷ ds) = let e : count_of sort.Thread (decl.Function name parameters body ∷ ds) ≡ 0 + count_of sort.Thread ds = count_of-cons sort.Thread (decl.Function name parameters body) ds in let h : length (sorted ds).templates ≡ count_of sort.Thread ds = length-templates ds in omega arith
length-templates (decl.Thread name parameters priority body ∷ ds) = let e : count_of sort.Thread (decl.Thread name parameters priority body ∷ ds) ≡ 1 + count_of sort.Thread ds = count_of-cons sort.Thread (decl.Thread name parameters priority body) ds in let h : length (sorted ds).templates ≡ count_of sort.Thread ds = length-templates ds in omega arith
length-templates (decl.Start place name numbers ∷ ds) = let e : count_of sort.Thread (decl.Start place name numbers ∷ ds) ≡ 0 + count_of sort.Thread ds = count_of-cons sort.Thread (decl.Start place name numbers) ds in let h : length (sorted ds).templates ≡ count_of sort.Thread ds = length-templates ds in omega arith

-- the starts are the declarations of their sort
pub length-starts : (ds : List Decl) → length (sorted ds).starts ≡ count_of sort.Start ds
unfolding sort_of_declaration same_sort
length-starts [] = sym (count_of_none sort.Start)
length-starts (decl.Kind name fields ∷ ds) = let e : count_of sort.Start (decl.Kind name fields ∷ ds) ≡ 0 + count_of sort.Start ds = count_of-cons sort.Start (decl.Kind name fields) ds in let h : length (sorted ds).starts ≡ count_of sort.Start ds = length-starts ds in omega arith
length-starts (decl.Object name kind ∷ ds) = let e : count_of sort.Start (decl.Object name kind ∷ ds) ≡ 0 + count_of sort.Start ds = count_of-cons sort.Start (decl.Object name kind) ds in let h : length (sorted ds).starts ≡ count_of sort.Start ds = length-starts ds in omega arith
length-starts (decl.Queue name capacity channel ∷ ds) = let e : count_of sort.Start (decl.Queue name capacity channel ∷ ds) ≡ 0 + count_of sort.Start ds = count_of-cons sort.Start (decl.Queue name capacity channel) ds in let h : length (sorted ds).starts ≡ count_of sort.Start ds = length-starts ds in omega arith
length-starts (decl.Semaphore name count maximum ∷ ds) = let e : count_of sort.Start (decl.Semaphore name count maximum ∷ ds) ≡ 0 + count_of sort.Start ds = count_of-cons sort.Start (decl.Semaphore name count maximum) ds in let h : length (sorted ds).starts ≡ count_of sort.Start ds = length-starts ds in omega arith
length-starts (decl.Function name parameters body ∷ ds) = let e : count_of sort.Start (decl.Function name parameters body ∷ ds) ≡ 0 + count_of sort.Start ds = count_of-cons sort.Start (decl.Function name parameters body) ds in let h : length (sorted ds).starts ≡ count_of sort.Start ds = length-starts ds in omega arith
length-starts (decl.Thread name parameters priority body ∷ ds) = let e : count_of sort.Start (decl.Thread name parameters priority body ∷ ds) ≡ 0 + count_of sort.Start ds = count_of-cons sort.Start (decl.Thread name parameters priority body) ds in let h : length (sorted ds).starts ≡ count_of sort.Start ds = length-starts ds in omega arith
length-starts (decl.Start place name numbers ∷ ds) = let e : count_of sort.Start (decl.Start place name numbers ∷ ds) ≡ 1 + count_of sort.Start ds = count_of-cons sort.Start (decl.Start place name numbers) ds in let h : length (sorted ds).starts ≡ count_of sort.Start ds = length-starts ds in omega arith
