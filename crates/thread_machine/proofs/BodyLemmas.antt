-- Looking for a body among the declarations.
use Rattle.std.proofs.Common.{◌≡◌, ◌≢◌, ℕ, zero, suc, ◌+◌, ◌-◌, ◌≤◌, List, [], ◌∷◌, ◌++◌, length, drop, Bool, true, false, Option, Some, None, refl, ap, sym, ◌∙◌, arith}
use Rattle.std.specs.Prelude.{slice_get, find, ◌==◌, option_map, if◌then◌else◌}
use Rattle.std.specs.Option.{option_or, option_to_list}
use Rattle.std.proofs.lemmas.List.{drop_all, drop-drop, drop_at}
use Rattle.thread_tree.specs.declared.tree.Decl.{Decl}
use Rattle.thread_tree.specs.declared.tree.Decl.TheVariants as decl
use Rattle.thread_tree.specs.Program.{Function, Body, sorted, names_of}
use Rattle.thread_machine.specs.Context.{body_of, thread_body}
use Rattle.thread_machine.specs.Seen.{body_in, function_in, thread_in}
use Rattle.thread_machine.proofs.ListLemmas.{drop_at_item}

-- the body of the function of a name among declarations
unfoldable pub function_among : List Decl → ℕ → Option Body
function_among ds name = option_map body_of (find (λ f. f.name == name) (sorted ds).functions)

-- the body of the template of a number among declarations
unfoldable pub template_among : List Decl → ℕ → Option Body
template_among ds number = option_map thread_body (slice_get (sorted ds).templates number)

pub function_among-is : (ds : List Decl) (name : ℕ) → function_among ds name ≡ option_map body_of (find (λ f. f.name == name) (sorted ds).functions)
unfolding function_among
function_among-is ds name = refl

pub template_among-is : (ds : List Decl) (number : ℕ) → template_among ds number ≡ option_map thread_body (slice_get (sorted ds).templates number)
unfolding template_among
template_among-is ds number = refl

found_first : (b : Bool) (x : Function) (xs : List Function) (name : ℕ) → (x.name == name) ≡ b → option_map body_of (find (λ f. f.name == name) (x ∷ xs)) ≡ option_or (if b then Some (body_of x) else None) (option_map body_of (find (λ f. f.name == name) xs))
found_first true x xs name is = rw is refl
found_first false x xs name is = rw is refl

function_declared : (d : Decl) (ds : List Decl) (name : ℕ) → function_among (d ∷ ds) name ≡ option_or (function_in d name) (function_among ds name)
unfolding function_among
function_declared (decl.Kind at fields) ds name = refl
function_declared (decl.Object at kind) ds name = refl
function_declared (decl.Queue at capacity channel) ds name = refl
function_declared (decl.Semaphore at count maximum) ds name = refl
function_declared (decl.Function at parameters body) ds name =
    found_first (at.name == name) (record { name = at.name; parameters = names_of parameters; body = body }) (sorted ds).functions name refl
function_declared (decl.Thread at parameters priority body) ds name = refl
function_declared (decl.Start place at arguments) ds name = refl

-- the declaration at a place has the function, or it is among those behind
function_at : (ds : List Decl) (n : ℕ) (d : Decl) (name : ℕ) → slice_get ds n ≡ Some d → function_among (drop n ds) name ≡ option_or (function_in d name) (function_among (drop (n + 1) ds) name)
function_at ds n d name is = ap (λ xs. function_among xs name) (drop_at_item ds n d is) ∙ function_declared d (drop (n + 1) ds) name

pub function_here : (ds : List Decl) (n : ℕ) (d : Decl) (name : ℕ) (body : Body) → slice_get ds n ≡ Some d → function_in d name ≡ Some body → function_among (drop n ds) name ≡ Some body
function_here ds n d name body is some = function_at ds n d name is ∙ rw some refl

pub function_passed : (ds : List Decl) (n : ℕ) (d : Decl) (name : ℕ) → slice_get ds n ≡ Some d → function_in d name ≡ None → function_among (drop n ds) name ≡ function_among (drop (n + 1) ds) name
function_passed ds n d name is none = function_at ds n d name is ∙ rw none refl

pub function_at_end : (ds : List Decl) (n : ℕ) (name : ℕ) → length ds ≤ n → function_among (drop n ds) name ≡ None
unfolding function_among
function_at_end ds n name past = rw (drop_all n ds past) refl

-- the template of a number where this many are still before it
abbrev template_next : Option Body → List Decl → ℕ → Option Body
template_next None ds number = template_among ds number
template_next (Some body) ds zero = Some body
template_next (Some body) ds (suc n) = template_among ds n

template_declared : (d : Decl) (ds : List Decl) (number : ℕ) → template_among (d ∷ ds) number ≡ template_next (thread_in d) ds number
unfolding template_among
template_declared (decl.Kind at fields) ds number = refl
template_declared (decl.Object at kind) ds number = refl
template_declared (decl.Queue at capacity channel) ds number = refl
template_declared (decl.Semaphore at count maximum) ds number = refl
template_declared (decl.Function at parameters body) ds number = refl
template_declared (decl.Thread at parameters priority body) ds zero = refl
template_declared (decl.Thread at parameters priority body) ds (suc n) = refl
template_declared (decl.Start place at arguments) ds number = refl

template_at : (ds : List Decl) (n : ℕ) (d : Decl) (number : ℕ) → slice_get ds n ≡ Some d → template_among (drop n ds) number ≡ template_next (thread_in d) (drop (n + 1) ds) number
template_at ds n d number is = ap (λ xs. template_among xs number) (drop_at_item ds n d is) ∙ template_declared d (drop (n + 1) ds) number

pub template_passed : (ds : List Decl) (n : ℕ) (d : Decl) (number : ℕ) → slice_get ds n ≡ Some d → thread_in d ≡ None → template_among (drop n ds) number ≡ template_among (drop (n + 1) ds) number
template_passed ds n d number is none = template_at ds n d number is ∙ rw none refl

pub template_here : (ds : List Decl) (n : ℕ) (d : Decl) (body : Body) (number : ℕ) → slice_get ds n ≡ Some d → thread_in d ≡ Some body → number ≡ 0 → template_among (drop n ds) number ≡ Some body
template_here ds n d body number is some none = rw none (template_at ds n d 0 is ∙ rw some refl)

template_sub : (ds : List Decl) (body : Body) (number : ℕ) → number ≢ 0 → template_next (Some body) ds number ≡ template_among ds (number - 1)
template_sub ds body zero other = absurd (other refl)
template_sub ds body (suc n) other = let e : suc n - 1 ≡ n = omega arith in rw e refl

pub template_behind : (ds : List Decl) (n : ℕ) (d : Decl) (body : Body) (number : ℕ) → slice_get ds n ≡ Some d → thread_in d ≡ Some body → number ≢ 0 → template_among (drop n ds) number ≡ template_among (drop (n + 1) ds) (number - 1)
template_behind ds n d body number is some other = template_at ds n d number is ∙ rw some (template_sub (drop (n + 1) ds) body number other)

pub template_at_end : (ds : List Decl) (n : ℕ) (number : ℕ) → length ds ≤ n → template_among (drop n ds) number ≡ None
unfolding template_among
template_at_end ds n number past = rw (drop_all n ds past) refl

pub ruleset function_laws = (function_among-is, function_here, function_passed, function_at_end)

pub ruleset template_laws = (template_among-is, template_passed, template_here, template_behind, template_at_end)

-- the body of a number among declarations
unfoldable pub body_among : List Decl → ℕ → Option Body
body_among ds number = slice_get (sorted ds).bodies number

pub body_among-is : (ds : List Decl) (number : ℕ) → body_among ds number ≡ slice_get (sorted ds).bodies number
unfolding body_among
body_among-is ds number = refl

abbrev body_next : Option Body → List Decl → ℕ → Option Body
body_next None ds number = body_among ds number
body_next (Some body) ds zero = Some body
body_next (Some body) ds (suc n) = body_among ds n

body_declared : (d : Decl) (ds : List Decl) (number : ℕ) → body_among (d ∷ ds) number ≡ body_next (body_in d) ds number
unfolding body_among
body_declared (decl.Kind at fields) ds number = refl
body_declared (decl.Object at kind) ds number = refl
body_declared (decl.Queue at capacity channel) ds number = refl
body_declared (decl.Semaphore at count maximum) ds number = refl
body_declared (decl.Function at parameters body) ds zero = refl
body_declared (decl.Function at parameters body) ds (suc n) = refl
body_declared (decl.Thread at parameters priority body) ds zero = refl
body_declared (decl.Thread at parameters priority body) ds (suc n) = refl
body_declared (decl.Start place at arguments) ds number = refl

body_at : (ds : List Decl) (n : ℕ) (d : Decl) (number : ℕ) → slice_get ds n ≡ Some d → body_among (drop n ds) number ≡ body_next (body_in d) (drop (n + 1) ds) number
body_at ds n d number is = ap (λ xs. body_among xs number) (drop_at_item ds n d is) ∙ body_declared d (drop (n + 1) ds) number

pub body_passed : (ds : List Decl) (n : ℕ) (d : Decl) (number : ℕ) → slice_get ds n ≡ Some d → body_in d ≡ None → body_among (drop n ds) number ≡ body_among (drop (n + 1) ds) number
body_passed ds n d number is none = body_at ds n d number is ∙ rw none refl

pub body_here : (ds : List Decl) (n : ℕ) (d : Decl) (body : Body) (number : ℕ) → slice_get ds n ≡ Some d → body_in d ≡ Some body → number ≡ 0 → body_among (drop n ds) number ≡ Some body
body_here ds n d body number is some none = rw none (body_at ds n d 0 is ∙ rw some refl)

body_sub : (ds : List Decl) (body : Body) (number : ℕ) → number ≢ 0 → body_next (Some body) ds number ≡ body_among ds (number - 1)
body_sub ds body zero other = absurd (other refl)
body_sub ds body (suc n) other = let e : suc n - 1 ≡ n = omega arith in rw e refl

pub body_behind : (ds : List Decl) (n : ℕ) (d : Decl) (body : Body) (number : ℕ) → slice_get ds n ≡ Some d → body_in d ≡ Some body → number ≢ 0 → body_among (drop n ds) number ≡ body_among (drop (n + 1) ds) (number - 1)
body_behind ds n d body number is some other = body_at ds n d number is ∙ rw some (body_sub (drop (n + 1) ds) body number other)

pub body_at_end : (ds : List Decl) (n : ℕ) (number : ℕ) → length ds ≤ n → body_among (drop n ds) number ≡ None
unfolding body_among
body_at_end ds n number past = rw (drop_all n ds past) refl

pub ruleset body_laws = (body_among-is, body_passed, body_here, body_behind, body_at_end)

-- the bodies behind so many
unfoldable pub bodies_behind : List Decl → ℕ → List Body
bodies_behind ds number = drop number (sorted ds).bodies

-- the bodies of the declarations from a place on
unfoldable pub bodies_from : List Decl → ℕ → List Body
bodies_from ds n = (sorted (drop n ds)).bodies

pub bodies_begin : (ds : List Decl) → bodies_behind ds 0 ≡ bodies_from ds 0
unfolding bodies_behind bodies_from
bodies_begin ds = refl

bodies_declared : (d : Decl) (ds : List Decl) → (sorted (d ∷ ds)).bodies ≡ option_to_list (body_in d) ++ (sorted ds).bodies
bodies_declared (decl.Kind at fields) ds = refl
bodies_declared (decl.Object at kind) ds = refl
bodies_declared (decl.Queue at capacity channel) ds = refl
bodies_declared (decl.Semaphore at count maximum) ds = refl
bodies_declared (decl.Function at parameters body) ds = refl
bodies_declared (decl.Thread at parameters priority body) ds = refl
bodies_declared (decl.Start place at arguments) ds = refl

drop_over : {X : Type 0} (all first rest : List X) (n : ℕ) → drop n all ≡ first ++ rest → drop (n + length first) all ≡ rest
drop_over all first rest n is = sym (drop-drop (length first) n all) ∙ ap (drop (length first)) is ∙ drop_at first rest (length first) refl

pub bodies_more : (ds : List Decl) (n number : ℕ) (d : Decl) → bodies_behind ds number ≡ bodies_from ds n → slice_get ds n ≡ Some d → bodies_behind ds (number + length (option_to_list (body_in d))) ≡ bodies_from ds (n + 1)
unfolding bodies_behind bodies_from
bodies_more ds n number d so_far is =
    drop_over (sorted ds).bodies (option_to_list (body_in d)) (sorted (drop (n + 1) ds)).bodies number
    (so_far ∙ ap (λ xs. (sorted xs).bodies) (drop_at_item ds n d is) ∙ bodies_declared d (drop (n + 1) ds))

get_first : {X : Type 0} (xs : List X) (n : ℕ) → slice_get xs n ≡ slice_get (drop n xs) 0
get_first [] zero = refl
get_first [] (suc n) = refl
get_first (x ∷ xs) zero = refl
get_first (x ∷ xs) (suc n) = get_first xs n

thread_is_body : (d : Decl) (body : Body) (rest : List Body) → thread_in d ≡ Some body → slice_get (option_to_list (body_in d) ++ rest) 0 ≡ Some body
thread_is_body (decl.Kind at fields) body rest is = cc
thread_is_body (decl.Object at kind) body rest is = cc
thread_is_body (decl.Queue at capacity channel) body rest is = cc
thread_is_body (decl.Semaphore at count maximum) body rest is = cc
thread_is_body (decl.Function at parameters block) body rest is = cc
thread_is_body (decl.Thread at parameters priority block) body rest is = is
thread_is_body (decl.Start place at arguments) body rest is = cc

pub number_here : (ds : List Decl) (n number left : ℕ) (d : Decl) (body : Body) → bodies_behind ds number ≡ bodies_from ds n → slice_get ds n ≡ Some d → thread_in d ≡ Some body → left ≡ 0 → slice_get (sorted ds).bodies number ≡ template_among (drop n ds) left
unfolding bodies_behind bodies_from
number_here ds n number left d body so_far is thread none =
    get_first (sorted ds).bodies number
    ∙ ap (λ xs. slice_get xs 0) (so_far ∙ ap (λ xs. (sorted xs).bodies) (drop_at_item ds n d is) ∙ bodies_declared d (drop (n + 1) ds))
    ∙ thread_is_body d body (sorted (drop (n + 1) ds)).bodies thread
    ∙ sym (template_here ds n d body left is thread none)

pub number_at_end : (ds : List Decl) (n number left : ℕ) → bodies_behind ds number ≡ bodies_from ds n → length ds ≤ n → slice_get (sorted ds).bodies number ≡ template_among (drop n ds) left
unfolding bodies_behind bodies_from
number_at_end ds n number left so_far past =
    get_first (sorted ds).bodies number ∙ ap (λ xs. slice_get xs 0) (so_far ∙ ap (λ xs. (sorted xs).bodies) (drop_all n ds past)) ∙ sym (template_at_end ds n left past)

pub ruleset number_laws = (template_among-is, template_passed, template_behind, bodies_begin, bodies_more, number_here, number_at_end)
