-- Writing the local of a name.
use Rattle.std.proofs.Common.{◌≡◌, ◌≢◌, ℕ, zero, suc, ◌+◌, ◌-◌, ◌<◌, ◌≤◌, List, [], ◌∷◌, ◌++◌, length, take, drop, get_or, set, min, Some, map, refl, ap, sym, ◌∙◌, arith}
use Rattle.std.specs.List.{refill}
use Rattle.std.specs.Prelude.{slice_get, option_map}
use Rattle.std.proofs.lemmas.Option.{slice_get-map}
use Rattle.thread_tree.specs.declared.place.At.{At}
use Rattle.thread_tree.specs.declared.expr.Expr.{Expr}
use Rattle.thread_tree.specs.Value.{value_of, values_in}
use Rattle.thread_tree.specs.Program.{names_of}
use Rattle.std.proofs.lemmas.List.{length-set, length-map, length-drop, drop-append-le, take_at, append_assoc, drop_all, take_all, append-nil}
use Rattle.std.proofs.lemmas.Bool.Decides.{nat_tests}
use Rattle.thread_tree.specs.declared.local.Local.{Local}
use Rattle.thread_tree.specs.LocalState.{with_value, named}

-- a local of the name is written
pub with_value_here : (xs : List Local) (n name value : ℕ) (d : Local) → n < length xs → (get_or xs n d).name ≡ name → take n xs ++ with_value (drop n xs) name value ≡ set xs n (record { name = (get_or xs n d).name; value = value })
with_value_here [] n name value d lt same = absurd (omega arith)
with_value_here (x ∷ xs) zero name value d lt same = grind (arith, nat_tests)
with_value_here (x ∷ xs) (suc n) name value d lt same = ap (λ ys. x ∷ ys) (with_value_here xs n name value d (omega arith) same)

-- one of another name is passed
pub with_value_past : (xs : List Local) (n name value : ℕ) (d : Local) → n < length xs → (get_or xs n d).name ≢ name → take n xs ++ with_value (drop n xs) name value ≡ take (n + 1) xs ++ with_value (drop (n + 1) xs) name value
with_value_past [] n name value d lt other = absurd (omega arith)
with_value_past (x ∷ xs) zero name value d lt other = grind (arith, nat_tests)
with_value_past (x ∷ xs) (suc n) name value d lt other = let e : suc n + 1 ≡ suc (n + 1) = omega arith in rw e (ap (λ ys. x ∷ ys) (with_value_past xs n name value d (omega arith) other))

-- the end of the locals
pub with_value_end : (xs : List Local) (n name value : ℕ) → length xs ≤ n → take n xs ++ with_value (drop n xs) name value ≡ xs
with_value_end xs n name value past = rw (drop_all n xs past, take_all n xs past) (append-nil xs)

pub ruleset with_value_laws = (with_value_here, with_value_past, with_value_end)

refill_whole : (xs ws : List Local) → length ws ≡ length xs → refill (length xs) xs ws ≡ ws
refill_whole xs ws same = rw (drop_all (length ws) xs (omega arith), append-nil ws) (take_all (length xs) ws (omega arith))

-- the write of one local through the slots as a slice
pub assigned_through : (base at name value : ℕ) (old slots lent read : List Local) → lent ≡ slots → read ≡ slots → take base old ++ with_value (drop base old) name value ≡ take at slots ++ with_value (drop at slots) name value → at < length slots → (get_or read at (record { name = 0; value = 0 })).name ≡ name → refill (length slots) slots (set lent at (record { name = (get_or lent at (record { name = 0; value = 0 })).name; value = value })) ≡ take base old ++ with_value (drop base old) name value
assigned_through base at name value old slots lent read lent_is read_is so_far lt same =
    let d : Local = record { name = 0; value = 0 } in
    let here : (get_or slots at d).name ≡ name = rw read_is at same in
    rw (lent_is, refill_whole slots (set slots at (record { name = (get_or slots at d).name; value = value })) (length-set slots at _)) (sym (with_value_here slots at name value d lt here) ∙ sym so_far)

-- one parameter more with its value
pub named_more : (names values : List ℕ) (n name value : ℕ) → slice_get names n ≡ Some name → slice_get values n ≡ Some value → named (take (n + 1) names) (take (n + 1) values) ≡ named (take n names) (take n values) ++ record { name = name; value = value } ∷ []
named_more [] values n name value in_names in_values = cc
named_more (x ∷ names) [] n name value in_names in_values = cc
named_more (x ∷ names) (v ∷ values) zero name value in_names in_values = cc
named_more (x ∷ names) (v ∷ values) (suc n) name value in_names in_values =
    let e : suc n + 1 ≡ suc (n + 1) = omega arith in
    rw e (ap (λ xs. record { name = x; value = v } ∷ xs) (named_more names values n name value in_names in_values))

-- values beyond the names, or names beyond the values, count for nothing
pub named_cut : (names values : List ℕ) (n : ℕ) → n ≡ min (length names) (length values) → named (take n names) (take n values) ≡ named names values
named_cut [] values n is = let e : n ≡ 0 = omega (arith, is) in rw e refl
named_cut (name ∷ names) [] n is = let e : n ≡ 0 = omega (arith, is) in rw e refl
named_cut (name ∷ names) (value ∷ values) zero is = absurd (omega (arith, is))
named_cut (name ∷ names) (value ∷ values) (suc n) is =
    ap (λ xs. record { name = name; value = value } ∷ xs) (named_cut names values n (omega (arith, is)))

pub get_map : {X Y : Type 0} (f : X → Y) (xs : List X) (n : ℕ) (x : X) → slice_get xs n ≡ Some x → slice_get (map f xs) n ≡ Some (f x)
get_map f xs n x is = slice_get-map f xs n ∙ ap (option_map f) is

-- the locals from a base to where a list began
pub range_front : (first more : List Local) (base : ℕ) → base ≤ length first → take (length first - base) (drop base (first ++ more)) ≡ drop base first
range_front first more base within =
    rw (drop-append-le base first more within) (take_at (drop base first) more (length first - base) (length-drop base first))

pub range_of : (first slots lent names : List Local) (base begin : ℕ) → lent ≡ slots → slots ≡ first ++ names → begin ≡ length first → base ≤ length first → take (begin - base) (drop base lent) ≡ drop base first
range_of first slots lent names base begin lent_is slots_are begin_is within =
    rw (lent_is, slots_are, begin_is) (range_front first names base within)

-- one parameter more was declared
pub filled_more : (first slots next own : List Local) (parameters : List At) (arguments : List Expr) (n : ℕ) (at : At) (e : Expr) → slots ≡ first ++ named (take n (names_of parameters)) (take n (values_in own arguments)) → next ≡ slots ++ record { name = at.name; value = value_of own e } ∷ [] → slice_get parameters n ≡ Some at → slice_get arguments n ≡ Some e → next ≡ first ++ named (take (n + 1) (names_of parameters)) (take (n + 1) (values_in own arguments))
filled_more first slots next own parameters arguments n at e so_far is parameter argument =
    rw (is, so_far, named_more (names_of parameters) (values_in own arguments) n at.name (value_of own e) (get_map (λ a. a.name) parameters n at parameter) (get_map (value_of own) arguments n e argument))
    (append_assoc first (named (take n (names_of parameters)) (take n (values_in own arguments))) (record { name = at.name; value = value_of own e } ∷ []))

pub filled_all : (first slots own : List Local) (parameters : List At) (arguments : List Expr) (n : ℕ) → slots ≡ first ++ named (take n (names_of parameters)) (take n (values_in own arguments)) → n ≡ min (length parameters) (length arguments) → slots ≡ first ++ named (names_of parameters) (values_in own arguments)
filled_all first slots own parameters arguments n so_far is =
    so_far ∙ ap (λ xs. first ++ xs) (named_cut (names_of parameters) (values_in own arguments) n (rw (length-map parameters (λ a. a.name), length-map arguments (value_of own)) is))
