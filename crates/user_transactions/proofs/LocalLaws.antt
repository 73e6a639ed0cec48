-- Writing the local of a name.
use Rattle.std.proofs.Common.{◌≡◌, ◌≢◌, ℕ, zero, suc, ◌+◌, ◌<◌, ◌≤◌, ◌==◌, List, [], ◌∷◌, ◌++◌, length, take, drop, get_or, set, refl, ap, sym, ◌∙◌, arith}
use Rattle.std.specs.List.{refill}
use Rattle.std.specs.Prelude.{if◌then◌else◌, Bool, true, false}
use Rattle.std.proofs.lemmas.List.{length-set, drop_all, take_all, append-nil}
use Rattle.std.proofs.lemmas.Bool.Decides.{nat_tests}
use Rattle.thread_tree.specs.declared.local.Local.{Local}
use Rattle.thread_tree.specs.LocalState.{with_value}

-- a local of the name is written
with_value_here : (xs : List Local) (n name value : ℕ) (d : Local) → n < length xs → (get_or xs n d).name ≡ name → take n xs ++ with_value (drop n xs) name value ≡ set xs n (record { name = (get_or xs n d).name; value = value })
with_value_here [] n name value d lt same = absurd (omega arith)
with_value_here (x ∷ xs) zero name value d lt same = grind (arith, nat_tests)
with_value_here (x ∷ xs) (suc n) name value d lt same = ap (λ ys. x ∷ ys) (with_value_here xs n name value d (omega arith) same)

-- one of another name is passed
pub with_value_past : (xs : List Local) (n name value : ℕ) (d : Local) → n < length xs → (get_or xs n d).name ≢ name → take n xs ++ with_value (drop n xs) name value ≡ take (n + 1) xs ++ with_value (drop (n + 1) xs) name value
with_value_past [] n name value d lt other = absurd (omega arith)
with_value_past (x ∷ xs) zero name value d lt other = grind (arith, nat_tests)
with_value_past (x ∷ xs) (suc n) name value d lt other = let e : suc n + 1 ≡ suc (n + 1) = omega arith in rw e (ap (λ ys. x ∷ ys) (with_value_past xs n name value d (omega arith) other))

-- the end of the locals
pub with_value_end : (xs : List Local) (n name value : ℕ) → length xs ≤ n → take n xs ++ with_value (drop n xs) name value ≡ xs
with_value_end xs n name value past = rw (drop_all n xs past, take_all n xs past) (append-nil xs)

refill_whole : (xs ws : List Local) → length ws ≡ length xs → refill (length xs) xs ws ≡ ws
refill_whole xs ws same = rw (drop_all (length ws) xs (omega arith), append-nil ws) (take_all (length xs) ws (omega arith))

-- the write of one local through the locals as a slice
pub assigned_through : (at name value : ℕ) (old slots lent read : List Local) → lent ≡ slots → read ≡ slots → with_value old name value ≡ take at slots ++ with_value (drop at slots) name value → at < length slots → (get_or read at (record { name = 0; value = 0 })).name ≡ name → refill (length slots) slots (set lent at (record { name = (get_or lent at (record { name = 0; value = 0 })).name; value = value })) ≡ with_value old name value
assigned_through at name value old slots lent read lent_is read_is so_far lt same =
    let d : Local = record { name = 0; value = 0 } in
    let here : (get_or slots at d).name ≡ name = rw read_is at same in
    rw (lent_is, refill_whole slots (set slots at (record { name = (get_or slots at d).name; value = value })) (length-set slots at _)) (sym (with_value_here slots at name value d lt here) ∙ sym so_far)

-- there are as many locals as before
pub length_with_value : (xs : List Local) (name value : ℕ) → length (with_value xs name value) ≡ length xs
length_with_value [] name value = refl
length_with_value (x ∷ xs) name value = go (x.name == name) (length_with_value xs name value)
  where
    go : (b : Bool) → length (with_value xs name value) ≡ length xs → length (if b then record { name = name; value = value } ∷ xs else x ∷ with_value xs name value) ≡ suc (length xs)
    go true rest = refl
    go false rest = ap (λ (n : ℕ). suc n) rest

pub ruleset with_value_laws = (with_value_past, with_value_end)

pub ruleset set_laws = (length_with_value)
