-- The values that a block gives.
use Rattle.std.proofs.Common.{◌≡◌, ℕ, suc, ◌+◌, ◌<◌, ◌≤◌, List, [], ◌∷◌, ◌++◌, length, take, drop, refl, ap, sym, ◌∙◌, arith}
use Rattle.std.proofs.Math.Seq.{drop-cons}
use Rattle.std.proofs.Math.ListN.{drop_of_length-le}
use Rattle.std.proofs.lemmas.List.{length-append, take_all, append_assoc, append-nil}
use Rattle.std.proofs.lemmas.Option.{slice_get_within, get_or_from_slice_get}
use Rattle.std.specs.Prelude.{slice_get, Some, Result, Ok, Err}
use Rattle.kernel_model.specs.Visible.{Object}
use Rattle.kernel_model.specs.Transactions.{Read, read, read_all, with_read}
use Rattle.thread_tree.specs.declared.expr.Expr.{Expr}
use Rattle.thread_tree.specs.declared.local.Local.{Local}
use Rattle.thread_tree.specs.Program.{Program}

-- the k-th element is the first one from there on
pub rest_from : {X : Type 0} (xs : List X) (k : ℕ) (x : X) → slice_get xs k ≡ Some x → drop k xs ≡ x ∷ drop (k + 1) xs
rest_from xs k x is =
    let low : k < length xs = slice_get_within xs k x is in
    let next : suc k ≡ k + 1 = omega arith in
    drop-cons xs k x low ∙ (λ i. get_or_from_slice_get xs k x x is i ∷ drop (next i) xs)

-- three values at most
pub take_few : (xs : List ℕ) (x : ℕ) → length xs < 3 → xs ++ x ∷ [] ≡ take 3 (xs ++ x ∷ [])
take_few xs x few = let long : length (xs ++ x ∷ []) ≤ 3 = omega (arith, length-append xs (x ∷ [])) in sym (take_all 3 (xs ++ x ∷ []) long)

pub take_full : (xs : List ℕ) (x : ℕ) → length xs ≡ 3 → xs ≡ take 3 (xs ++ x ∷ [])
take_full [] x long = absurd (omega arith)
take_full (a ∷ []) x long = absurd (omega arith)
take_full (a ∷ b ∷ []) x long = absurd (omega arith)
take_full (a ∷ b ∷ c ∷ []) x long = refl
take_full (a ∷ b ∷ c ∷ d ∷ xs) x long = absurd (omega arith)

-- three of three and more are three of all
take_again : (xs : List ℕ) (x : ℕ) → take 3 (take 3 xs ++ x ∷ []) ≡ take 3 (xs ++ x ∷ [])
take_again [] x = refl
take_again (a ∷ []) x = refl
take_again (a ∷ b ∷ []) x = refl
take_again (a ∷ b ∷ c ∷ xs) x = refl

-- values before others, if these were read
abbrev pub onto : List ℕ → Result (List ℕ) ℕ → Result (List ℕ) ℕ
onto all (Err fault) = Err fault
onto all (Ok values) = Ok (all ++ values)

onto-none : (found : Result (List ℕ) ℕ) → onto [] found ≡ found
onto-none (Err fault) = refl
onto-none (Ok values) = refl

-- a value before those that are read after it
abbrev first_of : ℕ → Result (List ℕ) ℕ → Result (List ℕ) ℕ
first_of x (Err fault) = Err fault
first_of x (Ok values) = Ok (x ∷ values)

onto-more : (all : List ℕ) (x : ℕ) (found : Result (List ℕ) ℕ) → onto all (first_of x found) ≡ onto (all ++ x ∷ []) found
onto-more all x (Err fault) = refl
onto-more all x (Ok values) = ap (λ (vs : List ℕ). Ok (vs)) (sym (append_assoc all (x ∷ []) values))

module _ (p : Program) (os : List Object) (locals : List Local) (es : List Expr) (n : ℕ) where
  -- the values of the first expressions were read, and the first three of them are kept
  pub record IsGiven (at operations : ℕ) (values : List ℕ) : Type 0 where
    pub all : List ℕ
    pub first : values ≡ take 3 all
    pub reads : read_all p os locals es n ≡ onto all (read_all p os locals (drop at es) operations)

  pub IsGiven-start : IsGiven 0 n []
  IsGiven-start = record { all = []; first = refl; reads = sym (onto-none (read_all p os locals es n)) }

  read-next : (at operations : ℕ) (e : Expr) (x : Read) → slice_get es at ≡ Some e → read p os locals e operations ≡ Ok x → read_all p os locals (drop at es) operations ≡ first_of x.value (read_all p os locals (drop (at + 1) es) x.operations)
  read-next at operations e x is found =
      ap (λ (rest : List Expr). read_all p os locals rest operations) (rest_from es at e is)
      ∙ ap (λ (r : Result Read ℕ). with_read r (λ x. first_of x.value (read_all p os locals (drop (at + 1) es) x.operations))) found

  pub IsGiven-more : (at operations : ℕ) (values kept : List ℕ) (e : Expr) (x : Read) → IsGiven at operations values → slice_get es at ≡ Some e → read p os locals e operations ≡ Ok x → kept ≡ take 3 (values ++ x.value ∷ []) → IsGiven (at + 1) x.operations kept
  IsGiven-more at operations values kept e x given is found more = record {
    all = given.all ++ x.value ∷ [];
    first = more ∙ ap (λ (vs : List ℕ). take 3 (vs ++ x.value ∷ [])) given.first ∙ take_again given.all x.value;
    reads = given.reads ∙ ap (onto given.all) (read-next at operations e x is found) ∙ onto-more given.all x.value (read_all p os locals (drop (at + 1) es) x.operations);
  }

  pub IsGiven-fault : (at operations : ℕ) (values : List ℕ) (e : Expr) (fault : ℕ) → IsGiven at operations values → slice_get es at ≡ Some e → read p os locals e operations ≡ Err fault → read_all p os locals es n ≡ Err fault
  IsGiven-fault at operations values e fault given is found =
      given.reads
      ∙ ap (λ (rest : List Expr). onto given.all (read_all p os locals rest operations)) (rest_from es at e is)
      ∙ ap (λ (r : Result Read ℕ). onto given.all (with_read r (λ x. first_of x.value (read_all p os locals (drop (at + 1) es) x.operations)))) found

  pub IsGiven-all : (at operations : ℕ) (values : List ℕ) (given : IsGiven at operations values) → length es ≤ at → read_all p os locals es n ≡ Ok given.all
  IsGiven-all at operations values given past =
      given.reads
      ∙ ap (λ (rest : List Expr). onto given.all (read_all p os locals rest operations)) (drop_of_length-le es past)
      ∙ ap (λ (vs : List ℕ). Ok vs) (append-nil given.all)

pub ruleset keep_laws = (take_few, take_full)
