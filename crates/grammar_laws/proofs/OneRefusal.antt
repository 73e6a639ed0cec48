-- The token with which tokens can't go on is one, whatever they are divided into.
use Rattle.std.proofs.Common.{◌≡◌, List, [], ◌∷◌, ◌++◌, sym, append_assoc}
use Rattle.thread_tree.specs.declared.token.Placed.{Placed}
use Rattle.grammar_laws.specs.Open.{MayBecome}

-- what may become a program begins with such
begins_so : (front rest : List Placed) → MayBecome (front ++ rest) → MayBecome front
begins_so front rest (more, program) = (rest ++ more, rw (append_assoc front rest more) at program)

first_of_two : {x y : Placed} {us vs : List Placed} → x ∷ us ≡ y ∷ vs → x ≡ y
first_of_two e = cc

rest_of_two : {x y : Placed} {us vs : List Placed} → x ∷ us ≡ y ∷ vs → us ≡ vs
rest_of_two e = cc

-- the same of any kind of lists that each beginning shares
one_by : (P : List Placed → Type 0) → ((front rest : List Placed) → P (front ++ rest) → P front) → (xs ys us vs : List Placed) (x y : Placed) → xs ++ x ∷ us ≡ ys ++ y ∷ vs → P xs → (P (xs ++ x ∷ []) → ⊥) → P ys → (P (ys ++ y ∷ []) → ⊥) → x ≡ y
one_by P begins [] [] us vs x y e p np q nq = first_of_two e
one_by P begins [] (z ∷ ys) us vs x y e p np q nq = absurd (np (begins (x ∷ []) ys (rw (first_of_two e) q)))
one_by P begins (z ∷ xs) [] us vs x y e p np q nq = absurd (nq (begins (y ∷ []) xs (rw (sym (first_of_two e)) p)))
one_by P begins (z ∷ xs) (w ∷ ys) us vs x y e p np q nq = one_by (λ l. P (z ∷ l)) (λ front rest. begins (z ∷ front) rest) xs ys us vs x y (rest_of_two e) p np (rw (first_of_two e) q) (λ h. nq (rw (sym (first_of_two e)) h))

pub one_refused : (xs ys us vs : List Placed) (x y : Placed) → xs ++ x ∷ us ≡ ys ++ y ∷ vs → MayBecome xs → (MayBecome (xs ++ x ∷ []) → ⊥) → MayBecome ys → (MayBecome (ys ++ y ∷ []) → ⊥) → x ≡ y
one_refused xs ys us vs x y e p np q nq = one_by MayBecome begins_so xs ys us vs x y e p np q nq
