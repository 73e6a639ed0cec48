-- What canonical tokens say, and what they spell again.
use Rattle.std.proofs.Common.{◌≡◌, List, [], ◌∷◌, ◌++◌, append_assoc, refl, sym, ap, subst, ◌∙◌}
use Rattle.thread_tree.specs.declared.place.Place.{Place}
use Rattle.thread_tree.specs.declared.token.Mark.TheVariants as mark
use Rattle.thread_tree.specs.declared.token.Placed.{Placed}
use Rattle.thread_tree.specs.declared.token.Token.{Token}
use Rattle.thread_tree.specs.declared.token.Token.TheVariants as token
use Rattle.thread_tree.specs.Spelling.{Anywhere, Takes, TakesAny, Separated, one, more}
use Rattle.thread_print.specs.Canonical.{separated}
use Rattle.thread_print.proofs.Contents.{bare, cons_keeps, contents}

-- what is said of the tokens from some on up to others
abbrev pub Span : Type 1
Span = List Placed → List Placed → Type 0

-- it is found at the beginning of some tokens, and `rest` stands behind it
pub record Found (Spelled : Span) (before : List Placed) (rest : List Token) : Type 0 where
  pub after : List Placed
  pub spells : Spelled before after
  pub left : bare after ≡ rest

-- These tokens have the names, numbers and strings of those from `start` up to `end`, and wherever they stand it is
-- spelled.
pub record Again (tokens : List Token) (Spelled : Span) (start end : List Placed) : Type 0 where
  pub says : (rest : List Token) → contents (bare end) ≡ contents rest → contents (bare start) ≡ contents (tokens ++ rest)
  pub again : (before : List Placed) (rest : List Token) → bare before ≡ tokens ++ rest → Found Spelled before rest

-- one behind the other
pub record Both (P Q : Span) (start end : List Placed) : Type 0 where
  pub middle : List Placed
  pub first : P start middle
  pub second : Q middle end

head_is : (s t : Token) (ss ts : List Token) → (s ∷ ss) ≡ (t ∷ ts) → s ≡ t
head_is s t ss ts e = cc

tail_is : (s t : Token) (ss ts : List Token) → (s ∷ ss) ≡ (t ∷ ts) → ss ≡ ts
tail_is s t ss ts e = cc

-- one token
pub take_one : (t : Token) (before : List Placed) (rest : List Token) → bare before ≡ t ∷ rest → Found (TakesAny t) before rest
take_one t [] rest e = cc
take_one t (p ∷ before) rest e = record {
  after = before;
  spells = record { place = p.place; first = ap (λ s. record { token = s; place = p.place } ∷ before) (head_is p.token t (bare before) rest e) };
  left = tail_is p.token t (bare before) rest e;
}

begun : (t : Token) (place : Place) (start end : List Placed) (rest : List Token) → start ≡ record { token = t; place = place } ∷ end → contents (bare end) ≡ contents rest → contents (bare start) ≡ contents (t ∷ rest)
begun t place start end rest first same = ap (λ placed. contents (bare placed)) first ∙ cons_keeps t (bare end) rest same

pub any : {t : Token} {start end : List Placed} → TakesAny t start end → Again (t ∷ []) (TakesAny t) start end
any {t} {start} {end} takes = record { says = λ rest same. begun t takes.place start end rest takes.first same; again = λ before rest e. take_one t before rest e }

pub at : {t : Token} {place : Place} {start end : List Placed} → Takes t place start end → Again (t ∷ []) (Anywhere t place) start end
at {t} {place} {start} {end} takes = record { says = λ rest same. begun t place start end rest takes.first same; again = λ before rest e. take_one t before rest e }

-- nothing
pub nothing : {P : Span} {start : List Placed} → ((b : List Placed) → P b b) → Again [] P start start
nothing made = record { says = λ rest same. same; again = λ before rest e. record { after = before; spells = made before; left = e } }

-- two behind one another
pub both : {xs ys : List Token} {P Q : Span} {start middle end : List Placed} → Again xs P start middle → Again ys Q middle end → Again (xs ++ ys) (Both P Q) start end
both {xs} {ys} {P} {Q} {start} {middle} {end} x y = record {
  says = λ rest same. x.says (ys ++ rest) (y.says rest same) ∙ ap contents (sym (append_assoc xs ys rest));
  again = λ before rest e.
      let a = x.again before (ys ++ rest) (e ∙ append_assoc xs ys rest) in
      let b = y.again a.after rest a.left in
      record { after = b.after; spells = record { middle = a.after; first = a.spells; second = b.spells }; left = b.left };
}

-- the same said in other words
pub turned : {xs : List Token} {P Q : Span} {start end : List Placed} → Again xs P start end → ((b a : List Placed) → P b a → Q b a) → Again xs Q start end
turned x turn = record {
  says = x.says;
  again = λ before rest e.
      let a = x.again before rest e in
      record { after = a.after; spells = turn before a.after a.spells; left = a.left };
}

pub same_tokens : {xs ys : List Token} {P : Span} {start end : List Placed} → xs ≡ ys → Again xs P start end → Again ys P start end
same_tokens {xs} {ys} {P} {start} {end} same x =
    let Q : List Token → Type 0 = λ ts. Again ts P start end in subst Q same x

-- several with commas between
more_are : {A : Type 0} {One : A → List Placed → List Placed → Type 0} (tokens : A → List Token) (x : A) {start end : List Placed} {ys : List A} → Separated (λ b a y. One y b a) start end ys → tokens x ++ ((token.Mark mark.Comma ∷ []) ++ separated tokens ys) ≡ separated tokens (x ∷ ys)
more_are tokens x (one h) = refl
more_are tokens x (more h comma others) = refl

pub separated_again : {A : Type 0} (One Other : List Placed → List Placed → A → Type 0) (tokens : A → List Token) → ((start end : List Placed) (x : A) → One start end x → Again (tokens x) (λ b a. Other b a x) start end) → (start end : List Placed) (xs : List A) → Separated One start end xs → Again (separated tokens xs) (λ b a. Separated Other b a xs) start end
separated_again One Other tokens each start end xs (one {x = x} h) = turned (each start end x h) (λ b a o. one o)
separated_again One Other tokens each start end xs (more {a = m} {b = n} {x = x} {xs = ys} h comma others) =
    same_tokens (more_are {One = λ y b a. One b a y} tokens x others) (turned (both (each start m x h) (both (any comma) (separated_again One Other tokens each n end ys others))) (λ b a o. more o.first o.second.first o.second.second))
