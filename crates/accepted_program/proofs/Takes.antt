-- One token, name or number of a list is determined by the list.
use Rattle.std.proofs.Common.{◌≡◌, ◌∙◌, List, ◌∷◌, sym, ap}
use Rattle.thread_tree.specs.declared.place.At.{At}
use Rattle.thread_tree.specs.declared.place.Num.{Num}
use Rattle.thread_tree.specs.declared.place.Place.{Place}
use Rattle.thread_tree.specs.declared.token.Placed.{Placed}
use Rattle.thread_tree.specs.declared.token.Token.{Token}
use Rattle.thread_tree.specs.declared.token.Token.TheVariants as token
use Rattle.thread_tree.specs.Spelling.{Takes, TakesAny, SpellsName, SpellsNumber}

pub any : {t : Token} {place : Place} {p a : List Placed} → Takes t place p a → TakesAny t p a
any {place = q} h = record { place = q; first = h.first }

pub takes_one : {t u : Token} {r s : Place} {p q a b : List Placed} → p ≡ q → Takes t r p a → Takes u s q b → (t ≡ u) × (r ≡ s) × (a ≡ b)
takes_one {t} {u} {r} {s} {p} {q} {a} {b} e h k =
    let same : record { token = t; place = r } ∷ a ≡ record { token = u; place = s } ∷ b = sym h.first ∙ (e ∙ k.first) in
    let head : ◌≡◌ {A = Placed} (record { token = t; place = r }) (record { token = u; place = s }) = cc in
    (ap (λ x. x.token) head, ap (λ x. x.place) head, cc)

pub placed : {t : Token} {p a : List Placed} (h : TakesAny t p a) → Takes t h.place p a
placed h = record { first = h.first }

pub takes_any : {t u : Token} {p q a b : List Placed} → p ≡ q → TakesAny t p a → TakesAny u q b → (t ≡ u) × (a ≡ b)
takes_any e h k = let one = takes_one e (placed h) (placed k) in (one.0, one.2)

pub clash : {t u : Token} {p q a b : List Placed} → p ≡ q → TakesAny t p a → TakesAny u q b → (t ≡ u → ⊥) → ⊥
clash e h k apart = apart (takes_any e h k).0

at_same : (m n : At) → m.name ≡ n.name → m.place ≡ n.place → m ≡ n
at_same m n e f = λ i. record { name = e i; place = f i }

num_same : (m n : Num) → m.value ≡ n.value → m.place ≡ n.place → m ≡ n
num_same m n e f = λ i. record { value = e i; place = f i }

pub name_one : {p q a b : List Placed} {m n : At} → p ≡ q → SpellsName p a m → SpellsName q b n → (a ≡ b) × (m ≡ n)
name_one {m = m} {n = n} e h k =
    let one = takes_one e h k in
    let name : token.Name m.name ≡ token.Name n.name = one.0 in
    (one.2, at_same m n (cc) one.1)

pub number_one : {p q a b : List Placed} {m n : Num} → p ≡ q → SpellsNumber p a m → SpellsNumber q b n → (a ≡ b) × (m ≡ n)
number_one {m = m} {n = n} e h k =
    let one = takes_one e h k in
    let value : token.Number m.value ≡ token.Number n.value = one.0 in
    (one.2, num_same m n (cc) one.1)

-- a token from an equal list
pub any_from : {t : Token} {p q a : List Placed} → p ≡ q → TakesAny t q a → TakesAny t p a
any_from e h = record { place = h.place; first = e ∙ h.first }
