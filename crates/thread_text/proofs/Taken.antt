-- What a token that was passed over was, from what was known of the next one.
use Rattle.std.proofs.Common.{◌≡◌, ◌∙◌, ap, ℕ, List, Option, Some, None, IsSome, true, false, sym, refl}
use Rattle.thread_tree.specs.declared.expr.Op.{Op}
use Rattle.thread_tree.specs.declared.name.Text.{Text}
use Rattle.thread_tree.specs.declared.place.Place.{Place}
use Rattle.thread_tree.specs.declared.token.Mark.{Mark}
use Rattle.thread_tree.specs.declared.token.Placed.{Placed}
use Rattle.thread_tree.specs.declared.token.Token.{Token}
use Rattle.thread_tree.specs.declared.token.Token.TheVariants as token
use Rattle.thread_tree.specs.declared.token.Word.{Word}
use Rattle.thread_tree.specs.Grammar.{is_mark, is_word, is_prefix, prefixes}
use Rattle.thread_tree.specs.Levels.{level_of, binding}
use Rattle.thread_tree.specs.Spelling.{Takes, TakesAny}
use Rattle.thread_text.specs.Fate.{Reading, next, next_is, next_of, next_binding, sees, sees_word}
use Rattle.thread_text.specs.Kinds.{name_in, number_in, word_in, operator_in, text_in}
use Rattle.thread_text.proofs.Steps.{seen, of_next}
use Rattle.grammar_laws.proofs.Callers.{is_the_mark, is_the_word}

pub next_mark : (r : Reading) (m : Mark) → sees m r ≡ true → next r.left ≡ Some (token.Mark m)
next_mark r m h = let s = seen (is_mark m) r h in s.1 ∙ ap (λ t. Some t) (is_the_mark m s.0 s.2)

pub next_the_word : (r : Reading) (w : Word) → sees_word w r ≡ true → next r.left ≡ Some (token.Word w)
next_the_word r w h = let s = seen (is_word w) r h in s.1 ∙ ap (λ t. Some t) (is_the_word w s.0 s.2)

a_name : (t : Token) (n : ℕ) → name_in t ≡ Some n → t ≡ token.Name n
unfolding name_in
a_name (token.Name _) n h = cc
a_name (token.Number _) n h = cc
a_name (token.Text _) n h = cc
a_name (token.Word _) n h = cc
a_name (token.Mark _) n h = cc
a_name (token.Operator _) n h = cc

a_number : (t : Token) (n : ℕ) → number_in t ≡ Some n → t ≡ token.Number n
unfolding number_in
a_number (token.Name _) n h = cc
a_number (token.Number _) n h = cc
a_number (token.Text _) n h = cc
a_number (token.Word _) n h = cc
a_number (token.Mark _) n h = cc
a_number (token.Operator _) n h = cc

pub next_name : (r : Reading) (n : ℕ) → next_of name_in r ≡ Some n → next r.left ≡ Some (token.Name n)
next_name r n h = let s = of_next name_in r n h in s.1 ∙ ap (λ t. Some t) (a_name s.0 n s.2)

pub next_number : (r : Reading) (n : ℕ) → next_of number_in r ≡ Some n → next r.left ≡ Some (token.Number n)
next_number r n h = let s = of_next number_in r n h in s.1 ∙ ap (λ t. Some t) (a_number s.0 n s.2)

-- what a skip took
pub mark_takes : (r : Reading) (after : List Placed) (p : Place) (m : Mark) → sees m r ≡ true → ((t : Token) → next r.left ≡ Some t → Takes t p r.left after) → Takes (token.Mark m) p r.left after
mark_takes r after p m h taken = taken (token.Mark m) (next_mark r m h)

pub mark_any : (r : Reading) (after : List Placed) (p : Place) (m : Mark) → sees m r ≡ true → ((t : Token) → next r.left ≡ Some t → Takes t p r.left after) → TakesAny (token.Mark m) r.left after
mark_any r after p m h taken = record { place = p; first = (mark_takes r after p m h taken).first }

pub word_takes : (r : Reading) (after : List Placed) (p : Place) (w : Word) → sees_word w r ≡ true → ((t : Token) → next r.left ≡ Some t → Takes t p r.left after) → Takes (token.Word w) p r.left after
word_takes r after p w h taken = taken (token.Word w) (next_the_word r w h)

pub word_any : (r : Reading) (after : List Placed) (p : Place) (w : Word) → sees_word w r ≡ true → ((t : Token) → next r.left ≡ Some t → Takes t p r.left after) → TakesAny (token.Word w) r.left after
word_any r after p w h taken = record { place = p; first = (word_takes r after p w h taken).first }

pub name_takes : (r : Reading) (after : List Placed) (p : Place) (n : ℕ) → next_of name_in r ≡ Some n → ((t : Token) → next r.left ≡ Some t → Takes t p r.left after) → Takes (token.Name n) p r.left after
name_takes r after p n h taken = taken (token.Name n) (next_name r n h)

pub number_takes : (r : Reading) (after : List Placed) (p : Place) (n : ℕ) → next_of number_in r ≡ Some n → ((t : Token) → next r.left ≡ Some t → Takes t p r.left after) → Takes (token.Number n) p r.left after
number_takes r after p n h taken = taken (token.Number n) (next_number r n h)

an_operator : (t : Token) (op : Op) → operator_in t ≡ Some op → t ≡ token.Operator op
unfolding operator_in
an_operator (token.Name _) n h = cc
an_operator (token.Number _) n h = cc
an_operator (token.Text _) n h = cc
an_operator (token.Word _) n h = cc
an_operator (token.Mark _) n h = cc
an_operator (token.Operator _) n h = cc

pub next_operator : (r : Reading) (op : Op) → next_of operator_in r ≡ Some op → next r.left ≡ Some (token.Operator op)
next_operator r n h = let s = of_next operator_in r n h in s.1 ∙ ap (λ t. Some t) (an_operator s.0 n s.2)

pub operator_any : (r : Reading) (after : List Placed) (p : Place) (op : Op) → next_of operator_in r ≡ Some op → ((t : Token) → next r.left ≡ Some t → Takes t p r.left after) → TakesAny (token.Operator op) r.left after
operator_any r after p n h taken = record { place = p; first = (taken (token.Operator n) (next_operator r n h)).first }

pub number_any : (r : Reading) (after : List Placed) (p : Place) (n : ℕ) → next_of number_in r ≡ Some n → ((t : Token) → next r.left ≡ Some t → Takes t p r.left after) → TakesAny (token.Number n) r.left after
number_any r after p n h taken = record { place = p; first = (number_takes r after p n h taken).first }

pub operator_level : (r : Reading) (op : Op) → next_of operator_in r ≡ Some op → level_of op ≡ next_binding r
unfolding next_binding binding
operator_level r op h = sym (ap (λ o. elim o [ Some t ↦ binding t | None ↦ 0 ]) (next_operator r op h))

pub operator_prefix : (r : Reading) (op : Op) → next_of operator_in r ≡ Some op → next_is is_prefix r ≡ true → prefixes op ≡ true
unfolding next_is is_prefix
operator_prefix r op h k = sym (ap (λ o. elim o [ Some t ↦ is_prefix t | None ↦ false ]) (next_operator r op h)) ∙ k

a_word : (t : Token) (w : Word) → word_in t ≡ Some w → t ≡ token.Word w
unfolding word_in
a_word (token.Name _) n h = cc
a_word (token.Number _) n h = cc
a_word (token.Text _) n h = cc
a_word (token.Word _) n h = cc
a_word (token.Mark _) n h = cc
a_word (token.Operator _) n h = cc

pub next_a_word : (r : Reading) (w : Word) → next_of word_in r ≡ Some w → next r.left ≡ Some (token.Word w)
next_a_word r w h = let s = of_next word_in r w h in s.1 ∙ ap (λ t. Some t) (a_word s.0 w s.2)

pub word_took : (r : Reading) (after : List Placed) (p : Place) (w : Word) → next_of word_in r ≡ Some w → ((t : Token) → next r.left ≡ Some t → Takes t p r.left after) → Takes (token.Word w) p r.left after
word_took r after p w h taken = taken (token.Word w) (next_a_word r w h)

pub word_took_any : (r : Reading) (after : List Placed) (p : Place) (w : Word) → next_of word_in r ≡ Some w → ((t : Token) → next r.left ≡ Some t → Takes t p r.left after) → TakesAny (token.Word w) r.left after
word_took_any r after p w h taken = record { place = p; first = (word_took r after p w h taken).first }

pub some_next : (r : Reading) → IsSome (next_of word_in r) → IsSome (next r.left)
unfolding next_of
some_next r h = go (next r.left) h where
  go : (o : Option Token) → IsSome (elim o [ Some t ↦ word_in t | None ↦ None ]) → IsSome o
  go (Some t) h = refl
  go None h = cc

a_text : (t : Token) (x : Text) → text_in t ≡ Some x → t ≡ token.Text x
unfolding text_in
a_text (token.Name _) n h = cc
a_text (token.Number _) n h = cc
a_text (token.Text _) n h = cc
a_text (token.Word _) n h = cc
a_text (token.Mark _) n h = cc
a_text (token.Operator _) n h = cc

pub text_took : (r : Reading) (after : List Placed) (p : Place) (x : Text) → next_of text_in r ≡ Some x → ((t : Token) → next r.left ≡ Some t → Takes t p r.left after) → Takes (token.Text x) p r.left after
text_took r after p x h taken = let s = of_next text_in r x h in taken (token.Text x) (s.1 ∙ ap (λ t. Some t) (a_text s.0 x s.2))
