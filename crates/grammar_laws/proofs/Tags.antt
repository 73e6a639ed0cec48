-- What a test of a token tells of it.
use Rattle.std.proofs.Common.{◌≡◌, ℕ, true, false, eqb, refl, sym, ap, ◌∙◌, rules}
use denote.Enum.Bare.{sameb, same_true}
use denote.Enum.Declared.{tag_of}
use Rattle.thread_tree.specs.contracts.token.Mark as mark_type
use Rattle.thread_tree.specs.contracts.token.Word as word_type
use Rattle.thread_tree.specs.declared.expr.Op.{Op}
use Rattle.thread_tree.specs.declared.expr.Op.TheVariants.{Not, Flip}
use Rattle.thread_tree.specs.declared.name.Text.{Text}
use Rattle.thread_tree.specs.declared.token.Mark.{Mark}
use Rattle.thread_tree.specs.declared.token.Mark.TheVariants as mark
use Rattle.thread_tree.specs.declared.token.Token.{Token}
use Rattle.thread_tree.specs.declared.token.Token.TheVariants as token
use Rattle.thread_tree.specs.declared.token.Word.{Word}
use Rattle.thread_tree.specs.declared.token.Word.TheVariants as word
use Rattle.thread_tree.specs.Grammar.{mark_number, word_number, is_mark, is_word, is_name, is_number, is_text, is_prefix, is_between, prefixes}

-- a mark, or word, has the number of its variant
mark_tag : (m : Mark) → tag_of mark_type.the_type m ≡ mark_number m
unfolding mark_number
mark_tag mark.OpenBrace = refl
mark_tag _ = refl

word_tag : (w : Word) → tag_of word_type.the_type w ≡ word_number w
unfolding word_number
word_tag word.Type = refl
word_tag _ = refl

-- a test of two marks, or words, is that of a token that is one
pub same_mark : (found mark : Mark) → sameb mark_type.the_type mark found ≡ is_mark mark (token.Mark found)
unfolding is_mark
same_mark found mark = ap (λ n. eqb n (tag_of mark_type.the_type found)) (mark_tag mark) ∙ ap (λ n. eqb (mark_number mark) n) (mark_tag found)

pub same_word : (found word : Word) → sameb word_type.the_type word found ≡ is_word word (token.Word found)
unfolding is_word
same_word found word = ap (λ n. eqb n (tag_of word_type.the_type found)) (word_tag word) ∙ ap (λ n. eqb (word_number word) n) (word_tag found)

-- a token that is this mark, or word
pub is_the_mark : (mark : Mark) (t : Token) → is_mark mark t ≡ true → t ≡ token.Mark mark
is_the_mark mark (token.Mark found) h = sym (ap (λ m. token.Mark m) (same_true mark_type.the_type (search rules) mark found (same_mark found mark ∙ h)))
is_the_mark mark _ h = unfold is_mark in cc

pub is_the_word : (word : Word) (t : Token) → is_word word t ≡ true → t ≡ token.Word word
is_the_word word (token.Word found) h = sym (ap (λ w. token.Word w) (same_true word_type.the_type (search rules) word found (same_word found word ∙ h)))
is_the_word word _ h = unfold is_word in cc

-- a name, a number, a string
pub is_the_name : (t : Token) → is_name t ≡ true → (n : ℕ) × (t ≡ token.Name n)
unfolding is_name
is_the_name (token.Name n) h = (n, refl)
is_the_name _ h = absurd (cc)

pub is_the_number : (t : Token) → is_number t ≡ true → (n : ℕ) × (t ≡ token.Number n)
unfolding is_number
is_the_number (token.Number n) h = (n, refl)
is_the_number _ h = absurd (cc)

pub is_the_text : (t : Token) → is_text t ≡ true → (x : Text) × (t ≡ token.Text x)
unfolding is_text
is_the_text (token.Text x) h = (x, refl)
is_the_text _ h = absurd (cc)

-- a prefix, an operator between two operands
pub is_the_prefix : (t : Token) → is_prefix t ≡ true → (op : Op) × (t ≡ token.Operator op) × (prefixes op ≡ true)
unfolding is_prefix
is_the_prefix (token.Operator op) h = (op, refl, h)
is_the_prefix _ h = absurd (cc)

pub is_the_operator : (t : Token) → is_between t ≡ true → (op : Op) × (t ≡ token.Operator op) × (prefixes op ≡ false)
unfolding is_between prefixes
is_the_operator (token.Operator Not) h = absurd (cc)
is_the_operator (token.Operator Flip) h = absurd (cc)
is_the_operator (token.Operator op) h = (op, refl, refl)
is_the_operator _ h = absurd (cc)
