-- What a token holds, by its kind.
use Rattle.std.specs.Prelude.{ℕ, Option, Some, None}
use Rattle.thread_tree.specs.declared.expr.Op.{Op}
use Rattle.thread_tree.specs.declared.name.Text.{Text}
use Rattle.thread_tree.specs.declared.token.Token.{Token}
use Rattle.thread_tree.specs.declared.token.Token.TheVariants as token
use Rattle.thread_tree.specs.declared.token.Word.{Word}

-- its name, where it is one
unfoldable pub name_in : Token → Option ℕ
name_in (token.Name x) = Some x
name_in _ = None

-- its number, where it is one
unfoldable pub number_in : Token → Option ℕ
number_in (token.Number x) = Some x
number_in _ = None

-- its word, where it is one
unfoldable pub word_in : Token → Option Word
word_in (token.Word x) = Some x
word_in _ = None

-- its operator, where it is one
unfoldable pub operator_in : Token → Option Op
operator_in (token.Operator x) = Some x
operator_in _ = None

-- its string, where it is one
unfoldable pub text_in : Token → Option Text
text_in (token.Text x) = Some x
text_in _ = None
