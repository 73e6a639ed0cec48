-- What each part that the table may owe means for the tokens that pay it. A part that goes on with something begun
-- says what becomes of whatever thing of that kind ends where it begins.
use Rattle.std.proofs.Common.{◌≡◌, Bool, true, false, List, [], ◌∷◌, ◌++◌, Option, Some, None, refl, ap, if◌then◌else◌}
use Rattle.thread_tree.specs.declared.action.Item.{Item}
use Rattle.thread_tree.specs.declared.block.Block.{Block}
use Rattle.thread_tree.specs.declared.expr.Expr.{Expr}
use Rattle.thread_tree.specs.declared.place.At.{At}
use Rattle.thread_tree.specs.declared.place.Num.{Num}
use Rattle.thread_tree.specs.declared.place.Place.{Place}
use Rattle.thread_tree.specs.declared.token.Mark.{Mark}
use Rattle.thread_tree.specs.declared.token.Mark.TheVariants as mark
use Rattle.thread_tree.specs.declared.token.Placed.{Placed}
use Rattle.thread_tree.specs.declared.token.Token.{Token}
use Rattle.thread_tree.specs.declared.token.Token.TheVariants as token
use Rattle.thread_tree.specs.declared.token.Word.{Word}
use Rattle.thread_tree.specs.declared.token.Word.TheVariants as word
use Rattle.grammar_laws.proofs.Tags.{is_the_mark, is_the_word, is_the_name, is_the_number}
use Rattle.thread_tree.specs.declared.transaction.TBlock.{TBlock}
use Rattle.thread_tree.specs.Grammar.{turn, is_mark, is_word, is_name, is_number}
use Rattle.grammar_laws.specs.Open.{HasProgram}
use Rattle.thread_tree.specs.Parts.{Part, TheMark, TheWord, AName, ANumber, MoreNames, Channel, Parameters, Numbers, MoreNumbers, ABlock, Statements, Otherwise, AfterName, Assigned, AfterAssigned, Returned, AtomicTo, To, AnItem, MoreItems, Arguments, MoreExpressions, AWho, ATBlock, TStatements, TOtherwise, AfterTName, TAssigned, MoreField, Values, Expression, Inner, After, Dots, MoreDots}
use Rattle.thread_tree.specs.Spelling.{Takes, TakesAny, TakesMark, SpellsName, SpellsNames, SpellsNumber, SpellsLevel, SpellsExpr, Separated}
use Rattle.thread_tree.specs.SpellingOfCalls.{SpellsItem, SpellsWho, SpellsArguments, SpellsResults}
use Rattle.thread_tree.specs.SpellingOfTransactions.{SpellsValues, SpellsTBlock, SpellsTStmts, SpellsTStmt}
use Rattle.thread_tree.specs.SpellingOfBlocks.{SpellsGiven, SpellsBlock, SpellsStmts, SpellsStmt}
use Rattle.thread_tree.specs.SpellingOfDeclarations.{SpellsChannel, SpellsParameters, SpellsNumbers}

-- what tokens from one list on, up to another, may be
abbrev pub Span : Type 1
Span = List Placed → List Placed → Type 0

-- a thing of a kind
abbrev pub Thing : {X : Type 0} → (List Placed → List Placed → X → Type 0) → Span
Thing {X = X} One before after = (x : X) × One before after x

-- a thing of a kind, then what comes next
abbrev pub Then : {X : Type 0} → (List Placed → List Placed → X → Type 0) → Span → Span
Then {X = X} One Next before after = (middle : List Placed) × (x : X) × One before middle x × Next middle after

-- what may follow an expression: with any that ends there it is an expression, then what comes next
abbrev pub Joins : Bool → Span → Span
Joins fields Next before after = (start : List Placed) (e : Expr) → SpellsExpr fields start before e → Then (SpellsExpr fields) Next start after

-- an operand, then what may follow an expression
abbrev pub Operand : Bool → Span → Span
Operand fields Next = Then (SpellsLevel fields 8) (Joins fields Next)

-- statements, then the brace that closes their block
abbrev pub Inside : Span
Inside = Then SpellsStmts (TakesMark mark.CloseBrace)

abbrev pub TInside : Span
TInside = Then SpellsTStmts (TakesMark mark.CloseBrace)

-- what a local of a transaction may get: the value of an expression, or a new object
pub data ToStore (before after : List Placed) : Type 0 where
  a_value : Then (SpellsExpr true) (TakesMark mark.Semicolon) before after → ToStore before after
  an_object : {middle : List Placed} → TakesAny (token.Word word.New) before middle → Then SpellsName (TakesMark mark.Semicolon) middle after → ToStore before after

-- what a part means
abbrev pub Means : Part → Span
Means (TheMark m) = TakesMark m
Means (TheWord w) = TakesAny (token.Word w)
Means AName = Thing SpellsName
Means ANumber = Thing SpellsNumber
Means (MoreNames next) = λ before after. (start : List Placed) (n : At) → SpellsName start before n → Then SpellsNames (Means next) start after
Means Channel = Thing SpellsChannel
Means Parameters = Thing SpellsParameters
Means Numbers = Thing SpellsNumbers
Means MoreNumbers = λ before after. (start : List Placed) (n : Num) → SpellsNumber start before n → Then (Separated SpellsNumber) (TakesMark mark.CloseParenthesis) start after
Means ABlock = Thing SpellsBlock
Means Statements = Inside
Means Otherwise = λ before after. (start a b : List Placed) (e : Expr) (inside : Block) → TakesAny (token.Word word.If) start a → SpellsExpr false a b e → SpellsBlock b before inside → Inside start after
Means AfterName = λ before after. (start : List Placed) (n : At) → SpellsName start before n → Thing SpellsStmt start after
Means Assigned = λ before after. (start a : List Placed) (n : At) → SpellsName start a n → TakesMark mark.Equals a before → Thing SpellsStmt start after
Means AfterAssigned = λ before after. (start a b : List Placed) (n m : At) → SpellsName start a n → TakesMark mark.Equals a b → SpellsName b before m → Thing SpellsStmt start after
Means Returned = λ before after. (start : List Placed) (place : Place) → Takes (token.Word word.Return) place start before → Thing SpellsStmt start after
Means AtomicTo = Then SpellsGiven (Thing SpellsTBlock)
Means To = Thing SpellsResults
Means AnItem = Then (Separated SpellsItem) (Thing SpellsResults)
Means MoreItems = λ before after. (start : List Placed) (x : Item) → SpellsItem start before x → Then (Separated SpellsItem) (Thing SpellsResults) start after
Means Arguments = Thing SpellsArguments
Means (MoreExpressions fields next) = λ before after. (start : List Placed) (e : Expr) → SpellsExpr fields start before e → Then (Separated (SpellsExpr fields)) (Means next) start after
Means (AWho next) = Then SpellsWho (Means next)
Means ATBlock = Thing SpellsTBlock
Means TStatements = TInside
Means TOtherwise = λ before after. (start a b : List Placed) (e : Expr) (inside : TBlock) → TakesAny (token.Word word.If) start a → SpellsExpr true a b e → SpellsTBlock b before inside → TInside start after
Means AfterTName = λ before after. (start : List Placed) (n : At) → SpellsName start before n → Thing SpellsTStmt start after
Means TAssigned = ToStore
Means MoreField = λ before after. (start a b : List Placed) (object member : At) → SpellsName start a object → TakesMark mark.Dot a b → SpellsName b before member → Thing SpellsTStmt start after
Means Values = Thing SpellsValues
Means (Expression fields next) = Then (SpellsExpr fields) (Means next)
Means (Inner fields next) = Operand fields (Means next)
Means (After fields next) = Joins fields (Means next)
Means (Dots next) = λ before after. (start : List Placed) (n : At) → SpellsName start before n → Operand true (Means next) start after
Means (MoreDots next) = λ before after. (start a b : List Placed) (object member : At) → SpellsName start a object → TakesMark mark.Dot a b → SpellsName b before member → Operand true (Means next) start after

-- the parts one after another, and declarations to the end of the text
abbrev pub Whole : List Part → List Placed → Type 0
Whole [] before = HasProgram before
Whole (part ∷ parts) before = (middle : List Placed) × Means part before middle × Whole parts middle

-- the same with what a token turned the first part into
abbrev pub Turned : Option (List Part) → List Part → List Placed → Type 0
Turned None parts rest = ⊥
Turned (Some first) parts rest = Whole (first ++ parts) rest

-- what is to be shown of a row of the table
abbrev pub Row : Part → List Part → Placed → List Placed → Type 0
Row part parts p rest = Turned (turn part p.token) parts rest → Whole (part ∷ parts) (p ∷ rest)

-- a choice of the table
pub choose : {P : Type 0} (b : Bool) (x y : Option (List Part)) (parts : List Part) (rest : List Placed) → Turned (if b then x else y) parts rest → (b ≡ true → Turned x parts rest → P) → (Turned y parts rest → P) → P
choose true x y parts rest h f g = f refl h
choose false x y parts rest h f g = g h

-- a token that stands first
pub took_at : (p : Placed) (rest : List Placed) (t : Token) → p.token ≡ t → Takes t p.place (p ∷ rest) rest
took_at p rest t is = record { first = ap (λ t. record { token = t; place = p.place } ∷ rest) is }

pub took : (p : Placed) (rest : List Placed) (t : Token) → p.token ≡ t → TakesAny t (p ∷ rest) rest
took p rest t is = record { place = p.place; first = ap (λ t. record { token = t; place = p.place } ∷ rest) is }

pub took_mark : (m : Mark) (p : Placed) (rest : List Placed) → is_mark m p.token ≡ true → TakesMark m (p ∷ rest) rest
took_mark m p rest e = took p rest (token.Mark m) (is_the_mark m p.token e)

pub took_word : (w : Word) (p : Placed) (rest : List Placed) → is_word w p.token ≡ true → TakesAny (token.Word w) (p ∷ rest) rest
took_word w p rest e = took p rest (token.Word w) (is_the_word w p.token e)

pub took_name : (p : Placed) (rest : List Placed) → is_name p.token ≡ true → Thing SpellsName (p ∷ rest) rest
took_name p rest e = let n = is_the_name p.token e in (record { name = n.0; place = p.place }, took_at p rest (token.Name n.0) n.1)

pub took_number : (p : Placed) (rest : List Placed) → is_number p.token ≡ true → Thing SpellsNumber (p ∷ rest) rest
took_number p rest e = let n = is_the_number p.token e in (record { value = n.0; place = p.place }, took_at p rest (token.Number n.0) n.1)
