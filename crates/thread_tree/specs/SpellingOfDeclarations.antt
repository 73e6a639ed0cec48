-- Which tokens spell the declarations of a program.
use Rattle.std.specs.Prelude.{List, [], ◌∷◌, Option, Some, None}
use Rattle.thread_tree.specs.declared.place.At.{At}
use Rattle.thread_tree.specs.declared.place.Num.{Num}
use Rattle.thread_tree.specs.declared.place.Place.{Place}
use Rattle.thread_tree.specs.declared.token.Mark.TheVariants as mark
use Rattle.thread_tree.specs.declared.token.Placed.{Placed}
use Rattle.thread_tree.specs.declared.token.Token.TheVariants as token
use Rattle.thread_tree.specs.declared.token.Word.TheVariants as word
use Rattle.thread_tree.specs.Spelling.{Placing, Takes, TakesAny, TakesMark, SpellsNameBy, SpellsNamesBy, SpellsNumberBy, Separated}
use Rattle.thread_tree.specs.declared.block.Block.{Block}
use Rattle.thread_tree.specs.declared.tree.Decl.{Decl}
use Rattle.thread_tree.specs.declared.tree.Decl.TheVariants as decl
use Rattle.thread_tree.specs.SpellingOfBlocks.{SpellsBlockBy}

-- parameters in parentheses, without the opening one
pub data SpellsParametersBy (T : Placing) : List Placed → List Placed → List At → Type 0 where
  no_parameters : {before after : List Placed} → TakesMark mark.CloseParenthesis before after → SpellsParametersBy T before after []
  parameters : {before a after : List Placed} {names : List At} → SpellsNamesBy T before a names → TakesMark mark.CloseParenthesis a after → SpellsParametersBy T before after names

-- numbers in parentheses, without the opening one
pub data SpellsNumbersBy (T : Placing) : List Placed → List Placed → List Num → Type 0 where
  no_numbers : {before after : List Placed} → TakesMark mark.CloseParenthesis before after → SpellsNumbersBy T before after []
  numbers : {before a after : List Placed} {ns : List Num} → Separated (SpellsNumberBy T) before a ns → TakesMark mark.CloseParenthesis a after → SpellsNumbersBy T before after ns

-- the end of a queue's declaration, with its input channel where it has one
pub data SpellsChannelBy (T : Placing) : List Placed → List Placed → Option Num → Type 0 where
  no_channel : {before after : List Placed} → TakesMark mark.Semicolon before after → SpellsChannelBy T before after None
  channel : {before a b after : List Placed} {n : Num} → TakesAny (token.Word word.Input) before a → SpellsNumberBy T a b n → TakesMark mark.Semicolon b after → SpellsChannelBy T before after (Some n)

-- a declaration
pub data SpellsDeclBy (T : Placing) : List Placed → List Placed → Decl → Type 0 where
  kind : {before a b c d after : List Placed} {name : At} {fields : List At} → TakesAny (token.Word word.Type) before a → SpellsNameBy T a b name → TakesMark mark.OpenBrace b c → SpellsNamesBy T c d fields → TakesMark mark.CloseBrace d after → SpellsDeclBy T before after (decl.Kind name fields)
  object : {before a b c d after : List Placed} {name kind : At} → TakesAny (token.Word word.Object) before a → SpellsNameBy T a b name → TakesMark mark.Colon b c → SpellsNameBy T c d kind → TakesMark mark.Semicolon d after → SpellsDeclBy T before after (decl.Object name kind)
  queue : {before a b c d f after : List Placed} {name : At} {capacity : Num} {end : Option Num} → TakesAny (token.Word word.Queue) before a → SpellsNameBy T a b name → TakesMark mark.OpenBracket b c → SpellsNumberBy T c d capacity → TakesMark mark.CloseBracket d f → SpellsChannelBy T f after end → SpellsDeclBy T before after (decl.Queue name capacity end)
  semaphore : {before a b c d f g after : List Placed} {name : At} {start most : Num} → TakesAny (token.Word word.Semaphore) before a → SpellsNameBy T a b name → TakesMark mark.Equals b c → SpellsNumberBy T c d start → TakesAny (token.Word word.Max) d f → SpellsNumberBy T f g most → TakesMark mark.Semicolon g after → SpellsDeclBy T before after (decl.Semaphore name start most)
  function : {before a b c d after : List Placed} {name : At} {names : List At} {body : Block} → TakesAny (token.Word word.Fn) before a → SpellsNameBy T a b name → TakesMark mark.OpenParenthesis b c → SpellsParametersBy T c d names → SpellsBlockBy T d after body → SpellsDeclBy T before after (decl.Function name names body)
  thread : {before a b c d f g after : List Placed} {name : At} {names : List At} {priority : Num} {body : Block} → TakesAny (token.Word word.Thread) before a → SpellsNameBy T a b name → TakesMark mark.OpenParenthesis b c → SpellsParametersBy T c d names → TakesAny (token.Word word.Priority) d f → SpellsNumberBy T f g priority → SpellsBlockBy T g after body → SpellsDeclBy T before after (decl.Thread name names priority body)
  start : {before a b c d after : List Placed} {place : Place} {name : At} {ns : List Num} → T (token.Word word.Start) place before a → SpellsNameBy T a b name → TakesMark mark.OpenParenthesis b c → SpellsNumbersBy T c d ns → TakesMark mark.Semicolon d after → SpellsDeclBy T before after (decl.Start place name ns)

-- declarations one after another
pub data SpellsDeclsBy (T : Placing) : List Placed → List Placed → List Decl → Type 0 where
  no_decls : {before : List Placed} → SpellsDeclsBy T before before []
  decls : {before a after : List Placed} {d : Decl} {rest : List Decl} → SpellsDeclBy T before a d → SpellsDeclsBy T a after rest → SpellsDeclsBy T before after (d ∷ rest)

-- the tokens are a program with these declarations
abbrev pub SpellsProgramBy : Placing → List Placed → List Decl → Type 0
SpellsProgramBy T tokens program = SpellsDeclsBy T tokens [] program

-- the same with each token at the place that the tree has for it
abbrev pub SpellsParameters : List Placed → List Placed → List At → Type 0
SpellsParameters = SpellsParametersBy Takes

abbrev pub SpellsNumbers : List Placed → List Placed → List Num → Type 0
SpellsNumbers = SpellsNumbersBy Takes

abbrev pub SpellsChannel : List Placed → List Placed → Option Num → Type 0
SpellsChannel = SpellsChannelBy Takes

abbrev pub SpellsDecl : List Placed → List Placed → Decl → Type 0
SpellsDecl = SpellsDeclBy Takes

abbrev pub SpellsDecls : List Placed → List Placed → List Decl → Type 0
SpellsDecls = SpellsDeclsBy Takes

abbrev pub SpellsProgram : List Placed → List Decl → Type 0
SpellsProgram = SpellsProgramBy Takes
