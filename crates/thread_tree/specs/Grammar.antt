-- The grammar as a table: which token may stand at the beginning of a part, and what follows it.
use Rattle.std.specs.Prelude.{◌≡◌, ℕ, Bool, true, false, if◌then◌else◌, ◌==◌, List, [], ◌∷◌, ◌++◌, Option, Some, None}
use Rattle.thread_tree.specs.declared.expr.Op.{Op}
use Rattle.thread_tree.specs.declared.expr.Op.TheVariants.{Not, Flip}
use Rattle.thread_tree.specs.declared.token.Mark.{Mark}
use Rattle.thread_tree.specs.declared.token.Mark.TheVariants.{OpenBrace, CloseBrace, OpenParenthesis, CloseParenthesis, OpenBracket, CloseBracket, Semicolon, Comma, Colon, Dot, Equals, Arrow}
use Rattle.thread_tree.specs.declared.token.Token.{Token}
use Rattle.thread_tree.specs.declared.token.Token.TheVariants as token
use Rattle.thread_tree.specs.declared.slot.Slot.{Slot}
use Rattle.thread_tree.specs.declared.slot.Slot.TheVariants.{Name, Value, Whom, Items, Application}
use Rattle.thread_tree.specs.declared.token.Word.{Word}
use Rattle.thread_tree.specs.declared.token.Word.TheVariants as word
use Rattle.thread_tree.specs.Pieces.{shape}
use Rattle.thread_tree.specs.Parts.{Part, TheMark, TheWord, AName, ANumber, MoreNames, Channel, Parameters, Numbers, MoreNumbers, ABlock, Statements, Otherwise, AfterName, Assigned, AfterAssigned, Returned, AtomicTo, To, AnItem, MoreItems, Arguments, MoreExpressions, AWho, ATBlock, TStatements, TOtherwise, AfterTName, TAssigned, MoreField, Values, Expression, Inner, After, Dots, MoreDots}

-- a number of its own for each mark
unfoldable pub mark_number : Mark → ℕ
mark_number OpenBrace = 0
mark_number CloseBrace = 1
mark_number OpenParenthesis = 2
mark_number CloseParenthesis = 3
mark_number OpenBracket = 4
mark_number CloseBracket = 5
mark_number Semicolon = 6
mark_number Comma = 7
mark_number Colon = 8
mark_number Dot = 9
mark_number Equals = 10
mark_number Arrow = 11

-- a number of its own for each word
unfoldable pub word_number : Word → ℕ
word_number word.Type = 0
word_number word.Object = 1
word_number word.Queue = 2
word_number word.Input = 3
word_number word.Semaphore = 4
word_number word.Max = 5
word_number word.Fn = 6
word_number word.Thread = 7
word_number word.Priority = 8
word_number word.Start = 9
word_number word.Let = 10
word_number word.If = 11
word_number word.Else = 12
word_number word.While = 13
word_number word.Ploop = 14
word_number word.Break = 15
word_number word.Return = 16
word_number word.Atomic = 17
word_number word.Give = 18
word_number word.Abort = 19
word_number word.New = 20
word_number word.Free = 21
word_number word.Spawn = 22
word_number word.Delete = 23
word_number word.Delay = 24
word_number word.Setprio = 25
word_number word.Getprio = 26
word_number word.Own = 27
word_number word.Send = 28
word_number word.Receive = 29
word_number word.Take = 30
word_number word.Print = 31
word_number word.Now = 32
word_number word.Yield = 33
word_number word.Waiting = 34

-- whether the token is this mark, this word, a name, a number, a string
unfoldable pub is_mark : Mark → Token → Bool
is_mark mark (token.Mark found) = mark_number mark == mark_number found
is_mark mark _ = false

unfoldable pub is_word : Word → Token → Bool
is_word word (token.Word found) = word_number word == word_number found
is_word word _ = false

unfoldable pub is_name : Token → Bool
is_name (token.Name _) = true
is_name _ = false

unfoldable pub is_number : Token → Bool
is_number (token.Number _) = true
is_number _ = false

unfoldable pub is_text : Token → Bool
is_text (token.Text _) = true
is_text _ = false

-- whether the operator is a prefix, and not one between two operands
unfoldable pub prefixes : Op → Bool
prefixes Not = true
prefixes Flip = true
prefixes _ = false

-- whether the token is a prefix, an operator between two operands
unfoldable pub is_prefix : Token → Bool
is_prefix (token.Operator op) = prefixes op
is_prefix _ = false

unfoldable pub is_between : Token → Bool
is_between (token.Operator op) = if prefixes op then false else true
is_between _ = false

-- what follows the first word of a declaration
unfoldable pub declared_by : Word → Option (List Part)
declared_by word.Type = Some (AName ∷ TheMark OpenBrace ∷ AName ∷ MoreNames (TheMark CloseBrace) ∷ [])
declared_by word.Object = Some (AName ∷ TheMark Colon ∷ AName ∷ TheMark Semicolon ∷ [])
declared_by word.Queue = Some (AName ∷ TheMark OpenBracket ∷ ANumber ∷ TheMark CloseBracket ∷ Channel ∷ [])
declared_by word.Semaphore = Some (AName ∷ TheMark Equals ∷ ANumber ∷ TheWord word.Max ∷ ANumber ∷ TheMark Semicolon ∷ [])
declared_by word.Fn = Some (AName ∷ TheMark OpenParenthesis ∷ Parameters ∷ ABlock ∷ [])
declared_by word.Thread = Some (AName ∷ TheMark OpenParenthesis ∷ Parameters ∷ TheWord word.Priority ∷ ANumber ∷ ABlock ∷ [])
declared_by word.Start = Some (AName ∷ TheMark OpenParenthesis ∷ Numbers ∷ TheMark Semicolon ∷ [])
declared_by _ = None

-- what follows the word of a call with these places, up to its end
abbrev pub row : List Slot → List Part
row [] = To ∷ []
row (Name needed ∷ []) = AName ∷ To ∷ []
row (Name needed ∷ slot ∷ slots) = AName ∷ TheMark Comma ∷ row (slot ∷ slots)
row (Value ∷ []) = Expression false To ∷ []
row (Value ∷ slot ∷ slots) = Expression false (TheMark Comma) ∷ row (slot ∷ slots)
row (Whom ∷ []) = AWho To ∷ []
row (Whom ∷ slot ∷ slots) = AWho (TheMark Comma) ∷ row (slot ∷ slots)
row (Items ∷ slots) = AnItem ∷ []
row (Application ∷ slots) = AName ∷ TheMark OpenParenthesis ∷ Arguments ∷ To ∷ []

-- what follows the first word of a statement that is no call: it, and the further statements
unfoldable pub plain_by : Word → Option (List Part)
plain_by word.Let = Some (AName ∷ TheMark Equals ∷ Expression false (TheMark Semicolon) ∷ Statements ∷ [])
plain_by word.If = Some (Expression false ABlock ∷ Otherwise ∷ [])
plain_by word.While = Some (Expression false ABlock ∷ Statements ∷ [])
plain_by word.Ploop = Some (ABlock ∷ Statements ∷ [])
plain_by word.Break = Some (TheMark Semicolon ∷ Statements ∷ [])
plain_by word.Return = Some (Returned ∷ Statements ∷ [])
plain_by word.Atomic = Some (AtomicTo ∷ Statements ∷ [])
plain_by _ = None

-- what follows the first word of a statement, a call by the places behind its word
unfoldable pub stated_by : Word → Option (List Part)
stated_by w = elim (shape w) [ Some slots ↦ Some (row slots ++ Statements ∷ []) | None ↦ plain_by w ]

-- the same for the statements of a transaction
unfoldable pub transacted_by : Word → Option (List Part)
transacted_by word.Let = Some (AName ∷ TheMark Equals ∷ TAssigned ∷ TStatements ∷ [])
transacted_by word.Free = Some (Expression true (TheMark Semicolon) ∷ TStatements ∷ [])
transacted_by word.If = Some (Expression true ATBlock ∷ TOtherwise ∷ [])
transacted_by word.While = Some (Expression true ATBlock ∷ TStatements ∷ [])
transacted_by word.Break = Some (TheMark Semicolon ∷ TStatements ∷ [])
transacted_by word.Abort = Some (TheMark Semicolon ∷ TStatements ∷ [])
transacted_by word.Give = Some (Values ∷ TStatements ∷ [])
transacted_by _ = None

-- what follows a name in an operand: where fields may be read, those
unfoldable pub behind_name : Bool → Part → Part
behind_name true next = Dots next
behind_name false next = After false next

-- what follows an operand's first token
unfoldable pub operand : Bool → Part → Token → Option (List Part)
operand fields next t =
    if is_number t then Some (After fields next ∷ []) else (if is_name t then Some (behind_name fields next ∷ []) else (if is_mark OpenParenthesis t then Some (Inner fields (TheMark CloseParenthesis) ∷ After fields next ∷ []) else (if is_prefix t then Some (Inner fields next ∷ []) else None)))

-- what follows a token of a further statement, or the closing brace
unfoldable pub statement : Token → Option (List Part)
statement (token.Word w) = stated_by w
statement (token.Name _) = Some (AfterName ∷ Statements ∷ [])
statement (token.Mark CloseBrace) = Some []
statement _ = None

-- the same in a transaction
unfoldable pub tstatement : Token → Option (List Part)
tstatement (token.Word w) = transacted_by w
tstatement (token.Name _) = Some (AfterTName ∷ TStatements ∷ [])
tstatement (token.Mark CloseBrace) = Some []
tstatement _ = None

-- what follows the first token of a call's end: the names after an arrow, or nothing
unfoldable pub call_end : Token → Option (List Part)
call_end t = if is_mark Arrow t then Some (AName ∷ MoreNames (TheMark Semicolon) ∷ []) else (if is_mark Semicolon t then Some [] else None)

-- what follows a token at the beginning of a part, or `None` where the token can't stand there
unfoldable pub turn : Part → Token → Option (List Part)
turn (TheMark mark) t = if is_mark mark t then Some [] else None
turn (TheWord word) t = if is_word word t then Some [] else None
turn AName t = if is_name t then Some [] else None
turn ANumber t = if is_number t then Some [] else None
turn (MoreNames next) t = if is_mark Comma t then Some (AName ∷ MoreNames next ∷ []) else turn next t
turn Channel t =
    if is_word word.Input t then Some (ANumber ∷ TheMark Semicolon ∷ []) else (if is_mark Semicolon t then Some [] else None)
turn Parameters t =
    if is_mark CloseParenthesis t then Some [] else (if is_name t then Some (MoreNames (TheMark CloseParenthesis) ∷ []) else None)
turn Numbers t =
    if is_mark CloseParenthesis t then Some [] else (if is_number t then Some (MoreNumbers ∷ []) else None)
turn MoreNumbers t =
    if is_mark Comma t then Some (ANumber ∷ MoreNumbers ∷ []) else (if is_mark CloseParenthesis t then Some [] else None)
turn ABlock t = if is_mark OpenBrace t then Some (Statements ∷ []) else None
turn Statements t = statement t
turn Otherwise t = if is_word word.Else t then Some (ABlock ∷ Statements ∷ []) else statement t
turn AfterName t =
    if is_mark OpenParenthesis t then Some (Arguments ∷ TheMark Semicolon ∷ []) else (if is_mark Equals t then Some (Assigned ∷ []) else None)
turn Assigned t = if is_name t then Some (AfterAssigned ∷ []) else operand false (TheMark Semicolon) t
turn AfterAssigned t =
    if is_mark OpenParenthesis t then Some (Arguments ∷ TheMark Semicolon ∷ []) else (if is_between t then Some (Inner false (TheMark Semicolon) ∷ []) else (if is_mark Semicolon t then Some [] else None))
turn Returned t = if is_mark Semicolon t then Some [] else operand false (TheMark Semicolon) t
turn AtomicTo t =
    if is_mark Arrow t then Some (AName ∷ MoreNames ATBlock ∷ []) else (if is_mark OpenBrace t then Some (TStatements ∷ []) else None)
turn To t = call_end t
turn AnItem t = if is_text t then Some (MoreItems ∷ []) else operand false MoreItems t
turn MoreItems t = if is_mark Comma t then Some (AnItem ∷ []) else call_end t
turn Arguments t =
    if is_mark CloseParenthesis t then Some [] else operand false (MoreExpressions false (TheMark CloseParenthesis)) t
turn (MoreExpressions fields next) t =
    if is_mark Comma t then Some (Expression fields (MoreExpressions fields next) ∷ []) else turn next t
turn (AWho next) t = if is_word word.Own t then Some (next ∷ []) else operand false next t
turn ATBlock t = if is_mark OpenBrace t then Some (TStatements ∷ []) else None
turn TStatements t = tstatement t
turn TOtherwise t = if is_word word.Else t then Some (ATBlock ∷ TStatements ∷ []) else tstatement t
turn AfterTName t =
    if is_mark Equals t then Some (TAssigned ∷ []) else (if is_mark Dot t then Some (AName ∷ MoreField ∷ []) else None)
turn TAssigned t = if is_word word.New t then Some (AName ∷ TheMark Semicolon ∷ []) else operand true (TheMark Semicolon) t
turn MoreField t =
    if is_mark Dot t then Some (AName ∷ TheMark Equals ∷ Expression true (TheMark Semicolon) ∷ []) else (if is_mark Equals t then Some (Expression true (TheMark Semicolon) ∷ []) else None)
turn Values t = if is_mark Semicolon t then Some [] else operand true (MoreExpressions true (TheMark Semicolon)) t
turn (Expression fields next) t = operand fields next t
turn (Inner fields next) t = operand fields next t
turn (After fields next) t = if is_between t then Some (Inner fields next ∷ []) else turn next t
turn (Dots next) t =
    if is_mark Dot t then Some (AName ∷ MoreDots next ∷ []) else (if is_between t then Some (Inner true next ∷ []) else turn next t)
turn (MoreDots next) t =
    if is_mark Dot t then Some (AName ∷ After true next ∷ []) else (if is_between t then Some (Inner true next ∷ []) else turn next t)

-- what follows a token where nothing is owed: a declaration begins
unfoldable pub declared : Token → Option (List Part)
declared (token.Word w) = declared_by w
declared _ = None

-- what is owed after a token: the first part takes it
unfoldable pub advance : List Part → Token → Option (List Part)
advance [] t = declared t
advance (part ∷ parts) t = elim (turn part t) [ Some first ↦ Some (first ++ parts) | None ↦ None ]

-- what the tokens have to be, one after another, so that nothing is owed at their end
pub data Spells : List Part → List Token → Type 0 where
  nothing : Spells [] []
  goes_on : {parts after : List Part} {t : Token} {ts : List Token} → advance parts t ≡ Some after → Spells after ts → Spells parts (t ∷ ts)

-- the tokens are a program
abbrev pub IsProgram : List Token → Type 0
IsProgram tokens = Spells [] tokens

-- some tokens can follow these, so that both together are a program
abbrev pub IsOpen : List Token → Type 0
IsOpen tokens = (more : List Token) × IsProgram (tokens ++ more)
