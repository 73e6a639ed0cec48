-- How the words, the marks and the operators are spelled.
use Rattle.std.specs.Prelude.{ℕ, List, [], ◌∷◌, codes}
use Rattle.thread_tree.specs.declared.token.Word.{Word}
use Rattle.thread_tree.specs.declared.token.Word.TheVariants.{«Type», Object, Queue, Input, Semaphore, Max, Fn, Thread, Priority, Start, Let, If, Else, While, Ploop, Break, Return, Atomic, Give, Abort, New, Free, Spawn, Delete, Delay, Setprio, Getprio, Own, Send, Receive, Take, Print, Now, Yield, Waiting}
use Rattle.thread_tree.specs.declared.token.Mark.{Mark}
use Rattle.thread_tree.specs.declared.token.Mark.TheVariants.{OpenBrace, CloseBrace, OpenParenthesis, CloseParenthesis, OpenBracket, CloseBracket, Semicolon, Comma, Colon, Dot, Equals, Arrow}
use Rattle.thread_tree.specs.declared.expr.Op.{Op}
use Rattle.thread_tree.specs.declared.expr.Op.TheVariants.{Or, Xor, And, Same, Other, Less, AtMost, More, AtLeast, Left, Right, Plus, Minus, Times, Over, Rest, Not, Flip}

-- the spelling of a word of the language
abbrev pub word_text : Word → List ℕ
word_text «Type» = codes "type"
word_text Object = codes "object"
word_text Queue = codes "queue"
word_text Input = codes "input"
word_text Semaphore = codes "semaphore"
word_text Max = codes "max"
word_text Fn = codes "fn"
word_text Thread = codes "thread"
word_text Priority = codes "priority"
word_text Start = codes "start"
word_text Let = codes "let"
word_text If = codes "if"
word_text Else = codes "else"
word_text While = codes "while"
word_text Ploop = codes "ploop"
word_text Break = codes "break"
word_text Return = codes "return"
word_text Atomic = codes "atomic"
word_text Give = codes "give"
word_text Abort = codes "abort"
word_text New = codes "new"
word_text Free = codes "free"
word_text Spawn = codes "spawn"
word_text Delete = codes "delete"
word_text Delay = codes "delay"
word_text Setprio = codes "setprio"
word_text Getprio = codes "getprio"
word_text Own = codes "self"
word_text Send = codes "send"
word_text Receive = codes "receive"
word_text Take = codes "take"
word_text Print = codes "print"
word_text Now = codes "now"
word_text Yield = codes "yield"
word_text Waiting = codes "waiting"

-- the spelling of a mark
abbrev pub mark_text : Mark → List ℕ
mark_text OpenBrace = codes "{"
mark_text CloseBrace = codes "}"
mark_text OpenParenthesis = codes "("
mark_text CloseParenthesis = codes ")"
mark_text OpenBracket = codes "["
mark_text CloseBracket = codes "]"
mark_text Semicolon = codes ";"
mark_text Comma = codes ","
mark_text Colon = codes ":"
mark_text Dot = codes "."
mark_text Equals = codes "="
mark_text Arrow = codes "->"

-- the spelling of an operator
abbrev pub operator_text : Op → List ℕ
operator_text Or = codes "|"
operator_text Xor = codes "^"
operator_text And = codes "&"
operator_text Same = codes "=="
operator_text Other = codes "!="
operator_text Less = codes "<"
operator_text AtMost = codes "<="
operator_text More = codes ">"
operator_text AtLeast = codes ">="
operator_text Left = codes "<<"
operator_text Right = codes ">>"
operator_text Plus = codes "+"
operator_text Minus = codes "-"
operator_text Times = codes "*"
operator_text Over = codes "/"
operator_text Rest = codes "%"
operator_text Not = codes "!"
operator_text Flip = codes "~"

-- the words of the language
abbrev pub words : List Word
words = «Type» ∷ Object ∷ Queue ∷ Input ∷ Semaphore ∷ Max ∷ Fn ∷ Thread ∷ Priority ∷ Start ∷ Let ∷ If ∷ Else ∷ While ∷ Ploop ∷ Break ∷ Return ∷ Atomic ∷ Give ∷ Abort ∷ New ∷ Free ∷ Spawn ∷ Delete ∷ Delay ∷ Setprio ∷ Getprio ∷ Own ∷ Send ∷ Receive ∷ Take ∷ Print ∷ Now ∷ Yield ∷ Waiting ∷ []

-- the marks
abbrev pub marks : List Mark
marks = OpenBrace ∷ CloseBrace ∷ OpenParenthesis ∷ CloseParenthesis ∷ OpenBracket ∷ CloseBracket ∷ Semicolon ∷ Comma ∷ Colon ∷ Dot ∷ Equals ∷ Arrow ∷ []

-- the operators
abbrev pub operators : List Op
operators = Or ∷ Xor ∷ And ∷ Same ∷ Other ∷ Less ∷ AtMost ∷ More ∷ AtLeast ∷ Left ∷ Right ∷ Plus ∷ Minus ∷ Times ∷ Over ∷ Rest ∷ Not ∷ Flip ∷ []
