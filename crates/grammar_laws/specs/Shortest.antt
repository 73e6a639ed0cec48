-- A text that pays what is owed.
use Rattle.std.specs.Prelude.{Bool, true, false, if◌then◌else◌, List, [], ◌∷◌, ◌++◌}
use Rattle.thread_tree.specs.declared.token.Mark.TheVariants as mark
use Rattle.thread_tree.specs.declared.token.Token.{Token}
use Rattle.thread_tree.specs.declared.token.Token.TheVariants as token
use Rattle.thread_tree.specs.Parts.{Part, TheMark, TheWord, AName, ANumber, MoreNames, Channel, Parameters, Numbers, MoreNumbers, ABlock, Statements, Otherwise, AfterName, Assigned, AfterAssigned, Returned, AtomicTo, To, AnItem, MoreItems, Arguments, MoreExpressions, AWho, ATBlock, TStatements, TOtherwise, AfterTName, TAssigned, MoreField, Values, Expression, Inner, After, Dots, MoreDots}

-- whether the part may stand behind a list
abbrev pub closes : Part → Bool
closes (TheMark mark.Semicolon) = true
closes (TheMark mark.CloseParenthesis) = true
closes (TheMark mark.CloseBrace) = true
closes ATBlock = true
closes _ = false

-- whether the part may stand behind an expression
abbrev pub follows : Part → Bool
follows (TheMark mark.Semicolon) = true
follows (TheMark mark.CloseParenthesis) = true
follows (TheMark mark.Comma) = true
follows ABlock = true
follows ATBlock = true
follows To = true
follows MoreItems = true
follows (MoreExpressions fields next) = closes next
follows _ = false

-- whether what stands behind the part is of the kind that the grammar puts there
abbrev pub usual : Part → Bool
usual (MoreNames next) = closes next
usual (MoreExpressions fields next) = closes next
usual (AWho next) = follows next
usual (Expression fields next) = follows next
usual (Inner fields next) = follows next
usual (After fields next) = follows next
usual (Dots next) = follows next
usual (MoreDots next) = follows next
usual _ = true

-- whether each part is so
abbrev pub all_usual : List Part → Bool
all_usual [] = true
all_usual (p ∷ ps) = if usual p then all_usual ps else false

-- a short text that the table takes where the part is owed
abbrev pub shortest : Part → List Token
shortest (TheMark m) = token.Mark m ∷ []
shortest (TheWord w) = token.Word w ∷ []
shortest AName = token.Name 0 ∷ []
shortest ANumber = token.Number 0 ∷ []
shortest (MoreNames next) = shortest next
shortest Channel = token.Mark mark.Semicolon ∷ []
shortest Parameters = token.Mark mark.CloseParenthesis ∷ []
shortest Numbers = token.Mark mark.CloseParenthesis ∷ []
shortest MoreNumbers = token.Mark mark.CloseParenthesis ∷ []
shortest ABlock = token.Mark mark.OpenBrace ∷ token.Mark mark.CloseBrace ∷ []
shortest Statements = token.Mark mark.CloseBrace ∷ []
shortest Otherwise = token.Mark mark.CloseBrace ∷ []
shortest AfterName = token.Mark mark.OpenParenthesis ∷ token.Mark mark.CloseParenthesis ∷ token.Mark mark.Semicolon ∷ []
shortest Assigned = token.Number 0 ∷ token.Mark mark.Semicolon ∷ []
shortest AfterAssigned = token.Mark mark.Semicolon ∷ []
shortest Returned = token.Mark mark.Semicolon ∷ []
shortest AtomicTo = token.Mark mark.OpenBrace ∷ token.Mark mark.CloseBrace ∷ []
shortest To = token.Mark mark.Semicolon ∷ []
shortest AnItem = token.Number 0 ∷ token.Mark mark.Semicolon ∷ []
shortest MoreItems = token.Mark mark.Semicolon ∷ []
shortest Arguments = token.Mark mark.CloseParenthesis ∷ []
shortest (MoreExpressions fields next) = shortest next
shortest (AWho next) = token.Number 0 ∷ shortest next
shortest ATBlock = token.Mark mark.OpenBrace ∷ token.Mark mark.CloseBrace ∷ []
shortest TStatements = token.Mark mark.CloseBrace ∷ []
shortest TOtherwise = token.Mark mark.CloseBrace ∷ []
shortest AfterTName = token.Mark mark.Equals ∷ token.Number 0 ∷ token.Mark mark.Semicolon ∷ []
shortest TAssigned = token.Number 0 ∷ token.Mark mark.Semicolon ∷ []
shortest MoreField = token.Mark mark.Equals ∷ token.Number 0 ∷ token.Mark mark.Semicolon ∷ []
shortest Values = token.Mark mark.Semicolon ∷ []
shortest (Expression fields next) = token.Number 0 ∷ shortest next
shortest (Inner fields next) = token.Number 0 ∷ shortest next
shortest (After fields next) = shortest next
shortest (Dots next) = shortest next
shortest (MoreDots next) = shortest next

-- the texts of the parts, one after another
abbrev pub text_of : List Part → List Token
text_of [] = []
text_of (p ∷ ps) = shortest p ++ text_of ps
