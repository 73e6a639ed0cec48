-- Each list of usual parts has a text that pays it, and the table owes only usual parts.
use Rattle.std.proofs.Common.{◌≡◌, Bool, true, false, List, [], ◌∷◌, ◌++◌, refl, if◌then◌else◌}
use Rattle.thread_tree.specs.declared.token.Token.{Token}
use Rattle.thread_tree.specs.declared.token.Token.TheVariants as token
use Rattle.thread_tree.specs.Grammar.{turn, advance, statement, tstatement, Spells, nothing, goes_on, is_mark, is_word, is_name, is_number, is_text, is_prefix, is_between, mark_number, word_number, operand, behind_name, call_end}
use Rattle.thread_tree.specs.Parts.{Part, TheMark, TheWord, AName, ANumber, MoreNames, Channel, Parameters, Numbers, MoreNumbers, ABlock, Statements, Otherwise, AfterName, Assigned, AfterAssigned, Returned, AtomicTo, To, AnItem, MoreItems, Arguments, MoreExpressions, AWho, ATBlock, TStatements, TOtherwise, AfterTName, TAssigned, MoreField, Values, Expression, Inner, After, Dots, MoreDots}
use Rattle.grammar_laws.specs.Shortest.{closes, follows, usual, all_usual, shortest, text_of}
use Rattle.grammar_laws.proofs.Table.{left_by, mark_turns, word_turns}
use Rattle.grammar_laws.proofs.CompleteExpressions.{after_ends, dots_end, more_dots_end}
use Rattle.grammar_laws.proofs.CompleteCalls.{names_end, expressions_end}

-- what may stand behind a list or an expression is itself usual
pub closes_usual : (next : Part) → closes next ≡ true → usual next ≡ true
closes_usual (TheMark _) h = refl
closes_usual ATBlock h = refl
closes_usual _ h = absurd (cc)

pub follows_usual : (next : Part) → follows next ≡ true → usual next ≡ true
follows_usual (TheMark _) h = refl
follows_usual ABlock h = refl
follows_usual ATBlock h = refl
follows_usual To h = refl
follows_usual MoreItems h = refl
follows_usual (MoreExpressions fields next) h = h
follows_usual _ h = absurd (cc)

pub pays_part : (part : Part) → usual part ≡ true → (parts : List Part) (ts : List Token) → Spells parts ts → Spells (part ∷ parts) (shortest part ++ ts)
unfolding advance turn operand behind_name statement tstatement call_end is_mark mark_number is_word word_number is_name is_number is_text is_prefix is_between
pays_part (TheMark m) h parts ts s = goes_on (left_by (TheMark m) (token.Mark m) [] parts (mark_turns m)) s
pays_part (TheWord w) h parts ts s = goes_on (left_by (TheWord w) (token.Word w) [] parts (word_turns w)) s
pays_part AName h parts ts s = goes_on refl s
pays_part ANumber h parts ts s = goes_on refl s
pays_part (MoreNames next) h parts ts s = names_end h (pays_part next (closes_usual next h) parts ts s)
pays_part Channel h parts ts s = goes_on refl s
pays_part Parameters h parts ts s = goes_on refl s
pays_part Numbers h parts ts s = goes_on refl s
pays_part MoreNumbers h parts ts s = goes_on refl s
pays_part ABlock h parts ts s = goes_on refl (goes_on refl s)
pays_part Statements h parts ts s = goes_on refl s
pays_part Otherwise h parts ts s = goes_on refl s
pays_part AfterName h parts ts s = goes_on refl (goes_on refl (goes_on refl s))
pays_part Assigned h parts ts s = goes_on refl (goes_on refl s)
pays_part AfterAssigned h parts ts s = goes_on refl s
pays_part Returned h parts ts s = goes_on refl s
pays_part AtomicTo h parts ts s = goes_on refl (goes_on refl s)
pays_part To h parts ts s = goes_on refl s
pays_part AnItem h parts ts s = goes_on refl (goes_on refl s)
pays_part MoreItems h parts ts s = goes_on refl s
pays_part Arguments h parts ts s = goes_on refl s
pays_part (MoreExpressions fields next) h parts ts s = expressions_end h (pays_part next (closes_usual next h) parts ts s)
pays_part (AWho next) h parts ts s = goes_on refl (after_ends h (pays_part next (follows_usual next h) parts ts s))
pays_part ATBlock h parts ts s = goes_on refl (goes_on refl s)
pays_part TStatements h parts ts s = goes_on refl s
pays_part TOtherwise h parts ts s = goes_on refl s
pays_part AfterTName h parts ts s = goes_on refl (goes_on refl (goes_on refl s))
pays_part TAssigned h parts ts s = goes_on refl (goes_on refl s)
pays_part MoreField h parts ts s = goes_on refl (goes_on refl (goes_on refl s))
pays_part Values h parts ts s = goes_on refl s
pays_part (Expression fields next) h parts ts s = goes_on refl (after_ends h (pays_part next (follows_usual next h) parts ts s))
pays_part (Inner fields next) h parts ts s = goes_on refl (after_ends h (pays_part next (follows_usual next h) parts ts s))
pays_part (After fields next) h parts ts s = after_ends h (pays_part next (follows_usual next h) parts ts s)
pays_part (Dots next) h parts ts s = dots_end h (after_ends h (pays_part next (follows_usual next h) parts ts s))
pays_part (MoreDots next) h parts ts s = more_dots_end h (after_ends h (pays_part next (follows_usual next h) parts ts s))

-- both halves of a test
pub both : (a b : Bool) → (if a then b else false) ≡ true → (a ≡ true) × (b ≡ true)
both true b h = (refl, h)
both false b h = absurd (cc)

pub pays_all : (parts : List Part) → all_usual parts ≡ true → Spells parts (text_of parts)
pays_all [] h = nothing
pays_all (p ∷ ps) h = let b = both (usual p) (all_usual ps) h in pays_part p b.0 ps (text_of ps) (pays_all ps b.1)
