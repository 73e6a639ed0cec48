-- What the table takes where it owes a part of a declaration, or begins one, spells it.
use Rattle.std.proofs.Common.{List, [], ◌∷◌, Some, None, refl}
use Rattle.thread_tree.specs.declared.place.Place.{Place}
use Rattle.thread_tree.specs.declared.token.Mark.{Mark}
use Rattle.thread_tree.specs.declared.token.Mark.TheVariants as mark
use Rattle.thread_tree.specs.declared.token.Placed.{Placed}
use Rattle.thread_tree.specs.declared.token.Token.{Token}
use Rattle.thread_tree.specs.declared.token.Token.TheVariants as token
use Rattle.thread_tree.specs.declared.token.Word.{Word}
use Rattle.thread_tree.specs.declared.token.Word.TheVariants as word
use Rattle.thread_tree.specs.declared.tree.Decl.{Decl}
use Rattle.thread_tree.specs.Grammar.{turn, declared, declared_by, is_mark, is_word, is_name, is_number}
use Rattle.thread_tree.specs.Parts.{Part, TheMark, TheWord, AName, ANumber, Channel, Parameters, Numbers, MoreNumbers}
use Rattle.thread_tree.specs.Spelling.{one, more}
use Rattle.thread_tree.specs.SpellingOfDeclarations.{no_parameters, parameters, no_numbers, numbers, no_channel, channel, SpellsDecl, kind, object, queue, semaphore, function, thread, start, decls}
use Rattle.grammar_laws.specs.Open.{HasProgram}
use Rattle.grammar_laws.proofs.Meaning.{Turned, Row, choose, took_at, took, took_mark, took_word, took_name, took_number}

-- a mark, a word, a name, a number
pub mark_row : (m : Mark) (parts : List Part) (p : Placed) (rest : List Placed) → Row (TheMark m) parts p rest
unfolding turn
mark_row m parts p rest h = choose (is_mark m p.token) _ _ parts rest h (λ e w. (rest, took_mark m p rest e, w)) (λ h. absurd h)

pub a_word_row : (w : Word) (parts : List Part) (p : Placed) (rest : List Placed) → Row (TheWord w) parts p rest
unfolding turn
a_word_row w parts p rest h = choose (is_word w p.token) _ _ parts rest h (λ e x. (rest, took_word w p rest e, x)) (λ h. absurd h)

pub name_row : (parts : List Part) (p : Placed) (rest : List Placed) → Row AName parts p rest
unfolding turn
name_row parts p rest h = choose (is_name p.token) _ _ parts rest h (λ e w. (rest, took_name p rest e, w)) (λ h. absurd h)

pub number_row : (parts : List Part) (p : Placed) (rest : List Placed) → Row ANumber parts p rest
unfolding turn
number_row parts p rest h = choose (is_number p.token) _ _ parts rest h (λ e w. (rest, took_number p rest e, w)) (λ h. absurd h)

-- the end of a queue's declaration
pub channel_row : (parts : List Part) (p : Placed) (rest : List Placed) → Row Channel parts p rest
unfolding turn
channel_row parts p rest h = choose (is_word word.Input p.token) _ _ parts rest h
    (λ e (a, (n, number), (b, semi, w)). (b, (Some n, channel (took_word _ p rest e) number semi), w))
    (λ h. choose (is_mark mark.Semicolon p.token) _ _ parts rest h
    (λ e w. (rest, (None, no_channel (took_mark _ p rest e)), w))
    (λ h. absurd h))

-- parameters, and numbers, with the closing parenthesis
pub parameters_row : (parts : List Part) (p : Placed) (rest : List Placed) → Row Parameters parts p rest
unfolding turn
parameters_row parts p rest h = choose (is_mark mark.CloseParenthesis p.token) _ _ parts rest h
    (λ e w. (rest, ([], no_parameters (took_mark _ p rest e)), w))
    (λ h. choose (is_name p.token) _ _ parts rest h
    (λ e w. let n = took_name p rest e in let r = w.1 (p ∷ rest) n.0 n.1 in (w.0, (r.1, parameters r.2 r.3), w.2))
    (λ h. absurd h))

pub more_numbers_row : (parts : List Part) (p : Placed) (rest : List Placed) → Row MoreNumbers parts p rest
unfolding turn
more_numbers_row parts p rest h = choose (is_mark mark.Comma p.token) _ _ parts rest h
    (λ e w. (w.2.0, (λ start x s. let r = w.2.1 rest w.1.0 w.1.1 in (r.0, x ∷ r.1, more s (took_mark _ p rest e) r.2, r.3)), w.2.2))
    (λ h. choose (is_mark mark.CloseParenthesis p.token) _ _ parts rest h
    (λ e w. (rest, (λ start x s. (p ∷ rest, x ∷ [], one s, took_mark _ p rest e)), w))
    (λ h. absurd h))

pub numbers_row : (parts : List Part) (p : Placed) (rest : List Placed) → Row Numbers parts p rest
unfolding turn
numbers_row parts p rest h = choose (is_mark mark.CloseParenthesis p.token) _ _ parts rest h
    (λ e w. (rest, ([], no_numbers (took_mark _ p rest e)), w))
    (λ h. choose (is_number p.token) _ _ parts rest h
    (λ e w. let n = took_number p rest e in let r = w.1 (p ∷ rest) n.0 n.1 in (w.0, (r.1, numbers r.2 r.3), w.2))
    (λ h. absurd h))

-- where nothing is owed a declaration begins
before_others : {before m : List Placed} {d : Decl} → SpellsDecl before m d → HasProgram m → HasProgram before
before_others {d = d} spelled (ds, program) = (d ∷ ds, decls spelled program)

declared_row : (w : Word) (place : Place) (rest : List Placed) → Turned (declared_by w) [] rest → HasProgram (record { token = token.Word w; place = place } ∷ rest)
unfolding declared_by
declared_row word.Type place rest (a, (n, name), (b, opening, (c, (m, first), (d, names, w)))) = let r = names b m first in before_others (kind (took _ rest _ refl) name opening r.2 r.3) w
declared_row word.Object place rest (a, (n, name), (b, colon, (c, (k, of), (d, semi, w)))) = before_others (object (took _ rest _ refl) name colon of semi) w
declared_row word.Queue place rest (a, (n, name), (b, opening, (c, (k, capacity), (d, closing, (m, (end, behind), w))))) = before_others (queue (took _ rest _ refl) name opening capacity closing behind) w
declared_row word.Semaphore place rest (a, (n, name), (b, q, (c, (k, first), (d, max, (f, (l, most), (g, semi, w)))))) = before_others (semaphore (took _ rest _ refl) name q first max most semi) w
declared_row word.Fn place rest (a, (n, name), (b, opening, (c, (ns, names), (d, (x, body), w)))) = before_others (function (took _ rest _ refl) name opening names body) w
declared_row word.Thread place rest (a, (n, name), (b, opening, (c, (ns, names), (d, priority, (f, (k, number), (g, (x, body), w)))))) = before_others (thread (took _ rest _ refl) name opening names priority number body) w
declared_row word.Start place rest (a, (n, name), (b, opening, (c, (ns, given), (d, semi, w)))) = before_others (start (took_at _ rest _ refl) name opening given semi) w
declared_row _ place rest h = absurd h

pub first_row : (t : Token) (place : Place) (rest : List Placed) → Turned (declared t) [] rest → HasProgram (record { token = t; place = place } ∷ rest)
unfolding declared
first_row (token.Word w) place rest h = declared_row w place rest h
first_row _ place rest h = absurd h
