-- Worked rows: small programs as trees, and where their faults stand.
use Rattle.std.specs.Prelude.{ℕ, List, [], ◌∷◌}
use Rattle.thread_tree.specs.declared.place.Place.{Place}
use Rattle.thread_tree.specs.declared.place.At.{At}
use Rattle.thread_tree.specs.declared.tree.Decl.{Decl}
use Rattle.thread_tree.specs.declared.tree.Decl.TheVariants as decl
use Rattle.thread_tree.specs.declared.tree.Tree.{Tree}
use Rattle.thread_check.specs.declared.fault.Kind.TheVariants as kind
use Rattle.thread_check.specs.declared.fault.CheckFault.{CheckFault}
use Rattle.thread_check.specs.declared.fault.CheckFault.TheVariants.{UnknownName, TwiceNamed, NotAllowedHere, WrongCount, OutOfRange, TooMany}

abbrev pub at_line : ℕ → ℕ → Place
at_line line column = record { line = line; column = column }

-- the name of this number at a place
abbrev pub named : ℕ → Place → At
named name place = record { name = name; place = place }

-- the program of these declarations, without the texts of its names
abbrev pub program : List Decl → Tree
program declarations = record { names = []; decls = declarations }

-- `start a();` on the first line, and `start a(5);` on the second
abbrev pub two_starts : Tree
two_starts = program (
    decl.Start (at_line 1 1) (named 0 (at_line 1 7)) []
    ∷ decl.Start (at_line 2 1) (named 0 (at_line 2 7)) (record { value = 5; place = at_line 2 9 } ∷ [])
    ∷ [])

-- `a` isn't in scope on either line; what isn't in scope has no parameters, so the second has one number too many
abbrev pub two_starts_faults : List CheckFault
two_starts_faults = UnknownName (at_line 1 7) ∷ UnknownName (at_line 2 7) ∷ WrongCount (at_line 2 7) ∷ []

-- the places in both, in order of the text
abbrev pub two_starts_places : List Place
two_starts_places = at_line 1 1 ∷ at_line 1 7 ∷ at_line 2 1 ∷ at_line 2 7 ∷ at_line 2 9 ∷ []

-- `type a { b, b }`, and on the next line `object a: c;`
abbrev pub twice : Tree
twice = program (
    decl.Kind (named 0 (at_line 1 6)) (named 1 (at_line 1 10) ∷ named 1 (at_line 1 13) ∷ [])
    ∷ decl.Object (named 0 (at_line 2 8)) (named 2 (at_line 2 11))
    ∷ [])

-- the second `b`, the second `a`, and the type of the object
abbrev pub twice_faults : List CheckFault
twice_faults = TwiceNamed (at_line 1 13) ∷ TwiceNamed (at_line 2 8) ∷ UnknownName (at_line 2 11) ∷ []

-- a ninth item at a place, with an unknown name there and one behind it
abbrev pub nine : Place
nine = at_line 3 20

abbrev pub ninth_faults : List CheckFault
ninth_faults = UnknownName (at_line 3 20) ∷ TooMany (at_line 3 20) kind.Items 9 ∷ UnknownName (at_line 3 24) ∷ []

-- a second name of a type after `->`: it stands twice, and it is no local
abbrev pub taker_faults : List CheckFault
taker_faults = TwiceNamed (at_line 5 9) ∷ NotAllowedHere (at_line 5 9) ∷ []

-- a fault of each row of the table
abbrev pub table : Place → List CheckFault
table place = UnknownName place ∷ TwiceNamed place ∷ NotAllowedHere place ∷ WrongCount place ∷ OutOfRange place 9 ∷ TooMany place kind.Items 9 ∷ []
