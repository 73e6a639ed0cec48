-- The kinds of a thread's actions, and what each leaves in the thread's records.
use Rattle.std.specs.Prelude.{ℕ, ◌+◌, ◌-◌, ◌*◌, Bool, ◌==◌, ◌||◌, if◌then◌else◌, List, [], ◌∷◌, ◌++◌, length, map, flat_map, Option, Some, None, slice_index}
use Rattle.thread_tree.specs.declared.place.At.{At}
use Rattle.thread_tree.specs.declared.expr.Expr.{Expr}
use Rattle.thread_tree.specs.declared.action.Call.{Call}
use Rattle.thread_tree.specs.declared.action.Item.{Item}
use Rattle.thread_tree.specs.declared.action.Item.TheVariants as item
use Rattle.thread_tree.specs.declared.action.Who.{Who}
use Rattle.thread_tree.specs.declared.action.Who.TheVariants as who
use Rattle.thread_tree.specs.declared.block.Stmt.{Stmt, out-Stmt}
use Rattle.thread_tree.specs.declared.block.Stmt.TheOpen.{Stmt-F}
use Rattle.thread_tree.specs.declared.block.Stmt.TheOpen as stmt
use Rattle.thread_tree.specs.declared.token.Word.{Word}
use Rattle.thread_tree.specs.declared.token.Word.TheVariants as word
use Rattle.thread_tree.specs.Program.{Program}
use Rattle.thread_tree.specs.Pieces.{Piece, named, valued, whom, itemized, applied, word_of, pieces}
use Rattle.thread_tree.specs.declared.kinds.TheConstants.{ATOMIC, TURN, EACH_GIVEN}

-- the kinds of what isn't a call
abbrev pub turn_kind : ℕ
turn_kind = TURN

abbrev pub end_kind : ℕ
end_kind = 15

abbrev pub atomic_kind : ℕ
atomic_kind = ATOMIC

-- the kind of a call by its word
abbrev pub kind_of_word : Word → ℕ
kind_of_word word.Print = 1
kind_of_word word.Spawn = 2
kind_of_word word.Delete = 3
kind_of_word word.Delay = 4
kind_of_word word.Setprio = 5
kind_of_word word.Getprio = 6
kind_of_word word.Send = 7
kind_of_word word.Receive = 8
kind_of_word word.Take = 9
kind_of_word word.Give = 10
kind_of_word word.Now = 11
kind_of_word word.Yield = 12
kind_of_word word.Waiting = 13
kind_of_word _ = 0

-- the kind of a call
abbrev pub kind_of_call : Call → ℕ
kind_of_call c = kind_of_word (word_of c)

-- how many results the kinds have, from 1 on
abbrev pub results : List ℕ
results =
    1 ∷  -- print: ok
    1 ∷  -- spawn: thread
    1 ∷  -- delete: ok
    0 ∷  -- delay
    1 ∷  -- setprio: ok
    1 ∷  -- getprio: priority
    1 ∷  -- send: ok
    2 ∷  -- receive: ok, value
    1 ∷  -- take: ok
    1 ∷  -- give: ok
    1 ∷  -- now: tick
    0 ∷  -- yield
    1 ∷  -- waiting: count
    0 ∷  -- turn
    0 ∷  -- end
    1 ∷  -- atomic: ok, before the words that the block gives
    []

-- how many results an action has; an atomic block adds the words that it gives
abbrev pub result_count : ℕ → ℕ → ℕ
result_count kind given = slice_index results (kind - 1) + (if kind == atomic_kind then given else 0)

-- whether an action leaves no record: a turn of a persistent loop, and the end of a thread
abbrev pub is_unrecorded : ℕ → Bool
is_unrecorded kind = kind == turn_kind || kind == end_kind

-- the words of an action's record: one for its kind and one for each result
abbrev pub record_words_of : ℕ → ℕ → ℕ
record_words_of kind given = if is_unrecorded kind then 0 else 1 + result_count kind given

-- the first word of an action's record; it tells how many words an atomic block gives
abbrev pub kind_word : ℕ → ℕ → ℕ
kind_word kind given = if kind == atomic_kind then atomic_kind + EACH_GIVEN * given else kind

-- an action of a thread: its kind, the words that it gives if it is an atomic block, the
-- expressions in it in order of the text, and the names that take its results
pub record Action : Type 0 where
  pub kind : ℕ
  pub given : ℕ
  pub operands : List Expr
  pub names : List ℕ

-- the expression that says who is spoken of
abbrev pub operands_of_who : Who → List Expr
operands_of_who who.Own = []
operands_of_who (who.Of e) = e ∷ []

-- the expression of a print's item
abbrev pub operands_of_item : Item → List Expr
operands_of_item (item.Text place text) = []
operands_of_item (item.Value place e) = e ∷ []

-- the expressions of a piece
abbrev pub operands_of_piece : Piece → List Expr
operands_of_piece (named needed name) = []
operands_of_piece (valued e) = e ∷ []
operands_of_piece (whom w) = operands_of_who w
operands_of_piece (itemized items) = flat_map operands_of_item items
operands_of_piece (applied template arguments) = arguments

-- the expressions of pieces one after another
abbrev pub operands_of_pieces : List Piece → List Expr
operands_of_pieces [] = []
operands_of_pieces (p ∷ []) = operands_of_piece p
operands_of_pieces (p ∷ q ∷ ps) = operands_of_piece p ++ operands_of_pieces (q ∷ ps)

-- the expressions of a call, in order of the text
abbrev pub operands_of_call : Call → List Expr
operands_of_call c = operands_of_pieces (pieces c)

-- the names that take the results
abbrev pub taking : List At → List ℕ
taking ats = map (λ at. at.name) ats

-- the action of a program that a statement is, by its layer; no other statement is one
abbrev pub action_layer : {S B : Type 0} → Program → Stmt-F S B → Option Action
action_layer p (stmt.Let at e) = None
action_layer p (stmt.Set at e) = None
action_layer p (stmt.Apply to callee arguments) = None
action_layer p (stmt.If e then_block else_block) = None
action_layer p (stmt.While e body) = None
action_layer p (stmt.Ploop place body) = Some (record { kind = turn_kind; given = 0; operands = []; names = [] })
action_layer p (stmt.Break place) = None
action_layer p (stmt.Return place value) = None
action_layer p (stmt.Atomic place to body) =
    Some (record { kind = atomic_kind; given = length to - 1; operands = []; names = taking to })
action_layer p (stmt.Call place c to) =
    Some (record { kind = kind_of_call c; given = 0; operands = operands_of_call c; names = taking to })

-- the action of a program that a statement is
abbrev pub action_of : Program → Stmt → Option Action
action_of p s = action_layer p (out-Stmt s)
