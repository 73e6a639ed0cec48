-- What a body needs: how many locals it has at once, and how many blocks are open at once, with
-- those of the functions that it calls.
use Rattle.std.specs.Prelude.{◌≡◌, ℕ, ◌+◌, ◌≤◌, ◌==◌, max, if◌then◌else◌, List, [], ◌∷◌, length, All, Option, Some, None}
use Rattle.thread_tree.specs.declared.block.Block.{Block, fold-Block}
use Rattle.thread_tree.specs.declared.block.Stmt.{Stmt, fold-Stmt}
use Rattle.thread_tree.specs.declared.block.Stmt.TheOpen.{Stmt-F, Block-F}
use Rattle.thread_tree.specs.declared.block.Stmt.TheOpen as stmt
use Rattle.thread_tree.specs.declared.transaction.TBlock.{TBlock, fold-TBlock}
use Rattle.thread_tree.specs.declared.transaction.TStmt.TheOpen.{TStmt-F, TBlock-F}
use Rattle.thread_tree.specs.declared.transaction.TStmt.TheOpen as tstmt
use Rattle.thread_tree.specs.Program.{Program, Function}
use Rattle.thread_tree.specs.declared.limits.TheConstants.{LOCALS, BLOCKS}

-- the most locals beside those in scope before, and the most blocks beside those open before
pub record Need : Type 0 where
  pub locals : ℕ
  pub blocks : ℕ

-- what needs nothing
abbrev pub nothing : Need
nothing = record { locals = 0; blocks = 0 }

-- one local more
abbrev pub one_local : Need
one_local = record { locals = 1; blocks = 0 }

-- the need of what is done one or the other
abbrev pub either : Need → Need → Need
either a b = record { locals = max a.locals b.locals; blocks = max a.blocks b.blocks }

-- a statement: what it needs while it is done, and how many locals it leaves in scope
pub record Weight : Type 0 where
  pub need : Need
  pub declares : ℕ

-- a statement that leaves no local
abbrev pub needs : Need → Weight
needs need = record { need = need; declares = 0 }

-- a declaration of a local
abbrev pub declaration : Weight
declaration = record { need = one_local; declares = 1 }

-- the need of a statement and then of others
abbrev pub followed : Weight → Need → Need
followed w rest = record { locals = max w.need.locals (w.declares + rest.locals); blocks = max w.need.blocks rest.blocks }

-- the need of statements one after another
abbrev pub in_turn : List Weight → Need
in_turn [] = nothing
in_turn (w ∷ ws) = followed w (in_turn ws)

-- the need of a block with these statements: one block more is open
abbrev pub opened : Need → Need
opened need = record need { blocks = 1 + need.blocks }

-- the need of a block that may be left out
abbrev pub or_nothing : Option Need → Need
or_nothing None = nothing
or_nothing (Some need) = need

-- a statement of a transaction, by its layer
abbrev pub weight_of_tlayer : TStmt-F Weight Need → Weight
weight_of_tlayer (tstmt.Let at e) = declaration
weight_of_tlayer (tstmt.LetNew at kind) = declaration
weight_of_tlayer (tstmt.Set at e) = needs nothing
weight_of_tlayer (tstmt.SetNew at kind) = needs nothing
weight_of_tlayer (tstmt.Store field e) = needs nothing
weight_of_tlayer (tstmt.Free e) = needs nothing
weight_of_tlayer (tstmt.If e block other) = needs (either block (or_nothing other))
weight_of_tlayer (tstmt.While e block) = needs block
weight_of_tlayer (tstmt.Break place) = needs nothing
weight_of_tlayer (tstmt.Abort place) = needs nothing
weight_of_tlayer (tstmt.Give place es) = needs nothing

-- a block of a transaction, by its layer
abbrev pub need_of_tlayer : TBlock-F Weight Need → Need
need_of_tlayer block = opened (in_turn block.stmts)

-- the need of a block of a transaction
unfoldable pub need_of_tblock : TBlock → Need
need_of_tblock = fold-TBlock Weight Need weight_of_tlayer need_of_tlayer

-- a statement, by its layer, where `callee` has the needs of functions by their names
abbrev pub weight_of_layer : (ℕ → Need) → Stmt-F Weight Need → Weight
weight_of_layer callee (stmt.Let at e) = declaration
weight_of_layer callee (stmt.Set at e) = needs nothing
weight_of_layer callee (stmt.Apply to function arguments) = needs (callee function.name)
weight_of_layer callee (stmt.If e block other) = needs (either block (or_nothing other))
weight_of_layer callee (stmt.While e block) = needs block
weight_of_layer callee (stmt.Ploop place block) = needs block
weight_of_layer callee (stmt.Break place) = needs nothing
weight_of_layer callee (stmt.Return place value) = needs nothing
weight_of_layer callee (stmt.Atomic place to block) = needs (need_of_tblock block)
weight_of_layer callee (stmt.Call place call to) = needs nothing

-- a block, by its layer
abbrev pub need_of_layer : Block-F Weight Need → Need
need_of_layer block = opened (in_turn block.stmts)

-- what a statement needs and leaves
unfoldable pub weight_of : (ℕ → Need) → Stmt → Weight
weight_of callee = fold-Stmt Weight Need (weight_of_layer callee) need_of_layer

-- the need of a block
unfoldable pub need_of : (ℕ → Need) → Block → Need
need_of callee = fold-Block Weight Need (weight_of_layer callee) need_of_layer

-- the need of a body with its parameters
abbrev pub need_of_body : (ℕ → Need) → List ℕ → Block → Need
need_of_body callee parameters body =
    let need = need_of callee body in record need { locals = length parameters + need.locals }

-- the needs of functions by their names, with one function more
abbrev pub with_need : (ℕ → Need) → Function → ℕ → Need
with_need callee function name =
    if function.name == name then need_of_body callee function.parameters function.body else callee name

-- the needs of functions by their names; each calls only those before it
abbrev pub needs_of : (ℕ → Need) → List Function → ℕ → Need
needs_of callee [] = callee
needs_of callee (function ∷ functions) = needs_of (with_need callee function) functions

-- the needs of a program's functions by their names
abbrev pub callees : Program → ℕ → Need
callees p = needs_of (λ name. nothing) p.functions

-- at most 48 locals at once, and 24 blocks
pub record IsSmall (need : Need) : Type 0 where
  pub locals : need.locals ≤ LOCALS
  pub blocks : need.blocks ≤ BLOCKS

-- each function has the need that its callers count
abbrev pub HasItsNeed : Program → Function → Type 0
HasItsNeed p function = need_of_body (callees p) function.parameters function.body ≡ callees p function.name

-- each thread stays within the limits, with all the functions that it calls
pub record Fits (p : Program) : Type 0 where
  pub templates : All (λ template. IsSmall (need_of_body (callees p) template.parameters template.body)) p.templates
  pub functions : All (λ function. HasItsNeed p function) p.functions
