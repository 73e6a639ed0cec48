-- Trees written down: a program's parts with few words. Names are written by their numbers, and all places are one.
use Rattle.std.specs.Prelude.{ℕ, List, [], ◌∷◌, map, Option, Some, None}
use Rattle.thread_tree.specs.declared.place.Place.{Place}
use Rattle.thread_tree.specs.declared.place.At.{At}
use Rattle.thread_tree.specs.declared.place.Num.{Num}
use Rattle.thread_tree.specs.declared.expr.Op.{Op}
use Rattle.thread_tree.specs.declared.expr.Expr.{Expr}
use Rattle.thread_tree.specs.declared.expr.Expr.TheVariants as expr
use Rattle.thread_tree.specs.declared.expr.FieldOf.{FieldOf}
use Rattle.thread_tree.specs.declared.expr.FieldOf.TheVariants as field_of
use Rattle.thread_tree.specs.Expressions as made
use Rattle.thread_tree.specs.declared.action.Call.{Call}
use Rattle.thread_tree.specs.declared.action.Item.{Item}
use Rattle.thread_tree.specs.declared.action.Item.TheVariants as item
use Rattle.thread_tree.specs.declared.block.Block.{Block}
use Rattle.thread_tree.specs.declared.block.Block as b
use Rattle.thread_tree.specs.declared.block.Stmt.{Stmt}
use Rattle.thread_tree.specs.declared.block.Stmt as s
use Rattle.thread_tree.specs.declared.transaction.TBlock.{TBlock}
use Rattle.thread_tree.specs.declared.transaction.TBlock as tb
use Rattle.thread_tree.specs.declared.transaction.TStmt.{TStmt}
use Rattle.thread_tree.specs.declared.transaction.TStmt as t
use Rattle.thread_tree.specs.declared.tree.Tree.{Tree}
use Rattle.thread_tree.specs.declared.tree.Decl.{Decl}
use Rattle.thread_tree.specs.declared.tree.Decl.TheVariants as decl
use mathlib.Core.Former.{arity, list, this}

abbrev pub here : Place
here = record { line = 1; column = 1 }

abbrev pub at : ℕ → At
at name = record { name = name; place = here }

abbrev pub ats : List ℕ → List At
ats names = map at names

abbrev pub num : ℕ → Num
num value = record { value = value; place = here }

-- a tree with these names
abbrev pub tree : List (List ℕ) → List Decl → Tree
tree names decls = record { names = map (λ bytes. record { bytes = record { items = bytes } }) names; decls = decls }

-- expressions
abbrev pub n : ℕ → Expr
n value = expr.Num value

abbrev pub v : ℕ → Expr
v name = expr.Local (at name)

abbrev pub static_field : ℕ → ℕ → FieldOf
static_field object field = field_of.Static (at object) (at field)

abbrev pub field_through : ℕ → ℕ → ℕ → FieldOf
field_through local kind field = field_of.Through (at local) (at kind) (at field)

-- an operator between its operands
abbrev pub binary : Expr → Op → Expr → Expr
binary x op y = made.binary op x y

-- a row of statements, as a statement holds it
abbrev pub shape : List Stmt → List (Unit {0})
shape stmts = map (λ s. tt) stmts

abbrev pub row : (stmts : List Stmt) → b.Row_of-Stmt (arity (list this) (shape stmts))
row [] = b.end_of-Stmt
row (stmt ∷ stmts) = b.more_of-Stmt stmt (row stmts)

-- statements
abbrev pub block : List Stmt → Block
block stmts = record { place = here; stmts = stmts }

abbrev pub declare : ℕ → Expr → Stmt
declare name e = s.Let (at name) e

abbrev pub assign : ℕ → Expr → Stmt
assign name e = s.Set (at name) e

abbrev pub apply_to : ℕ → ℕ → List Expr → Stmt
apply_to name callee arguments = s.Apply (Some (at name)) (at callee) arguments

abbrev pub apply : ℕ → List Expr → Stmt
apply callee arguments = s.Apply None (at callee) arguments

abbrev pub when : Expr → List Stmt → Stmt
when e stmts = s.If' e here (shape stmts) (row stmts) s.None'

abbrev pub either : Expr → List Stmt → List Stmt → Stmt
either e stmts others = s.If' e here (shape stmts) (row stmts) (s.Some' here (shape others) (row others))

abbrev pub repeat : Expr → List Stmt → Stmt
repeat e stmts = s.While' e here (shape stmts) (row stmts)

abbrev pub ploop : List Stmt → Stmt
ploop stmts = s.Ploop' here here (shape stmts) (row stmts)

abbrev pub leave : Stmt
leave = s.Break here

abbrev pub answer : Option Expr → Stmt
answer e = s.Return here e

abbrev pub atomic : List ℕ → List TStmt → Stmt
atomic to stmts = s.Atomic here (ats to) (record { place = here; stmts = stmts })

abbrev pub does : Call → List ℕ → Stmt
does c to = s.Call here c (ats to)

-- the items of a print
abbrev pub text : List ℕ → Item
text bytes = item.Text here (record { bytes = record { items = bytes } })

abbrev pub value : Expr → Item
value e = item.Value here e

-- statements of a transaction
abbrev pub tshape : List TStmt → List (Unit {0})
tshape stmts = map (λ s. tt) stmts

abbrev pub trow : (stmts : List TStmt) → tb.Row_of-TStmt (arity (list this) (tshape stmts))
trow [] = tb.end_of-TStmt
trow (stmt ∷ stmts) = tb.more_of-TStmt stmt (trow stmts)

abbrev pub tdeclare : ℕ → Expr → TStmt
tdeclare name e = t.Let (at name) e

abbrev pub tdeclare_new : ℕ → ℕ → TStmt
tdeclare_new name kind = t.LetNew (at name) (at kind)

abbrev pub tassign : ℕ → Expr → TStmt
tassign name e = t.Set (at name) e

abbrev pub tassign_new : ℕ → ℕ → TStmt
tassign_new name kind = t.SetNew (at name) (at kind)

abbrev pub store : FieldOf → Expr → TStmt
store field e = t.Store field e

abbrev pub free : Expr → TStmt
free e = t.Free e

abbrev pub twhen : Expr → List TStmt → TStmt
twhen e stmts = t.If' e here (tshape stmts) (trow stmts) t.None'

abbrev pub teither : Expr → List TStmt → List TStmt → TStmt
teither e stmts others = t.If' e here (tshape stmts) (trow stmts) (t.Some' here (tshape others) (trow others))

abbrev pub trepeat : Expr → List TStmt → TStmt
trepeat e stmts = t.While' e here (tshape stmts) (trow stmts)

abbrev pub tleave : TStmt
tleave = t.Break here

abbrev pub abort : TStmt
abort = t.Abort here

abbrev pub gives : List Expr → TStmt
gives es = t.Give here es

-- declarations
abbrev pub kind : ℕ → List ℕ → Decl
kind name fields = decl.Kind (at name) (ats fields)

abbrev pub object : ℕ → ℕ → Decl
object name kind = decl.Object (at name) (at kind)

abbrev pub queue : ℕ → ℕ → Option ℕ → Decl
queue name capacity channel =
    decl.Queue (at name) (num capacity) (elim channel [ None ↦ None | Some channel ↦ Some (num channel) ])

abbrev pub semaphore : ℕ → ℕ → ℕ → Decl
semaphore name count maximum = decl.Semaphore (at name) (num count) (num maximum)

abbrev pub function : ℕ → List ℕ → List Stmt → Decl
function name parameters stmts = decl.Function (at name) (ats parameters) (block stmts)

abbrev pub thread : ℕ → List ℕ → ℕ → List Stmt → Decl
thread name parameters priority stmts = decl.Thread (at name) (ats parameters) (num priority) (block stmts)

abbrev pub start : ℕ → List ℕ → Decl
start name arguments = decl.Start here (at name) (map num arguments)
