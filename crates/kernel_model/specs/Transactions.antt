-- What a block of `atomic` does: its moves, its operations on objects, and its bounds.
use Rattle.std.specs.Prelude.{ℕ, zero, suc, ◌+◌, nat_lt, Bool, true, if◌then◌else◌, List, [], ◌∷◌, ◌++◌, length, map, take, replicate, Option, Some, None, Result, Ok, Err, slice_index, slice_index_or, is_some}
use Rattle.kernel_model.specs.Visible.{Object}
use Rattle.thread_tree.specs.Numbers.{kind_number, object_number, field_number}
use Rattle.kernel_model.specs.Objects.{place_for, with_new, object_at, object_of, is_made, without, with_field, static_objects}
use Rattle.thread_tree.specs.declared.local.Local.{Local}
use Rattle.thread_tree.specs.declared.expr.Expr.{Expr, more_of-Expr, end_of-Expr}
use Rattle.thread_tree.specs.declared.expr.Expr.TheVariants as expr
use Rattle.thread_tree.specs.declared.expr.FieldOf.{FieldOf}
use Rattle.thread_tree.specs.declared.expr.FieldOf.TheVariants.{Static, Through}
use Rattle.thread_tree.specs.declared.transaction.TBlock.{TBlock, out-TBlock}
use Rattle.thread_tree.specs.declared.transaction.TStmt.{TStmt, out-TStmt}
use Rattle.thread_tree.specs.declared.transaction.TStmt.TheOpen.{TStmt-F}
use Rattle.thread_tree.specs.declared.transaction.TStmt.TheOpen as tstmt
use Rattle.thread_tree.specs.Program.{Program}
use Rattle.thread_tree.specs.Value.{applied, value_in}
use Rattle.thread_tree.specs.LocalState.{with_value, chosen_by}
use Rattle.thread_tree.specs.declared.limits.TheConstants.{OPERATIONS, MOVES}
use Rattle.kernel_model.specs.declared.codes.TheConstants.{TOO_MANY_MOVES, TOO_MANY_OPERATIONS, BAD_REFERENCE}

-- the faults of a block, which end its thread: too many moves, too many operations, a bad reference
abbrev pub too_many_moves : ℕ
too_many_moves = TOO_MANY_MOVES

abbrev pub too_many_operations : ℕ
too_many_operations = TOO_MANY_OPERATIONS

abbrev pub bad_reference : ℕ
bad_reference = BAD_REFERENCE

-- the most operations on objects in one block, and its most moves
abbrev pub most_operations : ℕ
most_operations = OPERATIONS

abbrev pub most_block_moves : ℕ
most_block_moves = MOVES

-- a field of an object: the place, the number of the type that the object there must have, and that of the field
pub record Reference : Type 0 where
  pub place : ℕ
  pub kind : ℕ
  pub field : ℕ

-- the place of a static object, and the number of its type
abbrev pub static_named : Program → ℕ → Object
static_named p name =
    slice_index_or (static_objects p) (object_number p name) (record { place = 0; kind = 0; is_static = true; values = [] })

-- what a field refers to
abbrev pub reference_of : Program → List Local → FieldOf → Reference
reference_of p locals (Static object field) = let o = static_named p object.name in
    record { place = o.place; kind = o.kind; field = field_number p o.kind field.name }
reference_of p locals (Through local kind field) = let k = kind_number p kind.name in
    record { place = value_in locals local.name; kind = k; field = field_number p k field.name }

-- a value that was read, and how many operations were made so far
pub record Read : Type 0 where
  pub value : ℕ
  pub operations : ℕ

-- one operation more, unless it is one too many
abbrev pub counted : {X : Type 0} → ℕ → Result X ℕ → Result X ℕ
counted operations result = if nat_lt operations most_operations then result else Err too_many_operations

-- a fault, or what is done with a value that was read
abbrev pub with_read : {X : Type 0} → Result Read ℕ → (Read → Result X ℕ) → Result X ℕ
with_read (Err fault) go = Err fault
with_read (Ok read) go = go read

-- the value of a field of an object, which a reference may miss
abbrev pub loaded : ℕ → ℕ → Option Object → Result Read ℕ
loaded field operations None = Err bad_reference
loaded field operations (Some object) =
    Ok (record { value = slice_index object.values field; operations = operations + 1 })

-- the value of a field
abbrev pub load : Program → List Object → List Local → FieldOf → ℕ → Result Read ℕ
load p objects locals field operations =
    let r = reference_of p locals field in
    counted operations (loaded r.field operations (object_of objects r.place r.kind))

-- the value of an expression after so many operations
abbrev pub read : Program → List Object → List Local → Expr → ℕ → Result Read ℕ
read p objects locals (expr.Num value) n = Ok (record { value = value; operations = n })
read p objects locals (expr.Local at) n = Ok (record { value = value_in locals at.name; operations = n })
read p objects locals (expr.Field field) n = load p objects locals field n
read p objects locals (expr.Prefix' op q (more_of-Expr e end_of-Expr)) n =
    with_read (read p objects locals e n) (λ x. Ok (record x { value = applied op 0 x.value }))
read p objects locals (expr.Binary' op q (more_of-Expr x end_of-Expr) r (more_of-Expr y end_of-Expr)) n =
    with_read (read p objects locals x n)
    (λ a. with_read (read p objects locals y a.operations) (λ b. Ok (record b { value = applied op a.value b.value })))

-- the values of expressions, one after another
abbrev pub read_all : Program → List Object → List Local → List Expr → ℕ → Result (List ℕ) ℕ
read_all p objects locals [] n = Ok []
read_all p objects locals (e ∷ es) n = with_read (read p objects locals e n) (λ x.
    elim (read_all p objects locals es x.operations) [ Err fault ↦ Err fault | Ok values ↦ Ok (x.value ∷ values) ])

-- a thing still to do in a block: a statement, the end of an inner block, or the test of a `while`
pub data Thing : Type 0 where
  Do : TStmt → Thing
  End : ℕ → Thing
  Test : Expr → TBlock → Thing

-- a block at work
pub record Work : Type 0 where
  pub objects : List Object
  pub locals : List Local
  pub operations : ℕ
  pub todo : List Thing

-- the statements of a block, to be done
abbrev pub things : TBlock → List Thing
things block = map Do (out-TBlock block).stmts

-- the work with these things to do
abbrev pub going_on : Work → List Thing → Work
going_on w todo = record w { todo = todo }

-- the work in an inner block
abbrev pub entered : Work → TBlock → List Thing → Work
entered w block rest = going_on w (things block ++ End (length w.locals) ∷ rest)

-- what is done with the value of an expression
abbrev pub with_expr : Program → Work → Expr → (ℕ → Work → Result Work ℕ) → Result Work ℕ
with_expr p w e go =
    with_read (read p w.objects w.locals e w.operations) (λ x. go x.value (record w { operations = x.operations }))

-- the work where a local was declared
abbrev pub declared_local : ℕ → List Thing → ℕ → Work → Work
declared_local name rest value w =
    record w { locals = w.locals ++ record { name = name; value = value } ∷ []; todo = rest }

-- the work where a local was assigned
abbrev pub assigned : ℕ → List Thing → ℕ → Work → Work
assigned name rest value w = record w { locals = with_value w.locals name value; todo = rest }

-- what is done with the place of a new object
abbrev pub with_made : Program → Work → ℕ → (ℕ → Work → Work) → Result Work ℕ
with_made p w kind go =
    let place = place_for p w.objects kind in
    counted w.operations (Ok (go place (record w {
      objects = with_new p w.objects kind place;
      operations = w.operations + 1;
    })))

-- the work where objects have changed by one operation, which may have a bad reference
abbrev pub operated : Work → List Thing → Bool → List Object → Result Work ℕ
operated w rest is_good objects = counted w.operations
    (if is_good
    then Ok (record w { objects = objects; operations = w.operations + 1; todo = rest })
    else Err bad_reference)

-- the work where a field was stored
abbrev pub stored : Program → Work → List Thing → FieldOf → ℕ → Result Work ℕ
stored p w rest field value =
    let r = reference_of p w.locals field in
    operated w rest (is_some (object_of w.objects r.place r.kind)) (with_field w.objects r.place r.field value)

-- the work where an object was freed
abbrev pub freed : Work → List Thing → ℕ → Result Work ℕ
freed w rest place = operated w rest (is_made (object_at w.objects place)) (without w.objects place)

-- after an `if`: the block that it chooses, or what follows
abbrev pub branched : TBlock → Option TBlock → List Thing → ℕ → Work → Work
branched block other rest value w = chosen_by value (entered w block rest)
    (elim other [ None ↦ going_on w rest | Some block ↦ entered w block rest ])

-- after a test of a `while`: its block, then the test again, or what follows
abbrev pub tested : Expr → TBlock → List Thing → ℕ → Work → Work
tested e block rest value w = chosen_by value (entered w block (Test e block ∷ rest)) (going_on w rest)

-- after a `break`: what follows the innermost loop, without the locals of the blocks that are left
abbrev pub broken : List Local → List Thing → List Local × List Thing
broken locals [] = (locals, [])
broken locals (Do s ∷ todo) = broken locals todo
broken locals (End keep ∷ todo) = broken (take keep locals) todo
broken locals (Test e block ∷ todo) = (locals, todo)

-- the work after a `break`
abbrev pub broken_off : Work → List Thing → Work
broken_off w todo = record w { locals = (broken w.locals todo).0; todo = (broken w.locals todo).1 }

-- the move that a statement is, with what follows it, or its fault; `abort` and `give` are none
abbrev pub moved_by : Program → Work → List Thing → TStmt-F TStmt TBlock → Option (Result Work ℕ)
moved_by p w rest (tstmt.Let at e) = Some (with_expr p w e (λ value w. Ok (declared_local at.name rest value w)))
moved_by p w rest (tstmt.LetNew at kind) = Some (with_made p w (kind_number p kind.name) (declared_local at.name rest))
moved_by p w rest (tstmt.Set at e) = Some (with_expr p w e (λ value w. Ok (assigned at.name rest value w)))
moved_by p w rest (tstmt.SetNew at kind) = Some (with_made p w (kind_number p kind.name) (assigned at.name rest))
moved_by p w rest (tstmt.Store field e) = Some (with_expr p w e (λ value w. stored p w rest field value))
moved_by p w rest (tstmt.Free e) = Some (with_expr p w e (λ value w. freed w rest value))
moved_by p w rest (tstmt.If e block other) = Some (with_expr p w e (λ value w. Ok (branched block other rest value w)))
moved_by p w rest (tstmt.While e block) = Some (with_expr p w e (λ value w. Ok (tested e block rest value w)))
moved_by p w rest (tstmt.Break place) = Some (Ok (broken_off w rest))
moved_by p w rest (tstmt.Abort place) = None
moved_by p w rest (tstmt.Give place es) = None

-- one move; none at the end of the block, at `abort` and at `give`
abbrev pub moved : Program → Work → List Thing → Option (Result Work ℕ)
moved p w [] = None
moved p w (Do statement ∷ rest) = moved_by p w rest (out-TStmt statement)
moved p w (End keep ∷ rest) = Some (Ok (record w { locals = take keep w.locals; todo = rest }))
moved p w (Test e block ∷ rest) = Some (with_expr p w e (λ value w. Ok (tested e block rest value w)))

abbrev pub move : Program → Work → Option (Result Work ℕ)
move p w = moved p w w.todo

-- how a block ends
pub data BlockEnd : Type 0 where
  -- the objects change, and the block gives these values
  Gave : List Object → List ℕ → BlockEnd
  Aborted : BlockEnd
  Fault : ℕ → BlockEnd

-- a block that gives values, unless reading them faults
abbrev pub gives : List Object → Result (List ℕ) ℕ → BlockEnd
gives objects (Err fault) = Fault fault
gives objects (Ok values) = Gave objects values

-- the end that a statement is which is no move
abbrev pub ended_by : Program → Work → TStmt-F TStmt TBlock → BlockEnd
ended_by p w (tstmt.Let at e) = Aborted
ended_by p w (tstmt.LetNew at kind) = Aborted
ended_by p w (tstmt.Set at e) = Aborted
ended_by p w (tstmt.SetNew at kind) = Aborted
ended_by p w (tstmt.Store field e) = Aborted
ended_by p w (tstmt.Free e) = Aborted
ended_by p w (tstmt.If e block other) = Aborted
ended_by p w (tstmt.While e block) = Aborted
ended_by p w (tstmt.Break place) = Aborted
ended_by p w (tstmt.Abort place) = Aborted
ended_by p w (tstmt.Give place es) = gives w.objects (read_all p w.objects w.locals es w.operations)

-- how a block ends that has no move; where nothing is left to do it gives as many zeros as it has to
abbrev pub ending : Program → ℕ → Work → List Thing → BlockEnd
ending p given w [] = Gave w.objects (replicate given 0)
ending p given w (Do statement ∷ rest) = ended_by p w (out-TStmt statement)
ending p given w (End keep ∷ rest) = Aborted
ending p given w (Test e block ∷ rest) = Aborted

-- a block that has no move left by the bound: it ends where none is next
abbrev pub stops : Program → ℕ → Work → Option (Result Work ℕ) → BlockEnd
stops p given w None = ending p given w w.todo
stops p given w (Some next) = Fault too_many_moves

-- a block that makes its next move, if there is one, and goes on
abbrev pub goes_on : Program → ℕ → (Work → BlockEnd) → Work → Option (Result Work ℕ) → BlockEnd
goes_on p given go w None = ending p given w w.todo
goes_on p given go w (Some (Err fault)) = Fault fault
goes_on p given go w (Some (Ok next)) = go next

-- a block with at most so many moves
unfoldable pub block_by : Program → ℕ → ℕ → Work → BlockEnd
block_by p given zero w = stops p given w (move p w)
block_by p given (suc n) w = goes_on p given (λ next. block_by p given n next) w (move p w)

-- what a block does with these objects and locals, and so many values to give
abbrev pub block : Program → List Object → List Local → ℕ → TBlock → BlockEnd
block p objects locals given body = block_by p given most_block_moves
    (record { objects = objects; locals = locals; operations = 0; todo = things body })
