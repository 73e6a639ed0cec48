-- What the action that a statement is does to the kernel.
use Rattle.std.specs.Prelude.{ℕ, ◌+◌, ◌-◌, ◌==◌, Bool, false, if◌then◌else◌, List, [], ◌∷◌, ◌++◌, length, flat_map, replicate, Option, Some, None, decimal}
use Rattle.kernel_model.specs.Kernel.{State}
use Rattle.thread_tree.specs.Numbers.{template_number, queue_number, semaphore_number}
use Rattle.kernel_model.specs.Serve.{Effect, answers, becomes, words_of}
use Rattle.kernel_model.specs.Serve.Fate.{Enters, Stops}
use Rattle.kernel_model.specs.Calls.{print, spawn, delete, delay, setprio, getprio, send, receive, take, give, now, yield, items_waiting}
use Rattle.kernel_model.specs.Transactions.{BlockEnd, block}
use Rattle.kernel_model.specs.Transactions.BlockEnd.{Gave, Aborted, Fault}
use Rattle.thread_tree.specs.declared.local.Local.{Local}
use Rattle.thread_tree.specs.declared.action.Call.{Call}
use Rattle.thread_tree.specs.declared.action.Call.TheVariants as call
use Rattle.thread_tree.specs.declared.action.Item.{Item}
use Rattle.thread_tree.specs.declared.action.Item.TheVariants as item
use Rattle.thread_tree.specs.declared.action.Who.{Who}
use Rattle.thread_tree.specs.declared.action.Who.TheVariants as who
use Rattle.thread_tree.specs.declared.block.Block.{Block}
use Rattle.thread_tree.specs.declared.block.Stmt.{Stmt, out-Stmt}
use Rattle.thread_tree.specs.declared.block.Stmt.TheOpen.{Stmt-F}
use Rattle.thread_tree.specs.declared.block.Stmt.TheOpen as stmt
use Rattle.thread_tree.specs.Program.{Program}
use Rattle.thread_tree.specs.Value.{value_of, values_in}
use Rattle.thread_tree.specs.Kinds.{action_of}

-- the bytes of a print's item: those of the text, or the digits of the value
abbrev pub printed : List Local → Item → List ℕ
printed locals (item.Text place text) = text.bytes.items
printed locals (item.Value place e) = decimal (value_of locals e)

-- the bytes of a print
abbrev pub printed_line : List Local → List Item → List ℕ
printed_line locals items = flat_map (printed locals) items ++ 10 ∷ []

-- the number of the thread that a call of thread t speaks of
abbrev pub whom : ℕ → List Local → Who → ℕ
whom t locals who.Own = t
whom t locals (who.Of e) = value_of locals e

-- what a call of thread t does
abbrev pub effect_of_call : Program → State → ℕ → List Local → Call → Effect
effect_of_call p K t locals (call.Print items) = print K (printed_line locals items)
effect_of_call p K t locals (call.Spawn template arguments) =
    spawn p K (template_number p template.name) (values_in locals arguments)
effect_of_call p K t locals (call.Delete target) = delete K t (whom t locals target)
effect_of_call p K t locals (call.Delay ticks) = delay K (value_of locals ticks)
effect_of_call p K t locals (call.Setprio target priority) = setprio K (whom t locals target) (value_of locals priority)
effect_of_call p K t locals (call.Getprio target) = getprio K (whom t locals target)
effect_of_call p K t locals (call.Send queue value limit) =
    send p K (queue_number p queue.name) (value_of locals value) (value_of locals limit)
effect_of_call p K t locals (call.Receive queue limit) = receive p K (queue_number p queue.name) (value_of locals limit)
effect_of_call p K t locals (call.Take semaphore limit) =
    take p K (semaphore_number p semaphore.name) (value_of locals limit)
effect_of_call p K t locals (call.Give semaphore) = give p K (semaphore_number p semaphore.name)
effect_of_call p K t locals call.Now = now K
effect_of_call p K t locals call.Yield = yield K
effect_of_call p K t locals (call.Waiting queue) = items_waiting K (queue_number p queue.name)

-- what the end of an `atomic` block does, which has so many values to give
abbrev pub effect_of_end : State → ℕ → BlockEnd → Effect
effect_of_end K given (Gave objects values) = answers (1 ∷ values) (record K { objects = objects })
effect_of_end K given Aborted = answers (replicate (given + 1) 0) K
effect_of_end K given (Fault code) = becomes (Stops code) K

-- what an action of thread t does, by the layer of its statement; what is no action ends the thread
abbrev pub effect_of_layer : Program → State → ℕ → List Local → Stmt-F Stmt Block → Effect
effect_of_layer p K t locals (stmt.Let at e) = becomes (Stops 0) K
effect_of_layer p K t locals (stmt.Set at e) = becomes (Stops 0) K
effect_of_layer p K t locals (stmt.Apply to callee arguments) = becomes (Stops 0) K
effect_of_layer p K t locals (stmt.If e then_block else_block) = becomes (Stops 0) K
effect_of_layer p K t locals (stmt.While e body) = becomes (Stops 0) K
effect_of_layer p K t locals (stmt.Ploop place body) = becomes Enters K
effect_of_layer p K t locals (stmt.Break place) = becomes (Stops 0) K
effect_of_layer p K t locals (stmt.Return place value) = becomes (Stops 0) K
effect_of_layer p K t locals (stmt.Atomic place to body) =
    let given = length to - 1 in effect_of_end K given (block p K.objects locals given body)
effect_of_layer p K t locals (stmt.Call place c to) = effect_of_call p K t locals c

-- what the action that a statement is does
abbrev pub effect_of : Program → State → ℕ → List Local → Stmt → Effect
effect_of p K t locals statement = effect_of_layer p K t locals (out-Stmt statement)

-- whether a call of thread t deletes the thread itself
abbrev pub is_own_delete : ℕ → List Local → Call → Bool
is_own_delete t locals (call.Delete target) = whom t locals target == t
is_own_delete t locals _ = false

-- the call that a statement is, by its layer
abbrev pub call_of : {S B : Type 0} → Stmt-F S B → Option Call
call_of (stmt.Let at e) = None
call_of (stmt.Set at e) = None
call_of (stmt.Apply to callee arguments) = None
call_of (stmt.If e then_block else_block) = None
call_of (stmt.While e body) = None
call_of (stmt.Ploop place body) = None
call_of (stmt.Break place) = None
call_of (stmt.Return place value) = None
call_of (stmt.Atomic place to body) = None
call_of (stmt.Call place c to) = Some c

-- whether an action of thread t is a delete of the thread itself
abbrev pub deletes_itself : ℕ → List Local → Option Call → Bool
deletes_itself t locals None = false
deletes_itself t locals (Some c) = is_own_delete t locals c

-- the words that the records must have room for before an action; a delete of the thread itself needs none
abbrev pub need : Program → ℕ → List Local → Stmt → ℕ
need p t locals statement =
    if deletes_itself t locals (call_of (out-Stmt statement)) then 0 else words_of (action_of p statement)
