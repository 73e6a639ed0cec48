-- A return leads behind the call of the innermost body.
use Rattle.std.proofs.Common.{◌≡◌, ◌+◌, arith, ◌∙◌, drop, take, [], subst}
use Rattle.std.proofs.lemmas.List.{append-nil}
use Rattle.thread_tree.specs.Program.{program_of}
use Rattle.thread_machine.specs.Context.{level_of, level_along, todo_at, kept_in}
use Rattle.thread_machine.specs.Scope.{IsOpenBy}
use Rattle.thread_machine.proofs.KeepLemmas.{is_open}
use Rattle.thread_machine.proofs.ReturnLemmas.{returned_called, call_counted, returned_none, outermost_behind}
use Rattle.thread_machine.proofs.context.Ctx.give_back.Goals as goal

pub return_to-requires-clause-kept : goal.return_to-requires-clause-kept
return_to-requires-clause-kept c =
    let p = program_of c.args.tree.now in
    let s = c.args.self.now in
    let waiting = (c.in-Some.ensures.waiting p s.body) in
    let counted : kept_in (level_along p s.body c.pop_call.new.cursors.items).waiting + c.in-Some.cursor.keep ≡ s.base = call_counted p s.body s.base (level_of p s) c.pop_call.new.cursors.items c.in-Some.cursor waiting c.in-Some.ensures.call c.requires.counted.waiting in
    omega (arith, counted)

pub returns-in-Some-clause-counted : goal.returns-in-Some-clause-counted
returns-in-Some-clause-counted c =
    let p = program_of c.args.tree.now in
    let s = c.args.self.now in
    c.return_to.ensures.counted
    (call_counted p s.body s.base (level_of p s) c.pop_call.new.cursors.items c.in-Some.cursor (c.in-Some.ensures.waiting p s.body) c.in-Some.ensures.call c.requires.counted.waiting)

pub returns-in-Some-clause-moved : goal.returns-in-Some-clause-moved
returns-in-Some-clause-moved c =
    let p = program_of c.args.tree.now in
    let s = c.args.self.now in
    c.return_to.ensures.moved
    ∙ returned_called p s.body c.pop_call.new.cursors.items c.in-Some.cursor (level_of p s) (take s.base s.slots.items) (drop s.base s.slots.items) [] (todo_at (level_of p s) s.again s.at) c.args.value c.in-Some.ensures.call
    (c.in-Some.ensures.waiting p s.body) (c.in-Some.ensures.result p s.body)

pub returns-in-None-clause-moved : goal.returns-in-None-clause-moved
returns-in-None-clause-moved c =
    let p = program_of c.args.tree.now in
    let s = c.args.self.now in
    c.finish.ensures.moved (outermost_behind p s.body c.pop_call.new.cursors.items c.in-None.ensures.call)
    ∙ returned_none p s.body c.pop_call.new.cursors.items (level_of p s) (take s.base s.slots.items) (drop s.base s.slots.items) [] (todo_at (level_of p s) s.again s.at) c.args.value c.in-None.ensures.call
    (c.in-None.ensures.waiting p s.body) (c.in-None.ensures.result p s.body)

pub returns-in-Some-clause-scoped : goal.returns-in-Some-clause-scoped
returns-in-Some-clause-scoped c = λ scoped.
    let s = c.args.self.now in
    let p = program_of c.args.tree.now in
    c.return_to.ensures.scoped c.in-Some.ensures.call
    (c.in-Some.ensures.scoped p s.body s.base s.slots.items (is_open p s.body s.cursors.items s.slots.items s.base s.at scoped))

pub returns-in-None-clause-scoped : goal.returns-in-None-clause-scoped
returns-in-None-clause-scoped c = λ scoped.
    let s = c.args.self.now in
    let p = program_of c.args.tree.now in
    c.finish.ensures.scoped
    (subst (λ xs. IsOpenBy p s.body xs s.slots.items s.base) (append-nil c.pop_call.new.cursors.items)
    (c.in-None.ensures.scoped p s.body s.base s.slots.items (is_open p s.body s.cursors.items s.slots.items s.base s.at scoped)))
