-- A `break` leaves the blocks up to the innermost loop's, or to the end of the body.
use Rattle.std.proofs.Common.{◌∙◌, ap, sym, take, drop, [], subst}
use Rattle.std.proofs.lemmas.List.{append-nil}
use Rattle.thread_tree.specs.Program.{program_of}
use Rattle.thread_tree.specs.LocalState.{LocalState, broken_off}
use Rattle.thread_machine.specs.Context.{level_of, level_along, state_at, todo_at, kept_in}
use Rattle.thread_machine.specs.Scope.{IsOpenBy}
use Rattle.thread_machine.proofs.KeepLemmas.{open_here}
use Rattle.thread_machine.proofs.LevelLemmas.{popped_waiting}
use Rattle.thread_machine.proofs.BreakLemmas.{left_loop, left_more, left_body, passed_break, popped_none}
use Rattle.thread_machine.proofs.context.Ctx.leave_loop.Goals as goal

pub returns-then-leave_behind-clause-counted : goal.returns-then-leave_behind-clause-counted
returns-then-leave_behind-clause-counted c =
    let p = program_of c.args.tree.now in
    let s = c.leaving.self in
    c.leave_behind.ensures.counted (record {
      within = c.leaving.invariant.1.within;
      waiting = ap kept_in (sym (popped_waiting p s.body s.cursors.items c.pop_block.new.cursors.items c.in-Some.cursor c.in-Some.ensures.popped c.in-Some.ensures.block)) ∙ c.leaving.invariant.1.waiting;
    })

pub returns-then-leave_behind-clause-moved : goal.returns-then-leave_behind-clause-moved
returns-then-leave_behind-clause-moved c =
    let p = program_of c.args.tree.now in
    let s = c.leaving.self in
    c.leave_behind.ensures.moved
    ∙ left_loop p s.body s.cursors.items c.pop_block.new.cursors.items c.in-Some.cursor s.at s.again (take s.base s.slots.items) (drop s.base s.slots.items) (todo_at (level_along p s.body c.pop_block.new.cursors.items) s.again s.at) c.leaving.invariant.0 c.in-Some.ensures.popped c.in-Some.ensures.block (sym c.leave_behind.ensures.left ∙ c.if-leave_behind.true)
    ∙ c.leaving.invariant.2
    ∙ passed_break p c.args.self.now c.pass.new.self c.pass.ensures.kept

pub leaving-preserved : goal.leaving-preserved
leaving-preserved c =
    let p = program_of c.args.tree.now in
    let s = c.leaving.self in (
      c.leave_behind.ensures.again,
      c.leave_behind.ensures.counted (record {
        within = c.leaving.invariant.1.within;
        waiting = ap kept_in (sym (popped_waiting p s.body s.cursors.items c.pop_block.new.cursors.items c.in-Some.cursor c.in-Some.ensures.popped c.in-Some.ensures.block)) ∙ c.leaving.invariant.1.waiting;
      }),
      ap (λ (t : LocalState). broken_off t t.top.todo) c.leave_behind.ensures.moved
          ∙ left_more p s.body s.cursors.items c.pop_block.new.cursors.items c.in-Some.cursor s.at s.again (take s.base s.slots.items) (drop s.base s.slots.items) (todo_at (level_along p s.body c.pop_block.new.cursors.items) s.again s.at) c.leaving.invariant.0 c.in-Some.ensures.popped c.in-Some.ensures.block (sym c.leave_behind.ensures.left ∙ c.if-leave_behind.false)
          ∙ c.leaving.invariant.2,
      λ held. open_here p c.leave_behind.new.self (c.leave_behind.ensures.scoped c.in-Some.ensures.block (subst (λ xs. IsOpenBy p s.body xs s.slots.items s.base) c.in-Some.ensures.popped (c.leaving.invariant.3 held))),
    )

pub returns-in-None-clause-moved : goal.returns-in-None-clause-moved
returns-in-None-clause-moved c =
    let p = program_of c.args.tree.now in
    let s = c.leaving.self in
    let level = popped_none p s.body s.cursors.items c.pop_block.new.cursors.items c.in-None.ensures.popped in
    c.finish.ensures.moved (c.in-None.ensures.body p s.body)
    ∙ ap (λ l. state_at l (take s.base s.slots.items) (drop s.base s.slots.items) []) (sym level)
    ∙ left_body (level_of p s) s.at s.again (take s.base s.slots.items) (drop s.base s.slots.items) c.leaving.invariant.0 (rw level (c.in-None.ensures.body p s.body))
    ∙ c.leaving.invariant.2
    ∙ passed_break p c.args.self.now c.pass.new.self c.pass.ensures.kept

pub returns-then-leave_behind-clause-scoped : goal.returns-then-leave_behind-clause-scoped
returns-then-leave_behind-clause-scoped c = λ b here none scoped.
    let p = program_of c.args.tree.now in
    let s = c.leaving.self in
    let held = c.leaving.invariant.3 (open_here p c.pass.new.self (c.pass.ensures.scoped p b here none scoped)) in
    c.leave_behind.ensures.scoped c.in-Some.ensures.block (subst (λ xs. IsOpenBy p s.body xs s.slots.items s.base) c.in-Some.ensures.popped held)

pub returns-in-None-clause-scoped : goal.returns-in-None-clause-scoped
returns-in-None-clause-scoped c = λ b here none scoped.
    let p = program_of c.args.tree.now in
    let s = c.leaving.self in
    let held = c.leaving.invariant.3 (open_here p c.pass.new.self (c.pass.ensures.scoped p b here none scoped)) in
    c.finish.ensures.scoped (subst (λ xs. IsOpenBy p s.body xs s.slots.items s.base) (c.in-None.ensures.popped ∙ append-nil c.pop_block.new.cursors.items) held)
