-- The end of a block or of a called body.
use Rattle.std.proofs.Common.{◌≡◌, ◌+◌, arith, sym, ap, ◌∙◌, drop, take, Some}
use Rattle.thread_tree.specs.Program.{program_of}
use Rattle.thread_machine.specs.Context.{level_of, level_along, todo_at, kept_in}
use Rattle.thread_machine.proofs.KeepLemmas.{open_from}
use Rattle.thread_machine.proofs.LevelLemmas.{last_none, no_call, popped_waiting}
use Rattle.thread_machine.proofs.ReturnLemmas.{end_none, end_call, end_block, popped_counted}
use Rattle.thread_machine.proofs.context.Ctx.end.Goals as goal

pub returns-in-None-clause-moved : goal.returns-in-None-clause-moved
returns-in-None-clause-moved c =
    let s = c.args.self.now in
    end_none (program_of c.args.tree.now) s.body s.cursors.items (take s.base s.slots.items) (drop s.base s.slots.items) (todo_at (level_of (program_of c.args.tree.now) s) s.again s.at) (last_none s.cursors.items (sym c.in-None.ensures.value))

pub return_to-requires-clause-kept : goal.return_to-requires-clause-kept
return_to-requires-clause-kept c =
    let p = program_of c.args.tree.now in
    let s = c.args.self.now in
    let counted : kept_in (level_along p s.body c.pop.new.self.items).waiting + c.in-Some.cursor.keep ≡ s.base = popped_counted p s.body s.base s.cursors.items c.pop.new.self.items c.in-Some.cursor c.in-Some.ensures.items c.in-Call.is c.requires.counted.waiting in
    omega (arith, counted)

pub returns-in-Call-clause-counted : goal.returns-in-Call-clause-counted
returns-in-Call-clause-counted c =
    let p = program_of c.args.tree.now in
    let s = c.args.self.now in
    c.return_to.ensures.counted (popped_counted p s.body s.base s.cursors.items c.pop.new.self.items c.in-Some.cursor c.in-Some.ensures.items c.in-Call.is c.requires.counted.waiting)

pub returns-in-Call-clause-moved : goal.returns-in-Call-clause-moved
returns-in-Call-clause-moved c =
    let p = program_of c.args.tree.now in
    let s = c.args.self.now in
    end_call p s.body s.cursors.items c.pop.new.self.items c.in-Some.cursor (take s.base s.slots.items) (drop s.base s.slots.items) (todo_at (level_of p s) s.again s.at) c.in-Some.ensures.items c.in-Call.is
    ∙ ap (λ t. Some t) (sym c.return_to.ensures.moved)

pub returns-in-First : goal.returns-in-First
returns-in-First c =
    let p = program_of c.args.tree.now in
    let s = c.args.self.now in
    let is_block = no_call c.in-Some.cursor.way c.in-First.is in
    record {
      counted = c.leave.ensures.counted (record {
        within = c.requires.counted.within;
        waiting = ap kept_in (sym (popped_waiting p s.body s.cursors.items c.pop.new.self.items c.in-Some.cursor c.in-Some.ensures.items is_block)) ∙ c.requires.counted.waiting;
      });
      scoped = λ scoped. c.leave.ensures.scoped is_block (open_from p s.body s.cursors.items c.pop.new.self.items c.in-Some.cursor s.slots.items s.base s.at c.in-Some.ensures.items scoped);
      unmoved = λ e. cc;
      moved =
          end_block p s.body s.cursors.items c.pop.new.self.items c.in-Some.cursor (take s.base s.slots.items) (drop s.base s.slots.items) (todo_at (level_of p s) s.again s.at) (todo_at (level_along p s.body c.pop.new.self.items) s.again s.at) c.in-Some.ensures.items is_block
          ∙ ap (λ t. Some t) (sym c.leave.ensures.moved);
    }

pub returns-in-Call-clause-scoped : goal.returns-in-Call-clause-scoped
returns-in-Call-clause-scoped c = λ scoped.
    let p = program_of c.args.tree.now in
    let s = c.args.self.now in
    c.return_to.ensures.scoped c.in-Call.is (open_from p s.body s.cursors.items c.pop.new.self.items c.in-Some.cursor s.slots.items s.base s.at c.in-Some.ensures.items scoped)
