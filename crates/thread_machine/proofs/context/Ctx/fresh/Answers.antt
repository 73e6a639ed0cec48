-- The context of a birth.
use Rattle.std.proofs.Common.{◌≡◌, ◌∙◌, refl, length}
use Rattle.std.specs.Prelude.{slice_get, option_map}
use Rattle.thread_tree.specs.Program.{Template, program_of}
use Rattle.thread_machine.specs.Seen.{seen}
use Rattle.thread_machine.proofs.BindLemmas.{fresh_context, fresh_born, some_and}
use Rattle.thread_machine.proofs.context.Ctx.fresh.Goals as goal

pub returns-clause-context : goal.returns-clause-context
returns-clause-context c =
    let p = program_of c.args.program.now in
    let t = some_and (λ (t : Template). length c.args.args.now ≡ length t.parameters) (slice_get p.templates c.args.template) c.requires.template in
    fresh_context p c.args.template c.body_number.result t.0 c.args.args.now c.declare_parameters.new.slots c.new.result (option_map seen c.template.result) (rw (← c.tree-tree.ensures.same) c.body_number.ensures.found) t.1 t.2 (rw (← c.tree-tree.ensures.same) c.template.ensures.found) c.new.ensures (c.declare_parameters.ensures.declared ∙ rw c.new-slots.ensures refl)

pub returns-clause-born : goal.returns-clause-born
returns-clause-born c =
    let p = program_of c.args.program.now in
    let t = some_and (λ (t : Template). length c.args.args.now ≡ length t.parameters) (slice_get p.templates c.args.template) c.requires.template in
    fresh_born p c.args.template c.body_number.result t.0 c.args.args.now c.declare_parameters.new.slots c.new.result (option_map seen c.template.result) (rw (← c.tree-tree.ensures.same) c.body_number.ensures.found) t.1 (rw (← c.tree-tree.ensures.same) c.template.ensures.found) c.new.ensures (c.declare_parameters.ensures.declared ∙ rw c.new-slots.ensures refl)
