-- The context at the begin of a body.
use Rattle.std.proofs.Common.{refl}
use Rattle.std.specs.Prelude.{option_map}
use Rattle.thread_tree.specs.Program.{program_of}
use Rattle.thread_machine.specs.Seen.{seen}
use Rattle.thread_machine.proofs.LoopLemmas.{begun, behind_nothing}
use Rattle.thread_machine.proofs.context.Ctx.begin.Goals as goal

pub returns-clause-begun : goal.returns-clause-begun
returns-clause-begun c whole is =
    begun (program_of c.args.tree.now) _ whole (option_map seen c.numbered.result) _ c.requires.sound is c.numbered.ensures.found (behind_nothing c.declare_parameters.ensures.declared c.new-slots.ensures) refl c.new.ensures refl refl refl
