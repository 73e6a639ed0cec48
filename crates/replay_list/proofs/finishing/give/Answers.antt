use Rattle.std.proofs.Common.{◌≡◌, Option, Some, ◌∙◌, ap, List}
use Rattle.std.specs.Prelude.{slice_set}
use Rattle.std.proofs.lemmas.List.{set-set}
use Rattle.thread_tree.specs.LocalState.{bind}
use Rattle.thread_tree.specs.Program.{program_of}
use Rattle.thread_machine.specs.Context.{local_of}
use Rattle.thread_machine.specs.declared.context.Ctx.{Ctx}
use Rattle.replay_list.proofs.finishing.give.Goals as goal

pub returns-in-Some : goal.returns-in-Some
returns-in-Some c = record {
  given = λ ctx action unfinished.
      let both : ◌≡◌ {A = Option Ctx} (Some c.in-Some.ctx) (Some ctx) = c.in-Some.ensures.taken ∙ unfinished.there in
      let same : c.in-Some.ctx ≡ ctx = cc in
      record {
        later = c.bind.new.self;
        context = c.bind.ensures.context;
        bound = c.bind.ensures.bound ∙ ap (λ (x : Ctx). bind (program_of c.args.program.now) (local_of (program_of c.args.program.now) x) c.args.results.now) same;
        put = c.set.ensures.put
            ∙ ap (λ (l : List (Option Ctx)). slice_set l c.args.thread (Some c.bind.new.self)) c.in-Some.ensures.left
            ∙ set-set c.args.contexts.now c.args.thread _ _;
      };
}
