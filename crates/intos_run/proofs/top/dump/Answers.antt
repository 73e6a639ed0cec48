use Rattle.std.proofs.Common.{List, ◌∙◌, ap, subst}
use Rattle.outer_world.specs.Written.{IsPart, put_to}
use Rattle.thread_tree.specs.Program.{program_of}
use Rattle.undo_journal.proofs.Callers.{undone-at_rest}
use Rattle.kernel_image.specs.Decoded.{image_in}
use Rattle.kernel_image.specs.Shown.{shown}
use Rattle.intos_run.proofs.TopLemmas.{nobody_timed, dump_shown}
use Rattle.intos_run.proofs.top.dump.Goals as goal

pub put_dump-requires : goal.put_dump-requires
put_dump-requires g c =
    let tree = c.args.program.now in
    let p = program_of tree in
    let K = c.requires.stands.0 in
    let stands = c.requires.stands.1 in
    let same = c.in-Ok.ensures.settled ∙ undone-at_rest _ c.requires.at_rest in
    let shows = ap (λ (words : List _). shown p (image_in words)) same ∙ stands.shows in
    record {
      sound = (K, stands.sound, shows);
      no_queues = c.served_laws.ensures.no_queues tree c.requires.served;
      no_semaphores = c.served_laws.ensures.no_semaphores tree c.requires.served;
      untimed = nobody_timed p _ K shows c.requires.stands.2;
    }

pub returns-in-Ok-put_dump-clause-words : goal.returns-in-Ok-put_dump-clause-words
returns-in-Ok-put_dump-clause-words g c = ap g.N.Nv.words c.rest.ensures.same ∙ c.in-Ok.ensures.settled ∙ undone-at_rest _ c.requires.at_rest

pub returns-in-Err-put_dump-clause-words : goal.returns-in-Err-put_dump-clause-words
returns-in-Err-put_dump-clause-words g c = ap g.N.Nv.words c.rest-in-Err-put_dump.ensures.same ∙ c.in-Ok.ensures.settled ∙ undone-at_rest _ c.requires.at_rest

pub returns-in-Ok-put_dump-clause-puts : goal.returns-in-Ok-put_dump-clause-puts
returns-in-Ok-put_dump-clause-puts g c = λ K stands.
    let same = c.in-Ok.ensures.settled ∙ undone-at_rest _ c.requires.at_rest in
    let p = program_of c.args.program.now in
    c.in-Ok-put_dump.ensures.puts ∙ ap (put_to (g.S.Sink.bytes c.args.sink.now)) (dump_shown p _ _ K same stands.shows)

pub returns-in-Err-put_dump-clause-puts : goal.returns-in-Err-put_dump-clause-puts
returns-in-Err-put_dump-clause-puts g c = λ K stands.
    let same = c.in-Ok.ensures.settled ∙ undone-at_rest _ c.requires.at_rest in
    let p = program_of c.args.program.now in
    subst (IsPart (g.S.Sink.bytes c.args.sink.now) (g.S.Sink.bytes c.put_dump.new.sink)) (dump_shown p _ _ K same stands.shows) c.in-Err-put_dump.ensures.puts
