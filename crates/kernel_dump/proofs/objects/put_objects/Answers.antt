use Rattle.std.proofs.Common.{ℕ, List, ◌≤◌, ◌<◌, refl, ap, ◌∙◌, subst, arith}
use Rattle.std.proofs.lemmas.Result.{err_from_is_err_and}
use Rattle.outer_world.specs.Written.{put_to, IsPart}
use Rattle.thread_tree.specs.Program.{program_of}
use Rattle.kernel_model.specs.Dump.{text_of}
use Rattle.kernel_model.specs.Show.{names_of}
use Rattle.kernel_image.specs.Decoded.{image_in}
use Rattle.kernel_dump.proofs.Looped.{put_none, put_next, put_part, put_all}
use Rattle.kernel_dump.specs.Parts.{lines_at}
use Rattle.kernel_dump.proofs.ObjectLines.{object_lines_are}
use Rattle.kernel_dump.proofs.objects.put_objects.Goals as goal

pub loop-half-init : goal.loop-half-init
loop-half-init g c = record {
  left = put_none (g.S.Sink.bytes c.args.sink.now) (lines_at (names_of (program_of c.args.program.now)) (program_of c.args.program.now) (image_in (g.W.Words.present c.args.words.now)).heap (image_in (g.W.Words.present c.args.words.now)).live) 2048;
  faults = refl;
}

pub loop-half-preserved : goal.loop-half-preserved
loop-half-preserved g c =
    let low : c.loop-half.half < 2048 = omega arith in
    record {
      left = put_next _ _ (lines_at (names_of (program_of c.args.program.now)) (program_of c.args.program.now) (image_in (g.W.Words.present c.args.words.now)).heap (image_in (g.W.Words.present c.args.words.now)).live) 2048 _ c.loop-half.half low c.loop-half.invariant.left c.in_ok-put_object.ensures.puts;
      faults = c.in_ok-put_object.ensures.cause.kept ∙ c.loop-half.invariant.faults;
    }

pub returns-clause-puts : goal.returns-clause-puts
returns-clause-puts g c =
    let lines = lines_at (names_of (program_of c.args.program.now)) (program_of c.args.program.now) (image_in (g.W.Words.present c.args.words.now)).heap (image_in (g.W.Words.present c.args.words.now)).live in
    let past : 2048 ≤ c.loop-half.half = omega arith in
    put_all _ _ lines 2048 c.loop-half.half past c.loop-half.invariant.left
    ∙ ap (λ (all : List (List ℕ)). put_to (g.S.Sink.bytes c.args.sink.now) (text_of all)) (object_lines_are (names_of (program_of c.args.program.now)) (program_of c.args.program.now) (image_in (g.W.Words.present c.args.words.now)).heap (image_in (g.W.Words.present c.args.words.now)).live)

pub returns-in_err-put_object-clause-puts : goal.returns-in_err-put_object-clause-puts
returns-in_err-put_object-clause-puts g c =
    let lines = lines_at (names_of (program_of c.args.program.now)) (program_of c.args.program.now) (image_in (g.W.Words.present c.args.words.now)).heap (image_in (g.W.Words.present c.args.words.now)).live in
    let low : c.loop-half.half < 2048 = omega arith in
    let p = err_from_is_err_and c.from_residual.result c.from_residual.ensures.1 in
    rw p.1 (subst (λ (all : List (List ℕ)). IsPart (g.S.Sink.bytes c.args.sink.now) (g.S.Sink.bytes c.put_object.new.sink) (text_of all))
    (object_lines_are (names_of (program_of c.args.program.now)) (program_of c.args.program.now) (image_in (g.W.Words.present c.args.words.now)).heap (image_in (g.W.Words.present c.args.words.now)).live)
    (put_part _ _ lines 2048 _ c.loop-half.half low c.loop-half.invariant.left c.in_err-put_object.ensures.puts))
