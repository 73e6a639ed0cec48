use Rattle.std.proofs.Common.{◌≡◌, true, false, ◌<◌, ◌+◌, ◌-◌, ◌*◌, ◌++◌, ◌∷◌, [], ℕ, refl, sym, ◌∙◌, ap, subst, arith}
use Rattle.std.specs.Result.{is_err}
use Rattle.nv_memory.specs.Budget.{IsShort}
use Rattle.outer_world.specs.Written.{put_to, IsPart}
use Rattle.thread_tree.specs.Program.{program_of}
use Rattle.kernel_image.specs.Decoded.{image_in}
use Rattle.replay_list.specs.Kept.{counter_of}
use Rattle.replay_list.specs.Stands.{Stands}
use Rattle.kernel_boots.specs.Courses.{course, uncut, last}
use Rattle.kernel_boots.proofs.Callers.{at-most-same}
use Rattle.boot_report.specs.Lines.{cut_line, end_line}
use Rattle.intos_run.specs.Ends.{EndsDone, EndsFailed}
use Rattle.intos_run.proofs.BootLemmas.{part_failed, whole_put, live-end, live-cut, live-begun}
use Rattle.intos_run.proofs.ReportLemmas.{put_behind, part_behind}
use Rattle.intos_run.proofs.boot.live.Goals as goal

-- the sink failed at the first lines
pub returns-then-is_err-clause-ends : goal.returns-then-is_err-clause-ends
returns-then-is_err-clause-ends g c = λ K live.
    let on = course (program_of c.args.program.now) K (g.W.World.events c.args.world.now) in
    let words = g.N.Nv.words c.args.kernel.idle in
    let n = (image_in words).events in
    let laws = c.beginning.ensures in
    let is : is_err c.put_begin.result ≡ true = sym c.is_err.ensures.value ∙ c.if-is_err.true in
    let part = part_failed c.put_begin.result _ _ _ is (c.put_begin.ensures.puts (uncut on n) live.stands) in
    let count = laws.at_rest_counts on words c.args.kernel.contexts c.requires.at_rest live in
    subst (EndsFailed g.N.Nv on c.args.number c.args.undone n c.args.kernel.idle (g.S.Sink.bytes c.args.sink.now) (g.S.Sink.bytes c.put_begin.new.sink)) (sym c.device.ensures.same)
    (record {
      worked = record {
        under_way = laws.at_rest on words c.args.kernel.contexts c.requires.at_rest live;
        later = omega (arith, count);
      };
      formatted = λ _. c.requires.at_rest.formatted;
      spent = record { left = at-most-same (g.N.Nv.left c.args.kernel.idle); to_come = refl; ends = refl };
      text = live-begun on c.args.number c.args.undone n _ _ _ part;
    })

pub returns-then-is_err-clause-floor : goal.returns-then-is_err-clause-floor
returns-then-is_err-clause-floor g c =
    let on = course (program_of c.args.program.now) c.requires.live.0 (g.W.World.events c.args.world.now) in
    let words = g.N.Nv.words c.args.kernel.idle in
    let count = c.beginning.ensures.at_rest_counts on words c.args.kernel.contexts c.requires.at_rest c.requires.live.1 in
    omega (arith, count, c.requires.floor, ap (λ nv. counter_of (g.N.Nv.words nv)) c.device.ensures.same)

pub returns-then-is_err-clause-steps : goal.returns-then-is_err-clause-steps
returns-then-is_err-clause-steps g c =
    let on = course (program_of c.args.program.now) c.requires.live.0 (g.W.World.events c.args.world.now) in
    let words = g.N.Nv.words c.args.kernel.idle in
    let count = c.beginning.ensures.at_rest_counts on words c.args.kernel.contexts c.requires.at_rest c.requires.live.1 in
    omega (arith, count, ap (λ nv. counter_of (g.N.Nv.words nv)) c.device.ensures.same)

-- the sink failed at the last line, behind the last event
pub returns-then-is_err-2-clause-ends : goal.returns-then-is_err-2-clause-ends
returns-then-is_err-2-clause-ends g c = λ K live.
    let on = course (program_of c.args.program.now) K (g.W.World.events c.args.world.now) in
    let words = g.N.Nv.words c.in-Ok.kernel.idle in
    let n = (image_in (g.N.Nv.words c.args.kernel.idle)).events in
    let laws = c.beginning.ensures in
    let now = c.in-Ok.ensures.live K live in
    let fine : is_err c.put_begin.result ≡ false = sym c.is_err.ensures.value ∙ c.if-is_err.false in
    let failed : is_err c.put_end.result ≡ true = sym c.is_err-in-Ok.ensures.value ∙ c.if-is_err-2.true in
    let begun = whole_put c.put_begin.result _ _ _ fine (c.put_begin.ensures.puts (uncut on n) live.stands) in
    let count = laws.at_rest_counts on words c.in-Ok.kernel.contexts c.in-Ok.ensures.at_rest now in
    let counted : (image_in words).events ≡ last on = omega (arith, now.began, now.within, c.in-Ok.ensures.all) in
    let all : counter_of words ≡ last on = count ∙ counted in
    let told : c.counter-events.result ≡ last on = c.counter-events.ensures.events ∙ counted in
    let part = subst (λ (k : ℕ). IsPart (g.S.Sink.bytes c.put_begin.new.sink) (g.S.Sink.bytes c.put_end.new.sink) (end_line c.args.number k ++ 10 ∷ [])) told (part_failed c.put_end.result _ _ _ failed c.put_end.ensures.puts) in
    subst (EndsFailed g.N.Nv on c.args.number c.args.undone n c.args.kernel.idle (g.S.Sink.bytes c.args.sink.now) (g.S.Sink.bytes c.put_end.new.sink)) (sym c.device-then-is_err-2.ensures.same)
    (record {
      worked = record {
        under_way = laws.at_rest on words c.in-Ok.kernel.contexts c.in-Ok.ensures.at_rest now;
        later = omega (arith, count, c.in-Ok.ensures.later);
      };
      formatted = λ _. c.in-Ok.ensures.at_rest.formatted;
      spent = c.in-Ok.ensures.spent;
      text = subst (IsPart (g.S.Sink.bytes c.args.sink.now) (g.S.Sink.bytes c.put_end.new.sink)) (live-end on c.args.number c.args.undone n _ all)
          (part_behind _ _ _ _ _ begun part);
    })

pub returns-then-is_err-2-clause-floor : goal.returns-then-is_err-2-clause-floor
returns-then-is_err-2-clause-floor g c =
    let on = course (program_of c.args.program.now) c.requires.live.0 (g.W.World.events c.args.world.now) in
    let words = g.N.Nv.words c.in-Ok.kernel.idle in
    let now = c.in-Ok.ensures.live c.requires.live.0 c.requires.live.1 in
    let count = c.beginning.ensures.at_rest_counts on words c.in-Ok.kernel.contexts c.in-Ok.ensures.at_rest now in
    omega (arith, count, c.in-Ok.ensures.floor, ap (λ nv. counter_of (g.N.Nv.words nv)) c.device-then-is_err-2.ensures.same)

pub returns-then-is_err-2-clause-steps : goal.returns-then-is_err-2-clause-steps
returns-then-is_err-2-clause-steps g c =
    let on = course (program_of c.args.program.now) c.requires.live.0 (g.W.World.events c.args.world.now) in
    let words = g.N.Nv.words c.in-Ok.kernel.idle in
    let now = c.in-Ok.ensures.live c.requires.live.0 c.requires.live.1 in
    let count = c.beginning.ensures.at_rest_counts on words c.in-Ok.kernel.contexts c.in-Ok.ensures.at_rest now in
    omega (arith, count, c.in-Ok.ensures.steps, ap (λ nv. counter_of (g.N.Nv.words nv)) c.device-then-is_err-2.ensures.same)

-- every event is committed
pub returns-else-is_err-2-clause-ends : goal.returns-else-is_err-2-clause-ends
returns-else-is_err-2-clause-ends g c = λ K live.
    let on = course (program_of c.args.program.now) K (g.W.World.events c.args.world.now) in
    let words = g.N.Nv.words c.in-Ok.kernel.idle in
    let n = (image_in (g.N.Nv.words c.args.kernel.idle)).events in
    let laws = c.beginning.ensures in
    let now = c.in-Ok.ensures.live K live in
    let fine : is_err c.put_begin.result ≡ false = sym c.is_err.ensures.value ∙ c.if-is_err.false in
    let ended : is_err c.put_end.result ≡ false = sym c.is_err-in-Ok.ensures.value ∙ c.if-is_err-2.false in
    let begun = whole_put c.put_begin.result _ _ _ fine (c.put_begin.ensures.puts (uncut on n) live.stands) in
    let count = laws.at_rest_counts on words c.in-Ok.kernel.contexts c.in-Ok.ensures.at_rest now in
    let counted : (image_in words).events ≡ last on = omega (arith, now.began, now.within, c.in-Ok.ensures.all) in
    let all : counter_of words ≡ last on = count ∙ counted in
    let told : c.counter-events.result ≡ last on = c.counter-events.ensures.events ∙ counted in
    let line = whole_put c.put_end.result _ _ _ ended c.put_end.ensures.puts ∙ ap (λ (k : ℕ). put_to (g.S.Sink.bytes c.put_begin.new.sink) (end_line c.args.number k ++ 10 ∷ [])) told in
    subst (EndsDone g.N.Nv on c.args.number c.args.undone n c.args.kernel.idle (g.S.Sink.bytes c.args.sink.now) (g.S.Sink.bytes c.put_end.new.sink)) (sym c.device-in-Ok.ensures.same)
    (record {
      worked = record {
        under_way = laws.at_rest on words c.in-Ok.kernel.contexts c.in-Ok.ensures.at_rest now;
        later = omega (arith, count, c.in-Ok.ensures.later);
      };
      all = all;
      at_rest = c.in-Ok.ensures.at_rest;
      stands = subst (λ (k : ℕ). Stands on.program (image_in words) (uncut on k)) counted now.stands.image;
      spent = c.in-Ok.ensures.spent;
      text = put_behind _ _ _ _ _ begun line ∙ ap (put_to (g.S.Sink.bytes c.args.sink.now)) (live-end on c.args.number c.args.undone n _ all);
    })

pub returns-else-is_err-2-clause-floor : goal.returns-else-is_err-2-clause-floor
returns-else-is_err-2-clause-floor g c =
    let on = course (program_of c.args.program.now) c.requires.live.0 (g.W.World.events c.args.world.now) in
    let words = g.N.Nv.words c.in-Ok.kernel.idle in
    let now = c.in-Ok.ensures.live c.requires.live.0 c.requires.live.1 in
    let count = c.beginning.ensures.at_rest_counts on words c.in-Ok.kernel.contexts c.in-Ok.ensures.at_rest now in
    omega (arith, count, c.in-Ok.ensures.floor, ap (λ nv. counter_of (g.N.Nv.words nv)) c.device-in-Ok.ensures.same)

pub returns-else-is_err-2-clause-steps : goal.returns-else-is_err-2-clause-steps
returns-else-is_err-2-clause-steps g c =
    let on = course (program_of c.args.program.now) c.requires.live.0 (g.W.World.events c.args.world.now) in
    let words = g.N.Nv.words c.in-Ok.kernel.idle in
    let now = c.in-Ok.ensures.live c.requires.live.0 c.requires.live.1 in
    let count = c.beginning.ensures.at_rest_counts on words c.in-Ok.kernel.contexts c.in-Ok.ensures.at_rest now in
    omega (arith, count, c.in-Ok.ensures.steps, ap (λ nv. counter_of (g.N.Nv.words nv)) c.device-in-Ok.ensures.same)

-- the sink failed at the line of the cut
pub returns-then-is_err-3-clause-ends : goal.returns-then-is_err-3-clause-ends
returns-then-is_err-3-clause-ends g c = λ K live.
    let on = course (program_of c.args.program.now) K (g.W.World.events c.args.world.now) in
    let stopped = c.in-Err.field-0 in
    let words = g.N.Nv.words stopped.dark in
    let n = (image_in (g.N.Nv.words c.args.kernel.idle)).events in
    let fine : is_err c.put_begin.result ≡ false = sym c.is_err.ensures.value ∙ c.if-is_err.false in
    let failed : is_err c.put_cut.result ≡ true = sym c.is_err-in-Err.ensures.value ∙ c.if-is_err-3.true in
    let begun = whole_put c.put_begin.result _ _ _ fine (c.put_begin.ensures.puts (uncut on n) live.stands) in
    let count = c.in-Err.ensures.count in
    let part = subst (λ (k : ℕ). IsPart (g.S.Sink.bytes c.put_begin.new.sink) (g.S.Sink.bytes c.put_cut.new.sink) (cut_line c.args.number k ++ 10 ∷ [])) count (part_failed c.put_cut.result _ _ _ failed c.put_cut.ensures.puts) in
    let some : counter_of words < last on = omega (arith, count, c.in-Err.ensures.some) in
    subst (EndsFailed g.N.Nv on c.args.number c.args.undone n c.args.kernel.idle (g.S.Sink.bytes c.args.sink.now) (g.S.Sink.bytes c.put_cut.new.sink)) (sym c.leave.ensures.same)
    (record {
      worked = record { under_way = c.in-Err.ensures.under_way K live; later = omega (arith, count, c.in-Err.ensures.later) };
      formatted = λ all. absurd (omega (arith, all, some));
      spent = c.in-Err.ensures.spent;
      text = subst (IsPart (g.S.Sink.bytes c.args.sink.now) (g.S.Sink.bytes c.put_cut.new.sink)) (live-cut on c.args.number c.args.undone n _ some)
          (part_behind _ _ _ _ _ begun part);
    })

pub returns-then-is_err-3-clause-floor : goal.returns-then-is_err-3-clause-floor
returns-then-is_err-3-clause-floor g c =
    omega (arith, c.in-Err.ensures.count, c.in-Err.ensures.floor, ap (λ nv. counter_of (g.N.Nv.words nv)) c.leave.ensures.same)

pub returns-then-is_err-3-clause-steps : goal.returns-then-is_err-3-clause-steps
returns-then-is_err-3-clause-steps g c =
    omega (arith, c.in-Err.ensures.count, c.in-Err.ensures.steps, ap (λ nv. counter_of (g.N.Nv.words nv)) c.leave.ensures.same)

-- the power was cut
pub returns-else-is_err-3-clause-ends : goal.returns-else-is_err-3-clause-ends
returns-else-is_err-3-clause-ends g c = λ K live.
    let on = course (program_of c.args.program.now) K (g.W.World.events c.args.world.now) in
    let stopped = c.in-Err.field-0 in
    let words = g.N.Nv.words stopped.dark in
    let n = (image_in (g.N.Nv.words c.args.kernel.idle)).events in
    let fine : is_err c.put_begin.result ≡ false = sym c.is_err.ensures.value ∙ c.if-is_err.false in
    let told : is_err c.put_cut.result ≡ false = sym c.is_err-in-Err.ensures.value ∙ c.if-is_err-3.false in
    let begun = whole_put c.put_begin.result _ _ _ fine (c.put_begin.ensures.puts (uncut on n) live.stands) in
    let count = c.in-Err.ensures.count in
    let line = whole_put c.put_cut.result _ _ _ told c.put_cut.ensures.puts ∙ ap (λ (k : ℕ). put_to (g.S.Sink.bytes c.put_begin.new.sink) (cut_line c.args.number k ++ 10 ∷ [])) count in
    let some : counter_of words < last on = omega (arith, count, c.in-Err.ensures.some) in
    record {
      worked = record { under_way = c.in-Err.ensures.under_way K live; later = omega (arith, count, c.in-Err.ensures.later) };
      some = some;
      progress = subst (λ (k : ℕ). IsShort (g.N.Nv.left c.args.kernel.idle) (6400 * (k + 1 - n))) count c.in-Err.ensures.progress;
      dark = c.in-Err.ensures.no_write_left;
      spent = c.in-Err.ensures.spent;
      text = put_behind _ _ _ _ _ begun line ∙ ap (put_to (g.S.Sink.bytes c.args.sink.now)) (live-cut on c.args.number c.args.undone n _ some);
    }

pub returns-else-is_err-3-clause-floor : goal.returns-else-is_err-3-clause-floor
returns-else-is_err-3-clause-floor g c = omega (arith, c.in-Err.ensures.count, c.in-Err.ensures.floor)

pub returns-else-is_err-3-clause-steps : goal.returns-else-is_err-3-clause-steps
returns-else-is_err-3-clause-steps g c = omega (arith, c.in-Err.ensures.count, c.in-Err.ensures.steps)
