use Rattle.std.proofs.Common.{◌≡◌, ◌==◌, ◌++◌, ◌∷◌, [], true, false, ℕ, Bool, refl, sym, ◌∙◌, ap, subst, arith}
use Rattle.outer_world.specs.Written.{put_to, IsPart}
use Rattle.thread_tree.specs.Program.{program_of}
use Rattle.undo_journal.specs.Undo.{magic}
use Rattle.kernel_image.specs.Decoded.{image_in}
use Rattle.replay_list.specs.Kept.{counter_of}
use Rattle.kernel_boots.specs.Boots.{IsSpent}
use Rattle.kernel_boots.specs.Courses.{course, uncut}
use Rattle.boot_report.specs.Lines.{dark_line}
use Rattle.intos_run.specs.Boots.{IsLater}
use Rattle.intos_run.specs.Ends.{IsCut, IsFailed}
use Rattle.intos_run.specs.Report.{is_formatted}
use Rattle.intos_run.proofs.BootLemmas.{MatchEnd-weaker, goes_dark-enough, done_since, cut_since, failed_since, cut_dark, failed_dark}
use Rattle.intos_run.proofs.AtMostLaws.{DidNotRise-short}
use Rattle.intos_run.proofs.boot.boot.Goals as goal

pub recover-requires : goal.recover-requires
recover-requires g c =
    let on = course (program_of c.args.program.now) c.requires.under_way.0 (g.W.World.events c.args.world.now) in
    record { kept = (uncut on (counter_of (g.N.Nv.words c.args.nv)), c.requires.under_way.1.kept) }

pub live-requires-clause-floor : goal.live-requires-clause-floor
live-requires-clause-floor g c =
    let on = course (program_of c.args.program.now) c.requires.under_way.0 (g.W.World.events c.args.world.now) in
    let words = g.N.Nv.words c.args.nv in
    let d = image_in (g.N.Nv.words c.in-Ok.kernel.idle) in
    let under_way = c.requires.under_way.1 in
    let stands = c.in-Ok.ensures.stands (uncut on (counter_of words)) under_way.kept in
    omega (arith, c.requires.floor, c.beginning.ensures.recovered_counts on words d c.in-Ok.kernel.contexts under_way stands)

pub live-requires-clause-live : goal.live-requires-clause-live
live-requires-clause-live g c =
    let on = course (program_of c.args.program.now) c.requires.under_way.0 (g.W.World.events c.args.world.now) in
    let words = g.N.Nv.words c.args.nv in
    let d = image_in (g.N.Nv.words c.in-Ok.kernel.idle) in
    let under_way = c.requires.under_way.1 in
    let stands = c.in-Ok.ensures.stands (uncut on (counter_of words)) under_way.kept in
    (c.requires.under_way.0, c.beginning.ensures.recovered on words d c.in-Ok.kernel.contexts under_way stands)

pub returns-in-Ok-clause-ends : goal.returns-in-Ok-clause-ends
returns-in-Ok-clause-ends g c = λ K under_way.
    let on = course (program_of c.args.program.now) K (g.W.World.events c.args.world.now) in
    let words = g.N.Nv.words c.args.nv in
    let d = image_in (g.N.Nv.words c.in-Ok.kernel.idle) in
    let recovered = c.in-Ok.ensures in
    let stands = recovered.stands (uncut on (counter_of words)) under_way.kept in
    let is = c.beginning.ensures.recovered_counts on words d c.in-Ok.kernel.contexts under_way stands in
    let enough = goes_dark-enough (g.N.Nv.left c.args.nv) words (λ short. let no : false ≡ true = recovered.dark.1 short in cc) in
    MatchEnd-weaker c.live.result
    (done_since g.N.Nv _ _ _ _ _ _ _ _ is c.entries_of-undone.ensures.entries enough recovered.left recovered.to_come recovered.ends)
    (cut_since g.N.Nv _ _ _ _ _ _ _ _ is c.entries_of-undone.ensures.entries enough recovered.left recovered.to_come recovered.ends)
    (failed_since g.N.Nv _ _ _ _ _ _ _ _ is c.entries_of-undone.ensures.entries enough recovered.left recovered.to_come recovered.ends)
    (c.live.ensures.ends K (c.beginning.ensures.recovered on words d c.in-Ok.kernel.contexts under_way stands))

pub returns-in-Ok-clause-steps : goal.returns-in-Ok-clause-steps
returns-in-Ok-clause-steps g c = λ K under_way.
    let on = course (program_of c.args.program.now) K (g.W.World.events c.args.world.now) in
    let words = g.N.Nv.words c.args.nv in
    let d = image_in (g.N.Nv.words c.in-Ok.kernel.idle) in
    let recovered = c.in-Ok.ensures in
    let stands = recovered.stands (uncut on (counter_of words)) under_way.kept in
    let is = c.beginning.ensures.recovered_counts on words d c.in-Ok.kernel.contexts under_way stands in
    let restored = recovered.steps (uncut on (counter_of words)) under_way.kept in
    MatchEnd-weaker c.live.result
    (λ nv within. omega (arith, within, is, restored))
    (λ nv within. omega (arith, within, is, restored))
    (λ nv within. omega (arith, within, is, restored))
    c.live.ensures.steps

pub returns-in-Err-clause-ends : goal.returns-in-Err-clause-ends
returns-in-Err-clause-ends g c = λ K under_way.
    let lost = c.in-Err.ensures in
    let on = course (program_of c.args.program.now) K (g.W.World.events c.args.world.now) in
    let words = g.N.Nv.words c.args.nv in
    let left = g.N.Nv.words c.in-Err.lost in
    let short = lost.dark.0 refl in
    let old = g.S.Sink.bytes c.args.sink.now in
    let new = g.S.Sink.bytes c.dark.new.sink in
    let laws = c.beginning.ensures in
    let kept = lost.kept (uncut on (counter_of words)) under_way.kept in
    let count = laws.lost_counts on words left under_way kept in
    let images : IsLater on words left = record { under_way = laws.lost on words left under_way kept; later = omega (arith, count) } in
    let formatted : (c.read-formatted.result == magic) ≡ is_formatted words = ap (λ (word : ℕ). word == magic) c.read-formatted.ensures.word in
    let spent : IsSpent g.N.Nv c.args.nv c.in-Err.lost = record { left = DidNotRise-short _ _ _ short lost.left; to_come = lost.to_come; ends = lost.ends } in
    MatchEnd-weaker c.dark.result
    (λ nv no. absurd no)
    (λ nv cut. subst (IsCut g.N.Nv on c.args.number c.args.nv old new) (sym cut.0)
    (cut_dark g.N.Nv on c.args.number c.args.nv c.in-Err.lost old new short images count lost.formatted spent
    lost.left (cut.2 ∙ ap (λ (b : Bool). put_to old (dark_line c.args.number b ++ 10 ∷ [])) formatted)))
    (λ nv failed. subst (IsFailed g.N.Nv on c.args.number c.args.nv old new) (sym failed.0)
    (failed_dark g.N.Nv on c.args.number c.args.nv c.in-Err.lost old new short images count lost.formatted spent
    (subst (λ (b : Bool). IsPart old new (dark_line c.args.number b ++ 10 ∷ [])) formatted failed.1)))
    c.dark.ensures.ends

pub returns-in-Err-clause-floor : goal.returns-in-Err-clause-floor
returns-in-Err-clause-floor g c =
    let on = course (program_of c.args.program.now) c.requires.under_way.0 (g.W.World.events c.args.world.now) in
    let words = g.N.Nv.words c.args.nv in
    let under_way = c.requires.under_way.1 in
    let count = c.beginning.ensures.lost_counts on words (g.N.Nv.words c.in-Err.lost) under_way (c.in-Err.ensures.kept (uncut on (counter_of words)) under_way.kept) in
    MatchEnd-weaker c.dark.result
    (λ nv no. absurd no)
    (λ nv cut. omega (arith, c.requires.floor, count, ap (λ n. counter_of (g.N.Nv.words n)) cut.0))
    (λ nv failed. omega (arith, c.requires.floor, count, ap (λ n. counter_of (g.N.Nv.words n)) failed.0))
    c.dark.ensures.ends

pub returns-in-Err-clause-steps : goal.returns-in-Err-clause-steps
returns-in-Err-clause-steps g c = λ K under_way.
    let lost = c.in-Err.ensures in
    let on = course (program_of c.args.program.now) K (g.W.World.events c.args.world.now) in
    let words = g.N.Nv.words c.args.nv in
    let restored = lost.steps (uncut on (counter_of words)) under_way.kept in
    let count = c.beginning.ensures.lost_counts on words (g.N.Nv.words c.in-Err.lost) under_way (lost.kept (uncut on (counter_of words)) under_way.kept) in
    MatchEnd-weaker c.dark.result
    (λ nv no. absurd no)
    (λ nv cut. omega (arith, restored, count, ap (λ n. counter_of (g.N.Nv.words n)) cut.0))
    (λ nv failed. omega (arith, restored, count, ap (λ n. counter_of (g.N.Nv.words n)) failed.0))
    c.dark.ensures.ends
