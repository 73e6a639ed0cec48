use Rattle.std.proofs.Common.{◌≡◌, ◌≤◌, ℕ, List, length, ap, sym, ◌∙◌, arith}
use Rattle.std.specs.Option.{option_copied}
use Rattle.thread_tree.specs.Program.{program_of}
use Rattle.kernel_image.specs.Decoded.{image_in, row_at}
use Rattle.boot_report.proofs.Rows.{live-at, passed-none, records-few}
use Rattle.boot_report.proofs.passing.passed.Goals as goal

pub record_count-requires-clause-encoded : goal.record_count-requires-clause-encoded
record_count-requires-clause-encoded g c =
    let p = program_of c.args.program.now in
    let d = image_in (g.W.Words.present c.args.words.now) in
    let h = c.requires.stands in
    let live = live-at p d c.args.contexts.now h.0 h.1 c.args.thread c.requires.thread _ (sym c.get.ensures.found ∙ ap option_copied c.in-Some.is) in
    let has = c.standing_laws.ensures.counted p d h.0 c.args.thread live.thread h.1.image live.lives in
    (has.records, has.words, has.fit)

pub record_count-requires-clause-within : goal.record_count-requires-clause-within
record_count-requires-clause-within g c =
    let p = program_of c.args.program.now in
    let d = image_in (g.W.Words.present c.args.words.now) in
    let h = c.requires.stands in
    let live = live-at p d c.args.contexts.now h.0 h.1 c.args.thread c.requires.thread _ (sym c.get.ensures.found ∙ ap option_copied c.in-Some.is) in
    (c.standing_laws.ensures.counted p d h.0 c.args.thread live.thread h.1.image live.lives).few

pub returns-in-Some-clause-passed : goal.returns-in-Some-clause-passed
returns-in-Some-clause-passed g c K stands =
    let p = program_of c.args.program.now in
    let d = image_in (g.W.Words.present c.args.words.now) in
    let live = live-at p d c.args.contexts.now K stands c.args.thread c.requires.thread _ (sym c.get.ensures.found ∙ ap option_copied c.in-Some.is) in
    let has = c.standing_laws.ensures.counted p d K c.args.thread live.thread stands.image live.lives in
    c.record_count.ensures.count has.records has.words has.fit ∙ sym has.many ∙ sym live.passed

pub returns-in-Some-clause-few : goal.returns-in-Some-clause-few
returns-in-Some-clause-few g c =
    let p = program_of c.args.program.now in
    let d = image_in (g.W.Words.present c.args.words.now) in
    let h = c.requires.stands in
    let live = live-at p d c.args.contexts.now h.0 h.1 c.args.thread c.requires.thread _ (sym c.get.ensures.found ∙ ap option_copied c.in-Some.is) in
    let has = c.standing_laws.ensures.counted p d h.0 c.args.thread live.thread h.1.image live.lives in
    let many = c.record_count.ensures.count has.records has.words has.fit ∙ sym has.many in
    omega (arith, many, records-few (row_at d c.args.thread) live.thread.passed has)

pub returns-in-None-clause-passed : goal.returns-in-None-clause-passed
returns-in-None-clause-passed g c K stands =
    sym (passed-none (program_of c.args.program.now) (image_in (g.W.Words.present c.args.words.now)) c.args.contexts.now K stands c.args.thread c.requires.thread
    (sym c.get.ensures.found ∙ ap option_copied c.in-None.is))
