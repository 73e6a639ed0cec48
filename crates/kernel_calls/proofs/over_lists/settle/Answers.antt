use Rattle.std.proofs.Common.{rules, ◌≤◌, ℕ, List, length, sym, ap, subst, ◌∙◌}
use Rattle.thread_tree.specs.Program.{program_of}
use Rattle.kernel_model.specs.Kernel.{changed}
use Rattle.kernel_model.specs.Serve.{served}
use Rattle.kernel_image.specs.Decoded.{image_in}
use Rattle.kernel_calls.specs.Matches.{Matches, nobody}
use Rattle.kernel_calls.specs.Calling.{IsActed, IsServing, but_served}
use Rattle.kernel_calls.proofs.over_lists.settle.Goals as goal

pub serve-requires-clause-serving : goal.serve-requires-clause-serving
serve-requires-clause-serving g c =
    let p = program_of c.args.program.now in
    let r = c.requires.acted in
    let is = subst (IsActed p r.0 c.args.thread (image_in (g.N.Nv.words c.args.tx.now)) c.args.contexts.now r.1) c.in-Results.is r.2 in
    let few : length c.in-Results.results.items ≤ 4 = search rules in
    let told = c.serving_laws.ensures.acted p r.0 c.args.thread _ _ r.1 c.in-Results.results c.requires.thread few is in
    (r.0, but_served p c.args.thread r.1.fate r.1.kernel, told.0, subst (IsServing p r.0 _ _ (but_served p c.args.thread r.1.fate r.1.kernel) c.args.thread told.0) (sym c.deref.ensures.0) told.1)

pub returns-in_ok-serve-in-Results-clause-settled : goal.returns-in_ok-serve-in-Results-clause-settled
returns-in_ok-serve-in-Results-clause-settled g c whose effect acted =
    let p = program_of c.args.program.now in
    let K = but_served p c.args.thread effect.fate effect.kernel in
    let is = subst (IsActed p whose c.args.thread (image_in (g.N.Nv.words c.args.tx.now)) c.args.contexts.now effect) c.in-Results.is acted in
    let few : length c.in-Results.results.items ≤ 4 = search rules in
    let told = c.serving_laws.ensures.acted p whose c.args.thread _ _ effect c.in-Results.results c.requires.thread few is in
    let serving = subst (IsServing p whose _ _ K c.args.thread told.0) (sym c.deref.ensures.0) told.1 in
    let same = ap (λ (results : List ℕ). changed K c.args.thread (served p results)) c.deref.ensures.0 in
    subst (Matches p nobody whose _ _) (same ∙ c.settling_laws.ensures.served p c.args.thread effect.fate effect.kernel c.in-Results.results.items is.acted.0)
    (c.in_ok-serve-in-Results.ensures.served whose K told.0 serving)
