use Rattle.std.proofs.Common.{◌≡◌, List, [], ◌∷◌, ◌++◌, take, refl, ap, sym, ◌∙◌}
use Rattle.thread_tree.specs.Relive.{Record}
use Rattle.kernel_image.specs.Decoded.{image_in, row_at}
use Rattle.kernel_tests.proofs.records.counted.Goals as goal

pub record_count-requires-clause-encoded : goal.record_count-requires-clause-encoded
record_count-requires-clause-encoded g c =
    let records : List Record = record { kind = 8; results = 1 ∷ 41 ∷ [] } ∷ [] in
    let none : (row_at (image_in (g.N.Nv.words c.args.tx.now)) 3).used ≡ 0 = sym c.words_used.ensures.used ∙ c.if-words_used-ne0.false in
    (records, c.in-Ok.ensures.appended.row.words ∙ ap (λ n. take n (row_at (image_in (g.N.Nv.words c.args.tx.now)) 3).records ++ (8 ∷ 1 ∷ 41 ∷ [])) none, (refl, tt))
