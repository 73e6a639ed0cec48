use Rattle.std.proofs.Common.{refl, map, codes, string_bytes, sym, ◌∙◌, ap}
use Rattle.std.proofs.lemmas.Bool.{not-false}
use Rattle.std.proofs.lemmas.Slice.Eq.{bytes_eq-Decides}
use Rattle.intos_run.proofs.Commands.{command_words}
use Rattle.intos_run.proofs.command.read_command.Goals as goal

pub returns-clause-ok : goal.returns-clause-ok
returns-clause-ok c =
    let words = c.as_slice.result.now in
    let cuts = c.in_ok-cuts.ensures in
    let run = (bytes_eq-Decides c.as_str.result.now (codes "run")).0 (not-false _ (sym c.if-ne.ensures)) in
    record {
      same = ap (map string_bytes) (sym c.as_slice.ensures.value) ∙ command_words string_bytes words c.run-item.result c.program-item.result c.steps-item.result _ _ _ c.in-len3-up.len_at_least c.run-item.is c.program-item.is c.steps-item.is (sym c.as_str.ensures.value ∙ run) c.as_str-program.ensures.value (sym c.as_str-2.ensures.value ∙ c.in-Some.ensures.some.0) cuts.same;
      named = c.if-not-is_name.ensures.name.0 refl;
      few_steps = c.in-Some.ensures.some.1;
      few_cuts = cuts.few;
      fit = cuts.fit;
    }
