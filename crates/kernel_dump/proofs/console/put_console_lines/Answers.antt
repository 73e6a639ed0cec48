use Rattle.std.proofs.Common.{◌≡◌, ◌∙◌, List, ℕ, length, ap, subst, map, refl, arith}
use Rattle.std.proofs.lemmas.Bool.Decides.{nat_tests}
use Rattle.std.proofs.lemmas.List.{nil_from_length}
use Rattle.std.proofs.lemmas.Result.{err_from_is_err_and}
use Rattle.kernel_model.specs.Dump.{console_line, console_lines, text_of}
use Rattle.kernel_dump.proofs.PutInParts.{IsLeft, IsLeft-all, IsLeft-next, IsLeft-next_part, IsLeft-none, IsLeft-line}
use Rattle.kernel_dump.proofs.console.put_console_lines.Goals as goal

pub loop-rest-init : goal.loop-rest-init
loop-rest-init g c = record { short = c.requires.short; left = IsLeft-all _ _ _ refl; faults = refl }

pub loop-rest-preserved : goal.loop-rest-preserved
loop-rest-preserved g c = record {
  short = omega arith;
  left =
      let lines = ap (map console_line) c.split_line.ensures.lines in
      let left = IsLeft-line _ _ _ _ _ _ lines c.loop-rest.invariant.left in
      IsLeft-next _ _ _ _ _ _ left c.in_ok-put_console_line.ensures.puts;
  faults = c.in_ok-put_console_line.ensures.cause.kept ∙ c.loop-rest.invariant.faults;
}

pub returns-clause-puts : goal.returns-clause-puts
returns-clause-puts g c =
    let none : length c.loop-rest.rest.now ≡ 0 = grind (arith, nat_tests) in
    let empty = ap (λ (rest : List ℕ). text_of (map console_line (console_lines rest))) (nil_from_length c.loop-rest.rest.now none) in
    IsLeft-none _ _ _ (subst (λ (rest : List ℕ). IsLeft (g.S.Sink.bytes c.args.sink.now) (g.S.Sink.bytes c.loop-rest.sink)
    (text_of (map console_line (console_lines c.args.console.now))) rest) empty c.loop-rest.invariant.left)

pub returns-in_err-put_console_line-clause-puts : goal.returns-in_err-put_console_line-clause-puts
returns-in_err-put_console_line-clause-puts g c =
    let p = err_from_is_err_and c.from_residual.result c.from_residual.ensures.1 in
    let lines = ap (map console_line) c.split_line.ensures.lines in
    let left = IsLeft-line _ _ _ _ _ _ lines c.loop-rest.invariant.left in
    rw p.1 (IsLeft-next_part _ _ _ _ _ _ left c.in_err-put_console_line.ensures.puts)
