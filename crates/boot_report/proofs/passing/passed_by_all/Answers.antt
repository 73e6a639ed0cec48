use Rattle.std.proofs.Common.{◌≡◌, ◌<◌, ◌≤◌, ◌+◌, ◌*◌, ℕ, List, length, refl, ap, sym, ◌∙◌, take, arith}
use Rattle.std.proofs.lemmas.List.{take_all}
use Rattle.std.proofs.lemmas.List.Sums.{sum_by_more}
use Rattle.std.specs.Prelude.{sum_by}
use Rattle.kernel_model.specs.Kernel as kernel
use Rattle.kernel_model.specs.Kernel.Row.{Free}
use Rattle.boot_report.specs.Lines.{passed_in}
use Rattle.boot_report.proofs.passing.passed_by_all.Goals as goal

pub loop-thread-init : goal.loop-thread-init
loop-thread-init g c = record { all = λ K stands. refl; few = omega arith }

pub overflow_add-all : goal.overflow_add-all
overflow_add-all g c = omega (arith, c.loop-thread-test.true, c.loop-thread.invariant.few, c.passed-all.ensures.few)

pub loop-thread-preserved : goal.loop-thread-preserved
loop-thread-preserved g c = record {
  all = λ K stands.
      let t = c.loop-thread.thread in
      let low : t < length K.rows = omega (arith, c.loop-thread-test.true, stands.image.sound.rows.sixteen) in
      ap (λ (n : ℕ). n + c.passed-all.result) (c.loop-thread.invariant.all K stands)
      ∙ ap (λ (n : ℕ). sum_by passed_in (take t K.rows) + n) (c.passed-all.ensures.passed K stands)
      ∙ sym (sum_by_more passed_in K.rows t Free low);
  few = omega (arith, c.loop-thread.invariant.few, c.passed-all.ensures.few);
}

pub returns : goal.returns
returns g c = record {
  all = λ K stands.
      let past : length K.rows ≤ c.loop-thread.thread = omega (arith, c.loop-thread-test.false, stands.image.sound.rows.sixteen) in
      c.loop-thread.invariant.all K stands ∙ ap (λ (rows : List kernel.Row). sum_by passed_in rows) (take_all c.loop-thread.thread K.rows past);
}
