use Rattle.std.proofs.Common.{sym, arith, ◌∙◌}
use Rattle.boot_recovery.proofs.CounterLaws.{counter_unformatted, counter_first, counter_none}
use Rattle.boot_recovery.proofs.counting.counter.Goals as goal

pub returns-then-read-ne-MAGIC : goal.returns-then-read-ne-MAGIC
returns-then-read-ne-MAGIC g c = record { counter = sym (counter_unformatted (g.N.Nv.words c.args.nv.now) (λ e. c.if-read-ne-MAGIC.true (c.read.ensures.word ∙ e))) }

pub returns-then-entry-eq-EVENTS : goal.returns-then-entry-eq-EVENTS
returns-then-entry-eq-EVENTS g c = record {
  counter = c.entry_of-entry.ensures.value ∙ sym (counter_first (g.N.Nv.words c.args.nv.now) c.loop-number.number
      (c.requires.journalled (sym c.read.ensures.word ∙ c.if-read-ne-MAGIC.false)) (g.met.N.Nv.sized c.args.nv.now) (omega (arith, c.loop-number-test.true, c.read-entries.ensures.word))
      (sym c.entry_of-entry.ensures.address ∙ c.if-entry-eq-EVENTS.true) c.loop-number.invariant);
}

pub returns : goal.returns
returns g c = record {
  counter = c.read-2.ensures.word ∙ sym (counter_none (g.N.Nv.words c.args.nv.now)
      (c.requires.journalled (sym c.read.ensures.word ∙ c.if-read-ne-MAGIC.false)) (λ i l. c.loop-number.invariant i (omega (arith, l, c.loop-number-test.false, c.read-entries.ensures.word))));
}
