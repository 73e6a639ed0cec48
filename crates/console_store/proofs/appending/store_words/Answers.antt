use Rattle.std.proofs.Common.{◌<◌, ◌-◌, ◌/◌, refl, arith}
use Rattle.undo_journal.proofs.Callers.{IsLent-same, IsLent-then, IsWithin-none, IsWithin-more, IsWithin-then}
use Rattle.console_store.proofs.Bytes.{IsGrown-start}
use Rattle.console_store.proofs.Images.{rest_stored, grown_stored}
use Rattle.console_store.proofs.appending.store_words.Goals as goal

pub loop-i-init : goal.loop-i-init
loop-i-init g c = record {
  lent = IsLent-same g.N.Nv c.args.tx.now;
  within = IsWithin-none g.N.Nv c.args.tx.now _;
  rest = refl;
  grown = IsGrown-start _ c.args.len c.args.bytes.now;
}

pub loop-i-preserved : goal.loop-i-preserved
loop-i-preserved g c =
    let low : c.loop-i.i < 2048 = omega arith in
    record {
      lent = IsLent-then g.N.Nv _ _ _ c.loop-i.invariant.lent c.in_ok-store.ensures.lent;
      within = IsWithin-more g.N.Nv _ _ _ _ (omega arith) (IsWithin-then g.N.Nv _ _ _ (c.loop-i.i - c.args.len / 4) 1 c.loop-i.invariant.within c.in_ok-store.ensures.within);
      rest = rest_stored _ _ _ _ c.loop-i.i _ c.in_ok-store.ensures.stored c.loop-i.invariant.rest;
      grown = grown_stored _ c.args.len c.args.bytes.now c.loop-i.i _ _ c.load-word.result _ low c.in_ok-store.ensures.stored c.load-word.ensures.word c.grown_word.ensures.bytes c.loop-i.invariant.grown;
    }
