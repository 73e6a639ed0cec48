-- The actions of the declarations before the body.
use Rattle.std.proofs.Common.{◌≡◌, ◌+◌, ◌∙◌, drop, sym, ap, arith}
use Rattle.thread_machine.specs.Seen.{seen}
use Rattle.thread_machine.proofs.BodyLemmas.{body_among, body_passed, body_behind}
use Rattle.thread_machine.proofs.CountLemmas.{body_part, body_part_none, wrapped_offset}
use Rattle.thread_machine.proofs.PlaceLemmas.{body_spots, body_spots_none}
use Rattle.thread_machine.proofs.count.body_offset.Goals as goal
use Rattle.thread_machine.proofs.count.body_offset.Goals.{in-Some+else-left-eq0, in-None}

pub returns-then-left-eq0 : goal.returns-then-left-eq0
returns-then-left-eq0 c = record {
  part = body_part c.args.tree.now c.loop-at.at c.args.number c.loop-at.left c.loop-at.offset c.get-decl.result.now (seen c.in-Some.field-0) c.loop-at.invariant.0 c.get-decl.ensures (sym c.in-Some.ensures.found) c.if-left-eq0.true c.loop-at.invariant.1;
  spots = body_spots c.args.tree.now c.loop-at.at c.args.number c.loop-at.left c.loop-at.offset c.get-decl.result.now (seen c.in-Some.field-0) c.loop-at.invariant.0 c.get-decl.ensures (sym c.in-Some.ensures.found) c.if-left-eq0.true c.loop-at.invariant.1;
}

pub loop-at-preserved : goal.loop-at-preserved
loop-at-preserved c =
    let passed : body_among (drop c.loop-at.at c.args.tree.now.decls) c.loop-at.left ≡ body_among (drop (c.loop-at.at + 1) c.args.tree.now.decls) c.match-body_in.left =
    elim c.match-body_in.branch [
      | in-Some+else-left-eq0 w ↦ body_behind c.args.tree.now.decls c.loop-at.at c.get-decl.result.now (seen w.in-Some.field-0) c.loop-at.left c.get-decl.ensures (sym w.in-Some.ensures.found) w.if-left-eq0.false ∙ ap (λ n. body_among (drop (c.loop-at.at + 1) c.args.tree.now.decls) n) (sym w.left-is)
      | in-None w ↦ body_passed c.args.tree.now.decls c.loop-at.at c.get-decl.result.now c.loop-at.left c.get-decl.ensures (sym w.in-None.ensures.found) ∙ ap (λ n. body_among (drop (c.loop-at.at + 1) c.args.tree.now.decls) n) (sym w.left-is)
    ] in (
      c.loop-at.invariant.0 ∙ passed,
      wrapped_offset c.args.tree.now c.loop-at.at c.loop-at.offset c.count_declared-offset.result c.get-decl.result.now c.get-decl.ensures c.requires.few c.loop-at.invariant.1 c.count_declared-offset.ensures.count,
    )

pub returns : goal.returns
returns c = record {
  part = body_part_none c.args.tree.now c.loop-at.at c.args.number c.loop-at.left c.loop-at.invariant.0 (omega (arith, c.loop-at-test.false));
  spots = body_spots_none c.args.tree.now c.loop-at.at c.args.number c.loop-at.left c.loop-at.invariant.0 (omega (arith, c.loop-at-test.false));
}
