-- The action at hand stands behind those of its body before it.
use Rattle.std.proofs.Common.{◌≡◌, ◌+◌, ◌%◌, ◌^◌, false, Some, sym, ap, subst, length, ◌∙◌, arith}
use Rattle.std.specs.Option.{option_copied}
use Rattle.std.specs.Prelude.{slice_get}
use Rattle.std.proofs.lemmas.List.{take_all}
use Rattle.std.proofs.lemmas.Option.{slice_get_within}
use Rattle.thread_tree.specs.declared.block.Block.{out-Block}
use Rattle.thread_tree.specs.declared.block.Stmt.{Stmt, out-Stmt}
use Rattle.thread_tree.specs.Actions.{actions}
use Rattle.thread_tree.specs.Program.{program_of}
use Rattle.thread_machine.specs.declared.context.Way.TheVariants as way
use Rattle.thread_machine.specs.Parts.{IsPart, actions_if_some}
use Rattle.thread_machine.specs.Context.{is_move, level_of, statement_of, statements}
use Rattle.thread_machine.proofs.AlongLemmas.{IsPlaced, placed_begin, placed_next, spot_is}
use Rattle.thread_machine.proofs.LevelLemmas.{stmts_along-all, stmts_along-none}
use Rattle.thread_machine.proofs.NumberLemmas.{number_is, number_place}
use Rattle.thread_machine.proofs.BindLemmas.{some_and}
use Rattle.thread_machine.proofs.context.Ctx.number.Goals as goal

pub loop-at-init : goal.loop-at-init
loop-at-init c =
    let p = program_of c.args.tree.now in
    let s = c.args.self.now in (
      ap statements c.body_block-block.ensures.value ∙ sym (stmts_along-none p s.body s.cursors.items),
      subst (λ o. IsPart (actions_if_some o) (actions p) c.body_offset-offset.result) (sym c.body_block-block.ensures.value) c.body_offset-offset.ensures.part,
      placed_begin p s.body c.body_offset-offset.result (option_copied c.body_block-block.result) c.body_block-block.ensures.value c.body_offset-offset.ensures.spots,
    )

pub loop-at-preserved : goal.loop-at-preserved
loop-at-preserved c =
    let p = program_of c.args.tree.now in
    let s = c.args.self.now in
    rw (← c.deref.ensures.0)
    (placed_next p s.body c.deref.result.now c.loop-at.at (record { at = 0; way = way.First; keep = 0 }) (option_copied c.loop-at.block) (option_copied c.block_by-block.result) c.loop-at.offset c.offset_by-offset.result (omega (arith, c.loop-at-test.true, ap length c.deref.ensures.0)) (rw c.deref.ensures.0 c.loop-at.invariant.0) c.block_by-block.ensures.value c.offset_by-offset.ensures.entered c.offset_by-offset.ensures.part (rw c.deref.ensures.0 c.loop-at.invariant.2))

pub overflow_cast-result : goal.overflow_cast-result
overflow_cast-result c =
    let p = program_of c.args.tree.now in
    let s = c.args.self.now in
    let at = some_and (λ (s : Stmt). is_move (out-Stmt s) ≡ false) (statement_of p s) c.requires.action in
    let stmts = stmts_along-all p s.body s.cursors.items c.loop-at.at (omega arith) in
    let here : slice_get (out-Block c.in-Some.block.now).stmts s.at ≡ Some at.0 =
    ap (λ xs. slice_get xs s.at) (sym (ap (λ o. statements (option_copied o)) c.in-Some.is) ∙ c.loop-at.invariant.0 ∙ stmts) ∙ at.1 in
    let number = number_is (actions p) c.in-Some.block.now s.at c.loop-at.offset c.count_before.result at.0 c.requires.few (rw c.in-Some.is at c.loop-at.invariant.1) here at.2 c.count_before.ensures.count in
    omega (arith, slice_get_within (actions p) ((c.loop-at.offset + c.count_before.result) % 2 ^ 64) at.0 number, c.requires.few)

pub returns-in-Some : goal.returns-in-Some
returns-in-Some c =
    let p = program_of c.args.tree.now in
    let s = c.args.self.now in
    let at = some_and (λ (s : Stmt). is_move (out-Stmt s) ≡ false) (statement_of p s) c.requires.action in
    let all = stmts_along-all p s.body s.cursors.items c.loop-at.at (omega arith) in
    let same : (out-Block c.in-Some.block.now).stmts ≡ (level_of p s).stmts =
    sym (ap (λ o. statements (option_copied o)) c.in-Some.is) ∙ c.loop-at.invariant.0 ∙ all in
    let here : slice_get (out-Block c.in-Some.block.now).stmts s.at ≡ Some at.0 = ap (λ xs. slice_get xs s.at) same ∙ at.1 in
    let part = rw c.in-Some.is at c.loop-at.invariant.1 in
    let place = number_place (actions p) c.in-Some.block.now s.at c.loop-at.offset c.count_before.result at.0 c.requires.few part here c.count_before.ensures.count in
    let placed : IsPlaced p s.body s.cursors.items (Some c.in-Some.block.now) c.loop-at.offset =
    subst (λ cs. IsPlaced p s.body cs (Some c.in-Some.block.now) c.loop-at.offset) (take_all c.loop-at.at s.cursors.items (omega arith)) (rw c.in-Some.is at c.loop-at.invariant.2) in
    record {
      number = number_is (actions p) c.in-Some.block.now s.at c.loop-at.offset c.count_before.result at.0 c.requires.few part here at.2 c.count_before.ensures.count ∙ sym at.1;
      spot = λ none t is.
          let e : t ≡ at.0 = cc in
          spot_is p s c.in-Some.block.now t c.loop-at.offset ((c.loop-at.offset + c.count_before.result) % 2 ^ 64) (sym same) placed c.requires.scoped none is (subst (λ u. is_move (out-Stmt u) ≡ false) (sym e) at.2) place;
    }
