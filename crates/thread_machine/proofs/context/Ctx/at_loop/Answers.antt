-- The loop is found, and its block entered with the values.
use Rattle.std.proofs.Common.{◌≡◌, ◌∙◌, Some, length, refl, ap, sym, subst, arith}
use Rattle.std.specs.Prelude.{slice_get, IfSome}
use Rattle.thread_tree.specs.declared.block.Stmt.TheOpen as stmt
use Rattle.thread_tree.specs.Actions.{Spot, inside, loops}
use Rattle.thread_tree.specs.LocalState.{named}
use Rattle.thread_tree.specs.Program.{program_of}
use Rattle.thread_machine.specs.Context.{local_of}
use Rattle.thread_machine.specs.Reached.{IsContext, Reached}
use Rattle.thread_machine.specs.Reached.Reached.{Entered}
use Rattle.thread_machine.specs.Seeking.{names_in}
use Rattle.thread_machine.proofs.BindLemmas.{some_and}
use Rattle.thread_machine.proofs.KeepLemmas.{declares}
use Rattle.thread_machine.proofs.LoopLemmas.{at_loop_scoped, inside_is, sought_there}
use Rattle.thread_machine.proofs.RoomLemmas.{room_for_cursor}
use Rattle.thread_machine.proofs.SkipLemmas.{way_counted}
use Rattle.thread_machine.proofs.context.Ctx.at_loop.Goals as goal

pub seek-requires-clause-way : goal.seek-requires-clause-way
seek-requires-clause-way c =
    let q = program_of c.args.program.now in
    let p = program_of c.tree-tree.result.now in
    let t = some_and (λ (spot : Spot). length c.args.values.now ≡ length spot.scope) (slice_get (loops q) c.args.number) c.requires.there in
    let found : slice_get (loops p) c.args.number ≡ Some t.0 = rw c.tree-tree.ensures.same t.1 in
    let there = c.place_of-body.ensures.place t.0 found in
    let begin = c.begin-ctx.ensures.begun there.body there.is in
    begin.way

pub enter-requires-clause-within : goal.enter-requires-clause-within
enter-requires-clause-within c =
    let q = program_of c.args.program.now in
    let p = program_of c.tree-tree.result.now in
    let t = some_and (λ (spot : Spot). length c.args.values.now ≡ length spot.scope) (slice_get (loops q) c.args.number) c.requires.there in
    let found : slice_get (loops p) c.args.number ≡ Some t.0 = rw c.tree-tree.ensures.same t.1 in
    let there = c.place_of-body.ensures.place t.0 found in
    let begin = c.begin-ctx.ensures.begun there.body there.is in
    let here = c.seek.ensures.arrived t.0 (sought_there p c.begin-ctx.result t.0 c.place_of-body.result.0 c.place_of-body.result.1 there begin) in
    omega (arith, here.way.base)

pub enter-requires-clause-room : goal.enter-requires-clause-room
enter-requires-clause-room c =
    let q = program_of c.args.program.now in
    let p = program_of c.tree-tree.result.now in
    let t = some_and (λ (spot : Spot). length c.args.values.now ≡ length spot.scope) (slice_get (loops q) c.args.number) c.requires.there in
    let found : slice_get (loops p) c.args.number ≡ Some t.0 = rw c.tree-tree.ensures.same t.1 in
    let there = c.place_of-body.ensures.place t.0 found in
    let begin = c.begin-ctx.ensures.begun there.body there.is in
    let here = c.seek.ensures.arrived t.0 (sought_there p c.begin-ctx.result t.0 c.place_of-body.result.0 c.place_of-body.result.1 there begin) in
    room_for_cursor p c.seek.new.self t.0.statement here.way.within (way_counted p c.seek.new.self here.way) here.here

pub returns-clause-context : goal.returns-clause-context
returns-clause-context c =
    let q = program_of c.args.program.now in
    let p = program_of c.tree-tree.result.now in
    let t = some_and (λ (spot : Spot). length c.args.values.now ≡ length spot.scope) (slice_get (loops q) c.args.number) c.requires.there in
    let found : slice_get (loops p) c.args.number ≡ Some t.0 = rw c.tree-tree.ensures.same t.1 in
    let there = c.place_of-body.ensures.place t.0 found in
    let begin = c.begin-ctx.ensures.begun there.body there.is in
    let here = c.seek.ensures.arrived t.0 (sought_there p c.begin-ctx.result t.0 c.place_of-body.result.0 c.place_of-body.result.1 there begin) in
    let moved = c.enter.ensures.moved p t.0.statement here.block here.here (rw here.loop refl) in
    let is = inside_is p c.seek.new.self _ c.enter.new.self t.0 c.args.values.now here refl (c.with_values-ctx.ensures.values ∙ ap (λ xs. named (names_in xs) c.args.values.now) c.as_slice.ensures.value) moved in
    subst (λ x. IsContext (program_of x) c.enter.new.self) c.tree-tree.ensures.same
    (record {
      reached = subst (Reached p) (sym is) (Entered p c.args.number t.0 c.args.values.now found t.2);
      counted = c.enter.ensures.counted p (record { within = omega (arith, here.way.base); waiting = (way_counted p c.seek.new.self here.way).waiting });
      scoped =
          c.enter.ensures.scoped p t.0.statement here.here (declares t.0.statement (stmt.Ploop here.place here.block) here.loop)
          (at_loop_scoped p c.seek.new.self c.with_values-ctx.result.items t.0 c.args.values.now here
          (c.with_values-ctx.ensures.values ∙ ap (λ xs. named (names_in xs) c.args.values.now) c.as_slice.ensures.value) t.2);
    })

pub returns-clause-inside : goal.returns-clause-inside
returns-clause-inside c =
    let q = program_of c.args.program.now in
    let p = program_of c.tree-tree.result.now in
    let t = some_and (λ (spot : Spot). length c.args.values.now ≡ length spot.scope) (slice_get (loops q) c.args.number) c.requires.there in
    let found : slice_get (loops p) c.args.number ≡ Some t.0 = rw c.tree-tree.ensures.same t.1 in
    let there = c.place_of-body.ensures.place t.0 found in
    let begin = c.begin-ctx.ensures.begun there.body there.is in
    let here = c.seek.ensures.arrived t.0 (sought_there p c.begin-ctx.result t.0 c.place_of-body.result.0 c.place_of-body.result.1 there begin) in
    let moved = c.enter.ensures.moved p t.0.statement here.block here.here (rw here.loop refl) in
    let is = inside_is p c.seek.new.self _ c.enter.new.self t.0 c.args.values.now here refl (c.with_values-ctx.ensures.values ∙ ap (λ xs. named (names_in xs) c.args.values.now) c.as_slice.ensures.value) moved in
    subst (λ x. IfSome (slice_get (loops (program_of x)) c.args.number) (λ spot. local_of (program_of x) c.enter.new.self ≡ inside spot c.args.values.now)) c.tree-tree.ensures.same
    (subst (λ o. IfSome o (λ spot. local_of p c.enter.new.self ≡ inside spot c.args.values.now)) (sym found) is)
