-- The number of an action.
use Rattle.std.proofs.Common.{◌≡◌, ℕ, ◌+◌, ◌%◌, ◌^◌, ◌<◌, List, [], ◌∷◌, length, take, false, Some, None, refl, ap, subst, ◌∙◌, arith}
use Rattle.std.specs.Prelude.{slice_get, IfSome}
use Rattle.std.proofs.Math.Nat.{mod-eq_of_lt}
use Rattle.std.proofs.lemmas.List.{append-nil}
use Rattle.thread_tree.specs.declared.block.Block.{Block, out-Block}
use Rattle.thread_tree.specs.declared.block.Stmt.{Stmt, out-Stmt}
use Rattle.thread_tree.specs.declared.block.Stmt.TheOpen.{Stmt-F}
use Rattle.thread_tree.specs.declared.block.Stmt.TheOpen as stmt
use Rattle.thread_tree.specs.Program.{Program}
use Rattle.thread_machine.specs.declared.context.Way.TheVariants as way
use Rattle.thread_check.specs.ActionLists.{actions_layer, actions_in, actions_in_turn, in_some}
use Rattle.thread_machine.specs.Context.{block_inside, first_block, other_block, is_move}
use Rattle.thread_machine.specs.Parts.{IsEntered, IsPart, actions_if_some, first_offset, other_offset}
use Rattle.thread_check.proofs.Callers.{actions_of_out, actions_in_out}
use Rattle.thread_machine.proofs.PartLemmas.{part_of_part, part_none, part_all, part_zero, part_first, part_second, part_at}

-- the first block's actions among those of its statement
first_part : (layer : Stmt-F Stmt Block) (s : Stmt) → IsPart (actions_if_some (first_block layer)) (actions_layer actions_in layer s) (first_offset layer)
first_part (stmt.Let at e) s = part_zero []
first_part (stmt.Set at e) s = part_zero []
first_part (stmt.Apply to callee arguments) s = part_zero []
first_part (stmt.If e block other) s = part_first (actions_in block) (in_some actions_in other)
first_part (stmt.While e block) s = part_all (actions_in block)
first_part (stmt.Ploop place block) s = part_second (s ∷ []) (actions_in block)
first_part (stmt.Break place) s = part_zero []
first_part (stmt.Return place value) s = part_zero []
first_part (stmt.Atomic place to block) s = part_zero (s ∷ [])
first_part (stmt.Call place call to) s = part_zero (s ∷ [])

-- the other block's actions among those of its statement
other_part : (layer : Stmt-F Stmt Block) (s : Stmt) → IsPart (actions_if_some (other_block layer)) (actions_layer actions_in layer s) (other_offset layer)
other_part (stmt.Let at e) s = part_zero []
other_part (stmt.Set at e) s = part_zero []
other_part (stmt.Apply to callee arguments) s = part_zero []
other_part (stmt.If e block None) s = rw append-nil (part_none (actions_in block) (length (actions_in block)) (omega arith))
other_part (stmt.If e block (Some other)) s = part_second (actions_in block) (actions_in other)
other_part (stmt.While e block) s = part_zero (actions_in block)
other_part (stmt.Ploop place block) s = part_zero (s ∷ actions_in block)
other_part (stmt.Break place) s = part_zero []
other_part (stmt.Return place value) s = part_zero []
other_part (stmt.Atomic place to block) s = part_zero (s ∷ [])
other_part (stmt.Call place call to) s = part_zero (s ∷ [])

-- a part of a statement among all actions
statement_part : (all : List Stmt) (stmts : List Stmt) (at offset inner : ℕ) (s : Stmt) (sub : List Stmt) → IsPart (actions_in_turn stmts) all offset → slice_get stmts at ≡ Some s → IsPart sub (actions_layer actions_in (out-Stmt s) s) inner → IsPart sub all (offset + (length (actions_in_turn (take at stmts)) + inner))
statement_part all stmts at offset inner s sub outer is part =
    let own : IsPart (actions_layer actions_in (out-Stmt s) s) (actions_in_turn stmts) (length (actions_in_turn (take at stmts))) = subst (λ xs. IsPart xs (actions_in_turn stmts) (length (actions_in_turn (take at stmts)))) (actions_of_out s) (part_at stmts at s is) in
    part_of_part sub (actions_in_turn stmts) all (length (actions_in_turn (take at stmts)) + inner) offset (part_of_part sub (actions_layer actions_in (out-Stmt s) s) (actions_in_turn stmts) inner (length (actions_in_turn (take at stmts))) part own) outer

wrapped_sum : (offset count inner sum : ℕ) → sum ≡ offset + (count + inner) → sum < 2 ^ 32 → ((offset + count) % 2 ^ 64 + inner) % 2 ^ 64 ≡ sum
wrapped_sum offset count inner sum is few =
    let small : offset + count < 2 ^ 64 = omega (arith, few) in
    let first : (offset + count) % 2 ^ 64 ≡ offset + count = mod-eq_of_lt small in
    let all : offset + count + inner ≡ sum = omega (arith, is) in
    let fits : sum < 2 ^ 64 = omega (arith, few) in
    rw (first, all) (mod-eq_of_lt fits)

-- where the block begins that is entered, where the sums are those of the code
pub inner_place : (all : List Stmt) (b : Block) (at offset count inner result : ℕ) (s : Stmt) (sub : List Stmt) → length all < 2 ^ 32 → IsPart (actions_in b) all offset → slice_get (out-Block b).stmts at ≡ Some s → (length (actions_in_turn (out-Block b).stmts) < 2 ^ 32 → count ≡ length (actions_in_turn (take at (out-Block b).stmts))) → IsPart sub (actions_layer actions_in (out-Stmt s) s) inner → result ≡ ((offset + count) % 2 ^ 64 + inner) % 2 ^ 64 → result ≡ offset + (length (actions_in_turn (take at (out-Block b).stmts)) + inner)
inner_place all b at offset count inner result s sub few outer is counted part code =
    let stmts = (out-Block b).stmts in
    let turn : IsPart (actions_in_turn stmts) all offset = subst (λ xs. IsPart xs all offset) (actions_in_out b) outer in
    let own : count ≡ length (actions_in_turn (take at stmts)) = counted (omega (arith, turn.fits, few)) in
    let whole = statement_part all stmts at offset inner s sub turn is part in
    code ∙ wrapped_sum offset count inner (offset + (length (actions_in_turn (take at stmts)) + inner)) (omega (arith, own)) (omega (arith, whole.fits, few))

-- the actions of that block
pub inner_part : (all : List Stmt) (b : Block) (at offset count inner result : ℕ) (s : Stmt) (sub : List Stmt) → length all < 2 ^ 32 → IsPart (actions_in b) all offset → slice_get (out-Block b).stmts at ≡ Some s → (length (actions_in_turn (out-Block b).stmts) < 2 ^ 32 → count ≡ length (actions_in_turn (take at (out-Block b).stmts))) → IsPart sub (actions_layer actions_in (out-Stmt s) s) inner → result ≡ ((offset + count) % 2 ^ 64 + inner) % 2 ^ 64 → IsPart sub all result
inner_part all b at offset count inner result s sub few outer is counted part code =
    let stmts = (out-Block b).stmts in
    let turn : IsPart (actions_in_turn stmts) all offset = subst (λ xs. IsPart xs all offset) (actions_in_out b) outer in
    rw (inner_place all b at offset count inner result s sub few outer is counted part code) (statement_part all stmts at offset inner s sub turn is part)

-- a statement's own actions are few
pub few_own : (all : List Stmt) (b : Block) (at offset : ℕ) (s : Stmt) → length all < 2 ^ 32 → IsPart (actions_in b) all offset → slice_get (out-Block b).stmts at ≡ Some s → length (actions_layer actions_in (out-Stmt s) s) < 2 ^ 32
few_own all b at offset s few outer is =
    omega (arith, (part_at (out-Block b).stmts at s is).fits, ap length (actions_of_out s), outer.fits, ap length (actions_in_out b), few)

pub first_inner : (p : Program) (all : List Stmt) (b : Block) (at offset count inner result : ℕ) (s : Stmt) → length all < 2 ^ 32 → IsPart (actions_in b) all offset → slice_get (out-Block b).stmts at ≡ Some s → (length (actions_in_turn (out-Block b).stmts) < 2 ^ 32 → count ≡ length (actions_in_turn (take at (out-Block b).stmts))) → inner ≡ first_offset (out-Stmt s) → result ≡ ((offset + count) % 2 ^ 64 + inner) % 2 ^ 64 → IfSome (slice_get (out-Block b).stmts at) (λ t. IsPart (actions_if_some (block_inside p way.First t)) all result)
first_inner p all b at offset count inner result s few outer is counted own code =
    rw is (inner_part all b at offset count inner result s (actions_if_some (first_block (out-Stmt s))) few outer is counted (rw own (first_part (out-Stmt s) s)) code)

pub other_inner : (p : Program) (all : List Stmt) (b : Block) (at offset count inner result : ℕ) (s : Stmt) → length all < 2 ^ 32 → IsPart (actions_in b) all offset → slice_get (out-Block b).stmts at ≡ Some s → (length (actions_in_turn (out-Block b).stmts) < 2 ^ 32 → count ≡ length (actions_in_turn (take at (out-Block b).stmts))) → (length (actions_layer actions_in (out-Stmt s) s) < 2 ^ 32 → inner ≡ other_offset (out-Stmt s)) → result ≡ ((offset + count) % 2 ^ 64 + inner) % 2 ^ 64 → IfSome (slice_get (out-Block b).stmts at) (λ t. IsPart (actions_if_some (block_inside p way.Else t)) all result)
other_inner p all b at offset count inner result s few outer is counted own code =
    rw is (inner_part all b at offset count inner result s (actions_if_some (other_block (out-Stmt s))) few outer is counted (rw (own (few_own all b at offset s few outer is)) (other_part (out-Stmt s) s)) code)

-- where those blocks begin
pub first_entered : (all : List Stmt) (b : Block) (at offset count inner result : ℕ) (s : Stmt) → length all < 2 ^ 32 → IsPart (actions_in b) all offset → slice_get (out-Block b).stmts at ≡ Some s → (length (actions_in_turn (out-Block b).stmts) < 2 ^ 32 → count ≡ length (actions_in_turn (take at (out-Block b).stmts))) → inner ≡ first_offset (out-Stmt s) → result ≡ ((offset + count) % 2 ^ 64 + inner) % 2 ^ 64 → IfSome (slice_get (out-Block b).stmts at) (λ t. IsEntered way.First offset (out-Block b).stmts at t result)
first_entered all b at offset count inner result s few outer is counted own code =
    rw is (subst (λ n. result ≡ offset + (length (actions_in_turn (take at (out-Block b).stmts)) + n)) own
    (inner_place all b at offset count inner result s (actions_if_some (first_block (out-Stmt s))) few outer is counted (rw own (first_part (out-Stmt s) s)) code))

pub other_entered : (all : List Stmt) (b : Block) (at offset count inner result : ℕ) (s : Stmt) → length all < 2 ^ 32 → IsPart (actions_in b) all offset → slice_get (out-Block b).stmts at ≡ Some s → (length (actions_in_turn (out-Block b).stmts) < 2 ^ 32 → count ≡ length (actions_in_turn (take at (out-Block b).stmts))) → (length (actions_layer actions_in (out-Stmt s) s) < 2 ^ 32 → inner ≡ other_offset (out-Stmt s)) → result ≡ ((offset + count) % 2 ^ 64 + inner) % 2 ^ 64 → IfSome (slice_get (out-Block b).stmts at) (λ t. IsEntered way.Else offset (out-Block b).stmts at t result)
other_entered all b at offset count inner result s few outer is counted own code =
    let same = own (few_own all b at offset s few outer is) in
    rw is (subst (λ n. result ≡ offset + (length (actions_in_turn (take at (out-Block b).stmts)) + n)) same
    (inner_place all b at offset count inner result s (actions_if_some (other_block (out-Stmt s))) few outer is counted (rw same (other_part (out-Stmt s) s)) code))

action_head : (layer : Stmt-F Stmt Block) (s : Stmt) → is_move layer ≡ false → slice_get (actions_layer actions_in layer s) 0 ≡ Some s
action_head (stmt.Let at e) s is = cc
action_head (stmt.Set at e) s is = cc
action_head (stmt.Apply to callee arguments) s is = cc
action_head (stmt.If e block other) s is = cc
action_head (stmt.While e block) s is = cc
action_head (stmt.Ploop place block) s is = refl
action_head (stmt.Break place) s is = cc
action_head (stmt.Return place value) s is = cc
action_head (stmt.Atomic place to block) s is = refl
action_head (stmt.Call place call to) s is = refl

-- the number of the action at a place of a block counts the actions before it
pub number_place : (all : List Stmt) (b : Block) (at offset count : ℕ) (s : Stmt) → length all < 2 ^ 32 → IsPart (actions_in b) all offset → slice_get (out-Block b).stmts at ≡ Some s → (length (actions_in_turn (out-Block b).stmts) < 2 ^ 32 → count ≡ length (actions_in_turn (take at (out-Block b).stmts))) → (offset + count) % 2 ^ 64 ≡ offset + (length (actions_in_turn (take at (out-Block b).stmts)) + 0) + 0
number_place all b at offset count s few outer is counted =
    let stmts = (out-Block b).stmts in
    let turn : IsPart (actions_in_turn stmts) all offset = subst (λ xs. IsPart xs all offset) (actions_in_out b) outer in
    let own : count ≡ length (actions_in_turn (take at stmts)) = counted (omega (arith, turn.fits, few)) in
    let whole = statement_part all stmts at offset 0 s (actions_layer actions_in (out-Stmt s) s) turn is (part_all (actions_layer actions_in (out-Stmt s) s)) in
    let small : offset + count < 2 ^ 64 = omega (arith, whole.fits, few, own) in
    mod-eq_of_lt small ∙ omega (arith, own)

-- there the action stands
pub number_is : (all : List Stmt) (b : Block) (at offset count : ℕ) (s : Stmt) → length all < 2 ^ 32 → IsPart (actions_in b) all offset → slice_get (out-Block b).stmts at ≡ Some s → is_move (out-Stmt s) ≡ false → (length (actions_in_turn (out-Block b).stmts) < 2 ^ 32 → count ≡ length (actions_in_turn (take at (out-Block b).stmts))) → slice_get all ((offset + count) % 2 ^ 64) ≡ Some s
number_is all b at offset count s few outer is action counted =
    let stmts = (out-Block b).stmts in
    let turn : IsPart (actions_in_turn stmts) all offset = subst (λ xs. IsPart xs all offset) (actions_in_out b) outer in
    let whole = statement_part all stmts at offset 0 s (actions_layer actions_in (out-Stmt s) s) turn is (part_all (actions_layer actions_in (out-Stmt s) s)) in
    rw (number_place all b at offset count s few outer is counted) (whole.items 0 s (action_head (out-Stmt s) s action))
