-- Counting actions.
use Rattle.std.proofs.Common.{◌≡◌, ℕ, ◌+◌, ◌%◌, ◌^◌, ◌<◌, ◌≤◌, List, length, min, take, drop, Bool, true, false, Some, None, refl, ap, sym, ◌∙◌, arith}
use Rattle.std.specs.Prelude.{slice_get, option_map, ◌==◌, if◌then◌else◌}
use Rattle.std.proofs.Math.Nat.{mod-eq_of_lt}
use Rattle.std.proofs.lemmas.List.{take_all}
use Rattle.thread_tree.specs.declared.block.Block.{Block, out-Block}
use Rattle.thread_tree.specs.declared.block.Stmt.{Stmt, out-Stmt}
use Rattle.thread_tree.specs.declared.tree.Decl.{Decl}
use Rattle.thread_tree.specs.declared.tree.Decl.TheVariants as decl
use Rattle.thread_tree.specs.declared.tree.Tree.{Tree}
use Rattle.thread_tree.specs.Actions.{actions}
use Rattle.thread_tree.specs.Program.{Body, program_of, function_of, names_of}
use Rattle.thread_check.specs.ActionLists.{actions_layer, actions_in, actions_in_turn, actions_of_declaration, actions_of_declarations}
use Rattle.thread_machine.specs.Context.{block_in, body_of}
use Rattle.thread_machine.specs.Parts.{IsPart, actions_if_some}
use Rattle.thread_machine.specs.Seen.{body_in, function_in}
use Rattle.thread_check.proofs.Callers.{actions_of_out, actions_in_out, actions_show}
use Rattle.thread_machine.proofs.BodyLemmas.{function_among, function_among-is, function_here, function_at_end, body_among, body_among-is, body_here, body_at_end}
use Rattle.thread_machine.proofs.PartLemmas.{part_at, part_of_declaration, part_none, length_more, length_more_declared}

-- a block's actions are those of all its statements
pub count_block : (b : Block) (n : ℕ) → length (out-Block b).stmts ≤ n → length (actions_in_turn (take n (out-Block b).stmts)) ≡ length (actions_in b)
count_block b n past = ap (λ xs. length (actions_in_turn xs)) (take_all n (out-Block b).stmts past) ∙ sym (ap length (actions_in_out b))

pub few_block : (b : Block) → length (actions_in b) ≡ length (actions_in_turn (out-Block b).stmts)
few_block b = ap length (actions_in_out b)

pub ruleset block_laws = (count_block, few_block)

-- a statement has no more actions than all
pub few_statement : (stmts : List Stmt) (n : ℕ) (s : Stmt) → slice_get stmts n ≡ Some s → length (actions_in_turn (take n stmts)) + length (actions_layer actions_in (out-Stmt s) s) ≤ length (actions_in_turn stmts)
few_statement stmts n s is = omega (arith, (part_at stmts n s is).fits, ap length (actions_of_out s))

pub count_statement : (stmts : List Stmt) (n : ℕ) (s : Stmt) → slice_get stmts n ≡ Some s → length (actions_in_turn (take (n + 1) stmts)) ≡ length (actions_in_turn (take n stmts)) + length (actions_layer actions_in (out-Stmt s) s)
count_statement stmts n s is = omega (arith, length_more stmts n s is, ap length (actions_of_out s))

pub count_passed : (stmts : List Stmt) (at upto : ℕ) → upto ≤ at → length (actions_in_turn (take (min (at + 1) upto) stmts)) ≡ length (actions_in_turn (take (min at upto) stmts))
count_passed stmts at upto past =
    let one : min (at + 1) upto ≡ upto = omega arith in
    let other : min at upto ≡ upto = omega arith in
    rw (one, other) refl

pub ruleset turn_laws = (few_statement, count_statement)

-- a declaration has no more actions than all
pub few_declared : (tree : Tree) (n : ℕ) (d : Decl) → slice_get tree.decls n ≡ Some d → length (actions_of_declarations (take n tree.decls)) + length (actions_of_declaration d) ≤ length (actions (program_of tree))
few_declared tree n d is = omega (arith, (part_of_declaration tree.decls n d is).fits, ap length (actions_show tree))

pub count_more : (ds : List Decl) (n : ℕ) (d : Decl) → slice_get ds n ≡ Some d → length (actions_of_declarations (take (n + 1) ds)) ≡ length (actions_of_declarations (take n ds)) + length (actions_of_declaration d)
count_more ds n d is = length_more_declared ds n d is

some_body : (a b : Body) → Some a ≡ Some b → actions_in a.block ≡ actions_in b.block
some_body a b is = let e : a ≡ b = cc in ap (λ (x : Body). actions_in x.block) e

chosen_body : (test : Bool) (a b : Body) → (if test then Some a else None) ≡ Some b → actions_in a.block ≡ actions_in b.block
chosen_body true a b is = some_body a b is
chosen_body false a b is = cc

function_has : (d : Decl) (name : ℕ) (body : Body) → function_in d name ≡ Some body → actions_of_declaration d ≡ actions_in body.block
function_has (decl.Kind at fields) name body is = cc
function_has (decl.Object at kind) name body is = cc
function_has (decl.Queue at capacity channel) name body is = cc
function_has (decl.Semaphore at count maximum) name body is = cc
function_has (decl.Function at parameters block) name body is = chosen_body (at.name == name) (record { parameters = names_of parameters; block = block }) body is
function_has (decl.Thread at parameters priority block) name body is = cc
function_has (decl.Start place at arguments) name body is = cc

body_has : (d : Decl) (body : Body) → body_in d ≡ Some body → actions_of_declaration d ≡ actions_in body.block
body_has (decl.Kind at fields) body is = cc
body_has (decl.Object at kind) body is = cc
body_has (decl.Queue at capacity channel) body is = cc
body_has (decl.Semaphore at count maximum) body is = cc
body_has (decl.Function at parameters block) body is = some_body (record { parameters = names_of parameters; block = block }) body is
body_has (decl.Thread at parameters priority block) body is = some_body (record { parameters = names_of parameters; block = block }) body is
body_has (decl.Start place at arguments) body is = cc

-- the actions of the function that was found
pub function_part : (tree : Tree) (n name offset : ℕ) (d : Decl) (body : Body) → function_among tree.decls name ≡ function_among (drop n tree.decls) name → slice_get tree.decls n ≡ Some d → function_in d name ≡ Some body → offset ≡ length (actions_of_declarations (take n tree.decls)) → IsPart (actions_if_some (block_in (option_map body_of (function_of (program_of tree) name)))) (actions (program_of tree)) offset
function_part tree n name offset d body same is found at =
    let here : option_map body_of (function_of (program_of tree) name) ≡ Some body = sym (function_among-is tree.decls name) ∙ same ∙ function_here tree.decls n d name body is found in
    rw (here, at, actions_show tree, ← function_has d name body found) (part_of_declaration tree.decls n d is)

pub function_part_none : (tree : Tree) (n name : ℕ) → function_among tree.decls name ≡ function_among (drop n tree.decls) name → length tree.decls ≤ n → IsPart (actions_if_some (block_in (option_map body_of (function_of (program_of tree) name)))) (actions (program_of tree)) 0
function_part_none tree n name same past =
    let none : option_map body_of (function_of (program_of tree) name) ≡ None = sym (function_among-is tree.decls name) ∙ same ∙ function_at_end tree.decls n name past in
    rw none (part_none (actions (program_of tree)) 0 (omega arith))

-- the actions of the body of a number
pub body_part : (tree : Tree) (n number left offset : ℕ) (d : Decl) (body : Body) → body_among tree.decls number ≡ body_among (drop n tree.decls) left → slice_get tree.decls n ≡ Some d → body_in d ≡ Some body → left ≡ 0 → offset ≡ length (actions_of_declarations (take n tree.decls)) → IsPart (actions_if_some (block_in (slice_get (program_of tree).bodies number))) (actions (program_of tree)) offset
body_part tree n number left offset d body same is found none at =
    let here : slice_get (program_of tree).bodies number ≡ Some body = sym (body_among-is tree.decls number) ∙ same ∙ body_here tree.decls n d body left is found none in
    rw (here, at, actions_show tree, ← body_has d body found) (part_of_declaration tree.decls n d is)

pub body_part_none : (tree : Tree) (n number left : ℕ) → body_among tree.decls number ≡ body_among (drop n tree.decls) left → length tree.decls ≤ n → IsPart (actions_if_some (block_in (slice_get (program_of tree).bodies number))) (actions (program_of tree)) 0
body_part_none tree n number left same past =
    let none : slice_get (program_of tree).bodies number ≡ None = sym (body_among-is tree.decls number) ∙ same ∙ body_at_end tree.decls n left past in
    rw none (part_none (actions (program_of tree)) 0 (omega arith))

-- the actions up to the next declaration
pub wrapped_offset : (tree : Tree) (n offset count : ℕ) (d : Decl) → slice_get tree.decls n ≡ Some d → length (actions (program_of tree)) < 2 ^ 32 → offset ≡ length (actions_of_declarations (take n tree.decls)) → (length (actions_of_declaration d) < 2 ^ 32 → count ≡ length (actions_of_declaration d)) → (offset + count) % 2 ^ 64 ≡ length (actions_of_declarations (take (n + 1) tree.decls))
wrapped_offset tree n offset count d is few so_far counted =
    let all = few_declared tree n d is in
    let own : length (actions_of_declaration d) < 2 ^ 32 = omega (arith, all, few) in
    let more = count_more tree.decls n d is in
    let sum : offset + count ≡ length (actions_of_declarations (take (n + 1) tree.decls)) = omega (arith, more, so_far, counted own) in
    let small : length (actions_of_declarations (take (n + 1) tree.decls)) < 2 ^ 64 = omega (arith, all, more, few) in
    rw sum (mod-eq_of_lt small)
