-- The canonical tokens of blocks and statements spell them again.
use Rattle.std.proofs.Common.{List, sym}
use Rattle.std.specs.List.{flat_map}
use Rattle.thread_tree.specs.declared.place.At.{At}
use Rattle.thread_tree.specs.declared.token.Placed.{Placed}
use Rattle.thread_tree.specs.Spelling.{Anywhere}
use Rattle.thread_tree.specs.declared.block.Block.{Block}
use Rattle.thread_tree.specs.declared.block.Stmt.{Stmt}
use Rattle.thread_tree.specs.SpellingOfBlocks as bl
use Rattle.thread_tree.specs.SpellingOfBlocks.{SpellsBlock, SpellsBlockBy, SpellsGiven, SpellsGivenBy, SpellsStmt, SpellsStmtBy, SpellsStmts, SpellsStmtsBy}
use Rattle.thread_print.specs.Canonical.{block, statement, to}
use Rattle.thread_print.proofs.Again.{Again, any, at, both, nothing, same_tokens, turned}
use Rattle.thread_print.proofs.AgainExpressions.{expr_again}
use Rattle.thread_print.proofs.AgainCalls.{arguments_again, arrow_is, call_again, names_again, results_again}
use Rattle.thread_print.proofs.AgainTransactions.{tblock_again}
use Rattle.thread_print.proofs.Layers.{block_out, stated}

-- the names that get what an `atomic` gives
given_again : {start end : List Placed} {ats : List At} → SpellsGiven start end ats → Again (to ats) (λ b a. SpellsGivenBy Anywhere b a ats) start end
given_again bl.no_given = nothing (λ b. bl.no_given)
given_again (bl.given arrow spells) = same_tokens (arrow_is spells) (turned (both (any arrow) (names_again spells)) (λ b a o. bl.given o.first o.second))

mutual
  pub block_again : {start end : List Placed} {x : Block} → SpellsBlock start end x → Again (block x) (λ b a. SpellsBlockBy Anywhere b a x) start end
  block_again (bl.block {inside = x} opens inside closes) =
      same_tokens (sym (block_out x)) (turned (both (at opens) (both (stmts_again inside) (any closes))) (λ b a o. bl.block o.first o.second.first o.second.second))

  stmts_again : {start end : List Placed} {xs : List Stmt} → SpellsStmts start end xs → Again (flat_map statement xs) (λ b a. SpellsStmtsBy Anywhere b a xs) start end
  stmts_again bl.no_stmts = nothing (λ b. bl.no_stmts)
  stmts_again (bl.stmts first rest) = turned (both (stmt_again first) (stmts_again rest)) (λ b a o. bl.stmts o.first o.second)

  stmt_again : {start end : List Placed} {s : Stmt} → SpellsStmt start end s → Again (statement s) (λ b a. SpellsStmtBy Anywhere b a s) start end
  stmt_again (bl.let_to {name = name} is d0 d1 d2 d3 d4) = same_tokens (stated _ is) (turned (both (any d0) (both (at d1) (both (any d2) (both (expr_again d3) (any d4))))) (λ b a o. bl.let_to {name = name} is o.first o.second.first o.second.second.first o.second.second.second.first o.second.second.second.second))
  stmt_again (bl.set {name = name} is d0 d1 d2 d3) = same_tokens (stated _ is) (turned (both (at d0) (both (any d1) (both (expr_again d2) (any d3)))) (λ b a o. bl.set {name = name} is o.first o.second.first o.second.second.first o.second.second.second))
  stmt_again (bl.apply_to {name = name} {function = function} is d0 d1 d2 d3 d4 d5) = same_tokens (stated _ is) (turned (both (at d0) (both (any d1) (both (at d2) (both (any d3) (both (arguments_again d4) (any d5)))))) (λ b a o. bl.apply_to {name = name} {function = function} is o.first o.second.first o.second.second.first o.second.second.second.first o.second.second.second.second.first o.second.second.second.second.second))
  stmt_again (bl.apply {function = function} is d0 d1 d2 d3) = same_tokens (stated _ is) (turned (both (at d0) (both (any d1) (both (arguments_again d2) (any d3)))) (λ b a o. bl.apply {function = function} is o.first o.second.first o.second.second.first o.second.second.second))
  stmt_again (bl.if_only is d0 d1 d2) = same_tokens (stated _ is) (turned (both (any d0) (both (expr_again d1) (block_again d2))) (λ b a o. bl.if_only is o.first o.second.first o.second.second))
  stmt_again (bl.if_else is d0 d1 d2 d3 d4) = same_tokens (stated _ is) (turned (both (any d0) (both (expr_again d1) (both (block_again d2) (both (any d3) (block_again d4))))) (λ b a o. bl.if_else is o.first o.second.first o.second.second.first o.second.second.second.first o.second.second.second.second))
  stmt_again (bl.while_loop is d0 d1 d2) = same_tokens (stated _ is) (turned (both (any d0) (both (expr_again d1) (block_again d2))) (λ b a o. bl.while_loop is o.first o.second.first o.second.second))
  stmt_again (bl.ploop {place = place} is d0 d1) = same_tokens (stated _ is) (turned (both (at d0) (block_again d1)) (λ b a o. bl.ploop {place = place} is o.first o.second))
  stmt_again (bl.break_loop {place = place} is d0 d1) = same_tokens (stated _ is) (turned (both (at d0) (any d1)) (λ b a o. bl.break_loop {place = place} is o.first o.second))
  stmt_again (bl.return_only {place = place} is d0 d1) = same_tokens (stated _ is) (turned (both (at d0) (any d1)) (λ b a o. bl.return_only {place = place} is o.first o.second))
  stmt_again (bl.return_value {place = place} is d0 d1 d2) = same_tokens (stated _ is) (turned (both (at d0) (both (expr_again d1) (any d2))) (λ b a o. bl.return_value {place = place} is o.first o.second.first o.second.second))
  stmt_again (bl.atomic {place = place} is d0 d1 d2) = same_tokens (stated _ is) (turned (both (at d0) (both (given_again d1) (tblock_again d2))) (λ b a o. bl.atomic {place = place} is o.first o.second.first o.second.second))
  stmt_again (bl.call is d0 d1) = same_tokens (stated _ is) (turned (both (call_again d0) (results_again d1)) (λ b a o. bl.call is o.first o.second))
