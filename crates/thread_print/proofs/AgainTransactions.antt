-- The canonical tokens of `atomic` blocks spell them again.
use Rattle.std.proofs.Common.{List, sym}
use Rattle.std.specs.List.{flat_map}
use Rattle.thread_tree.specs.declared.expr.Expr.{Expr}
use Rattle.thread_tree.specs.declared.token.Placed.{Placed}
use Rattle.thread_tree.specs.Spelling.{Anywhere}
use Rattle.thread_tree.specs.declared.transaction.TBlock.{TBlock}
use Rattle.thread_tree.specs.declared.transaction.TStmt.{TStmt}
use Rattle.thread_tree.specs.SpellingOfTransactions as tx
use Rattle.thread_tree.specs.SpellingOfTransactions.{SpellsTBlock, SpellsTBlockBy, SpellsTStmt, SpellsTStmtBy, SpellsTStmts, SpellsTStmtsBy, SpellsValues, SpellsValuesBy}
use Rattle.thread_print.specs.Canonical.{tblock, tstatement, values}
use Rattle.thread_print.proofs.Again.{Again, any, at, both, nothing, same_tokens, turned}
use Rattle.thread_print.proofs.AgainExpressions.{expr_again, field_again}
use Rattle.thread_print.proofs.AgainCalls.{exprs_again}
use Rattle.thread_print.proofs.Layers.{tblock_out, tstated}

-- the values of a `give`
values_again : {start end : List Placed} {es : List Expr} → SpellsValues start end es → Again (values es) (λ b a. SpellsValuesBy Anywhere b a es) start end
values_again (tx.no_values ends) = turned (any ends) (λ b a o. tx.no_values o)
values_again (tx.values spells ends) = turned (both (exprs_again spells) (any ends)) (λ b a o. tx.values o.first o.second)

mutual
  pub tblock_again : {start end : List Placed} {x : TBlock} → SpellsTBlock start end x → Again (tblock x) (λ b a. SpellsTBlockBy Anywhere b a x) start end
  tblock_again (tx.tblock {inside = x} opens inside closes) =
      same_tokens (sym (tblock_out x)) (turned (both (at opens) (both (tstmts_again inside) (any closes))) (λ b a o. tx.tblock o.first o.second.first o.second.second))

  tstmts_again : {start end : List Placed} {xs : List TStmt} → SpellsTStmts start end xs → Again (flat_map tstatement xs) (λ b a. SpellsTStmtsBy Anywhere b a xs) start end
  tstmts_again tx.no_tstmts = nothing (λ b. tx.no_tstmts)
  tstmts_again (tx.tstmts first rest) = turned (both (tstmt_again first) (tstmts_again rest)) (λ b a o. tx.tstmts o.first o.second)

  tstmt_again : {start end : List Placed} {s : TStmt} → SpellsTStmt start end s → Again (tstatement s) (λ b a. SpellsTStmtBy Anywhere b a s) start end
  tstmt_again (tx.tlet {name = name} is d0 d1 d2 d3 d4) = same_tokens (tstated _ is) (turned (both (any d0) (both (at d1) (both (any d2) (both (expr_again d3) (any d4))))) (λ b a o. tx.tlet {name = name} is o.first o.second.first o.second.second.first o.second.second.second.first o.second.second.second.second))
  tstmt_again (tx.tlet_new {name = name} {kind = kind} is d0 d1 d2 d3 d4 d5) = same_tokens (tstated _ is) (turned (both (any d0) (both (at d1) (both (any d2) (both (any d3) (both (at d4) (any d5)))))) (λ b a o. tx.tlet_new {name = name} {kind = kind} is o.first o.second.first o.second.second.first o.second.second.second.first o.second.second.second.second.first o.second.second.second.second.second))
  tstmt_again (tx.tset {name = name} is d0 d1 d2 d3) = same_tokens (tstated _ is) (turned (both (at d0) (both (any d1) (both (expr_again d2) (any d3)))) (λ b a o. tx.tset {name = name} is o.first o.second.first o.second.second.first o.second.second.second))
  tstmt_again (tx.tset_new {name = name} {kind = kind} is d0 d1 d2 d3 d4) = same_tokens (tstated _ is) (turned (both (at d0) (both (any d1) (both (any d2) (both (at d3) (any d4))))) (λ b a o. tx.tset_new {name = name} {kind = kind} is o.first o.second.first o.second.second.first o.second.second.second.first o.second.second.second.second))
  tstmt_again (tx.store is d0 d1 d2 d3) = same_tokens (tstated _ is) (turned (both (field_again d0) (both (any d1) (both (expr_again d2) (any d3)))) (λ b a o. tx.store is o.first o.second.first o.second.second.first o.second.second.second))
  tstmt_again (tx.free is d0 d1 d2) = same_tokens (tstated _ is) (turned (both (any d0) (both (expr_again d1) (any d2))) (λ b a o. tx.free is o.first o.second.first o.second.second))
  tstmt_again (tx.tif is d0 d1 d2) = same_tokens (tstated _ is) (turned (both (any d0) (both (expr_again d1) (tblock_again d2))) (λ b a o. tx.tif is o.first o.second.first o.second.second))
  tstmt_again (tx.tif_else is d0 d1 d2 d3 d4) = same_tokens (tstated _ is) (turned (both (any d0) (both (expr_again d1) (both (tblock_again d2) (both (any d3) (tblock_again d4))))) (λ b a o. tx.tif_else is o.first o.second.first o.second.second.first o.second.second.second.first o.second.second.second.second))
  tstmt_again (tx.twhile is d0 d1 d2) = same_tokens (tstated _ is) (turned (both (any d0) (both (expr_again d1) (tblock_again d2))) (λ b a o. tx.twhile is o.first o.second.first o.second.second))
  tstmt_again (tx.tbreak {place = place} is d0 d1) = same_tokens (tstated _ is) (turned (both (at d0) (any d1)) (λ b a o. tx.tbreak {place = place} is o.first o.second))
  tstmt_again (tx.abort {place = place} is d0 d1) = same_tokens (tstated _ is) (turned (both (at d0) (any d1)) (λ b a o. tx.abort {place = place} is o.first o.second))
  tstmt_again (tx.tgive {place = place} is d0 d1) = same_tokens (tstated _ is) (turned (both (at d0) (values_again d1)) (λ b a o. tx.tgive {place = place} is o.first o.second))
