-- The table takes what spells a transaction.
use Rattle.std.proofs.Common.{true, List, ◌∷◌, refl}
use Rattle.thread_tree.specs.declared.expr.Expr.{Expr}
use Rattle.thread_tree.specs.declared.token.Mark.TheVariants as mark
use Rattle.thread_tree.specs.declared.token.Placed.{Placed}
use Rattle.thread_tree.specs.declared.token.Word.TheVariants as word
use Rattle.thread_tree.specs.declared.transaction.TBlock.{TBlock}
use Rattle.thread_tree.specs.declared.transaction.TStmt.{TStmt}
use Rattle.thread_tree.specs.Grammar.{turn, Spells, is_mark, is_word, is_name, is_number, is_prefix, mark_number, word_number, operand, tstatement, transacted_by}
use Rattle.grammar_laws.specs.Open.{bare}
use Rattle.thread_tree.specs.Parts.{Part, TheMark, ATBlock, TStatements, TOtherwise, TAssigned, Values, MoreExpressions, Inner}
use Rattle.thread_tree.specs.Spelling.{TakesMark, SpellsExpr, SpellsField, static, through}
use Rattle.thread_tree.specs.SpellingOfTransactions.{SpellsValues, no_values, values, SpellsTBlock, tblock, SpellsTStmts, no_tstmts, tstmts, SpellsTStmt, tlet, tlet_new, tset, tset_new, store, free, tif, tif_else, twhile, tbreak, abort, tgive}
use Rattle.grammar_laws.proofs.Table.{Wider, beyond, lift, takes_mark, takes_name, placed, go}
use Rattle.grammar_laws.proofs.Tags.{is_the_mark, is_the_word}
use Rattle.grammar_laws.proofs.CompleteExpressions.{takes_inner, takes_expression}
use Rattle.grammar_laws.proofs.CompleteCalls.{takes_expressions}

-- the value behind an equals sign
assigned_step : Wider (Inner true (TheMark mark.Semicolon)) TAssigned
unfolding turn operand is_mark is_number is_name is_prefix
assigned_step t first e = beyond (is_word word.New t) _ _ (λ h. rw (is_the_word word.New t h) refl) e

assigned : {before a after : List Placed} {e : Expr} → SpellsExpr true before a e → TakesMark mark.Semicolon a after → (parts : List Part) → Spells parts (bare after) → Spells (TAssigned ∷ parts) (bare before)
assigned v m parts s = lift assigned_step (takes_inner v (TheMark mark.Semicolon) parts refl (takes_mark m s))

-- the values of a `give`
values_step : Wider (Inner true (MoreExpressions true (TheMark mark.Semicolon))) Values
unfolding turn operand is_mark mark_number is_number is_name is_prefix
values_step t first e = beyond (is_mark mark.Semicolon t) _ _ (λ h. rw (is_the_mark mark.Semicolon t h) refl) e

takes_values : {before after : List Placed} {es : List Expr} → SpellsValues before after es → (parts : List Part) → Spells parts (bare after) → Spells (Values ∷ parts) (bare before)
unfolding turn is_mark mark_number
takes_values (no_values m) parts s = go refl m s
takes_values (values e m) parts s = lift values_step (takes_expressions e (TheMark mark.Semicolon) parts refl (takes_mark m s))

-- behind the block of an `if` a further statement may begin
otherwise_step : Wider TStatements TOtherwise
unfolding turn tstatement transacted_by
otherwise_step t first e = beyond (is_word word.Else t) _ _ (λ h. rw (is_the_word word.Else t h) refl) e

-- a store into a field
stored : {before a b c after : List Placed} {f : _} {e : Expr} → SpellsField before a f → TakesMark mark.Equals a b → SpellsExpr true b c e → TakesMark mark.Semicolon c after → (parts : List Part) → Spells (TStatements ∷ parts) (bare after) → Spells (TStatements ∷ parts) (bare before)
unfolding turn tstatement is_mark mark_number
stored (static o d m) q v semi parts s = go refl (placed o) (go refl d (takes_name m (go refl q (takes_expression v (TheMark mark.Semicolon) (TStatements ∷ parts) refl (takes_mark semi s)))))
stored (through o d k f m) q v semi parts s = go refl (placed o) (go refl d (takes_name k (go refl f (takes_name m (takes_mark q (takes_expression v (TheMark mark.Semicolon) (TStatements ∷ parts) refl (takes_mark semi s)))))))

mutual
  unfolding turn tstatement transacted_by is_mark mark_number is_word word_number

  pub takes_tblock : {before after : List Placed} {x : TBlock} → SpellsTBlock before after x → (parts : List Part) → Spells parts (bare after) → Spells (ATBlock ∷ parts) (bare before)
  takes_tblock (tblock o ss c) parts s = go refl (placed o) (takes_tstmts ss parts (go refl c s))

  takes_tstmts : {before after : List Placed} {xs : List TStmt} → SpellsTStmts before after xs → (parts : List Part) → Spells (TStatements ∷ parts) (bare after) → Spells (TStatements ∷ parts) (bare before)
  takes_tstmts no_tstmts parts s = s
  takes_tstmts (tstmts x rest) parts s = takes_tstmt x parts (takes_tstmts rest parts s)

  takes_tstmt : {before after : List Placed} {x : TStmt} → SpellsTStmt before after x → (parts : List Part) → Spells (TStatements ∷ parts) (bare after) → Spells (TStatements ∷ parts) (bare before)
  takes_tstmt (tlet is w n q v m) parts s = go refl w (takes_name n (takes_mark q (assigned v m (TStatements ∷ parts) s)))
  takes_tstmt (tlet_new is w n q new k m) parts s = go refl w (takes_name n (takes_mark q (go refl new (takes_name k (takes_mark m s)))))
  takes_tstmt (tset is n q v m) parts s = go refl (placed n) (go refl q (assigned v m (TStatements ∷ parts) s))
  takes_tstmt (tset_new is n q new k m) parts s = go refl (placed n) (go refl q (go refl new (takes_name k (takes_mark m s))))
  takes_tstmt (store is f q v m) parts s = stored f q v m parts s
  takes_tstmt (free is w v m) parts s = go refl w (takes_expression v (TheMark mark.Semicolon) (TStatements ∷ parts) refl (takes_mark m s))
  takes_tstmt (tif is w v x) parts s = go refl w (takes_expression v ATBlock (TOtherwise ∷ parts) refl (takes_tblock x (TOtherwise ∷ parts) (lift otherwise_step s)))
  takes_tstmt (tif_else is w v x other y) parts s = go refl w (takes_expression v ATBlock (TOtherwise ∷ parts) refl (takes_tblock x (TOtherwise ∷ parts) (go refl other (takes_tblock y (TStatements ∷ parts) s))))
  takes_tstmt (twhile is w v x) parts s = go refl w (takes_expression v ATBlock (TStatements ∷ parts) refl (takes_tblock x (TStatements ∷ parts) s))
  takes_tstmt (tbreak is w m) parts s = go refl (placed w) (takes_mark m s)
  takes_tstmt (abort is w m) parts s = go refl (placed w) (takes_mark m s)
  takes_tstmt (tgive is w es) parts s = go refl (placed w) (takes_values es (TStatements ∷ parts) s)
