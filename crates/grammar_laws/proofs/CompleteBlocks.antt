-- The table takes what spells a block of a body.
use Rattle.std.proofs.Common.{false, List, [], ◌∷◌, refl}
use Rattle.thread_tree.specs.declared.block.Block.{Block}
use Rattle.thread_tree.specs.declared.block.Stmt.{Stmt}
use Rattle.thread_tree.specs.declared.expr.Expr.{Expr}
use Rattle.thread_tree.specs.declared.place.At.{At}
use Rattle.thread_tree.specs.declared.token.Mark.TheVariants as mark
use Rattle.thread_tree.specs.declared.token.Placed.{Placed}
use Rattle.thread_tree.specs.declared.token.Token.{Token}
use Rattle.thread_tree.specs.declared.token.Token.TheVariants as token
use Rattle.thread_tree.specs.declared.token.Word.TheVariants as word
use Rattle.thread_tree.specs.Grammar.{turn, advance, Spells, goes_on, behind_name, is_mark, is_word, is_name, is_number, is_prefix, is_between, mark_number, word_number, operand, statement, stated_by, plain_by}
use Rattle.thread_tree.specs.Pieces.{shape}
use Rattle.grammar_laws.specs.Open.{bare}
use Rattle.thread_tree.specs.Parts.{Part, TheMark, ABlock, Statements, Otherwise, Assigned, AfterAssigned, Returned, AtomicTo, ATBlock, Inner, After}
use Rattle.thread_tree.specs.Spelling.{TakesMark, SpellsExpr}
use Rattle.thread_tree.specs.SpellingOfBlocks.{SpellsGiven, no_given, given, SpellsBlock, block, SpellsStmts, no_stmts, stmts, SpellsStmt, let_to, set, apply_to, apply, if_only, if_else, while_loop, ploop, break_loop, return_only, return_value, atomic, call}
use Rattle.std.proofs.lemmas.Option.{same_Some}
use Rattle.grammar_laws.proofs.Table.{Wider, beyond, lift, takes_mark, takes_name, placed, go}
use Rattle.grammar_laws.proofs.Tags.{is_the_mark, is_the_word}
use Rattle.grammar_laws.proofs.CompleteExpressions.{takes_inner, takes_expression}
use Rattle.grammar_laws.proofs.CompleteCalls.{takes_names, takes_arguments, takes_results, takes_call}
use Rattle.grammar_laws.proofs.CompleteTransactions.{takes_tblock}

-- behind a name at a value a call may begin, too
behind_step : Wider (After false (TheMark mark.Semicolon)) AfterAssigned
unfolding turn is_mark mark_number is_between
behind_step t first e = beyond (is_mark mark.OpenParenthesis t) _ _ (λ h. rw (is_the_mark mark.OpenParenthesis t h) refl) e

-- the value behind an equals sign
assigned_step : (parts : List Part) (t : Token) (ts : List Token) → Spells (Inner false (TheMark mark.Semicolon) ∷ parts) (t ∷ ts) → Spells (Assigned ∷ parts) (t ∷ ts)
unfolding advance turn operand behind_name is_mark mark_number is_number is_name is_prefix
assigned_step parts (token.Name n) ts (goes_on e s) = goes_on refl (lift {part = After false (TheMark mark.Semicolon)} behind_step (rw (same_Some _ _ e) s))
assigned_step parts _ ts (goes_on e s) = goes_on e s

assigned_all : (parts : List Part) (ts : List Token) → Spells (Inner false (TheMark mark.Semicolon) ∷ parts) ts → Spells (Assigned ∷ parts) ts
assigned_all parts [] s = elim s [ ]
assigned_all parts (t ∷ ts) s = assigned_step parts t ts s

takes_assigned : {before a after : List Placed} {e : Expr} → SpellsExpr false before a e → TakesMark mark.Semicolon a after → (parts : List Part) → Spells parts (bare after) → Spells (Assigned ∷ parts) (bare before)
takes_assigned {before = before} v m parts s = assigned_all parts (bare before) (takes_inner v (TheMark mark.Semicolon) parts refl (takes_mark m s))

-- what follows `return`, and `atomic`
returned_step : Wider (Inner false (TheMark mark.Semicolon)) Returned
unfolding turn operand is_mark mark_number is_number is_name is_prefix
returned_step t first e = beyond (is_mark mark.Semicolon t) _ _ (λ h. rw (is_the_mark mark.Semicolon t h) refl) e

atomic_step : Wider ATBlock AtomicTo
unfolding turn is_mark mark_number
atomic_step t first e = beyond (is_mark mark.Arrow t) _ _ (λ h. rw (is_the_mark mark.Arrow t h) refl) e

takes_given : {before after : List Placed} {names : List At} → SpellsGiven before after names → (parts : List Part) → Spells (ATBlock ∷ parts) (bare after) → Spells (AtomicTo ∷ parts) (bare before)
unfolding turn is_mark mark_number
takes_given no_given parts s = lift atomic_step s
takes_given (given arrow names) parts s = go refl arrow (takes_names names ATBlock parts refl s)

-- behind the block of an `if` a further statement may begin
otherwise_step : Wider Statements Otherwise
unfolding turn statement stated_by plain_by shape
otherwise_step t first e = beyond (is_word word.Else t) _ _ (λ h. rw (is_the_word word.Else t h) refl) e

mutual
  unfolding turn statement stated_by plain_by shape is_mark mark_number is_word word_number is_name

  pub takes_block : {before after : List Placed} {x : Block} → SpellsBlock before after x → (parts : List Part) → Spells parts (bare after) → Spells (ABlock ∷ parts) (bare before)
  takes_block (block o ss c) parts s = go refl (placed o) (takes_stmts ss parts (go refl c s))

  takes_stmts : {before after : List Placed} {xs : List Stmt} → SpellsStmts before after xs → (parts : List Part) → Spells (Statements ∷ parts) (bare after) → Spells (Statements ∷ parts) (bare before)
  takes_stmts no_stmts parts s = s
  takes_stmts (stmts x rest) parts s = takes_stmt x parts (takes_stmts rest parts s)

  takes_stmt : {before after : List Placed} {x : Stmt} → SpellsStmt before after x → (parts : List Part) → Spells (Statements ∷ parts) (bare after) → Spells (Statements ∷ parts) (bare before)
  takes_stmt (let_to is w n q v m) parts s = go refl w (takes_name n (takes_mark q (takes_expression v (TheMark mark.Semicolon) (Statements ∷ parts) refl (takes_mark m s))))
  takes_stmt (set is n q v m) parts s = go refl (placed n) (go refl q (takes_assigned v m (Statements ∷ parts) s))
  takes_stmt (apply_to is n q f o es m) parts s = go refl (placed n) (go refl q (go refl (placed f) (go refl o (takes_arguments es (TheMark mark.Semicolon ∷ Statements ∷ parts) (takes_mark m s)))))
  takes_stmt (apply is f o es m) parts s = go refl (placed f) (go refl o (takes_arguments es (TheMark mark.Semicolon ∷ Statements ∷ parts) (takes_mark m s)))
  takes_stmt (if_only is w v x) parts s = go refl w (takes_expression v ABlock (Otherwise ∷ parts) refl (takes_block x (Otherwise ∷ parts) (lift otherwise_step s)))
  takes_stmt (if_else is w v x other y) parts s = go refl w (takes_expression v ABlock (Otherwise ∷ parts) refl (takes_block x (Otherwise ∷ parts) (go refl other (takes_block y (Statements ∷ parts) s))))
  takes_stmt (while_loop is w v x) parts s = go refl w (takes_expression v ABlock (Statements ∷ parts) refl (takes_block x (Statements ∷ parts) s))
  takes_stmt (ploop is w x) parts s = go refl (placed w) (takes_block x (Statements ∷ parts) s)
  takes_stmt (break_loop is w m) parts s = go refl (placed w) (takes_mark m s)
  takes_stmt (return_only is w m) parts s = go refl (placed w) (go refl m s)
  takes_stmt (return_value is w v m) parts s = go refl (placed w) (lift returned_step (takes_inner v (TheMark mark.Semicolon) (Statements ∷ parts) refl (takes_mark m s)))
  takes_stmt (atomic is w names x) parts s = go refl (placed w) (takes_given names (Statements ∷ parts) (takes_tblock x (Statements ∷ parts) s))
  takes_stmt (call is c names) parts s = takes_call c parts (takes_results names (Statements ∷ parts) s)
