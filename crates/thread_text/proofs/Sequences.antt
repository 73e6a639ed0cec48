-- Sequences that grow at their end.
use Rattle.std.proofs.Common.{List, [], ◌∷◌, ◌++◌}
use Rattle.thread_tree.specs.declared.block.Stmt.{Stmt}
use Rattle.thread_tree.specs.declared.token.Mark.TheVariants as mark
use Rattle.thread_tree.specs.declared.token.Placed.{Placed}
use Rattle.thread_tree.specs.declared.transaction.TStmt.{TStmt}
use Rattle.thread_tree.specs.declared.tree.Decl.{Decl}
use Rattle.thread_tree.specs.Spelling.{TakesMark, Separated, one, more}
use Rattle.thread_tree.specs.SpellingOfTransactions.{SpellsTStmts, SpellsTStmt, no_tstmts, tstmts}
use Rattle.thread_tree.specs.SpellingOfBlocks.{SpellsStmts, SpellsStmt, no_stmts, stmts}
use Rattle.thread_tree.specs.SpellingOfDeclarations.{SpellsDecls, SpellsDecl, no_decls, decls}

pub separated_more : {X : Type 0} {R : List Placed → List Placed → X → Type 0} {before a b after : List Placed} {xs : List X} {x : X} → Separated R before a xs → TakesMark mark.Comma a b → R b after x → Separated R before after (xs ++ x ∷ [])
separated_more (one first) comma last = more first comma (one last)
separated_more (more first comma rest) comma_ last = more first comma (separated_more rest comma_ last)

pub stmts_more : {before a after : List Placed} {xs : List Stmt} {x : Stmt} → SpellsStmts before a xs → SpellsStmt a after x → SpellsStmts before after (xs ++ x ∷ [])
stmts_more no_stmts last = stmts last no_stmts
stmts_more (stmts first rest) last = stmts first (stmts_more rest last)

pub tstmts_more : {before a after : List Placed} {xs : List TStmt} {x : TStmt} → SpellsTStmts before a xs → SpellsTStmt a after x → SpellsTStmts before after (xs ++ x ∷ [])
tstmts_more no_tstmts last = tstmts last no_tstmts
tstmts_more (tstmts first rest) last = tstmts first (tstmts_more rest last)

pub decls_more : {before a after : List Placed} {xs : List Decl} {x : Decl} → SpellsDecls before a xs → SpellsDecl a after x → SpellsDecls before after (xs ++ x ∷ [])
decls_more no_decls last = decls last no_decls
decls_more (decls first rest) last = decls first (decls_more rest last)
