-- Blocks, and statements with blocks, that were made of their parts.
use Rattle.std.proofs.Common.{◌≡◌, ap, sym, subst, List, [], ◌∷◌, Option, Some, None, false, true, MatchOption, length, get_or, ◌≤◌, arith, refl}
use Rattle.thread_tree.specs.declared.block.Block.{Block, roll-Block, out-roll-Block}
use Rattle.thread_tree.specs.declared.block.Stmt as S
use Rattle.thread_tree.specs.declared.block.Stmt.{Stmt}
use Rattle.thread_tree.specs.declared.expr.Expr.{Expr}
use Rattle.thread_tree.specs.declared.place.Place.{Place}
use Rattle.thread_tree.specs.declared.token.Mark.TheVariants as mark
use Rattle.thread_tree.specs.declared.token.Placed.{Placed}
use Rattle.thread_tree.specs.declared.token.Token.TheVariants as token
use Rattle.thread_tree.specs.declared.token.Word.TheVariants as word
use Rattle.thread_tree.specs.declared.transaction.TBlock.{TBlock, roll-TBlock, out-roll-TBlock}
use Rattle.thread_tree.specs.declared.transaction.TStmt as T
use Rattle.thread_tree.specs.declared.transaction.TStmt.{TStmt}
use Rattle.thread_tree.specs.Spelling.{Takes, TakesAny, TakesMark, SpellsExpr}
use Rattle.thread_tree.specs.SpellingOfCalls.{BeginsAt}
use Rattle.thread_tree.specs.SpellingOfBlocks.{SpellsBlock, SpellsStmts, SpellsStmt, SpellsOther, block, if_only, if_else}
use Rattle.thread_tree.specs.SpellingOfTransactions.{SpellsTBlock, SpellsTStmts, SpellsTStmt, SpellsTOther, tblock, tif, tif_else}
use Rattle.thread_text.specs.Fate.{next}
use Rattle.thread_text.proofs.Layers.{out_if, tout_if}

pub block_made : (place : Place) (inside : List Stmt) (before a b after : List Placed) → Takes (token.Mark mark.OpenBrace) place before a → SpellsStmts a b inside → TakesMark mark.CloseBrace b after → SpellsBlock before after (roll-Block (record { place = place; stmts = inside }))
block_made place inside before a b after open_ all close_ =
    let e = sym (out-roll-Block (record { place = place; stmts = inside })) in
    block (subst (λ x. Takes (token.Mark mark.OpenBrace) x.place before a) e open_) (subst (λ x. SpellsStmts a b x.stmts) e all) close_

pub tblock_made : (place : Place) (inside : List TStmt) (before a b after : List Placed) → Takes (token.Mark mark.OpenBrace) place before a → SpellsTStmts a b inside → TakesMark mark.CloseBrace b after → SpellsTBlock before after (roll-TBlock (record { place = place; stmts = inside }))
tblock_made place inside before a b after open_ all close_ =
    let e = sym (out-roll-TBlock (record { place = place; stmts = inside })) in
    tblock (subst (λ x. Takes (token.Mark mark.OpenBrace) x.place before a) e open_) (subst (λ x. SpellsTStmts a b x.stmts) e all) close_

pub if_made : (e : Expr) (inside : Block) (other : Option Block) (before a b c after : List Placed) → TakesAny (token.Word word.If) before a → SpellsExpr false a b e → SpellsBlock b c inside → MatchOption other (after ≡ c) (λ x. SpellsOther c after x) → SpellsStmt before after (S.If e inside other)
if_made e inside None before a b c after w x y h = if_only (out_if e inside None) w x (subst (λ l. SpellsBlock b l inside) (sym h) y)
if_made e inside (Some other) before a b c after w x y h = if_else (out_if e inside (Some other)) w x y h.word h.inside_block

pub tif_made : (e : Expr) (inside : TBlock) (other : Option TBlock) (before a b c after : List Placed) → TakesAny (token.Word word.If) before a → SpellsExpr true a b e → SpellsTBlock b c inside → MatchOption other (after ≡ c) (λ x. SpellsTOther c after x) → SpellsTStmt before after (T.If e inside other)
tif_made e inside None before a b c after w x y h = tif (tout_if e inside None) w x (subst (λ l. SpellsTBlock b l inside) (sym h) y)
tif_made e inside (Some other) before a b c after w x y h = tif_else (tout_if e inside (Some other)) w x y h.word h.inside_block

-- the first token of a list, and a list with none
pub begins_at : (left : List Placed) (p : Placed) → 1 ≤ length left → p ≡ get_or left 0 p → BeginsAt p.place left
begins_at [] p h e = absurd (omega arith)
begins_at (q ∷ left) p h e = record { token = q.token; after = left; first = record { first = ap (λ x. record { token = q.token; place = x } ∷ left) (ap (λ x. x.place) (sym e)) } }

pub none_left : (left : List Placed) → next left ≡ None → left ≡ []
unfolding next
none_left [] h = refl
none_left (p ∷ left) h = absurd (cc)
