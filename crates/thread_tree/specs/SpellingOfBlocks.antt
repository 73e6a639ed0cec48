-- Which tokens spell a block of a body.
use Rattle.std.specs.Prelude.{◌≡◌, false, List, [], ◌∷◌, Some, None}
use Rattle.thread_tree.specs.declared.expr.Expr.{Expr}
use Rattle.thread_tree.specs.declared.place.At.{At}
use Rattle.thread_tree.specs.declared.place.Place.{Place}
use Rattle.thread_tree.specs.declared.token.Mark.TheVariants as mark
use Rattle.thread_tree.specs.declared.token.Placed.{Placed}
use Rattle.thread_tree.specs.declared.token.Token.TheVariants as token
use Rattle.thread_tree.specs.declared.token.Word.TheVariants as word
use Rattle.thread_tree.specs.Spelling.{Placing, Takes, TakesAny, TakesMark, SpellsNameBy, SpellsNamesBy, SpellsExprBy}
use Rattle.thread_tree.specs.declared.action.Call.{Call}
use Rattle.thread_tree.specs.declared.block.Block.{Block, out-Block}
use Rattle.thread_tree.specs.declared.block.Stmt.{Stmt, out-Stmt}
use Rattle.thread_tree.specs.declared.block.Stmt.TheOpen as stmt
use Rattle.thread_tree.specs.declared.transaction.TBlock.{TBlock}
use Rattle.thread_tree.specs.SpellingOfCalls.{SpellsCallBy, SpellsArgumentsBy, SpellsResultsBy}
use Rattle.thread_tree.specs.SpellingOfTransactions.{SpellsTBlockBy}

-- the names that get what an `atomic` gives
pub data SpellsGivenBy (T : Placing) : List Placed → List Placed → List At → Type 0 where
  no_given : {before : List Placed} → SpellsGivenBy T before before []
  given : {before a after : List Placed} {names : List At} → TakesMark mark.Arrow before a → SpellsNamesBy T a after names → SpellsGivenBy T before after names

mutual
  -- a block
  pub data SpellsBlockBy (T : Placing) : List Placed → List Placed → Block → Type 0 where
    block : {before a b after : List Placed} {inside : Block} → T (token.Mark mark.OpenBrace) (out-Block inside).place before a → SpellsStmtsBy T a b (out-Block inside).stmts → TakesMark mark.CloseBrace b after → SpellsBlockBy T before after inside

  -- statements one after another
  pub data SpellsStmtsBy (T : Placing) : List Placed → List Placed → List Stmt → Type 0 where
    no_stmts : {before : List Placed} → SpellsStmtsBy T before before []
    stmts : {before a after : List Placed} {s : Stmt} {rest : List Stmt} → SpellsStmtBy T before a s → SpellsStmtsBy T a after rest → SpellsStmtsBy T before after (s ∷ rest)

  -- a statement
  pub data SpellsStmtBy (T : Placing) : List Placed → List Placed → Stmt → Type 0 where
    let_to : {before a b c d after : List Placed} {s : Stmt} {name : At} {e : Expr} → out-Stmt s ≡ stmt.Let name e → TakesAny (token.Word word.Let) before a → SpellsNameBy T a b name → TakesMark mark.Equals b c → SpellsExprBy T false c d e → TakesMark mark.Semicolon d after → SpellsStmtBy T before after s
    set : {before a b c after : List Placed} {s : Stmt} {name : At} {e : Expr} → out-Stmt s ≡ stmt.Set name e → SpellsNameBy T before a name → TakesMark mark.Equals a b → SpellsExprBy T false b c e → TakesMark mark.Semicolon c after → SpellsStmtBy T before after s
    apply_to : {before a b c d f after : List Placed} {s : Stmt} {name function : At} {es : List Expr} → out-Stmt s ≡ stmt.Apply (Some name) function es → SpellsNameBy T before a name → TakesMark mark.Equals a b → SpellsNameBy T b c function → TakesMark mark.OpenParenthesis c d → SpellsArgumentsBy T d f es → TakesMark mark.Semicolon f after → SpellsStmtBy T before after s
    apply : {before a b c after : List Placed} {s : Stmt} {function : At} {es : List Expr} → out-Stmt s ≡ stmt.Apply None function es → SpellsNameBy T before a function → TakesMark mark.OpenParenthesis a b → SpellsArgumentsBy T b c es → TakesMark mark.Semicolon c after → SpellsStmtBy T before after s
    if_only : {before a b after : List Placed} {s : Stmt} {e : Expr} {inside : Block} → out-Stmt s ≡ stmt.If e inside None → TakesAny (token.Word word.If) before a → SpellsExprBy T false a b e → SpellsBlockBy T b after inside → SpellsStmtBy T before after s
    if_else : {before a b c d after : List Placed} {s : Stmt} {e : Expr} {inside other : Block} → out-Stmt s ≡ stmt.If e inside (Some other) → TakesAny (token.Word word.If) before a → SpellsExprBy T false a b e → SpellsBlockBy T b c inside → TakesAny (token.Word word.Else) c d → SpellsBlockBy T d after other → SpellsStmtBy T before after s
    while_loop : {before a b after : List Placed} {s : Stmt} {e : Expr} {inside : Block} → out-Stmt s ≡ stmt.While e inside → TakesAny (token.Word word.While) before a → SpellsExprBy T false a b e → SpellsBlockBy T b after inside → SpellsStmtBy T before after s
    ploop : {before a after : List Placed} {s : Stmt} {place : Place} {inside : Block} → out-Stmt s ≡ stmt.Ploop place inside → T (token.Word word.Ploop) place before a → SpellsBlockBy T a after inside → SpellsStmtBy T before after s
    break_loop : {before a after : List Placed} {s : Stmt} {place : Place} → out-Stmt s ≡ stmt.Break place → T (token.Word word.Break) place before a → TakesMark mark.Semicolon a after → SpellsStmtBy T before after s
    return_only : {before a after : List Placed} {s : Stmt} {place : Place} → out-Stmt s ≡ stmt.Return place None → T (token.Word word.Return) place before a → TakesMark mark.Semicolon a after → SpellsStmtBy T before after s
    return_value : {before a b after : List Placed} {s : Stmt} {place : Place} {e : Expr} → out-Stmt s ≡ stmt.Return place (Some e) → T (token.Word word.Return) place before a → SpellsExprBy T false a b e → TakesMark mark.Semicolon b after → SpellsStmtBy T before after s
    atomic : {before a b after : List Placed} {s : Stmt} {place : Place} {names : List At} {inside : TBlock} → out-Stmt s ≡ stmt.Atomic place names inside → T (token.Word word.Atomic) place before a → SpellsGivenBy T a b names → SpellsTBlockBy T b after inside → SpellsStmtBy T before after s
    call : {before a after : List Placed} {s : Stmt} {place : Place} {c : Call} {names : List At} → out-Stmt s ≡ stmt.Call place c names → SpellsCallBy T place before a c → SpellsResultsBy T a after names → SpellsStmtBy T before after s

-- the same with each token at the place that the tree has for it
abbrev pub SpellsGiven : List Placed → List Placed → List At → Type 0
SpellsGiven = SpellsGivenBy Takes

abbrev pub SpellsBlock : List Placed → List Placed → Block → Type 0
SpellsBlock = SpellsBlockBy Takes

abbrev pub SpellsStmts : List Placed → List Placed → List Stmt → Type 0
SpellsStmts = SpellsStmtsBy Takes

abbrev pub SpellsStmt : List Placed → List Placed → Stmt → Type 0
SpellsStmt = SpellsStmtBy Takes

-- the block behind an `else`
pub record SpellsOther (before after : List Placed) (inside : Block) : Type 0 where
  pub middle : List Placed
  pub word : TakesAny (token.Word word.Else) before middle
  pub inside_block : SpellsBlock middle after inside
