-- Which tokens spell a transaction.
use Rattle.std.specs.Prelude.{◌≡◌, true, List, [], ◌∷◌, Some, None}
use Rattle.thread_tree.specs.declared.expr.Expr.{Expr}
use Rattle.thread_tree.specs.declared.place.At.{At}
use Rattle.thread_tree.specs.declared.place.Place.{Place}
use Rattle.thread_tree.specs.declared.token.Mark.TheVariants as mark
use Rattle.thread_tree.specs.declared.token.Placed.{Placed}
use Rattle.thread_tree.specs.declared.token.Token.TheVariants as token
use Rattle.thread_tree.specs.declared.token.Word.TheVariants as word
use Rattle.thread_tree.specs.Spelling.{Placing, Takes, SpellsExpr, TakesAny, TakesMark, SpellsNameBy, SpellsExprBy, SpellsFieldBy, Separated}
use Rattle.thread_tree.specs.declared.expr.FieldOf.{FieldOf}
use Rattle.thread_tree.specs.declared.transaction.TBlock.{TBlock, out-TBlock}
use Rattle.thread_tree.specs.declared.transaction.TStmt.{TStmt, out-TStmt}
use Rattle.thread_tree.specs.declared.transaction.TStmt.TheOpen as tstmt

-- the values of a `give` and the semicolon
pub data SpellsValuesBy (T : Placing) : List Placed → List Placed → List Expr → Type 0 where
  no_values : {before after : List Placed} → TakesMark mark.Semicolon before after → SpellsValuesBy T before after []
  values : {before a after : List Placed} {es : List Expr} → Separated (SpellsExprBy T true) before a es → TakesMark mark.Semicolon a after → SpellsValuesBy T before after es

mutual
  -- a block
  pub data SpellsTBlockBy (T : Placing) : List Placed → List Placed → TBlock → Type 0 where
    tblock : {before a b after : List Placed} {inside : TBlock} → T (token.Mark mark.OpenBrace) (out-TBlock inside).place before a → SpellsTStmtsBy T a b (out-TBlock inside).stmts → TakesMark mark.CloseBrace b after → SpellsTBlockBy T before after inside

  -- statements one after another
  pub data SpellsTStmtsBy (T : Placing) : List Placed → List Placed → List TStmt → Type 0 where
    no_tstmts : {before : List Placed} → SpellsTStmtsBy T before before []
    tstmts : {before a after : List Placed} {s : TStmt} {rest : List TStmt} → SpellsTStmtBy T before a s → SpellsTStmtsBy T a after rest → SpellsTStmtsBy T before after (s ∷ rest)

  -- a statement
  pub data SpellsTStmtBy (T : Placing) : List Placed → List Placed → TStmt → Type 0 where
    tlet : {before a b c d after : List Placed} {s : TStmt} {name : At} {e : Expr} → out-TStmt s ≡ tstmt.Let name e → TakesAny (token.Word word.Let) before a → SpellsNameBy T a b name → TakesMark mark.Equals b c → SpellsExprBy T true c d e → TakesMark mark.Semicolon d after → SpellsTStmtBy T before after s
    tlet_new : {before a b c d f after : List Placed} {s : TStmt} {name kind : At} → out-TStmt s ≡ tstmt.LetNew name kind → TakesAny (token.Word word.Let) before a → SpellsNameBy T a b name → TakesMark mark.Equals b c → TakesAny (token.Word word.New) c d → SpellsNameBy T d f kind → TakesMark mark.Semicolon f after → SpellsTStmtBy T before after s
    tset : {before a b c after : List Placed} {s : TStmt} {name : At} {e : Expr} → out-TStmt s ≡ tstmt.Set name e → SpellsNameBy T before a name → TakesMark mark.Equals a b → SpellsExprBy T true b c e → TakesMark mark.Semicolon c after → SpellsTStmtBy T before after s
    tset_new : {before a b c d after : List Placed} {s : TStmt} {name kind : At} → out-TStmt s ≡ tstmt.SetNew name kind → SpellsNameBy T before a name → TakesMark mark.Equals a b → TakesAny (token.Word word.New) b c → SpellsNameBy T c d kind → TakesMark mark.Semicolon d after → SpellsTStmtBy T before after s
    store : {before a b c after : List Placed} {s : TStmt} {f : FieldOf} {e : Expr} → out-TStmt s ≡ tstmt.Store f e → SpellsFieldBy T before a f → TakesMark mark.Equals a b → SpellsExprBy T true b c e → TakesMark mark.Semicolon c after → SpellsTStmtBy T before after s
    free : {before a b after : List Placed} {s : TStmt} {e : Expr} → out-TStmt s ≡ tstmt.Free e → TakesAny (token.Word word.Free) before a → SpellsExprBy T true a b e → TakesMark mark.Semicolon b after → SpellsTStmtBy T before after s
    tif : {before a b after : List Placed} {s : TStmt} {e : Expr} {inside : TBlock} → out-TStmt s ≡ tstmt.If e inside None → TakesAny (token.Word word.If) before a → SpellsExprBy T true a b e → SpellsTBlockBy T b after inside → SpellsTStmtBy T before after s
    tif_else : {before a b c d after : List Placed} {s : TStmt} {e : Expr} {inside other : TBlock} → out-TStmt s ≡ tstmt.If e inside (Some other) → TakesAny (token.Word word.If) before a → SpellsExprBy T true a b e → SpellsTBlockBy T b c inside → TakesAny (token.Word word.Else) c d → SpellsTBlockBy T d after other → SpellsTStmtBy T before after s
    twhile : {before a b after : List Placed} {s : TStmt} {e : Expr} {inside : TBlock} → out-TStmt s ≡ tstmt.While e inside → TakesAny (token.Word word.While) before a → SpellsExprBy T true a b e → SpellsTBlockBy T b after inside → SpellsTStmtBy T before after s
    tbreak : {before a after : List Placed} {s : TStmt} {place : Place} → out-TStmt s ≡ tstmt.Break place → T (token.Word word.Break) place before a → TakesMark mark.Semicolon a after → SpellsTStmtBy T before after s
    abort : {before a after : List Placed} {s : TStmt} {place : Place} → out-TStmt s ≡ tstmt.Abort place → T (token.Word word.Abort) place before a → TakesMark mark.Semicolon a after → SpellsTStmtBy T before after s
    tgive : {before a after : List Placed} {s : TStmt} {place : Place} {es : List Expr} → out-TStmt s ≡ tstmt.Give place es → T (token.Word word.Give) place before a → SpellsValuesBy T a after es → SpellsTStmtBy T before after s

-- the same with each token at the place that the tree has for it
abbrev pub SpellsValues : List Placed → List Placed → List Expr → Type 0
SpellsValues = SpellsValuesBy Takes

abbrev pub SpellsTBlock : List Placed → List Placed → TBlock → Type 0
SpellsTBlock = SpellsTBlockBy Takes

abbrev pub SpellsTStmts : List Placed → List Placed → List TStmt → Type 0
SpellsTStmts = SpellsTStmtsBy Takes

abbrev pub SpellsTStmt : List Placed → List Placed → TStmt → Type 0
SpellsTStmt = SpellsTStmtBy Takes

-- the block behind an `else`
pub record SpellsTOther (before after : List Placed) (inside : TBlock) : Type 0 where
  pub middle : List Placed
  pub word : TakesAny (token.Word word.Else) before middle
  pub inside_block : SpellsTBlock middle after inside

-- the equals sign, the value that is stored, and the semicolon
pub record SpellsStored (before after : List Placed) (e : Expr) : Type 0 where
  pub middle : List Placed
  pub behind : List Placed
  pub equals : TakesMark mark.Equals before middle
  pub expression : SpellsExpr true middle behind e
  pub semicolon : TakesMark mark.Semicolon behind after
