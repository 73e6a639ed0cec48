-- The layer of a statement that was made of its parts.
use Rattle.std.proofs.Common.{◌≡◌, ap, sym, ◌∙◌, List, Option}
use Rattle.thread_tree.specs.declared.action.Call.{Call}
use Rattle.thread_tree.specs.declared.block.Block.{Block}
use Rattle.thread_tree.specs.declared.block.Stmt as S
use Rattle.thread_tree.specs.declared.block.Stmt.{out-Stmt, out-roll-Stmt}
use Rattle.thread_tree.specs.declared.block.Stmt.TheOpen as stmt
use Rattle.thread_tree.specs.declared.block.Stmt.TheVariants as made
use Rattle.thread_tree.specs.declared.expr.Expr.{Expr}
use Rattle.thread_tree.specs.declared.expr.FieldOf.{FieldOf}
use Rattle.thread_tree.specs.declared.place.At.{At}
use Rattle.thread_tree.specs.declared.place.Place.{Place}
use Rattle.thread_tree.specs.declared.transaction.TBlock.{TBlock}
use Rattle.thread_tree.specs.declared.transaction.TStmt as T
use Rattle.thread_tree.specs.declared.transaction.TStmt.{out-TStmt, out-roll-TStmt}
use Rattle.thread_tree.specs.declared.transaction.TStmt.TheOpen as tstmt
use Rattle.thread_tree.specs.declared.transaction.TStmt.TheVariants as tmade

pub out_let : (name : At) (e : Expr) → out-Stmt (S.Let name e) ≡ stmt.Let name e
out_let name e = ap out-Stmt (sym (made.rolls-Let name e)) ∙ out-roll-Stmt (stmt.Let name e)

pub out_set : (name : At) (e : Expr) → out-Stmt (S.Set name e) ≡ stmt.Set name e
out_set name e = ap out-Stmt (sym (made.rolls-Set name e)) ∙ out-roll-Stmt (stmt.Set name e)

pub out_apply : (to : Option At) (f : At) (es : List Expr) → out-Stmt (S.Apply to f es) ≡ stmt.Apply to f es
out_apply to f es = ap out-Stmt (sym (made.rolls-Apply to f es)) ∙ out-roll-Stmt (stmt.Apply to f es)

pub out_if : (e : Expr) (b : Block) (o : Option Block) → out-Stmt (S.If e b o) ≡ stmt.If e b o
out_if e b o = ap out-Stmt (sym (made.rolls-If e b o)) ∙ out-roll-Stmt (stmt.If e b o)

pub out_while : (e : Expr) (b : Block) → out-Stmt (S.While e b) ≡ stmt.While e b
out_while e b = ap out-Stmt (sym (made.rolls-While e b)) ∙ out-roll-Stmt (stmt.While e b)

pub out_ploop : (p : Place) (b : Block) → out-Stmt (S.Ploop p b) ≡ stmt.Ploop p b
out_ploop p b = ap out-Stmt (sym (made.rolls-Ploop p b)) ∙ out-roll-Stmt (stmt.Ploop p b)

pub out_break : (p : Place) → out-Stmt (S.Break p) ≡ stmt.Break p
out_break p = ap out-Stmt (sym (made.rolls-Break p)) ∙ out-roll-Stmt (stmt.Break p)

pub out_return : (p : Place) (o : Option Expr) → out-Stmt (S.Return p o) ≡ stmt.Return p o
out_return p o = ap out-Stmt (sym (made.rolls-Return p o)) ∙ out-roll-Stmt (stmt.Return p o)

pub out_atomic : (p : Place) (ns : List At) (b : TBlock) → out-Stmt (S.Atomic p ns b) ≡ stmt.Atomic p ns b
out_atomic p ns b = ap out-Stmt (sym (made.rolls-Atomic p ns b)) ∙ out-roll-Stmt (stmt.Atomic p ns b)

pub out_call : (p : Place) (c : Call) (ns : List At) → out-Stmt (S.Call p c ns) ≡ stmt.Call p c ns
out_call p c ns = ap out-Stmt (sym (made.rolls-Call p c ns)) ∙ out-roll-Stmt (stmt.Call p c ns)

pub tout_let : (name : At) (e : Expr) → out-TStmt (T.Let name e) ≡ tstmt.Let name e
tout_let name e = ap out-TStmt (sym (tmade.rolls-Let name e)) ∙ out-roll-TStmt (tstmt.Let name e)

pub tout_letnew : (name : At) (k : At) → out-TStmt (T.LetNew name k) ≡ tstmt.LetNew name k
tout_letnew name k = ap out-TStmt (sym (tmade.rolls-LetNew name k)) ∙ out-roll-TStmt (tstmt.LetNew name k)

pub tout_set : (name : At) (e : Expr) → out-TStmt (T.Set name e) ≡ tstmt.Set name e
tout_set name e = ap out-TStmt (sym (tmade.rolls-Set name e)) ∙ out-roll-TStmt (tstmt.Set name e)

pub tout_setnew : (name : At) (k : At) → out-TStmt (T.SetNew name k) ≡ tstmt.SetNew name k
tout_setnew name k = ap out-TStmt (sym (tmade.rolls-SetNew name k)) ∙ out-roll-TStmt (tstmt.SetNew name k)

pub tout_store : (f : FieldOf) (e : Expr) → out-TStmt (T.Store f e) ≡ tstmt.Store f e
tout_store f e = ap out-TStmt (sym (tmade.rolls-Store f e)) ∙ out-roll-TStmt (tstmt.Store f e)

pub tout_free : (e : Expr) → out-TStmt (T.Free e) ≡ tstmt.Free e
tout_free e = ap out-TStmt (sym (tmade.rolls-Free e)) ∙ out-roll-TStmt (tstmt.Free e)

pub tout_if : (e : Expr) (b : TBlock) (o : Option TBlock) → out-TStmt (T.If e b o) ≡ tstmt.If e b o
tout_if e b o = ap out-TStmt (sym (tmade.rolls-If e b o)) ∙ out-roll-TStmt (tstmt.If e b o)

pub tout_while : (e : Expr) (b : TBlock) → out-TStmt (T.While e b) ≡ tstmt.While e b
tout_while e b = ap out-TStmt (sym (tmade.rolls-While e b)) ∙ out-roll-TStmt (tstmt.While e b)

pub tout_break : (p : Place) → out-TStmt (T.Break p) ≡ tstmt.Break p
tout_break p = ap out-TStmt (sym (tmade.rolls-Break p)) ∙ out-roll-TStmt (tstmt.Break p)

pub tout_abort : (p : Place) → out-TStmt (T.Abort p) ≡ tstmt.Abort p
tout_abort p = ap out-TStmt (sym (tmade.rolls-Abort p)) ∙ out-roll-TStmt (tstmt.Abort p)

pub tout_give : (p : Place) (es : List Expr) → out-TStmt (T.Give p es) ≡ tstmt.Give p es
tout_give p es = ap out-TStmt (sym (tmade.rolls-Give p es)) ∙ out-roll-TStmt (tstmt.Give p es)
