-- Trees whose canonical texts were written by hand.
use Rattle.std.specs.Prelude.{◌≡◌, ℕ, List, [], ◌∷◌, codes}
use Rattle.thread_tree.specs.declared.place.At.{At}
use Rattle.thread_tree.specs.declared.place.Place.{Place}
use Rattle.thread_tree.specs.declared.name.Name.{Name}
use Rattle.thread_tree.specs.declared.expr.Op.TheVariants.{Not, Plus, Times}
use Rattle.thread_tree.specs.declared.expr.Expr.TheVariants as expr
use Rattle.thread_tree.specs.declared.action.Item.TheVariants as item
use Rattle.thread_tree.specs.declared.action.Call.TheVariants as call
use Rattle.thread_tree.specs.declared.block.Block.{roll-Block}
use Rattle.thread_tree.specs.declared.block.Stmt.{roll-Stmt}
use Rattle.thread_tree.specs.declared.block.Stmt.TheOpen as stmt
use Rattle.thread_tree.specs.declared.tree.Decl.TheVariants as decl
use Rattle.thread_tree.specs.Expressions.{binary, unary}
use Rattle.thread_print.specs.CanonicalText.{text_of}

abbrev pub somewhere : Place
somewhere = record { line = 1; column = 1 }

abbrev pub at : ℕ → At
at i = record { name = i; place = somewhere }

abbrev pub name : List ℕ → Name
name bytes = record { bytes = record { items = bytes } }

-- `thread t()priority 1{print 1+2*3;}`
abbrev pub SumOfProduct : Type 0
SumOfProduct =
    text_of (record {
      names = name (codes "t") ∷ [];
      decls = decl.Thread (record { name = 0; place = somewhere }) [] (record { value = 1; place = somewhere })
          (roll-Block (record {
            place = somewhere;
            stmts = roll-Stmt (stmt.Call somewhere (call.Print (item.Value somewhere (binary Plus (expr.Num 1) (binary Times (expr.Num 2) (expr.Num 3))) ∷ [])) []) ∷ [];
          })) ∷ [];
    })
    ≡ codes "thread t ( ) priority 1 { print 1 + ( 2 * 3 ) ; }\n"

-- `fn f(a){send q,!a,0;receive q,7->a,b;waiting q->a;}`
abbrev pub CallsWithPieces : Type 0
CallsWithPieces =
    text_of (record {
      names = name (codes "f") ∷ name (codes "a") ∷ name (codes "q") ∷ name (codes "b") ∷ [];
      decls = decl.Function (at 0) (at 1 ∷ []) (roll-Block (record {
        place = somewhere;
        stmts = roll-Stmt (stmt.Call somewhere (call.Send (at 2) (unary Not (expr.Local (at 1))) (expr.Num 0)) [])
            ∷ roll-Stmt (stmt.Call somewhere (call.Receive (at 2) (expr.Num 7)) (at 1 ∷ at 3 ∷ []))
            ∷ roll-Stmt (stmt.Call somewhere (call.Waiting (at 2)) (at 1 ∷ [])) ∷ [];
      })) ∷ [];
    })
    ≡ codes "fn f ( a ) { send q , ! a , 0 ; receive q , 7 -> a , b ; waiting q -> a ; }\n"
