-- The places in a tree, in order of the text.
use Rattle.std.specs.Prelude.{List, [], ◌∷◌, ◌++◌, Option, Some, None}
use Rattle.thread_tree.specs.declared.place.Place.{Place}
use Rattle.thread_tree.specs.declared.place.At.{At}
use Rattle.thread_tree.specs.declared.place.Num.{Num}
use Rattle.thread_tree.specs.declared.expr.Expr.{Expr, more_of-Expr, end_of-Expr}
use Rattle.thread_tree.specs.declared.expr.Expr.TheVariants as expr
use Rattle.thread_tree.specs.declared.expr.FieldOf.{FieldOf}
use Rattle.thread_tree.specs.declared.expr.FieldOf.TheVariants as field
use Rattle.thread_tree.specs.declared.action.Call.{Call}
use Rattle.thread_tree.specs.Pieces.{Piece, named, valued, whom, itemized, applied, pieces}
use Rattle.thread_tree.specs.declared.action.Item.{Item}
use Rattle.thread_tree.specs.declared.action.Item.TheVariants as item
use Rattle.thread_tree.specs.declared.action.Who.{Who}
use Rattle.thread_tree.specs.declared.action.Who.TheVariants as who
use Rattle.thread_tree.specs.declared.transaction.TBlock.{TBlock, fold-TBlock}
use Rattle.thread_tree.specs.declared.transaction.TStmt.{TStmt, fold-TStmt}
use Rattle.thread_tree.specs.declared.transaction.TStmt.TheOpen.{TStmt-F, TBlock-F}
use Rattle.thread_tree.specs.declared.transaction.TStmt.TheOpen as tstmt
use Rattle.thread_tree.specs.declared.block.Block.{Block, fold-Block}
use Rattle.thread_tree.specs.declared.block.Stmt.{Stmt, fold-Stmt}
use Rattle.thread_tree.specs.declared.block.Stmt.TheOpen.{Stmt-F, Block-F}
use Rattle.thread_tree.specs.declared.block.Stmt.TheOpen as stmt
use Rattle.thread_tree.specs.declared.tree.Decl.{Decl}
use Rattle.thread_tree.specs.declared.tree.Decl.TheVariants as decl

-- the places in things one after another
abbrev pub in_each : {X : Type 0} → (X → List Place) → List X → List Place
in_each places [] = []
in_each places (x ∷ xs) = places x ++ in_each places xs

-- the places in a thing that may be left out
abbrev pub in_some : {X : Type 0} → (X → List Place) → Option X → List Place
in_some places None = []
in_some places (Some x) = places x

-- the place of a name, of a number
abbrev pub of_name : At → List Place
of_name at = at.place ∷ []

abbrev pub of_number : Num → List Place
of_number number = number.place ∷ []

-- the places in a field
abbrev pub of_field : FieldOf → List Place
of_field (field.Static object name) = object.place ∷ name.place ∷ []
of_field (field.Through holder kind name) = holder.place ∷ kind.place ∷ name.place ∷ []

-- the places in an expression
abbrev pub of_expression : Expr → List Place
of_expression (expr.Num value) = []
of_expression (expr.Local at) = of_name at
of_expression (expr.Field f) = of_field f
of_expression (expr.Prefix' op p (more_of-Expr e end_of-Expr)) = of_expression e
of_expression (expr.Binary' op p (more_of-Expr x end_of-Expr) q (more_of-Expr y end_of-Expr)) = of_expression x ++ of_expression y

-- the places in an item of a print, of which the first is that of its first byte
abbrev pub of_item : Item → List Place
of_item (item.Text place text) = place ∷ []
of_item (item.Value place e) = place ∷ of_expression e

-- the places in what tells a thread
abbrev pub of_who : Who → List Place
of_who who.Own = []
of_who (who.Of e) = of_expression e

-- the places in a piece of a call
abbrev pub of_piece : Piece → List Place
of_piece (named needed name) = of_name name
of_piece (valued e) = of_expression e
of_piece (whom w) = of_who w
of_piece (itemized items) = in_each of_item items
of_piece (applied template arguments) = template.place ∷ in_each of_expression arguments

-- the places in a call behind its word
abbrev pub of_call : Call → List Place
of_call c = in_each of_piece (pieces c)

-- the places in a statement of a transaction, by its layer
abbrev pub in_tstatement : {S B : Type 0} → (B → List Place) → TStmt-F S B → List Place
in_tstatement inside (tstmt.Let at e) = at.place ∷ of_expression e
in_tstatement inside (tstmt.LetNew at kind) = at.place ∷ of_name kind
in_tstatement inside (tstmt.Set at e) = at.place ∷ of_expression e
in_tstatement inside (tstmt.SetNew at kind) = at.place ∷ of_name kind
in_tstatement inside (tstmt.Store f e) = of_field f ++ of_expression e
in_tstatement inside (tstmt.Free e) = of_expression e
in_tstatement inside (tstmt.If e block other) = of_expression e ++ (inside block ++ in_some inside other)
in_tstatement inside (tstmt.While e block) = of_expression e ++ inside block
in_tstatement inside (tstmt.Break place) = place ∷ []
in_tstatement inside (tstmt.Abort place) = place ∷ []
in_tstatement inside (tstmt.Give place es) = place ∷ in_each of_expression es

-- the places in a block of a transaction
abbrev pub in_tblock : {B : Type 0} → TBlock-F (List Place) B → List Place
in_tblock block = block.place ∷ in_each (λ places. places) block.stmts

unfoldable pub of_tstatement : TStmt → List Place
of_tstatement = fold-TStmt (List Place) (List Place) (in_tstatement (λ places. places)) in_tblock

unfoldable pub of_tblock : TBlock → List Place
of_tblock = fold-TBlock (List Place) (List Place) (in_tstatement (λ places. places)) in_tblock

-- the places in a statement of a body, by its layer
abbrev pub in_statement : {S B : Type 0} → (B → List Place) → Stmt-F S B → List Place
in_statement inside (stmt.Let at e) = at.place ∷ of_expression e
in_statement inside (stmt.Set at e) = at.place ∷ of_expression e
in_statement inside (stmt.Apply to callee es) = in_some of_name to ++ (callee.place ∷ in_each of_expression es)
in_statement inside (stmt.If e block other) = of_expression e ++ (inside block ++ in_some inside other)
in_statement inside (stmt.While e block) = of_expression e ++ inside block
in_statement inside (stmt.Ploop place block) = place ∷ inside block
in_statement inside (stmt.Break place) = place ∷ []
in_statement inside (stmt.Return place value) = place ∷ in_some of_expression value
in_statement inside (stmt.Atomic place to block) = place ∷ (in_each of_name to ++ of_tblock block)
in_statement inside (stmt.Call place c to) = place ∷ (of_call c ++ in_each of_name to)

-- the places in a block of a body
abbrev pub in_block : {B : Type 0} → Block-F (List Place) B → List Place
in_block block = block.place ∷ in_each (λ places. places) block.stmts

unfoldable pub of_statement : Stmt → List Place
of_statement = fold-Stmt (List Place) (List Place) (in_statement (λ places. places)) in_block

unfoldable pub of_block : Block → List Place
of_block = fold-Block (List Place) (List Place) (in_statement (λ places. places)) in_block

-- the places in a declaration
abbrev pub of_declaration : Decl → List Place
of_declaration (decl.Kind name fields) = name.place ∷ in_each of_name fields
of_declaration (decl.Object name kind) = name.place ∷ of_name kind
of_declaration (decl.Queue name capacity channel) = name.place ∷ capacity.place ∷ in_some of_number channel
of_declaration (decl.Semaphore name count maximum) = name.place ∷ count.place ∷ maximum.place ∷ []
of_declaration (decl.Function name parameters body) = name.place ∷ (in_each of_name parameters ++ of_block body)
of_declaration (decl.Thread name parameters priority body) =
    name.place ∷ (in_each of_name parameters ++ (priority.place ∷ of_block body))
of_declaration (decl.Start place name numbers) = place ∷ name.place ∷ in_each of_number numbers

-- the places in declarations one after another
abbrev pub places_of : List Decl → List Place
places_of declarations = in_each of_declaration declarations
