-- What the table takes where it owes a part of a body spells it.
use Rattle.std.proofs.Common.{◌≡◌, false, List, [], ◌∷◌, ◌++◌, Option, Some, None, refl, sym, subst, arith}
use Rattle.thread_tree.specs.declared.block.Block.{Block, Block-F, out-Block, roll-Block, out-roll-Block}
use Rattle.thread_tree.specs.declared.block.Stmt.{Stmt, out-roll-Stmt}
use Rattle.thread_tree.specs.declared.expr.Expr.TheVariants as expr
use Rattle.thread_tree.specs.declared.place.Place.{Place}
use Rattle.thread_tree.specs.declared.token.Mark.TheVariants as mark
use Rattle.thread_tree.specs.declared.token.Placed.{Placed}
use Rattle.thread_tree.specs.declared.token.Token.{Token}
use Rattle.thread_tree.specs.declared.token.Token.TheVariants as token
use Rattle.thread_tree.specs.declared.token.Word.{Word}
use Rattle.thread_tree.specs.declared.token.Word.TheVariants as word
use Rattle.thread_tree.specs.Grammar.{turn, row, statement, stated_by, plain_by, is_mark, is_word, is_name, is_between}
use Rattle.thread_tree.specs.Parts.{Part, TheMark, ABlock, Statements, Otherwise, AfterName, Assigned, AfterAssigned, Returned, AtomicTo}
use Rattle.thread_tree.specs.Spelling.{Takes, TakesMark, local}
use Rattle.thread_tree.specs.SpellingOfBlocks.{no_given, given, SpellsBlock, block, SpellsStmts, no_stmts, stmts, SpellsStmt, let_to, set, apply_to, apply, if_only, if_else, while_loop, ploop, break_loop, return_only, return_value, atomic}
use Rattle.thread_tree.specs.Pieces.{shape}
use Rattle.thread_tree.specs.declared.slot.Slot.{Slot}
use Rattle.grammar_laws.proofs.SoundPieces.{BuiltBy, built, called}
use Rattle.grammar_laws.proofs.Joined.{loose}
use Rattle.grammar_laws.proofs.Tags.{is_the_mark}
use Rattle.grammar_laws.proofs.Meaning.{Thing, Whole, Turned, Row, choose, took_at, took, took_mark, took_word, took_name}
use Rattle.grammar_laws.proofs.SoundExpressions.{expression_row, operator_row}
use Rattle.grammar_laws.proofs.SoundTransactions.{tblock_row}

-- a block of statements
a_block : {before a b after : List Placed} {place : Place} {ss : List Stmt} → Takes (token.Mark mark.OpenBrace) place before a → SpellsStmts a b ss → TakesMark mark.CloseBrace b after → Thing SpellsBlock before after
a_block {before} {a} {b} {after} {place} {ss} opening inside closing =
    let layer : Block-F Stmt Block = record { place = place; stmts = ss } in
    let is : out-Block (roll-Block layer) ≡ layer = out-roll-Block layer in
    (roll-Block layer, block (subst (λ (x : Block-F Stmt Block). Takes (token.Mark mark.OpenBrace) x.place before a) (sym is) opening) (subst (λ (x : Block-F Stmt Block). SpellsStmts a b x.stmts) (sym is) inside) closing)

pub block_row : (parts : List Part) (p : Placed) (rest : List Placed) → Row ABlock parts p rest
unfolding turn
block_row parts p rest h = choose (is_mark mark.OpenBrace p.token) _ _ parts rest h
    (λ e w. (w.0, a_block (took_at p rest _ (is_the_mark _ p.token e)) w.1.2 w.1.3, w.2))
    (λ h. absurd h)

-- a statement before others
stated : {before m : List Placed} {s : Stmt} (parts : List Part) → SpellsStmt before m s → Whole (Statements ∷ parts) m → Whole (Statements ∷ parts) before
stated {s = s} parts spelled (n, (k, ss, inside, close), w) = (n, (k, s ∷ ss, stmts spelled inside, close), w)

-- what follows a name at the beginning of a statement
pub after_name_row : (parts : List Part) (p : Placed) (rest : List Placed) → Row AfterName parts p rest
unfolding turn
after_name_row parts p rest h = choose (is_mark mark.OpenParenthesis p.token) _ _ parts rest h
    (λ e (a, (es, xs), (b, semi, w)). (b, (λ start n s. (_, apply (out-roll-Stmt _) s (took_mark _ p rest e) xs semi)), w))
    (λ h. choose (is_mark mark.Equals p.token) _ _ parts rest h
    (λ e w. (w.0, (λ start n s. w.1 start (p ∷ rest) n s (took_mark _ p rest e)), w.2))
    (λ h. absurd h))

pub assigned_row : (parts : List Part) (p : Placed) (rest : List Placed) → Row Assigned parts p rest
unfolding turn
assigned_row parts p rest h = choose (is_name p.token) _ _ parts rest h
    (λ e w. let n = took_name p rest e in (w.0, (λ start a x s q. w.1 start a (p ∷ rest) x n.0 s q n.1), w.2))
    (λ h. let w = expression_row false (TheMark mark.Semicolon) parts p rest h in (w.0, (λ start a x s q. (_, set (out-roll-Stmt _) s q w.1.2 w.1.3)), w.2))

pub after_assigned_row : (parts : List Part) (p : Placed) (rest : List Placed) → Row AfterAssigned parts p rest
unfolding turn
after_assigned_row parts p rest h = choose (is_mark mark.OpenParenthesis p.token) _ _ parts rest h
    (λ e (c, (es, xs), (m, semi, w)). (m, (λ start a b x f s q g. (_, apply_to (out-roll-Stmt _) s q g (took_mark _ p rest e) xs semi)), w))
    (λ h. choose (is_between p.token) _ _ parts rest h
    (λ e w. let o = operator_row false (TheMark mark.Semicolon) parts p rest e w in (o.0, (λ start a b x f s q g. let r = o.1 b (expr.Local f) (loose 1 (omega arith) (local g)) in (_, set (out-roll-Stmt _) s q r.2 r.3)), o.2))
    (λ h. choose (is_mark mark.Semicolon p.token) _ _ parts rest h
    (λ e w. (rest, (λ start a b x f s q g. (_, set (out-roll-Stmt _) s q (loose 1 (omega arith) (local g)) (took_mark _ p rest e))), w))
    (λ h. absurd h)))

-- what follows `return`, and `atomic`
pub returned_row : (parts : List Part) (p : Placed) (rest : List Placed) → Row Returned parts p rest
unfolding turn
returned_row parts p rest h = choose (is_mark mark.Semicolon p.token) _ _ parts rest h
    (λ e w. (rest, (λ start place t. (_, return_only (out-roll-Stmt _) t (took_mark _ p rest e))), w))
    (λ h. let w = expression_row false (TheMark mark.Semicolon) parts p rest h in (w.0, (λ start place t. (_, return_value (out-roll-Stmt _) t w.1.2 w.1.3)), w.2))

pub atomic_row : (parts : List Part) (p : Placed) (rest : List Placed) → Row AtomicTo parts p rest
unfolding turn
atomic_row parts p rest h = choose (is_mark mark.Arrow p.token) _ _ parts rest h
    (λ e (a, (n, name), (m, names, w)). let r = names rest n name in (m, (r.0, r.1, given (took_mark _ p rest e) r.2, r.3), w))
    (λ h. let w = tblock_row parts p rest (unfold turn in h) in (w.0, (p ∷ rest, [], no_given, w.1), w.2))

-- a statement that begins with a word and is no call
plain_row : (w : Word) (place : Place) (parts : List Part) (rest : List Placed) → Turned (plain_by w) parts rest → Whole (Statements ∷ parts) (record { token = token.Word w; place = place } ∷ rest)
unfolding plain_by
plain_row word.Let place parts rest (a, (n, name), (b, q, (c, (k, e, s, semi), w))) = stated parts (let_to (out-roll-Stmt _) (took _ rest _ refl) name q s semi) w
plain_row word.If place parts rest (a, (k, e, s, (x, inside)), (m, other, w)) = (m, other _ rest k e x (took _ rest _ refl) s inside, w)
plain_row word.While place parts rest (a, (k, e, s, (x, inside)), w) = stated parts (while_loop (out-roll-Stmt _) (took _ rest _ refl) s inside) w
plain_row word.Ploop place parts rest (a, (x, inside), w) = stated parts (ploop (out-roll-Stmt _) (took_at _ rest _ refl) inside) w
plain_row word.Break place parts rest (a, semi, w) = stated parts (break_loop (out-roll-Stmt _) (took_at _ rest _ refl) semi) w
plain_row word.Return place parts rest (a, returned, w) = let s = returned _ place (took_at _ rest _ refl) in stated parts s.1 w
plain_row word.Atomic place parts rest (a, (k, names, to, (x, inside)), w) = stated parts (atomic (out-roll-Stmt _) (took_at _ rest _ refl) to inside) w
plain_row _ place parts rest h = absurd h

-- a statement that begins with a word
by_shape : (w : Word) (found : Option (List Slot)) → BuiltBy w found → (place : Place) (parts : List Part) (rest : List Placed) → Turned (elim found [ Some slots ↦ Some (row slots ++ Statements ∷ []) | None ↦ plain_by w ]) parts rest → Whole (Statements ∷ parts) (record { token = token.Word w; place = place } ∷ rest)
by_shape w (Some slots) make place parts rest h = let r = called w slots make place parts rest h in stated parts r.1.1 r.2
by_shape w None make place parts rest h = plain_row w place parts rest h

word_row : (w : Word) (place : Place) (parts : List Part) (rest : List Placed) → Turned (stated_by w) parts rest → Whole (Statements ∷ parts) (record { token = token.Word w; place = place } ∷ rest)
unfolding stated_by
word_row w place parts rest h = by_shape w (shape w) (built w) place parts rest h

-- a further statement, or the closing brace
statement_row : (t : Token) (place : Place) (parts : List Part) (rest : List Placed) → Turned (statement t) parts rest → Whole (Statements ∷ parts) (record { token = t; place = place } ∷ rest)
unfolding statement
statement_row (token.Word w) place parts rest h = word_row w place parts rest h
statement_row (token.Name n) place parts rest (m, after, w) = let s = after (record { token = token.Name n; place = place } ∷ rest) (record { name = n; place = place }) (record { first = refl }) in stated parts s.1 w
statement_row (token.Mark mark.CloseBrace) place parts rest h = (rest, (_, [], no_stmts, record { place = place; first = refl }), h)
statement_row _ place parts rest h = absurd h

pub statements_row : (parts : List Part) (p : Placed) (rest : List Placed) → Row Statements parts p rest
unfolding turn
statements_row parts p rest h = statement_row p.token p.place parts rest h

-- behind the block of an `if` an `else`, or what may follow that statement
pub otherwise_row : (parts : List Part) (p : Placed) (rest : List Placed) → Row Otherwise parts p rest
unfolding turn
otherwise_row parts p rest h = choose (is_word word.Else p.token) _ _ parts rest h
    (λ e (a, (other, second), (m, (k, ss, inside, closing), w)). (m, (λ start x y c b t s first. (k, _ ∷ ss, stmts (if_else (out-roll-Stmt _) t s first (took_word _ p rest e) second) inside, closing)), w))
    (λ h. let w = statement_row p.token p.place parts rest h in (w.0, (λ start x y c b t s first. (w.1.0, _ ∷ w.1.1, stmts (if_only (out-roll-Stmt _) t s first) w.1.2, w.1.3)), w.2))
