-- What the table takes where it owes a part of a transaction spells it.
use Rattle.std.proofs.Common.{◌≡◌, true, List, [], ◌∷◌, refl, sym, subst}
use Rattle.thread_tree.specs.declared.place.At.{At}
use Rattle.thread_tree.specs.declared.place.Place.{Place}
use Rattle.thread_tree.specs.declared.token.Mark.TheVariants as mark
use Rattle.thread_tree.specs.declared.token.Placed.{Placed}
use Rattle.thread_tree.specs.declared.token.Token.{Token}
use Rattle.thread_tree.specs.declared.token.Token.TheVariants as token
use Rattle.thread_tree.specs.declared.token.Word.{Word}
use Rattle.thread_tree.specs.declared.token.Word.TheVariants as word
use Rattle.thread_tree.specs.declared.transaction.TBlock.{TBlock, TBlock-F, out-TBlock, roll-TBlock, out-roll-TBlock}
use Rattle.thread_tree.specs.declared.transaction.TStmt.{TStmt, out-roll-TStmt}
use Rattle.thread_tree.specs.Grammar.{turn, tstatement, transacted_by, is_mark, is_word}
use Rattle.thread_tree.specs.Parts.{Part, TheMark, ATBlock, TStatements, TOtherwise, AfterTName, TAssigned, MoreField}
use Rattle.thread_tree.specs.Spelling.{Takes, TakesAny, TakesMark, SpellsName, static, through}
use Rattle.thread_tree.specs.SpellingOfTransactions.{SpellsTBlock, tblock, SpellsTStmts, no_tstmts, tstmts, SpellsTStmt, tlet, tlet_new, tset, tset_new, store, free, tif, tif_else, twhile, tbreak, abort, tgive}
use Rattle.grammar_laws.proofs.Tags.{is_the_mark}
use Rattle.grammar_laws.proofs.Meaning.{ToStore, a_value, an_object, Thing, Whole, Turned, Row, choose, took_at, took, took_mark, took_word}
use Rattle.grammar_laws.proofs.SoundExpressions.{expression_row}

-- a block of statements
a_tblock : {before a b after : List Placed} {place : Place} {ss : List TStmt} → Takes (token.Mark mark.OpenBrace) place before a → SpellsTStmts a b ss → TakesMark mark.CloseBrace b after → Thing SpellsTBlock before after
a_tblock {before} {a} {b} {after} {place} {ss} opening inside closing =
    let layer : TBlock-F TStmt TBlock = record { place = place; stmts = ss } in
    let is : out-TBlock (roll-TBlock layer) ≡ layer = out-roll-TBlock layer in
    (roll-TBlock layer, tblock (subst (λ (x : TBlock-F TStmt TBlock). Takes (token.Mark mark.OpenBrace) x.place before a) (sym is) opening) (subst (λ (x : TBlock-F TStmt TBlock). SpellsTStmts a b x.stmts) (sym is) inside) closing)

pub tblock_row : (parts : List Part) (p : Placed) (rest : List Placed) → Row ATBlock parts p rest
unfolding turn
tblock_row parts p rest h = choose (is_mark mark.OpenBrace p.token) _ _ parts rest h
    (λ e w. (w.0, a_tblock (took_at p rest _ (is_the_mark _ p.token e)) w.1.2 w.1.3, w.2))
    (λ h. absurd h)

-- a statement before others
stated : {before m : List Placed} {s : TStmt} (parts : List Part) → SpellsTStmt before m s → Whole (TStatements ∷ parts) m → Whole (TStatements ∷ parts) before
stated {s = s} parts spelled (n, (k, ss, inside, close), w) = (n, (k, s ∷ ss, tstmts spelled inside, close), w)

-- what a local gets, where it is declared and later
declared_as : {before a b c after : List Placed} {name : At} → TakesAny (token.Word word.Let) before a → SpellsName a b name → TakesMark mark.Equals b c → ToStore c after → Thing SpellsTStmt before after
declared_as t n q (a_value (k, e, s, semi)) = (_, tlet (out-roll-TStmt _) t n q s semi)
declared_as t n q (an_object new (k, kind, s, semi)) = (_, tlet_new (out-roll-TStmt _) t n q new s semi)

assigned_as : {before a b after : List Placed} {name : At} → SpellsName before a name → TakesMark mark.Equals a b → ToStore b after → Thing SpellsTStmt before after
assigned_as n q (a_value (k, e, s, semi)) = (_, tset (out-roll-TStmt _) n q s semi)
assigned_as n q (an_object new (k, kind, s, semi)) = (_, tset_new (out-roll-TStmt _) n q new s semi)

pub tassigned_row : (parts : List Part) (p : Placed) (rest : List Placed) → Row TAssigned parts p rest
unfolding turn
tassigned_row parts p rest h = choose (is_word word.New p.token) _ _ parts rest h
    (λ e w. (w.2.0, an_object (took_word _ p rest e) (w.0, w.1.0, w.1.1, w.2.1), w.2.2))
    (λ h. let w = expression_row true (TheMark mark.Semicolon) parts p rest h in (w.0, a_value w.1, w.2))

-- what follows a name at the beginning of a statement
pub more_field_row : (parts : List Part) (p : Placed) (rest : List Placed) → Row MoreField parts p rest
unfolding turn
more_field_row parts p rest h = choose (is_mark mark.Dot p.token) _ _ parts rest h
    (λ e (a, (g, t), (b, q, (c, (k, x, v, semi), w))). (c, (λ start x y o f s d m. (_, store (out-roll-TStmt _) (through s d m (took_mark _ p rest e) t) q v semi)), w))
    (λ h. choose (is_mark mark.Equals p.token) _ _ parts rest h
    (λ e (c, (k, x, v, semi), w). (c, (λ start x y o f s d m. (_, store (out-roll-TStmt _) (static s d m) (took_mark _ p rest e) v semi)), w))
    (λ h. absurd h))

pub after_tname_row : (parts : List Part) (p : Placed) (rest : List Placed) → Row AfterTName parts p rest
unfolding turn
after_tname_row parts p rest h = choose (is_mark mark.Equals p.token) _ _ parts rest h
    (λ e w. (w.0, (λ start n s. assigned_as s (took_mark _ p rest e) w.1), w.2))
    (λ h. choose (is_mark mark.Dot p.token) _ _ parts rest h
    (λ e w. (w.2.0, (λ start n s. w.2.1 start (p ∷ rest) rest n w.1.0 s (took_mark _ p rest e) w.1.1), w.2.2))
    (λ h. absurd h))

-- a statement that begins with a word
word_row : (w : Word) (place : Place) (parts : List Part) (rest : List Placed) → Turned (transacted_by w) parts rest → Whole (TStatements ∷ parts) (record { token = token.Word w; place = place } ∷ rest)
unfolding transacted_by
word_row word.Let place parts rest (a, (n, name), (b, q, (c, v, w))) = let s = declared_as (took _ rest _ refl) name q v in stated parts s.1 w
word_row word.Free place parts rest (a, (k, e, s, semi), w) = stated parts (free (out-roll-TStmt _) (took _ rest _ refl) s semi) w
word_row word.If place parts rest (a, (k, e, s, (x, inside)), (m, other, w)) = (m, other _ rest k e x (took _ rest _ refl) s inside, w)
word_row word.While place parts rest (a, (k, e, s, (x, inside)), w) = stated parts (twhile (out-roll-TStmt _) (took _ rest _ refl) s inside) w
word_row word.Break place parts rest (a, semi, w) = stated parts (tbreak (out-roll-TStmt _) (took_at _ rest _ refl) semi) w
word_row word.Abort place parts rest (a, semi, w) = stated parts (abort (out-roll-TStmt _) (took_at _ rest _ refl) semi) w
word_row word.Give place parts rest (a, (es, vs), w) = stated parts (tgive (out-roll-TStmt _) (took_at _ rest _ refl) vs) w
word_row _ place parts rest h = absurd h

-- a further statement, or the closing brace
tstatement_row : (t : Token) (place : Place) (parts : List Part) (rest : List Placed) → Turned (tstatement t) parts rest → Whole (TStatements ∷ parts) (record { token = t; place = place } ∷ rest)
unfolding tstatement
tstatement_row (token.Word w) place parts rest h = word_row w place parts rest h
tstatement_row (token.Name n) place parts rest (m, after, w) = let s = after (record { token = token.Name n; place = place } ∷ rest) (record { name = n; place = place }) (record { first = refl }) in stated parts s.1 w
tstatement_row (token.Mark mark.CloseBrace) place parts rest h = (rest, (_, [], no_tstmts, record { place = place; first = refl }), h)
tstatement_row _ place parts rest h = absurd h

pub tstatements_row : (parts : List Part) (p : Placed) (rest : List Placed) → Row TStatements parts p rest
unfolding turn
tstatements_row parts p rest h = tstatement_row p.token p.place parts rest h

-- behind the block of an `if` an `else`, or what may follow that statement
pub totherwise_row : (parts : List Part) (p : Placed) (rest : List Placed) → Row TOtherwise parts p rest
unfolding turn
totherwise_row parts p rest h = choose (is_word word.Else p.token) _ _ parts rest h
    (λ e (a, (other, block), (m, (k, ss, inside, closing), w)). (m, (λ start x y c b t s first. (k, _ ∷ ss, tstmts (tif_else (out-roll-TStmt _) t s first (took_word _ p rest e) block) inside, closing)), w))
    (λ h. let w = tstatement_row p.token p.place parts rest h in (w.0, (λ start x y c b t s first. (w.1.0, _ ∷ w.1.1, tstmts (tif (out-roll-TStmt _) t s first) w.1.2, w.1.3)), w.2))
