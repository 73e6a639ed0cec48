-- What the table takes where it owes a part of a kernel call spells it.
use Rattle.std.proofs.Common.{false, List, [], ◌∷◌, refl}
use Rattle.thread_tree.specs.declared.action.Item.TheVariants as item
use Rattle.thread_tree.specs.declared.action.Who.TheVariants as who
use Rattle.thread_tree.specs.declared.token.Mark.TheVariants as mark
use Rattle.thread_tree.specs.declared.token.Placed.{Placed}
use Rattle.thread_tree.specs.declared.token.Word.TheVariants as word
use Rattle.thread_tree.specs.Grammar.{turn, call_end, is_mark, is_word, is_text}
use Rattle.thread_tree.specs.Parts.{Part, MoreNames, To, AnItem, MoreItems, AWho}
use Rattle.thread_tree.specs.Spelling.{one, more}
use Rattle.thread_tree.specs.SpellingOfCalls.{text, value, own, of, no_results, results}
use Rattle.grammar_laws.proofs.Tags.{is_the_text}
use Rattle.grammar_laws.proofs.Meaning.{Whole, Turned, Row, choose, took_at, took_mark, took_word}
use Rattle.grammar_laws.proofs.SoundExpressions.{expression_row}

-- names with commas between them
pub more_names_row : (next : Part) (parts : List Part) (p : Placed) (rest : List Placed) → Row next parts p rest → Row (MoreNames next) parts p rest
unfolding turn
more_names_row next parts p rest inner h = choose (is_mark mark.Comma p.token) _ _ parts rest h
    (λ e w. (w.2.0, (λ start x s. let r = w.2.1 rest w.1.0 w.1.1 in (r.0, x ∷ r.1, more s (took_mark _ p rest e) r.2, r.3)), w.2.2))
    (λ h. let w = inner h in (w.0, (λ start x s. (p ∷ rest, x ∷ [], one s, w.1)), w.2))

-- the end of a call
end_row : (parts : List Part) (p : Placed) (rest : List Placed) → Turned (call_end p.token) parts rest → Whole (To ∷ parts) (p ∷ rest)
unfolding call_end
end_row parts p rest h = choose (is_mark mark.Arrow p.token) _ _ parts rest h
    (λ e w. let r = w.2.1 rest w.1.0 w.1.1 in (w.2.0, (r.1, results (took_mark _ p rest e) r.2 r.3), w.2.2))
    (λ h. choose (is_mark mark.Semicolon p.token) _ _ parts rest h
    (λ e w. (rest, ([], no_results (took_mark _ p rest e)), w))
    (λ h. absurd h))

pub to_row : (parts : List Part) (p : Placed) (rest : List Placed) → Row To parts p rest
unfolding turn
to_row parts p rest h = end_row parts p rest h

-- items of a `print`
pub more_items_row : (parts : List Part) (p : Placed) (rest : List Placed) → Row MoreItems parts p rest
unfolding turn
more_items_row parts p rest h = choose (is_mark mark.Comma p.token) _ _ parts rest h
    (λ e w. (w.0, (λ start x s. (w.1.0, x ∷ w.1.1, more s (took_mark _ p rest e) w.1.2, w.1.3)), w.2))
    (λ h. let w = end_row parts p rest h in (w.0, (λ start x s. (p ∷ rest, x ∷ [], one s, w.1)), w.2))

pub item_row : (parts : List Part) (p : Placed) (rest : List Placed) → Row AnItem parts p rest
unfolding turn
item_row parts p rest h = choose (is_text p.token) _ _ parts rest h
    (λ e w. let x = is_the_text p.token e in (w.0, w.1 (p ∷ rest) (item.Text p.place x.0) (text (took_at p rest _ x.1)), w.2))
    (λ h. let w = expression_row false MoreItems parts p rest h in (w.0, w.1.3 (p ∷ rest) (item.Value p.place w.1.1) (value (record { token = p.token; after = rest; first = record { first = refl } }) w.1.2), w.2))

-- the thread that a call speaks of
pub who_row : (next : Part) (parts : List Part) (p : Placed) (rest : List Placed) → Row (AWho next) parts p rest
unfolding turn
who_row next parts p rest h = choose (is_word word.Own p.token) _ _ parts rest h
    (λ e w. (w.0, (rest, who.Own, own (took_word _ p rest e), w.1), w.2))
    (λ h. let w = expression_row false next parts p rest h in (w.0, (w.1.0, who.Of w.1.1, of w.1.2, w.1.3), w.2))
