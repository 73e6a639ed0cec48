-- The table's rows for lists, as the parser's functions use them.
use Rattle.std.proofs.Common.{◌≡◌, List, [], ◌∷◌, Some, None, refl, ap, ◌∙◌, Bool, true, false}
use Rattle.thread_tree.specs.declared.token.Mark.TheVariants as mark
use Rattle.thread_tree.specs.declared.token.Token.{Token}
use Rattle.thread_tree.specs.declared.token.Token.TheVariants as token
use Rattle.thread_tree.specs.declared.token.Word.TheVariants as word
use Rattle.thread_tree.specs.Grammar.{turn, call_end, statement, stated_by, tstatement, transacted_by, is_mark, is_word, is_name, is_number, is_text, mark_number, word_number}
use Rattle.thread_tree.specs.Parts.{Part, TheMark, AName, ANumber, MoreNames, Parameters, Numbers, MoreNumbers, To, AnItem, MoreItems, Arguments, MoreExpressions, AWho, Values, Expression}
use Rattle.thread_tree.specs.declared.name.Text.{Text}
use Rattle.thread_text.specs.Bounds.{Counts, counted, own_counts, open_counts, close_counts}
use Rattle.thread_text.specs.Fate.{Reading, ahead, next_of, sees, sees_word, skipped}
use Rattle.thread_text.specs.Kinds.{text_in}
use Rattle.thread_text.proofs.Steps.{ahead_takes, ahead_alike, unseen, of_next, not_next, counting_same}
use Rattle.thread_text.proofs.ExpressionRows.{mark_row, word_row, then_alike}

pub names_more : (next_ : Part) → (parts : List Part) (r : Reading) → sees mark.Comma r ≡ true → ahead (MoreNames next_ ∷ parts) r ≡ ahead (AName ∷ MoreNames next_ ∷ parts) (skipped r)
unfolding turn call_end statement stated_by tstatement transacted_by counted own_counts open_counts close_counts is_mark is_word is_name is_number is_text mark_number word_number
names_more next_ parts r h = mark_row (MoreNames next_) parts (AName ∷ MoreNames next_ ∷ []) r mark.Comma r.counts h refl refl ∙ ap (λ q. ahead (AName ∷ MoreNames next_ ∷ parts) q) (counting_same r)

pub names_over : (next_ : Part) → (parts : List Part) (r : Reading) → sees mark.Comma r ≡ false → ahead (MoreNames next_ ∷ parts) r ≡ ahead (next_ ∷ parts) r
unfolding turn counted call_end
names_over next_ parts r h = ahead_alike (MoreNames next_) next_ parts (parts) r r.counts (λ t e. let f = unseen (is_mark mark.Comma) r t h e in rw f (refl))

pub expressions_more : (fields : Bool) (next_ : Part) → (parts : List Part) (r : Reading) → sees mark.Comma r ≡ true → ahead (MoreExpressions fields next_ ∷ parts) r ≡ ahead (Expression fields (MoreExpressions fields next_) ∷ parts) (skipped r)
unfolding turn call_end statement stated_by tstatement transacted_by counted own_counts open_counts close_counts is_mark is_word is_name is_number is_text mark_number word_number
expressions_more fields next_ parts r h = mark_row (MoreExpressions fields next_) parts (Expression fields (MoreExpressions fields next_) ∷ []) r mark.Comma r.counts h refl refl ∙ ap (λ q. ahead (Expression fields (MoreExpressions fields next_) ∷ parts) q) (counting_same r)

pub expressions_over : (fields : Bool) (next_ : Part) → (parts : List Part) (r : Reading) → sees mark.Comma r ≡ false → ahead (MoreExpressions fields next_ ∷ parts) r ≡ ahead (next_ ∷ parts) r
unfolding turn counted call_end
expressions_over fields next_ parts r h = ahead_alike (MoreExpressions fields next_) next_ parts (parts) r r.counts (λ t e. let f = unseen (is_mark mark.Comma) r t h e in rw f (refl))

pub arguments_none : (parts : List Part) (r : Reading) → sees mark.CloseParenthesis r ≡ true → ahead (Arguments ∷ parts) r ≡ ahead (parts) (skipped r)
unfolding turn call_end statement stated_by tstatement transacted_by counted own_counts open_counts close_counts is_mark is_word is_name is_number is_text mark_number word_number
arguments_none parts r h = mark_row Arguments parts ([]) r mark.CloseParenthesis r.counts h refl refl ∙ ap (λ q. ahead (parts) q) (counting_same r)

pub arguments_some : (parts : List Part) (r : Reading) → sees mark.CloseParenthesis r ≡ false → ahead (Arguments ∷ parts) r ≡ ahead (Expression false (MoreExpressions false (TheMark mark.CloseParenthesis)) ∷ parts) r
unfolding turn counted call_end
arguments_some parts r h = ahead_alike Arguments (Expression false (MoreExpressions false (TheMark mark.CloseParenthesis))) parts (parts) r r.counts (λ t e. let f = unseen (is_mark mark.CloseParenthesis) r t h e in rw f (refl))

pub values_none : (parts : List Part) (r : Reading) → sees mark.Semicolon r ≡ true → ahead (Values ∷ parts) r ≡ ahead (parts) (skipped r)
unfolding turn call_end statement stated_by tstatement transacted_by counted own_counts open_counts close_counts is_mark is_word is_name is_number is_text mark_number word_number
values_none parts r h = mark_row Values parts ([]) r mark.Semicolon r.counts h refl refl ∙ ap (λ q. ahead (parts) q) (counting_same r)

pub values_some : (parts : List Part) (r : Reading) → sees mark.Semicolon r ≡ false → ahead (Values ∷ parts) r ≡ ahead (Expression true (MoreExpressions true (TheMark mark.Semicolon)) ∷ parts) r
unfolding turn counted call_end
values_some parts r h = ahead_alike Values (Expression true (MoreExpressions true (TheMark mark.Semicolon))) parts (parts) r r.counts (λ t e. let f = unseen (is_mark mark.Semicolon) r t h e in rw f (refl))

pub parameters_none : (parts : List Part) (r : Reading) → sees mark.CloseParenthesis r ≡ true → ahead (Parameters ∷ parts) r ≡ ahead (parts) (skipped r)
unfolding turn call_end statement stated_by tstatement transacted_by counted own_counts open_counts close_counts is_mark is_word is_name is_number is_text mark_number word_number
parameters_none parts r h = mark_row Parameters parts ([]) r mark.CloseParenthesis r.counts h refl refl ∙ ap (λ q. ahead (parts) q) (counting_same r)

pub parameters_some : (parts : List Part) (r : Reading) → sees mark.CloseParenthesis r ≡ false → ahead (Parameters ∷ parts) r ≡ ahead (AName ∷ MoreNames (TheMark mark.CloseParenthesis) ∷ parts) r
unfolding turn counted call_end
parameters_some parts r h = ahead_alike Parameters AName parts (MoreNames (TheMark mark.CloseParenthesis) ∷ parts) r r.counts (λ t e. let f = unseen (is_mark mark.CloseParenthesis) r t h e in rw f (then_alike (is_name t) (MoreNames (TheMark mark.CloseParenthesis) ∷ []) _ parts))

pub numbers_none : (parts : List Part) (r : Reading) → sees mark.CloseParenthesis r ≡ true → ahead (Numbers ∷ parts) r ≡ ahead (parts) (skipped r)
unfolding turn call_end statement stated_by tstatement transacted_by counted own_counts open_counts close_counts is_mark is_word is_name is_number is_text mark_number word_number
numbers_none parts r h = mark_row Numbers parts ([]) r mark.CloseParenthesis r.counts h refl refl ∙ ap (λ q. ahead (parts) q) (counting_same r)

pub numbers_some : (parts : List Part) (r : Reading) → sees mark.CloseParenthesis r ≡ false → ahead (Numbers ∷ parts) r ≡ ahead (ANumber ∷ MoreNumbers ∷ parts) r
unfolding turn counted call_end
numbers_some parts r h = ahead_alike Numbers ANumber parts (MoreNumbers ∷ parts) r r.counts (λ t e. let f = unseen (is_mark mark.CloseParenthesis) r t h e in rw f (then_alike (is_number t) (MoreNumbers ∷ []) _ parts))

pub numbers_more : (parts : List Part) (r : Reading) → sees mark.Comma r ≡ true → ahead (MoreNumbers ∷ parts) r ≡ ahead (ANumber ∷ MoreNumbers ∷ parts) (skipped r)
unfolding turn call_end statement stated_by tstatement transacted_by counted own_counts open_counts close_counts is_mark is_word is_name is_number is_text mark_number word_number
numbers_more parts r h = mark_row MoreNumbers parts (ANumber ∷ MoreNumbers ∷ []) r mark.Comma r.counts h refl refl ∙ ap (λ q. ahead (ANumber ∷ MoreNumbers ∷ parts) q) (counting_same r)

pub numbers_over : (parts : List Part) (r : Reading) → sees mark.Comma r ≡ false → ahead (MoreNumbers ∷ parts) r ≡ ahead (TheMark mark.CloseParenthesis ∷ parts) r
unfolding turn counted call_end
numbers_over parts r h = ahead_alike MoreNumbers (TheMark mark.CloseParenthesis) parts (parts) r r.counts (λ t e. let f = unseen (is_mark mark.Comma) r t h e in rw f (refl))

pub to_some : (parts : List Part) (r : Reading) → sees mark.Arrow r ≡ true → ahead (To ∷ parts) r ≡ ahead (AName ∷ MoreNames (TheMark mark.Semicolon) ∷ parts) (skipped r)
unfolding turn call_end statement stated_by tstatement transacted_by counted own_counts open_counts close_counts is_mark is_word is_name is_number is_text mark_number word_number
to_some parts r h = mark_row To parts (AName ∷ MoreNames (TheMark mark.Semicolon) ∷ []) r mark.Arrow r.counts h refl refl ∙ ap (λ q. ahead (AName ∷ MoreNames (TheMark mark.Semicolon) ∷ parts) q) (counting_same r)

pub to_none : (parts : List Part) (r : Reading) → sees mark.Arrow r ≡ false → ahead (To ∷ parts) r ≡ ahead (TheMark mark.Semicolon ∷ parts) r
unfolding turn counted call_end
to_none parts r h = ahead_alike To (TheMark mark.Semicolon) parts (parts) r r.counts (λ t e. let f = unseen (is_mark mark.Arrow) r t h e in rw f (refl))

pub items_more : (parts : List Part) (r : Reading) → sees mark.Comma r ≡ true → ahead (MoreItems ∷ parts) r ≡ ahead (AnItem ∷ parts) (skipped r)
unfolding turn call_end statement stated_by tstatement transacted_by counted own_counts open_counts close_counts is_mark is_word is_name is_number is_text mark_number word_number
items_more parts r h = mark_row MoreItems parts (AnItem ∷ []) r mark.Comma r.counts h refl refl ∙ ap (λ q. ahead (AnItem ∷ parts) q) (counting_same r)

pub items_over : (parts : List Part) (r : Reading) → sees mark.Comma r ≡ false → ahead (MoreItems ∷ parts) r ≡ ahead (To ∷ parts) r
unfolding turn counted call_end
items_over parts r h = ahead_alike MoreItems To parts (parts) r r.counts (λ t e. let f = unseen (is_mark mark.Comma) r t h e in rw f (refl))

pub who_own : (next_ : Part) → (parts : List Part) (r : Reading) → sees_word word.Own r ≡ true → ahead (AWho next_ ∷ parts) r ≡ ahead (next_ ∷ parts) (skipped r)
unfolding turn call_end statement stated_by tstatement transacted_by counted own_counts open_counts close_counts is_mark is_word is_name is_number is_text mark_number word_number
who_own next_ parts r h = word_row (AWho next_) parts (next_ ∷ []) r word.Own r.counts h refl refl ∙ ap (λ q. ahead (next_ ∷ parts) q) (counting_same r)

pub who_of : (next_ : Part) → (parts : List Part) (r : Reading) → sees_word word.Own r ≡ false → ahead (AWho next_ ∷ parts) r ≡ ahead (Expression false next_ ∷ parts) r
unfolding turn counted call_end
who_of next_ parts r h = ahead_alike (AWho next_) (Expression false next_) parts (parts) r r.counts (λ t e. let f = unseen (is_word word.Own) r t h e in rw f (refl))

item_of : (t : Token) → (x : Text) → text_in t ≡ Some x → is_text t ≡ true
unfolding text_in is_text
item_of (token.Text y) x e = refl
item_of (token.Name _) x e = absurd (cc)
item_of (token.Number _) x e = absurd (cc)
item_of (token.Word _) x e = absurd (cc)
item_of (token.Mark _) x e = absurd (cc)
item_of (token.Operator _) x e = absurd (cc)

no_item : (t : Token) → text_in t ≡ None → is_text t ≡ false
unfolding text_in is_text
no_item (token.Text y) e = absurd (cc)
no_item (token.Name _) e = refl
no_item (token.Number _) e = refl
no_item (token.Word _) e = refl
no_item (token.Mark _) e = refl
no_item (token.Operator _) e = refl

text_counts : (t : Token) (c : Counts) → is_text t ≡ true → own_counts t c ≡ Some c
unfolding is_text own_counts
text_counts (token.Text y) c e = refl
text_counts (token.Name _) c e = absurd (cc)
text_counts (token.Number _) c e = absurd (cc)
text_counts (token.Word _) c e = absurd (cc)
text_counts (token.Mark _) c e = absurd (cc)
text_counts (token.Operator _) c e = absurd (cc)

pub item_text : (parts : List Part) (r : Reading) (x : Text) → next_of text_in r ≡ Some x → ahead (AnItem ∷ parts) r ≡ ahead (MoreItems ∷ parts) (skipped r)
unfolding turn counted
item_text parts r x h = let s = of_next text_in r x h in let i = item_of s.0 x s.2 in ahead_takes AnItem parts (MoreItems ∷ []) r s.0 r.counts s.1 (rw i refl) (text_counts s.0 r.counts i) ∙ ap (λ q. ahead (MoreItems ∷ parts) q) (counting_same r)

pub item_value : (parts : List Part) (r : Reading) → next_of text_in r ≡ None → ahead (AnItem ∷ parts) r ≡ ahead (Expression false MoreItems ∷ parts) r
unfolding turn counted
item_value parts r h = ahead_alike AnItem (Expression false MoreItems) parts parts r r.counts (λ t e. let f = no_item t (not_next text_in r t h e) in rw f refl)
