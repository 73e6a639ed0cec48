-- The table's rows for statements, as the parser's functions use them.
use Rattle.std.proofs.Common.{◌≡◌, List, [], ◌∷◌, ◌++◌, Option, Some, None, refl, ap, ◌∙◌, sym, subst, Bool, true, false, cond}
use Rattle.thread_tree.specs.declared.token.Mark.TheVariants as mark
use Rattle.thread_tree.specs.declared.token.Token.{Token}
use Rattle.thread_tree.specs.declared.token.Token.TheVariants as token
use Rattle.thread_tree.specs.declared.token.Word.TheVariants as word
use Rattle.thread_tree.specs.Pieces.{shape}
use Rattle.thread_tree.specs.Grammar.{operand, behind_name, turn, call_end, statement, stated_by, plain_by, tstatement, transacted_by, is_mark, is_word, is_name, is_number, is_text, is_between, mark_number, word_number}
use Rattle.thread_tree.specs.Parts.{Part, TheMark, AName, MoreNames, ABlock, Statements, Otherwise, AfterName, Assigned, AfterAssigned, Returned, AtomicTo, Arguments, ATBlock, Expression, After}
use Rattle.thread_text.specs.Bounds.{afresh, Counts, counted, own_counts, open_counts, close_counts}
use Rattle.thread_text.specs.Fate.{sees_call, Reading, judged, ahead, next, next_is, next_of, sees, sees_word, skipped, counting, begun}
use Rattle.thread_text.specs.Kinds.{word_in}
use Rattle.thread_text.proofs.Steps.{ahead_end, ahead_takes, ahead_alike, seen, unseen, not_next, counting_same}
use Rattle.thread_text.proofs.Taken.{next_a_word}
use Rattle.thread_text.proofs.ExpressionRows.{mark_row, word_row, then_alike}

pub said : (part : Part) (parts first : List Part) (r : Reading) (w : word.the_data) → next_of word_in r ≡ Some w → turn part (token.Word w) ≡ Some first → counted part (token.Word w) r.counts ≡ Some r.counts → ahead (part ∷ parts) r ≡ ahead (first ++ parts) (skipped r)
said part parts first r w h turns counting_ = ahead_takes part parts first r (token.Word w) r.counts (next_a_word r w h) turns counting_ ∙ ap (λ q. ahead (first ++ parts) q) (counting_same r)

pub states_let : (parts : List Part) (r : Reading) → next_of word_in r ≡ Some word.Let → ahead (Statements ∷ parts) r ≡ ahead (AName ∷ TheMark mark.Equals ∷ Expression false (TheMark mark.Semicolon) ∷ Statements ∷ parts) (skipped r)
unfolding turn call_end statement stated_by plain_by shape tstatement transacted_by counted own_counts open_counts close_counts is_mark is_word is_name is_number is_text mark_number word_number
states_let parts r h = said Statements parts (AName ∷ TheMark mark.Equals ∷ Expression false (TheMark mark.Semicolon) ∷ Statements ∷ []) r word.Let h refl refl

pub states_if : (parts : List Part) (r : Reading) → next_of word_in r ≡ Some word.If → ahead (Statements ∷ parts) r ≡ ahead (Expression false ABlock ∷ Otherwise ∷ parts) (skipped r)
unfolding turn call_end statement stated_by plain_by shape tstatement transacted_by counted own_counts open_counts close_counts is_mark is_word is_name is_number is_text mark_number word_number
states_if parts r h = said Statements parts (Expression false ABlock ∷ Otherwise ∷ []) r word.If h refl refl

pub states_while : (parts : List Part) (r : Reading) → next_of word_in r ≡ Some word.While → ahead (Statements ∷ parts) r ≡ ahead (Expression false ABlock ∷ Statements ∷ parts) (skipped r)
unfolding turn call_end statement stated_by plain_by shape tstatement transacted_by counted own_counts open_counts close_counts is_mark is_word is_name is_number is_text mark_number word_number
states_while parts r h = said Statements parts (Expression false ABlock ∷ Statements ∷ []) r word.While h refl refl

pub states_ploop : (parts : List Part) (r : Reading) → next_of word_in r ≡ Some word.Ploop → ahead (Statements ∷ parts) r ≡ ahead (ABlock ∷ Statements ∷ parts) (skipped r)
unfolding turn call_end statement stated_by plain_by shape tstatement transacted_by counted own_counts open_counts close_counts is_mark is_word is_name is_number is_text mark_number word_number
states_ploop parts r h = said Statements parts (ABlock ∷ Statements ∷ []) r word.Ploop h refl refl

pub states_break : (parts : List Part) (r : Reading) → next_of word_in r ≡ Some word.Break → ahead (Statements ∷ parts) r ≡ ahead (TheMark mark.Semicolon ∷ Statements ∷ parts) (skipped r)
unfolding turn call_end statement stated_by plain_by shape tstatement transacted_by counted own_counts open_counts close_counts is_mark is_word is_name is_number is_text mark_number word_number
states_break parts r h = said Statements parts (TheMark mark.Semicolon ∷ Statements ∷ []) r word.Break h refl refl

pub states_return : (parts : List Part) (r : Reading) → next_of word_in r ≡ Some word.Return → ahead (Statements ∷ parts) r ≡ ahead (Returned ∷ Statements ∷ parts) (skipped r)
unfolding turn call_end statement stated_by plain_by shape tstatement transacted_by counted own_counts open_counts close_counts is_mark is_word is_name is_number is_text mark_number word_number
states_return parts r h = said Statements parts (Returned ∷ Statements ∷ []) r word.Return h refl refl

pub states_atomic : (parts : List Part) (r : Reading) → next_of word_in r ≡ Some word.Atomic → ahead (Statements ∷ parts) r ≡ ahead (AtomicTo ∷ Statements ∷ parts) (skipped r)
unfolding turn call_end statement stated_by plain_by shape tstatement transacted_by counted own_counts open_counts close_counts is_mark is_word is_name is_number is_text mark_number word_number
states_atomic parts r h = said Statements parts (AtomicTo ∷ Statements ∷ []) r word.Atomic h refl refl

pub else_some : (parts : List Part) (r : Reading) → sees_word word.Else r ≡ true → ahead (Otherwise ∷ parts) r ≡ ahead (ABlock ∷ Statements ∷ parts) (skipped r)
unfolding turn call_end statement stated_by plain_by shape tstatement transacted_by counted own_counts open_counts close_counts is_mark is_word is_name is_number is_text mark_number word_number
else_some parts r h = word_row Otherwise parts (ABlock ∷ Statements ∷ []) r word.Else r.counts h refl refl ∙ ap (λ q. ahead (ABlock ∷ Statements ∷ parts) q) (counting_same r)

pub else_none : (parts : List Part) (r : Reading) → sees_word word.Else r ≡ false → ahead (Otherwise ∷ parts) r ≡ ahead (Statements ∷ parts) r
unfolding turn counted call_end
else_none parts r h = ahead_alike Otherwise Statements parts (parts) r r.counts (λ t e. let f = unseen (is_word word.Else) r t h e in rw f (refl))

pub calls : (parts : List Part) (r : Reading) → sees mark.OpenParenthesis r ≡ true → ahead (AfterName ∷ parts) r ≡ ahead (Arguments ∷ TheMark mark.Semicolon ∷ parts) (skipped r)
unfolding turn call_end statement stated_by plain_by shape tstatement transacted_by counted own_counts open_counts close_counts is_mark is_word is_name is_number is_text mark_number word_number
calls parts r h = mark_row AfterName parts (Arguments ∷ TheMark mark.Semicolon ∷ []) r mark.OpenParenthesis r.counts h refl refl ∙ ap (λ q. ahead (Arguments ∷ TheMark mark.Semicolon ∷ parts) q) (counting_same r)

pub assigns : (parts : List Part) (r : Reading) → sees mark.OpenParenthesis r ≡ false → ahead (AfterName ∷ parts) r ≡ ahead (TheMark mark.Equals ∷ Assigned ∷ parts) r
unfolding turn counted call_end
assigns parts r h = ahead_alike AfterName (TheMark mark.Equals) parts (Assigned ∷ parts) r r.counts (λ t e. let f = unseen (is_mark mark.OpenParenthesis) r t h e in rw f (then_alike (is_mark mark.Equals t) (Assigned ∷ []) _ parts))

pub returns_none : (parts : List Part) (r : Reading) → sees mark.Semicolon r ≡ true → ahead (Returned ∷ parts) r ≡ ahead (parts) (skipped r)
unfolding turn call_end statement stated_by plain_by shape tstatement transacted_by counted own_counts open_counts close_counts is_mark is_word is_name is_number is_text mark_number word_number
returns_none parts r h = mark_row Returned parts ([]) r mark.Semicolon r.counts h refl refl ∙ ap (λ q. ahead (parts) q) (counting_same r)

pub returns_some : (parts : List Part) (r : Reading) → sees mark.Semicolon r ≡ false → ahead (Returned ∷ parts) r ≡ ahead (Expression false (TheMark mark.Semicolon) ∷ parts) r
unfolding turn counted call_end
returns_some parts r h = ahead_alike Returned (Expression false (TheMark mark.Semicolon)) parts (parts) r r.counts (λ t e. let f = unseen (is_mark mark.Semicolon) r t h e in rw f (refl))

pub atomic_some : (parts : List Part) (r : Reading) → sees mark.Arrow r ≡ true → ahead (AtomicTo ∷ parts) r ≡ ahead (AName ∷ MoreNames ATBlock ∷ parts) (skipped r)
unfolding turn call_end statement stated_by plain_by shape tstatement transacted_by counted own_counts open_counts close_counts is_mark is_word is_name is_number is_text mark_number word_number
atomic_some parts r h = mark_row AtomicTo parts (AName ∷ MoreNames ATBlock ∷ []) r mark.Arrow r.counts h refl refl ∙ ap (λ q. ahead (AName ∷ MoreNames ATBlock ∷ parts) q) (counting_same r)

pub atomic_none : (parts : List Part) (r : Reading) → sees mark.Arrow r ≡ false → ahead (AtomicTo ∷ parts) r ≡ ahead (ATBlock ∷ parts) r
unfolding turn counted call_end
atomic_none parts r h = ahead_alike AtomicTo ATBlock parts (parts) r r.counts (λ t e. let f = unseen (is_mark mark.Arrow) r t h e in rw f (refl))

-- no word and no closing brace is next, so a name begins the statement
named_alike : (parts : List Part) (c : Counts) (t : Token) → word_in t ≡ None → is_mark mark.CloseBrace t ≡ false → judged (statement t) (close_counts t c) parts ≡ judged (cond (is_name t) (Some []) None) (Some c) (AfterName ∷ Statements ∷ parts)
unfolding judged statement close_counts is_name
named_alike parts c (token.Name _) w b = refl
named_alike parts c (token.Number _) w b = refl
named_alike parts c (token.Text _) w b = refl
named_alike parts c (token.Operator _) w b = refl
named_alike parts c (token.Word v) w b = unfold word_in in absurd (cc)
named_alike parts c (token.Mark mark.CloseBrace) w b = unfold is_mark mark_number in absurd (cc)
named_alike parts c (token.Mark mark.OpenBrace) w b = refl
named_alike parts c (token.Mark mark.OpenParenthesis) w b = refl
named_alike parts c (token.Mark mark.CloseParenthesis) w b = refl
named_alike parts c (token.Mark mark.OpenBracket) w b = refl
named_alike parts c (token.Mark mark.CloseBracket) w b = refl
named_alike parts c (token.Mark mark.Semicolon) w b = refl
named_alike parts c (token.Mark mark.Comma) w b = refl
named_alike parts c (token.Mark mark.Colon) w b = refl
named_alike parts c (token.Mark mark.Dot) w b = refl
named_alike parts c (token.Mark mark.Equals) w b = refl
named_alike parts c (token.Mark mark.Arrow) w b = refl

pub begins_named : (parts : List Part) (r : Reading) → next_of word_in r ≡ None → sees mark.CloseBrace r ≡ false → ahead (Statements ∷ parts) r ≡ ahead (AName ∷ AfterName ∷ Statements ∷ parts) r
unfolding turn counted
begins_named parts r w b = ahead_alike Statements AName parts (AfterName ∷ Statements ∷ parts) r r.counts (λ t e. named_alike parts r.counts t (not_next word_in r t w e) (unseen (is_mark mark.CloseBrace) r t b e))

-- a name and an opening parenthesis behind the equals sign are a call of a function
name_begins : (t : Token) (c : Counts) → is_name t ≡ true → own_counts t c ≡ Some (afresh c)
unfolding is_name own_counts
name_begins (token.Name _) c h = refl
name_begins (token.Number _) c h = absurd (cc)
name_begins (token.Text _) c h = absurd (cc)
name_begins (token.Word _) c h = absurd (cc)
name_begins (token.Mark _) c h = absurd (cc)
name_begins (token.Operator _) c h = absurd (cc)

name_operates : (t : Token) → is_name t ≡ true → operand false (TheMark mark.Semicolon) t ≡ Some (After false (TheMark mark.Semicolon) ∷ [])
unfolding is_name operand is_number behind_name
name_operates (token.Name _) h = refl
name_operates (token.Number _) h = absurd (cc)
name_operates (token.Text _) h = absurd (cc)
name_operates (token.Word _) h = absurd (cc)
name_operates (token.Mark _) h = absurd (cc)
name_operates (token.Operator _) h = absurd (cc)

-- the reading behind a name, with fresh counts
fresh : Reading → Reading
fresh r = counting (afresh r.counts) r

assigned_name : (parts : List Part) (r : Reading) (t : Token) → next r.left ≡ Some t → is_name t ≡ true → ahead (Assigned ∷ parts) r ≡ ahead (AfterAssigned ∷ parts) (fresh r)
unfolding turn counted fresh
assigned_name parts r t e h = ahead_takes Assigned parts (AfterAssigned ∷ []) r t (afresh r.counts) e (rw h refl) (name_begins t r.counts h)

value_name : (parts : List Part) (r : Reading) (t : Token) → next r.left ≡ Some t → is_name t ≡ true → ahead (Expression false (TheMark mark.Semicolon) ∷ parts) r ≡ ahead (After false (TheMark mark.Semicolon) ∷ parts) (fresh r)
unfolding turn counted fresh
value_name parts r t e h = ahead_takes (Expression false (TheMark mark.Semicolon)) parts (After false (TheMark mark.Semicolon) ∷ []) r t (afresh r.counts) e (name_operates t h) (name_begins t r.counts h)

after_alike : (parts : List Part) (r : Reading) → sees mark.OpenParenthesis r ≡ false → ahead (AfterAssigned ∷ parts) r ≡ ahead (After false (TheMark mark.Semicolon) ∷ parts) r
unfolding turn counted
after_alike parts r h = ahead_alike AfterAssigned (After false (TheMark mark.Semicolon)) parts parts r r.counts (λ t e. let f = unseen (is_mark mark.OpenParenthesis) r t h e in rw f refl)

seen_behind : (r : Reading) → sees mark.OpenParenthesis (skipped r) ≡ sees mark.OpenParenthesis (fresh r)
unfolding next_is skipped fresh counting
seen_behind r = refl

next_test : (test : Token → Bool) (r : Reading) (t : Token) → next r.left ≡ Some t → next_is test r ≡ test t
unfolding next_is
next_test test r t e = ap (λ o. elim o [ Some u ↦ test u | None ↦ false ]) e

no_call : (a b : Bool) → cond a b false ≡ false → a ≡ true → b ≡ false
no_call true b h e = h
no_call false b h e = absurd (cc)

a_call : (a b : Bool) → cond a b false ≡ true → (a ≡ true) × (b ≡ true)
a_call true b h = (refl, h)
a_call false b h = absurd (cc)

value_of_name : (parts : List Part) (r : Reading) (t : Token) → sees_call r ≡ false → next r.left ≡ Some t → is_name t ≡ true → ahead (Assigned ∷ parts) r ≡ ahead (Expression false (TheMark mark.Semicolon) ∷ parts) r
unfolding sees_call
value_of_name parts r t h e n =
    let c = no_call (next_is is_name r) (sees mark.OpenParenthesis (skipped r)) h (next_test is_name r t e ∙ n) in
    assigned_name parts r t e n ∙ (after_alike parts (fresh r) (sym (seen_behind r) ∙ c) ∙ sym (value_name parts r t e n))

value_of_other : (parts : List Part) (r : Reading) (t : Token) → next r.left ≡ Some t → is_name t ≡ false → ahead (Assigned ∷ parts) r ≡ ahead (Expression false (TheMark mark.Semicolon) ∷ parts) r
unfolding turn counted
value_of_other parts r t e n = ahead_alike Assigned (Expression false (TheMark mark.Semicolon)) parts parts r r.counts (λ u d. let f : is_name u ≡ false = subst (λ x. is_name x ≡ false) (the_same t u (sym e ∙ d)) n in rw f refl) where
  the_same : (t u : Token) → Some t ≡ Some u → t ≡ u
  the_same t u h = cc

pub assigned_value : (parts : List Part) (r : Reading) → sees_call r ≡ false → ahead (Assigned ∷ parts) r ≡ ahead (Expression false (TheMark mark.Semicolon) ∷ parts) r
assigned_value parts r h = go (next r.left) refl where
  split : (t : Token) → next r.left ≡ Some t → (b : Bool) → is_name t ≡ b → ahead (Assigned ∷ parts) r ≡ ahead (Expression false (TheMark mark.Semicolon) ∷ parts) r
  split t e true n = value_of_name parts r t h e n
  split t e false n = value_of_other parts r t e n

  go : (o : Option Token) → next r.left ≡ o → ahead (Assigned ∷ parts) r ≡ ahead (Expression false (TheMark mark.Semicolon) ∷ parts) r
  go None e = ahead_end Assigned parts r e ∙ sym (ahead_end (Expression false (TheMark mark.Semicolon)) parts r e)
  go (Some t) e = split t e (is_name t) refl

call_begins : (parts : List Part) (r : Reading) (t : Token) → next r.left ≡ Some t → is_name t ≡ true → ahead (AName ∷ parts) (begun r) ≡ ahead parts (fresh r)
unfolding turn counted begun fresh counting
call_begins parts r t e h = ahead_takes AName parts [] (begun r) t (afresh r.counts) e (rw h refl) refl

call_goes_on : (parts : List Part) (r : Reading) → sees mark.OpenParenthesis r ≡ true → ahead (AfterAssigned ∷ parts) r ≡ ahead (TheMark mark.OpenParenthesis ∷ Arguments ∷ TheMark mark.Semicolon ∷ parts) r
unfolding turn counted is_mark mark_number is_between
call_goes_on parts r h = mark_row AfterAssigned parts (Arguments ∷ TheMark mark.Semicolon ∷ []) r mark.OpenParenthesis r.counts h refl refl ∙ sym (mark_row (TheMark mark.OpenParenthesis) (Arguments ∷ TheMark mark.Semicolon ∷ parts) [] r mark.OpenParenthesis r.counts h refl refl)

pub assigned_call : (parts : List Part) (r : Reading) → sees_call r ≡ true → ahead (Assigned ∷ parts) r ≡ ahead (AName ∷ TheMark mark.OpenParenthesis ∷ Arguments ∷ TheMark mark.Semicolon ∷ parts) (begun r)
unfolding sees_call
assigned_call parts r h =
    let c = a_call (next_is is_name r) (sees mark.OpenParenthesis (skipped r)) h in
    let s = seen is_name r c.0 in
    assigned_name parts r s.0 s.1 s.2 ∙ (call_goes_on parts (fresh r) (sym (seen_behind r) ∙ c.1) ∙ sym (call_begins _ r s.0 s.1 s.2))
