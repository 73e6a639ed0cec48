-- One token of a fate, by what may stand there and the counts.
use Rattle.std.proofs.Common.{◌≡◌, ℕ, List, [], ◌∷◌, ◌++◌, Option, Some, None, IsSome, append-nil, refl, ap, ◌∙◌, sym, subst, Bool, true, false, rules}
use Rattle.thread_tree.specs.declared.token.Mark.{Mark}
use Rattle.thread_tree.specs.declared.token.Placed.{Placed}
use Rattle.thread_tree.specs.declared.token.Token.{Token}
use Rattle.thread_tree.specs.declared.token.Token.TheVariants as token
use Rattle.thread_tree.specs.declared.token.Word.{Word}
use Rattle.thread_tree.specs.Grammar.{turn, advance, declared, is_mark, is_word, is_name, is_number}
use Rattle.thread_tree.specs.Parts.{Part, TheMark, TheWord, AName, ANumber}
use Rattle.thread_text.specs.Bounds.{Counts, counted}
use Rattle.thread_text.specs.Fate.{Reading, Fate, Whole, StuckAt, LongAt, Step, Goes, Stuck, Long, judged, step, fate, ahead, next, next_is, next_of, skipped, counting, sees, sees_word}
use Rattle.thread_text.specs.Kinds.{name_in, number_in}

-- what a step leads to
unfoldable pub outcome : Step → Reading → Fate
outcome (Goes parts counts) r = ahead parts (counting counts r)
outcome Stuck r = StuckAt r.left
outcome Long r = LongAt r.left

none_some : {A : Type 0} {x : A} → None ≡ Some x → ⊥
none_some h = cc

fate_by_step : (part : Part) (parts : List Part) (c : Counts) (left : List Placed) (t : Token) → next left ≡ Some t → fate (part ∷ parts) c left ≡ outcome (step (part ∷ parts) c t) (record { left = left; counts = c })
unfolding fate outcome ahead counting next
fate_by_step part parts c [] t h = absurd (none_some h)
fate_by_step part parts c (p ∷ ps) t h =
    let e : p.token ≡ t = cc in
    subst (λ u. fate (part ∷ parts) c (p ∷ ps) ≡ outcome (step (part ∷ parts) c u) (record { left = p ∷ ps; counts = c })) e (elim (step (part ∷ parts) c p.token) as (λ s. (elim s [ Goes after counts ↦ fate after counts ps | Stuck ↦ StuckAt (p ∷ ps) | Long ↦ LongAt (p ∷ ps) ]) ≡ outcome s (record { left = p ∷ ps; counts = c })) [ Goes after counts ↦ refl | Stuck ↦ refl | Long ↦ refl ])

-- by the token that is next
pub ahead_by_step : (part : Part) (parts : List Part) (r : Reading) (t : Token) → next r.left ≡ Some t → ahead (part ∷ parts) r ≡ outcome (judged (turn part t) (counted part t r.counts) parts) r
unfolding ahead step
ahead_by_step part parts r t h = fate_by_step part parts r.counts r.left t h

pub ahead_takes : (part : Part) (parts first : List Part) (r : Reading) (t : Token) (counts : Counts) → next r.left ≡ Some t → turn part t ≡ Some first → counted part t r.counts ≡ Some counts → ahead (part ∷ parts) r ≡ ahead (first ++ parts) (counting counts r)
ahead_takes part parts first r t counts h turns counting_ =
    ahead_by_step part parts r t h ∙ rw (turns, counting_) (unfold judged outcome in refl)

pub ahead_stuck : (part : Part) (parts : List Part) (r : Reading) (t : Token) → next r.left ≡ Some t → turn part t ≡ None → ahead (part ∷ parts) r ≡ StuckAt r.left
ahead_stuck part parts r t h turns = ahead_by_step part parts r t h ∙ rw turns (unfold judged outcome in refl)

pub ahead_long : (part : Part) (parts first : List Part) (r : Reading) (t : Token) → next r.left ≡ Some t → turn part t ≡ Some first → counted part t r.counts ≡ None → ahead (part ∷ parts) r ≡ LongAt r.left
ahead_long part parts first r t h turns counting_ =
    ahead_by_step part parts r t h ∙ rw (turns, counting_) (unfold judged outcome in refl)

fate_end : (part : Part) (parts : List Part) (c : Counts) (left : List Placed) → next left ≡ None → fate (part ∷ parts) c left ≡ StuckAt left
unfolding fate next
fate_end part parts c [] h = refl
fate_end part parts c (p ∷ ps) h = absurd (none_some (sym h))

pub ahead_end : (part : Part) (parts : List Part) (r : Reading) → next r.left ≡ None → ahead (part ∷ parts) r ≡ StuckAt r.left
unfolding ahead
ahead_end part parts r h = fate_end part parts r.counts r.left h

-- two parts that take each token to the same stack and counts
pub ahead_alike : (part other : Part) (parts others : List Part) (r : Reading) (c : Counts) → ((t : Token) → next r.left ≡ Some t → judged (turn part t) (counted part t r.counts) parts ≡ judged (turn other t) (counted other t c) others) → ahead (part ∷ parts) r ≡ ahead (other ∷ others) (record { left = r.left; counts = c })
unfolding counting
ahead_alike part other parts others r c alike = go (next r.left) refl where
  q : Reading
  q = record { left = r.left; counts = c }

  same : (s : Step) → outcome s r ≡ outcome s q
  same (Goes parts counts) = unfold outcome in refl
  same Stuck = unfold outcome in refl
  same Long = unfold outcome in refl

  go : (o : Option Token) → next r.left ≡ o → ahead (part ∷ parts) r ≡ ahead (other ∷ others) q
  go None h = ahead_end part parts r h ∙ sym (ahead_end other others q h)
  go (Some t) h = ahead_by_step part parts r t h ∙ (ap (λ s. outcome s r) (alike t h) ∙ (same _ ∙ sym (ahead_by_step other others q t h)))

-- what a test of the next token says
pub seen : (test : Token → Bool) (r : Reading) → next_is test r ≡ true → (t : Token) × (next r.left ≡ Some t) × (test t ≡ true)
unfolding next_is
seen test r h = go (next r.left) refl h where
  go : (o : Option Token) → next r.left ≡ o → (elim o [ Some t ↦ test t | None ↦ false ]) ≡ true → (t : Token) × (next r.left ≡ Some t) × (test t ≡ true)
  go None e h = absurd (cc)
  go (Some t) e h = (t, e, h)

pub unseen : (test : Token → Bool) (r : Reading) (t : Token) → next_is test r ≡ false → next r.left ≡ Some t → test t ≡ false
unfolding next_is
unseen test r t h e = subst (λ o. (elim o [ Some t ↦ test t | None ↦ false ]) ≡ false) e h

some_is : {A : Type 0} (o : Option A) (x : A) → o ≡ Some x → IsSome o
some_is (Some y) x h = search rules
some_is None x h = absurd (none_some h)

pub seen_some : (test : Token → Bool) (r : Reading) → next_is test r ≡ true → IsSome (next r.left)
seen_some test r h = let s = seen test r h in some_is _ s.0 s.1

-- what is read of the next token says what it is
pub of_next : {X : Type 0} (reading : Token → Option X) (r : Reading) (x : X) → next_of reading r ≡ Some x → (t : Token) × (next r.left ≡ Some t) × (reading t ≡ Some x)
unfolding next_of
of_next reading r x h = go (next r.left) refl h where
  go : (o : Option Token) → next r.left ≡ o → (elim o [ Some t ↦ reading t | None ↦ None ]) ≡ Some x → (t : Token) × (next r.left ≡ Some t) × (reading t ≡ Some x)
  go None e h = absurd (none_some h)
  go (Some t) e h = (t, e, h)

pub not_next : {X : Type 0} (reading : Token → Option X) (r : Reading) (t : Token) → next_of reading r ≡ None → next r.left ≡ Some t → reading t ≡ None
unfolding next_of
not_next {X} reading r t h e = subst (λ o. ◌≡◌ {A = Option X} (elim o [ Some t ↦ reading t | None ↦ None ]) None) e h

pub read_some : {X : Type 0} (reading : Token → Option X) (r : Reading) (x : X) → next_of reading r ≡ Some x → IsSome (next r.left)
read_some reading r x h = let s = of_next reading r x h in some_is _ s.0 s.1

-- single marks, words, names and numbers
pub counting_same : (r : Reading) → counting r.counts r ≡ skipped r
unfolding counting skipped
counting_same r = refl

pub mark_taken : (mark : Mark) (parts : List Part) (r : Reading) → sees mark r ≡ true → ahead (TheMark mark ∷ parts) r ≡ ahead parts (skipped r)
unfolding turn counted
mark_taken mark parts r h = let s = seen (is_mark mark) r h in ahead_takes (TheMark mark) parts [] r s.0 r.counts s.1 (rw s.2 refl) refl ∙ ap (λ q. ahead parts q) (counting_same r)

pub mark_stuck : (mark : Mark) (parts : List Part) (r : Reading) → sees mark r ≡ false → ahead (TheMark mark ∷ parts) r ≡ StuckAt r.left
unfolding turn
mark_stuck mark parts r h = go (next r.left) refl where
  go : (o : Option Token) → next r.left ≡ o → ahead (TheMark mark ∷ parts) r ≡ StuckAt r.left
  go None e = ahead_end _ parts r e
  go (Some t) e = let f = unseen (is_mark mark) r t h e in ahead_stuck _ parts r t e (rw f refl)

pub word_taken : (word : Word) (parts : List Part) (r : Reading) → sees_word word r ≡ true → ahead (TheWord word ∷ parts) r ≡ ahead parts (skipped r)
unfolding turn counted
word_taken word parts r h = let s = seen (is_word word) r h in ahead_takes (TheWord word) parts [] r s.0 r.counts s.1 (rw s.2 refl) refl ∙ ap (λ q. ahead parts q) (counting_same r)

pub word_stuck : (word : Word) (parts : List Part) (r : Reading) → sees_word word r ≡ false → ahead (TheWord word ∷ parts) r ≡ StuckAt r.left
unfolding turn
word_stuck word parts r h = go (next r.left) refl where
  go : (o : Option Token) → next r.left ≡ o → ahead (TheWord word ∷ parts) r ≡ StuckAt r.left
  go None e = ahead_end _ parts r e
  go (Some t) e = let f = unseen (is_word word) r t h e in ahead_stuck _ parts r t e (rw f refl)

named : (t : Token) (n : ℕ) → name_in t ≡ Some n → is_name t ≡ true
unfolding name_in is_name
named (token.Name m) n h = refl
named (token.Number _) n h = absurd (none_some h)
named (token.Text _) n h = absurd (none_some h)
named (token.Word _) n h = absurd (none_some h)
named (token.Mark _) n h = absurd (none_some h)
named (token.Operator _) n h = absurd (none_some h)

unnamed : (t : Token) → name_in t ≡ None → is_name t ≡ false
unfolding name_in is_name
unnamed (token.Name m) h = absurd (none_some (sym h))
unnamed (token.Number _) h = refl
unnamed (token.Text _) h = refl
unnamed (token.Word _) h = refl
unnamed (token.Mark _) h = refl
unnamed (token.Operator _) h = refl

numbered : (t : Token) (n : ℕ) → number_in t ≡ Some n → is_number t ≡ true
unfolding number_in is_number
numbered (token.Number m) n h = refl
numbered (token.Name _) n h = absurd (none_some h)
numbered (token.Text _) n h = absurd (none_some h)
numbered (token.Word _) n h = absurd (none_some h)
numbered (token.Mark _) n h = absurd (none_some h)
numbered (token.Operator _) n h = absurd (none_some h)

unnumbered : (t : Token) → number_in t ≡ None → is_number t ≡ false
unfolding number_in is_number
unnumbered (token.Number m) h = absurd (none_some (sym h))
unnumbered (token.Name _) h = refl
unnumbered (token.Text _) h = refl
unnumbered (token.Word _) h = refl
unnumbered (token.Mark _) h = refl
unnumbered (token.Operator _) h = refl

pub name_taken : (parts : List Part) (r : Reading) (n : ℕ) → next_of name_in r ≡ Some n → ahead (AName ∷ parts) r ≡ ahead parts (skipped r)
unfolding turn counted
name_taken parts r n h = let s = of_next name_in r n h in ahead_takes AName parts [] r s.0 r.counts s.1 (rw (named s.0 n s.2) refl) refl ∙ ap (λ q. ahead parts q) (counting_same r)

pub name_stuck : (parts : List Part) (r : Reading) → next_of name_in r ≡ None → ahead (AName ∷ parts) r ≡ StuckAt r.left
unfolding turn
name_stuck parts r h = go (next r.left) refl where
  go : (o : Option Token) → next r.left ≡ o → ahead (AName ∷ parts) r ≡ StuckAt r.left
  go None e = ahead_end _ parts r e
  go (Some t) e = ahead_stuck _ parts r t e (rw (unnamed t (not_next name_in r t h e)) refl)

pub number_taken : (parts : List Part) (r : Reading) (n : ℕ) → next_of number_in r ≡ Some n → ahead (ANumber ∷ parts) r ≡ ahead parts (skipped r)
unfolding turn counted
number_taken parts r n h = let s = of_next number_in r n h in ahead_takes ANumber parts [] r s.0 r.counts s.1 (rw (numbered s.0 n s.2) refl) refl ∙ ap (λ q. ahead parts q) (counting_same r)

pub number_stuck : (parts : List Part) (r : Reading) → next_of number_in r ≡ None → ahead (ANumber ∷ parts) r ≡ StuckAt r.left
unfolding turn
number_stuck parts r h = go (next r.left) refl where
  go : (o : Option Token) → next r.left ≡ o → ahead (ANumber ∷ parts) r ≡ StuckAt r.left
  go None e = ahead_end _ parts r e
  go (Some t) e = ahead_stuck _ parts r t e (rw (unnumbered t (not_next number_in r t h e)) refl)

-- whether a name is next, by the name that is read
pub named_next : (r : Reading) (n : ℕ) → next_of name_in r ≡ Some n → next_is is_name r ≡ true
unfolding next_is
named_next r n h = let s = of_next name_in r n h in ap (λ o. elim o [ Some u ↦ is_name u | None ↦ false ]) s.1 ∙ named s.0 n s.2

pub unnamed_next : (r : Reading) → next_of name_in r ≡ None → next_is is_name r ≡ false
unfolding next_is next_of
unnamed_next r h = go (next r.left) h where
  go : (o : Option Token) → ◌≡◌ {A = Option ℕ} (elim o [ Some t ↦ name_in t | None ↦ None ]) None → (elim o [ Some u ↦ is_name u | None ↦ false ]) ≡ false
  go None h = refl
  go (Some t) h = unnamed t h

-- a token where nothing is owed: it begins a declaration, or nothing
begins_by_step : (c : Counts) (left : List Placed) (t : Token) → next left ≡ Some t → fate [] c left ≡ outcome (judged (declared t) (Some c) []) (record { left = left; counts = c })
unfolding fate outcome ahead counting next step advance
begins_by_step c [] t h = absurd (none_some h)
begins_by_step c (p ∷ ps) t h =
    let e : p.token ≡ t = cc in
    subst (λ u. fate [] c (p ∷ ps) ≡ outcome (judged (declared u) (Some c) []) (record { left = p ∷ ps; counts = c })) e (elim (judged (declared p.token) (Some c) []) as (λ s. (elim s [ Goes after counts ↦ fate after counts ps | Stuck ↦ StuckAt (p ∷ ps) | Long ↦ LongAt (p ∷ ps) ]) ≡ outcome s (record { left = p ∷ ps; counts = c })) [ Goes after counts ↦ refl | Stuck ↦ refl | Long ↦ refl ])

pub begins_takes : (first : List Part) (r : Reading) (t : Token) → next r.left ≡ Some t → declared t ≡ Some first → ahead [] r ≡ ahead first (skipped r)
unfolding ahead skipped
begins_takes first r t h begins = begins_by_step r.counts r.left t h ∙ rw begins (unfold judged outcome counting ahead in rw (append-nil first) refl)

pub begins_stuck : (r : Reading) (t : Token) → next r.left ≡ Some t → declared t ≡ None → ahead [] r ≡ StuckAt r.left
unfolding ahead
begins_stuck r t h begins = begins_by_step r.counts r.left t h ∙ rw begins (unfold judged outcome in refl)

whole_at_end : (c : Counts) (left : List Placed) → next left ≡ None → fate [] c left ≡ Whole
unfolding fate next
whole_at_end c [] h = refl
whole_at_end c (p ∷ ps) h = absurd (none_some (sym h))

pub begins_whole : (r : Reading) → next r.left ≡ None → ahead [] r ≡ Whole
unfolding ahead
begins_whole r h = whole_at_end r.counts r.left h
