-- The faults of calls: the first of them, and where they are met.
use Rattle.std.proofs.Common.{◌≡◌, ℕ, ◌+◌, ◌==◌, ◌||◌, arith, Bool, true, false, if◌then◌else◌, List, [], ◌∷◌, ◌++◌, length, Option, Some, None, is_some, Ok, Err, refl, sym, ap, subst, ◌∙◌}
use Rattle.std.proofs.lemmas.Bool.Decides.{nat_tests}
use Rattle.thread_tree.specs.declared.place.Place.{Place}
use Rattle.thread_tree.specs.declared.place.At.{At}
use Rattle.thread_tree.specs.declared.action.Call.{Call}
use Rattle.thread_tree.specs.declared.action.Item.{Item}
use Rattle.thread_tree.specs.declared.action.Item.TheVariants as item
use Rattle.thread_tree.specs.declared.action.Who.{Who}
use Rattle.thread_tree.specs.declared.action.Who.TheVariants as who
use Rattle.thread_tree.specs.declared.token.Placed.{Placed}
use Rattle.thread_tree.specs.Spelling.{SpellsName, SpellsNames, Separated, one as one_thing, more}
use Rattle.thread_tree.specs.SpellingOfCalls.{SpellsItem, text, value, SpellsWho, own, of, SpellsArguments, no_arguments, arguments, SpellsResults, no_results, results, SpellsPiece, name_piece, value_piece, whom_piece, items_piece, applied_piece, SpellsPieces, no_pieces, some_pieces, SpellsCall}
use Rattle.thread_tree.specs.Pieces.{Piece, named, valued, whom, itemized, applied, pieces}
use Rattle.thread_tree.specs.declared.needed.Needed.{Needed}
use Rattle.thread_tree.specs.declared.needed.Needed.TheVariants.{Queue, Semaphore}
use Rattle.thread_check.specs.declared.fault.Kind.TheVariants as kind
use Rattle.thread_check.specs.declared.fault.CheckFault.{CheckFault}
use Rattle.thread_check.specs.declared.fault.CheckFault.TheVariants.{NotAllowedHere, WrongCount}
use Rattle.thread_check.specs.Verdict.{Verdict, fine, ◌>>◌, same_count, within_limit, stands_at}
use Rattle.thread_check.specs.Scope.{Scope}
use Rattle.thread_check.specs.Names.{Names, sort_of_declaration, sort_of, arity, is_among}
use Rattle.thread_check.specs.Uses.{same_sort, fitting, used}
use Rattle.thread_check.specs.Calls.{once, further_taker, further_takers, takers, who_rule, counted_item, item_rule, items_rule, sort_of as sort_needed, piece_rule, pieces_rule, call_rule}
use Rattle.fault_places.specs.Order.{place_of, rank_of}
use Rattle.fault_places.specs.Sorts.{used_as_local, used_as_queue, used_as_semaphore, used_as_thread}
use Rattle.fault_places.specs.Found.{found_by}
use Rattle.fault_places.specs.OfExpressions.{expression_faults, expressions_faults}
use Rattle.fault_places.specs.OfCalls.{further_taker_faults, further_takers_faults, first_taker_faults, takers_faults, who_faults, counted_faults, item_faults, items_faults, needed_faults, piece_faults, pieces_faults, call_faults}
use Rattle.fault_places.proofs.Answers.{Finds, verdict_of, one, none, both, joined_finds, both_if, joined_if, first_fine, second_fine, fine_first}
use Rattle.fault_places.proofs.Ways.{AreIn, in_also, raised, found_at, if_not, Meets, none_met, at_both, then_way, meet, meet_last, skip, skip_placed, then_last}
use Rattle.fault_places.proofs.Steps.{counted_met}
use Rattle.fault_places.proofs.Places.{used_at, once_at, count_at, limit_at, wrong_count_at}
use Rattle.fault_places.proofs.Expressions.{expression_finds, expression_met, expression_steps, expressions_find, expressions_met}

-- an item with the count of items
pub counted_by : (b : Bool) (w : Verdict) (fault : CheckFault) (fs gs : List CheckFault) → (if b then Err fault else w >> Err fault) ≡ verdict_of (if b then fault ∷ fs else found_by w ++ fault ∷ gs)
counted_by true w fault fs gs = refl
counted_by false (Ok u) fault fs gs = refl
counted_by false (Err limit) fault fs gs = refl

counted_finds : (place : Place) (count : ℕ) (fs : List CheckFault) → counted_item place count (verdict_of fs) ≡ verdict_of (counted_faults place (found_by (within_limit place kind.Items 8 count)) fs)
unfolding counted_item
counted_finds place count [] = (one (within_limit place kind.Items 8 count)).same
counted_finds place count (fault ∷ rest) =
    counted_by (stands_at place fault) (within_limit place kind.Items 8 count) fault (counted_faults place (found_by (within_limit place kind.Items 8 count)) rest) rest

-- cases of a test
by_test : (b : Bool) (P : Type 0) → (b ≡ true → P) → (b ≡ false → P) → P
by_test true P holds fails = holds refl
by_test false P holds fails = fails refl

-- a name that is found, but not among those before the last, is the last
found_alone : (at : At) (name : ℕ) → is_among name (at ∷ []) ≡ true → (at.name == name) ≡ true
found_alone at name among = by_test (at.name == name) _ (λ yes_it. yes_it) (λ no_it. absurd (let wrong : false ≡ true = sym (rw no_it refl) ∙ among in cc))

neither_first : (a b c : Bool) {P : Type 0} → (a || b) ≡ true → (a || c) ≡ false → (b ≡ true → c ≡ false → P) → P
neither_first true b c some none_of f = absurd (let wrong : true ≡ false = none_of in cc)
neither_first false b c some none_of f = f some none_of

found_last : (before : List At) (at : At) (name : ℕ) → is_among name (before ++ at ∷ []) ≡ true → is_among name before ≡ false → (at.name == name) ≡ true
found_last [] at name among new = found_alone at name among
found_last (first ∷ before) at name among new =
    neither_first (first.name == name) (is_among name (before ++ at ∷ [])) (is_among name before) among new (found_last before at name)

-- a name of the same number is a local too
fits_too : (wanted : _) (at other : At) (o : Option _) → fitting wanted at o ≡ fine → fitting wanted other o ≡ fine
fits_too wanted at other None is = absurd (cc)
fits_too wanted at other (Some found) is = by_test (same_sort found wanted) _ (λ yes_it. rw yes_it refl) (λ no_it. absurd (let wrong : Err (NotAllowedHere at.place) ≡ fine = sym (rw no_it refl) ∙ is in cc))

used_too : (names : Names) (scope : Scope) (wanted : _) (at other : At) → at.name ≡ other.name → used names scope wanted at ≡ fine → used names scope wanted other ≡ fine
unfolding used
used_too names scope wanted at other name is =
    fits_too wanted at other (sort_of names scope other.name) (subst (λ n. fitting wanted at (sort_of names scope n) ≡ fine) name is)

same_used : (names : Names) (scope : Scope) (at other : At) → (at.name == other.name) ≡ true → used_as_local names scope at ≡ fine → used_as_local names scope other ≡ fine
same_used names scope at other same is =
    let name : at.name ≡ other.name = grind (arith, nat_tests) in
    used_too names scope _ at other name is

-- the faults of a name, in the order of the table
further_in : (before : List At) (at : At) (wanted : _) (o : Option _) → AreIn at.place 5 0 (if is_some o then found_by (once before at) ++ found_by (fitting wanted at o) else found_by (fitting wanted at o) ++ found_by (once before at))
unfolding place_of rank_of
further_in before at wanted None = in_also refl (omega arith) (raised 5 (omega arith) (once_at before at))
further_in before at wanted (Some found) =
    at_both (once_at before at) (found_at (fitting wanted at (Some found)) (if_not (same_sort found wanted) (NotAllowedHere at.place) (omega arith) (refl, omega arith, omega arith)))

module _ (names : Names) (scope : Scope) where
  -- the names after `->`
  AreLocals : List At → Type 0
  AreLocals before = (at : At) → is_among at.name before ≡ true → used_as_local names scope at ≡ fine

  one_local : (at : At) → used_as_local names scope at ≡ fine → AreLocals (at ∷ [])
  unfolding AreLocals
  one_local at is other among = same_used names scope at other (found_alone at other.name among) is

  more_locals : (before : List At) (at : At) → AreLocals before → used_as_local names scope at ≡ fine → AreLocals (before ++ at ∷ [])
  unfolding AreLocals
  more_locals before at all is other among =
      by_test (is_among other.name before) _ (λ old. all other old) (λ new. same_used names scope at other (found_last before at other.name among new) is)

  further_finds : (before : List At) (at : At) → AreLocals before → Finds (further_taker names scope before at) (further_taker_faults names scope before at)
  unfolding AreLocals further_taker once
  further_finds before at all =
      by_test (is_among at.name before) _
      (λ twice. second_fine (is_some (sort_of names scope at.name)) (used_as_local names scope at) (once before at) (all at twice))
      (λ new. first_fine (is_some (sort_of names scope at.name)) (used_as_local names scope at) (once before at) (rw new refl))

  further_takers_find : (before ats : List At) → AreLocals before → Finds (further_takers names scope before ats) (further_takers_faults names scope before ats)
  unfolding further_taker
  further_takers_find before [] all = none
  further_takers_find before (at ∷ ats) all =
      both_if (further_taker names scope before at) (further_takers names scope (before ++ at ∷ []) ats) _ _ (further_finds before at all)
      (λ passed. further_takers_find (before ++ at ∷ []) ats (more_locals before at all (fine_first (used_as_local names scope at) (once before at) passed)))

  further_at : (before : List At) (at : At) → AreIn at.place 5 0 (further_taker_faults names scope before at)
  unfolding used
  further_at before at = further_in before at _ (sort_of names scope at.name)

  further_takers_met : {a b : List Placed} (before : List At) {ats : List At} → SpellsNames a b ats → Meets a b (further_takers_faults names scope before ats)
  further_takers_met before (one_thing {x = at} d) = meet d (further_at before at) none_met
  further_takers_met before (more {x = at} d c rest) = meet d (further_at before at) (skip c (further_takers_met (before ++ at ∷ []) rest))

  pub takers_find : (fits : Bool) (ats : List At) → Finds (takers names scope fits ats) (takers_faults names scope fits ats)
  takers_find fits [] = none
  takers_find fits (at ∷ ats) =
      joined_if (used_as_local names scope at) (if fits then fine else Err (WrongCount at.place)) (further_takers names scope (at ∷ []) ats) _ _
      (both (one (used_as_local names scope at)) (one (if fits then fine else Err (WrongCount at.place))))
      (λ passed. further_takers_find (at ∷ []) ats (one_local at passed))

  first_at : (fits : Bool) (at : At) → AreIn at.place 5 0 (first_taker_faults names scope fits at)
  first_at fits at = at_both (used_at names scope _ at) (wrong_count_at at.place fits)

  pub takers_met : {a b : List Placed} (fits : Bool) {ats : List At} → SpellsNames a b ats → Meets a b (takers_faults names scope fits ats)
  takers_met fits (one_thing {x = at} d) = meet d (first_at fits at) none_met
  takers_met fits (more {x = at} d c rest) = meet d (first_at fits at) (skip c (further_takers_met (at ∷ []) rest))

  pub results_met : {a b : List Placed} (fits : Bool) {ats : List At} → SpellsResults a b ats → Meets a b (takers_faults names scope fits ats)
  results_met fits (no_results m) = skip m none_met
  results_met fits (results o l m) = skip o (then_last (takers_met fits l) m)

  -- whom a call speaks of
  who_finds : (w : Who) → Finds (who_rule names scope w) (who_faults names scope w)
  unfolding who_rule who_faults
  who_finds who.Own = none
  who_finds (who.Of e) = expression_finds names scope e

  who_met : {a b : List Placed} {w : Who} → SpellsWho a b w → Meets a b (who_faults names scope w)
  unfolding who_faults
  who_met (own w) = skip w none_met
  who_met (of e) = expression_met names scope e

  -- arguments in parentheses
  pub arguments_met : {a b : List Placed} {es : List _} → SpellsArguments a b es → Meets a b (expressions_faults names scope es)
  arguments_met (no_arguments c) = skip c none_met
  arguments_met (arguments l c) = then_last (expressions_met names scope l) c

  -- an item of a print
  item_finds : (count : ℕ) (i : Item) → Finds (item_rule names scope count i) (item_faults names scope count i)
  unfolding item_rule item_faults
  item_finds count (item.Text place x) = one (within_limit place kind.Items 8 count)
  item_finds count (item.Value place e) = record {
    same = ap (counted_item place count) (expression_finds names scope e).same ∙ counted_finds place count (expression_faults names scope e);
  }

  item_met : {a b : List Placed} (count : ℕ) {i : Item} → SpellsItem a b i → Meets a b (item_faults names scope count i)
  unfolding item_faults
  item_met count (text {place} t) = meet_last t (limit_at place kind.Items 8 count)
  item_met count (value {place} {e} begins d) =
      counted_met place (found_by (within_limit place kind.Items 8 count)) (expression_faults names scope e) (limit_at place kind.Items 8 count) begins (expression_steps names scope d)

  -- the items of a print
  items_find : (before : ℕ) (is : List Item) → Finds (items_rule names scope before is) (items_faults names scope before is)
  items_find before [] = none
  items_find before (i ∷ is) = both (item_finds (before + 1) i) (items_find (before + 1) is)

  items_met : {a b : List Placed} (before : ℕ) {is : List Item} → Separated SpellsItem a b is → Meets a b (items_faults names scope before is)
  items_met before (one_thing d) = then_way (item_met (before + 1) d) none_met
  items_met before (more d c rest) = then_way (item_met (before + 1) d) (skip c (items_met (before + 1) rest))

  -- a piece of a call
  needed_finds : (needed : Needed) (name : At) → Finds (used names scope (sort_needed needed) name) (needed_faults names scope needed name)
  unfolding sort_of_declaration
  needed_finds Queue name = one (used_as_queue names scope name)
  needed_finds Semaphore name = one (used_as_semaphore names scope name)

  piece_finds : (p : Piece) → Finds (piece_rule names scope p) (piece_faults names scope p)
  unfolding sort_of_declaration
  piece_finds (named needed name) = needed_finds needed name
  piece_finds (valued e) = expression_finds names scope e
  piece_finds (whom w) = who_finds w
  piece_finds (itemized items) = items_find 0 items
  piece_finds (applied template es) =
      joined_finds (used_as_thread names scope template) (same_count template.place (arity names template.name) (length es))
      (both (one (used_as_thread names scope template)) (one (same_count template.place (arity names template.name) (length es))))
      (expressions_find names scope es)

  pieces_find : (ps : List Piece) → Finds (pieces_rule names scope ps) (pieces_faults names scope ps)
  pieces_find [] = none
  pieces_find (p ∷ []) = piece_finds p
  pieces_find (p ∷ q ∷ ps) = both (piece_finds p) (pieces_find (q ∷ ps))

  needed_met : {a b : List Placed} (needed : Needed) {name : At} → SpellsName a b name → Meets a b (needed_faults names scope needed name)
  needed_met Queue {name} n = meet_last n (used_at names scope _ name)
  needed_met Semaphore {name} n = meet_last n (used_at names scope _ name)

  piece_met : {a b : List Placed} {p : Piece} → SpellsPiece a b p → Meets a b (piece_faults names scope p)
  piece_met (name_piece {needed} n) = needed_met needed n
  piece_met (value_piece d) = expression_met names scope d
  piece_met (whom_piece w) = who_met w
  piece_met (items_piece l) = items_met 0 l
  piece_met (applied_piece {template} {es} n o l) =
      meet n (at_both (used_at names scope _ template) (count_at template.place (arity names template.name) (length es))) (skip o (arguments_met l))

  pieces_met : {a b : List Placed} {ps : List Piece} → Separated SpellsPiece a b ps → Meets a b (pieces_faults names scope ps)
  pieces_met (one_thing d) = piece_met d
  pieces_met (more d c (one_thing e)) = then_way (piece_met d) (skip c (pieces_met (one_thing e)))
  pieces_met (more d c (more e f rest)) = then_way (piece_met d) (skip c (pieces_met (more e f rest)))

  operands_met : {a b : List Placed} {ps : List Piece} → SpellsPieces a b ps → Meets a b (pieces_faults names scope ps)
  operands_met no_pieces = none_met
  operands_met (some_pieces l) = pieces_met l

  -- a call
  pub call_finds : (c : Call) → Finds (call_rule names scope c) (call_faults names scope c)
  unfolding call_rule call_faults
  call_finds c = pieces_find (pieces c)

  pub call_met : {place : Place} {a b : List Placed} {c : Call} → SpellsCall place a b c → Meets a b (call_faults names scope c)
  unfolding call_faults
  call_met s = skip_placed s.word (operands_met s.operands)
