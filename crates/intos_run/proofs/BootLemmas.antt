-- How a boot ends, from what its parts did.
use Rattle.std.proofs.Common.{◌≡◌, ℕ, ◌+◌, ◌-◌, ◌*◌, ◌<◌, ◌≤◌, ◌==◌, List, [], ◌∷◌, ◌++◌, Option, Some, None, Result, Ok, Err, Bool, true, false, refl, sym, ◌∙◌, ap, subst, arith, append-nil}
use Rattle.std.specs.Result.{is_err}
use Rattle.std.specs.Prelude.{slice_index}
use Rattle.std.proofs.lemmas.Bool.Decides.{nat_tests}
use Rattle.nv_memory.specs.Budget.{IsShort, spent}
use Rattle.nv_memory.specs.declared.nv.Nv.{Ghosts}
use Rattle.outer_world.specs.Written.{put_to, IsPart, Puts}
use Rattle.outer_world.proofs.Callers.{part_of_first}
use Rattle.kernel_model.specs.Dump.{text_of}
use Rattle.kernel_model.proofs.Callers.{text_of-append}
use Rattle.undo_journal.specs.Undo.{magic, entries}
use Rattle.replay_list.specs.Kept.{counter_of, recovering}
use Rattle.kernel_boots.specs.Boots.{DidNotRise, IsSpent}
use Rattle.kernel_boots.specs.Courses.{Course, uncut, last}
use Rattle.kernel_boots.proofs.Callers.{at-most-then}
use Rattle.boot_report.specs.Lines.{begin_lines, end_line, cut_line, dark_line}
use Rattle.intos_run.specs.Boots.{IsLater}
use Rattle.intos_run.specs.Ends.{MatchEnd, IsWorked, EndsDone, EndsCut, EndsFailed, IsDone, IsCut, IsFailed, live_lines}
use Rattle.intos_run.specs.declared.boot.BootEnd.{BootEnd}
use Rattle.intos_run.specs.declared.boot.BootEnd.TheVariants.{Done, Cut, SinkFailed}
use Rattle.intos_run.specs.Report.{is_formatted, goes_dark, start_lines, cut_boot, last_boot}
use Rattle.intos_run.proofs.AtMostLaws.{DidNotRise-spent, short-spent}

-- a test that stays in a goal, by its two answers
by_test : (b : Bool) (P : Type 0) → (b ≡ true → P) → (b ≡ false → P) → P
by_test true P yes_then no_then = yes_then refl
by_test false P yes_then no_then = no_then refl

-- a failed write wrote a part of its text, and another one the whole
pub part_failed : {T E : Type 0} (r : Result T E) (old new : Option (List ℕ)) (text : List ℕ) → is_err r ≡ true → Puts r old new text → IsPart old new text
part_failed (Ok value) old new text failed puts = absurd (let not_failed : false ≡ true = failed in cc)
part_failed (Err error) old new text failed puts = puts

pub whole_put : {T E : Type 0} (r : Result T E) (old new : Option (List ℕ)) (text : List ℕ) → is_err r ≡ false → Puts r old new text → new ≡ put_to old text
whole_put (Ok value) old new text fine puts = puts
whole_put (Err error) old new text fine puts = absurd (let failed : true ≡ false = fine in cc)

module _ (c : Course) (number undone n : ℕ) where
  -- the lines of a boot that came to the last event
  pub live-end : (m : ℕ) → m ≡ last c → text_of (begin_lines number undone c.program (uncut c n)) ++ ((end_line number (last c) ++ 10 ∷ []) ++ []) ≡ text_of (live_lines c number undone n m)
  unfolding live_lines
  live-end m all =
      let test : (m == last c) ≡ true = grind (arith, nat_tests) in
      rw test (sym (text_of-append (begin_lines number undone c.program (uncut c n)) (end_line number (last c) ∷ [])))

  -- and of one that didn't
  pub live-cut : (m : ℕ) → m < last c → text_of (begin_lines number undone c.program (uncut c n)) ++ ((cut_line number m ++ 10 ∷ []) ++ []) ≡ text_of (live_lines c number undone n m)
  unfolding live_lines
  live-cut m some =
      let test : (m == last c) ≡ false = grind (arith, nat_tests) in
      rw test (sym (text_of-append (begin_lines number undone c.program (uncut c n)) (cut_line number m ∷ [])))

  -- a part of the first lines is a part of all of them
  pub live-begun : (m : ℕ) (old new : Option (List ℕ)) → IsPart old new (text_of (begin_lines number undone c.program (uncut c n))) → IsPart old new (text_of (live_lines c number undone n m))
  unfolding live_lines
  live-begun m old new part = rw text_of-append (part_of_first old new _ _ part)

pub MatchEnd-weaker : {N : Type 0} (end : BootEnd N) {P Q R P' Q' R' : N → Type 0} → ((nv : N) → P nv → P' nv) → ((nv : N) → Q nv → Q' nv) → ((nv : N) → R nv → R' nv) → MatchEnd end P Q R → MatchEnd end P' Q' R'
MatchEnd-weaker (Done nv) p q r h = p nv h
MatchEnd-weaker (Cut nv) p q r h = q nv h
MatchEnd-weaker (SinkFailed nv) p q r h = r nv h

-- whether a boot goes dark, as its recovery tells it
goes_dark-short : (budget : Option ℕ) (words : List ℕ) → IsShort budget (recovering words) → goes_dark budget words ≡ true
goes_dark-short None words short = absurd short
goes_dark-short (Some budget) words short = grind (arith, nat_tests)

pub goes_dark-enough : (budget : Option ℕ) (words : List ℕ) → (IsShort budget (recovering words) → ⊥) → goes_dark budget words ≡ false
goes_dark-enough None words enough = refl
goes_dark-enough (Some budget) words enough = grind (arith, nat_tests)

-- fewer writes than some are fewer than those and more
pub short-more : (budget : Option ℕ) (n more : ℕ) → IsShort budget n → IsShort budget (n + more)
short-more None n more short = absurd short
short-more (Some budget) n more short = omega (arith, short)

module _ (c : Course) (number : ℕ) (budget : Option ℕ) (before left : List ℕ) where
  pub lines_done : (m : ℕ) → m ≡ last c → live_lines c number (entries before) (counter_of before) m ≡ start_lines c number before ++ end_line number (last c) ∷ []
  unfolding live_lines
  lines_done m all = let test : (m == last c) ≡ true = grind (arith, nat_tests) in rw test

  pub lines_cut : goes_dark budget before ≡ false → counter_of left < last c → live_lines c number (entries before) (counter_of before) (counter_of left) ≡ cut_boot c number budget before left
  unfolding live_lines cut_boot
  lines_cut enough some =
      let test : (counter_of left == last c) ≡ false = grind (arith, nat_tests) in
      rw (test, enough)

  pub lines_part : (old new : Option (List ℕ)) → goes_dark budget before ≡ false → (counter_of left ≡ last c → slice_index left 0 ≡ magic) → counter_of left ≤ last c
      → IsPart old new (text_of (live_lines c number (entries before) (counter_of before) (counter_of left))) → IsPart old new (text_of (last_boot c number budget before left))
  unfolding last_boot
  lines_part old new enough formatted within part = by_test (counter_of left == last c) _
      (λ all.
      let is : counter_of left ≡ last c = grind (arith, nat_tests) in
      let magic_there = formatted is in
      let stands : is_formatted left ≡ true = grind (arith, nat_tests) in
      rw (enough, stands, all) (rw text_of-append
      (part_of_first old new _ _ (subst (λ (lines : List (List ℕ)). IsPart old new (text_of lines)) (lines_done _ is) part))))
      (λ some.
      let less : counter_of left < last c = grind (arith, nat_tests) in
      by_test (is_formatted left) _
      (λ there. rw (enough, there, some) (subst (λ (lines : List (List ℕ)). IsPart old new (text_of lines)) (lines_cut enough less) part))
      (λ blank. rw (enough, blank) (subst (λ (lines : List (List ℕ)). IsPart old new (text_of lines)) (lines_cut enough less) part)))

module _ {N : Type 0} (g : Ghosts N) (c : Course) (number undone n : ℕ) (nv idle : N) (old new : Option (List ℕ))
    (is_counter : n ≡ counter_of (g.words nv)) (is_undone : undone ≡ entries (g.words nv)) (enough : goes_dark (g.left nv) (g.words nv) ≡ false)
    (left : g.left idle ≡ spent (g.left nv) (recovering (g.words nv))) (to_come : g.to_come idle ≡ g.to_come nv) (ends : g.ends idle ≡ g.ends nv) where
  -- what was spent behind the recovery was spent in the boot
  spent_since : (after_it : N) → IsSpent g idle after_it → IsSpent g nv after_it
  spent_since after_it s = record {
    left = at-most-then _ _ _ (subst (DidNotRise (g.left nv)) (sym left) (DidNotRise-spent (recovering (g.words nv)) (g.left nv))) s.left;
    to_come = s.to_come ∙ to_come;
    ends = s.ends ∙ ends;
  }

  later_since : (words : List ℕ) → IsWorked c n words → IsLater c (g.words nv) words
  later_since words w = record { under_way = w.under_way; later = omega (arith, w.later, is_counter) }

  -- the lines behind the recovery, by the words before the boot
  lines_since : (m : ℕ) → live_lines c number undone n m ≡ live_lines c number (entries (g.words nv)) (counter_of (g.words nv)) m
  lines_since m = ap (λ (u : ℕ). live_lines c number u n m) is_undone
      ∙ ap (λ (k : ℕ). live_lines c number (entries (g.words nv)) k m) is_counter

  pub done_since : (end : N) → EndsDone g c number undone n idle old new end → IsDone g c number nv old new end
  done_since end e = record {
    live = enough;
    images = later_since (g.words end) e.worked;
    all = e.all;
    at_rest = e.at_rest;
    stands = e.stands;
    spent = spent_since end e.spent;
    text = e.text ∙ ap (λ (lines : List (List ℕ)). put_to old (text_of lines)) (lines_since _ ∙ lines_done c number (g.left nv) (g.words nv) (g.words end) _ e.all);
  }

  progress_since : (end : N) → EndsCut g c number undone n idle old new end → IsShort (g.left nv) (recovering (g.words nv) + 6400 * (counter_of (g.words end) + 1 - counter_of (g.words nv)))
  progress_since end e = subst (λ (k : ℕ). IsShort (g.left nv) (recovering (g.words nv) + 6400 * (counter_of (g.words end) + 1 - k))) is_counter
      (short-spent (recovering (g.words nv)) (6400 * (counter_of (g.words end) + 1 - n)) (g.left nv) (subst (λ (b : Option ℕ). IsShort b (6400 * (counter_of (g.words end) + 1 - n))) left e.progress))

  pub cut_since : (end : N) → EndsCut g c number undone n idle old new end → IsCut g c number nv old new end
  cut_since end e = record {
    boot = record {
      images = later_since (g.words end) e.worked;
      cause = λ _. e.some;
      nothing = λ dark. absurd (let both : true ≡ false = sym dark ∙ enough in cc);
      progress = progress_since end e;
    };
    dark = e.dark;
    spent = spent_since end e.spent;
    text = e.text ∙ ap (λ (lines : List (List ℕ)). put_to old (text_of lines)) (lines_since _ ∙ lines_cut c number (g.left nv) (g.words nv) (g.words end) enough e.some);
  }

  pub failed_since : (end : N) → EndsFailed g c number undone n idle old new end → IsFailed g c number nv old new end
  failed_since end e = record {
    images = later_since (g.words end) e.worked;
    spent = spent_since end e.spent;
    text = lines_part c number (g.left nv) (g.words nv) (g.words end) old new enough e.formatted e.worked.under_way.within
        (subst (λ (lines : List (List ℕ)). IsPart old new (text_of lines)) (lines_since _) e.text);
  }

module _ {N : Type 0} (g : Ghosts N) (c : Course) (number : ℕ) (nv dark : N) (old new : Option (List ℕ))
    (short : IsShort (g.left nv) (recovering (g.words nv))) (images : IsLater c (g.words nv) (g.words dark)) (count : counter_of (g.words dark) ≡ counter_of (g.words nv))
    (same : is_formatted (g.words dark) ≡ is_formatted (g.words nv)) (spends : IsSpent g nv dark) where
  lost : goes_dark (g.left nv) (g.words nv) ≡ true
  lost = goes_dark-short (g.left nv) (g.words nv) short

  lines_dark : dark_line number (is_formatted (g.words nv)) ++ 10 ∷ [] ≡ text_of (cut_boot c number (g.left nv) (g.words nv) (g.words dark))
  unfolding cut_boot
  lines_dark = rw (lost, same) (sym (append-nil _))

  -- a recovery that was cut
  pub cut_dark : g.left dark ≡ Some 0 → new ≡ put_to old (dark_line number (is_formatted (g.words nv)) ++ 10 ∷ []) → IsCut g c number nv old new dark
  cut_dark none text = record {
    boot = record {
      images = images;
      cause = λ live. absurd (let both : true ≡ false = sym lost ∙ live in cc);
      nothing = λ _. count;
      progress = short-more (g.left nv) (recovering (g.words nv)) _ short;
    };
    dark = none;
    spent = spends;
    text = text ∙ ap (put_to old) lines_dark;
  }

  pub failed_dark : IsPart old new (dark_line number (is_formatted (g.words nv)) ++ 10 ∷ []) → IsFailed g c number nv old new dark
  unfolding last_boot
  failed_dark part = record {
    images = images;
    spent = spends;
    text = rw lost (subst (IsPart old new) lines_dark part);
  }
