-- The run as a whole.
use Rattle.std.proofs.Common.{◌≡◌, ℕ, ◌==◌, List, [], ◌∷◌, ◌++◌, Option, Result, Ok, Err, true, false, length, drop, refl, sym, ◌∙◌, ap, subst, arith, append_assoc}
use Rattle.std.proofs.lemmas.Bool.Decides.{nat_tests}
use Rattle.std.specs.Prelude.{slice_index, OnOk}
use Rattle.std.specs.Result.{is_err}
use Rattle.nv_memory.specs.Blank.{blank_words}
use Rattle.nv_memory.specs.Budget.{first_budget, later_budgets}
use Rattle.outer_world.specs.Written.{put_to, IsPart}
use Rattle.outer_world.proofs.Callers.{put_twice, part_of_second}
use Rattle.kernel_model.specs.Dump.{dump_lines, text_of}
use Rattle.kernel_model.specs.Kernel.{State}
use Rattle.kernel_boots.specs.Courses.{Course, last}
use Rattle.kernel_model.specs.Show.{names_of, visible, timed_list as kernel_timed}
use Rattle.kernel_model.specs.Visible.{Visible}
use Rattle.kernel_image.specs.Decoded.{Decoded, image_in}
use Rattle.kernel_image.specs.Shown.{shown, timed_list}
use Rattle.kernel_model.proofs.Callers.{text_of-append}
use Rattle.undo_journal.specs.Undo.{IsAtRest}
use Rattle.nv_memory.proofs.Callers.{slice_index-blank_words}
use Rattle.thread_tree.specs.Program.{Program}
use Rattle.replay_list.specs.Kept.{counter_of}
use Rattle.intos_run.specs.Report.{is_formatted, goes_dark, before_last, cut_boots, last_boot, last_dump, report}
use Rattle.intos_run.specs.Runs.{budgets_of, lines_before_dump, StepsWithin}

-- a blank device isn't formatted
pub first-blank : (words : List ℕ) → words ≡ blank_words → slice_index words 0 ≡ 0
first-blank words is = ap (λ (w : List ℕ). slice_index w 0) is ∙ slice_index-blank_words 0

-- the budgets that were planned are those of the run
pub budgets-planned : (cuts : List ℕ) → budgets_of (first_budget cuts) (later_budgets cuts) ≡ cuts
budgets-planned [] = refl
budgets-planned (cut ∷ cuts) = refl

module _ (c : Course) (cuts first : List ℕ) (ends : List (List ℕ)) (words : List ℕ) (at_rest : IsAtRest words) (all : counter_of words ≡ last c)
    (live : goes_dark (first_budget (drop (length ends) cuts)) (before_last first ends) ≡ false) where
  -- the report of a run that came to the last event
  pub report-whole : text_of (lines_before_dump c cuts first ends) ++ text_of (last_dump c) ≡ report c cuts first ends words
  unfolding report last_boot
  report-whole =
      let formatted : is_formatted words ≡ true = grind (arith, nat_tests, at_rest.formatted) in
      let counts : (counter_of words == last c) ≡ true = grind (arith, nat_tests) in
      rw (live, formatted, counts)
      (sym (text_of-append (lines_before_dump c cuts first ends) (last_dump c))
      ∙ ap text_of (append_assoc (cut_boots c 1 cuts first ends) _ _))

-- what a call that succeeded ensures
pub on_ok : {T E : Type 0} (r : Result T E) (P : Type 0) → is_err r ≡ false → OnOk r P → P
on_ok (Ok value) P fine holds = holds
on_ok (Err error) P fine holds = absurd (let failed : true ≡ false = fine in cc)

-- the budgets of the planned device
pub budgets-of_planned : (cuts : List ℕ) (left : Option ℕ) (to_come : List ℕ) → left ≡ first_budget cuts → to_come ≡ later_budgets cuts → budgets_of left to_come ≡ cuts
budgets-of_planned cuts left to_come is_left is_to_come =
    ap (λ (b : Option ℕ). budgets_of b to_come) is_left ∙ ap (budgets_of (first_budget cuts)) is_to_come ∙ budgets-planned cuts

module _ (c : Course) (cuts planned first before : List ℕ) (ends done_ends : List (List ℕ)) (words done_words : List ℕ) (old middle new : Option (List ℕ))
    (is_cuts : planned ≡ cuts) (is_first : before ≡ first) (is_ends : ends ≡ done_ends) (is_words : words ≡ done_words)
    (at_rest : IsAtRest done_words) (all : counter_of done_words ≡ last c)
    (live : goes_dark (first_budget (drop (length done_ends) planned)) (before_last before done_ends) ≡ false)
    (begun : middle ≡ put_to old (text_of (lines_before_dump c planned before done_ends))) where
  -- the report is that of the run, whose device the dump leaves as it is
  same_report : report c planned before done_ends done_words ≡ report c cuts first ends words
  same_report = ap (λ (budgets : List ℕ). report c budgets before done_ends done_words) is_cuts
      ∙ ap (λ (f : List ℕ). report c cuts f done_ends done_words) is_first
      ∙ ap (λ (e : List (List ℕ)). report c cuts first e done_words) (sym is_ends)
      ∙ ap (report c cuts first ends) (sym is_words)

  pub put_whole : new ≡ put_to middle (text_of (last_dump c)) → new ≡ put_to old (report c cuts first ends words)
  put_whole dumped =
      dumped ∙ ap (λ (held : Option (List ℕ)). put_to held (text_of (last_dump c))) begun
      ∙ put_twice old _ _ ∙ ap (put_to old) (report-whole c planned before done_ends done_words at_rest all live ∙ same_report)

  pub part_whole : IsPart middle new (text_of (last_dump c)) → IsPart old new (report c cuts first ends words)
  part_whole part =
      subst (IsPart old new) (report-whole c planned before done_ends done_words at_rest all live ∙ same_report)
      (part_of_second old new _ _ (subst (λ (held : Option (List ℕ)). IsPart held new (text_of (last_dump c))) begun part))

-- where nobody is timed in a kernel, nobody is in the words that show it
pub nobody_timed : (p : Program) (d : Decoded) (K : State) → shown p d ≡ visible p K → kernel_timed K ≡ [] → timed_list d ≡ []
unfolding shown visible
nobody_timed p d K shows none = ap (λ (v : Visible). v.timed) shows ∙ none

-- the dump of what the words show is that of the kernel
pub dump_shown : (p : Program) (words same : List ℕ) (K : State) → words ≡ same → shown p (image_in same) ≡ visible p K
    → text_of (dump_lines (names_of p) (shown p (image_in words))) ≡ text_of (dump_lines (names_of p) (visible p K))
dump_shown p words same K is shows = ap (λ (v : Visible). text_of (dump_lines (names_of p) v)) (ap (λ (w : List ℕ). shown p (image_in w)) is ∙ shows)

-- the steps of a run are those of its boots, since the dump leaves the device as it is
pub same_steps : (c : Course) (old middle new : ℕ) (first planned : List ℕ) (ends done_ends : List (List ℕ)) (words done_words : List ℕ)
    → planned ≡ first → ends ≡ done_ends → words ≡ done_words → new ≡ middle → StepsWithin c old middle planned done_ends done_words → StepsWithin c old new first ends words
same_steps c old middle new first planned ends done_ends words done_words is_first is_ends is_words is_new within =
    subst (λ (f : List ℕ). StepsWithin c old new f ends words) is_first
    (subst (λ (e : List (List ℕ)). StepsWithin c old new planned e words) (sym is_ends)
    (subst (λ (w : List ℕ). StepsWithin c old new planned done_ends w) (sym is_words)
    (subst (λ (k : ℕ). StepsWithin c old k planned done_ends done_words) (sym is_new) within)))
