-- The lines behind a finished recovery, the first one and then the others.
use Rattle.std.proofs.Common.{◌≡◌, ℕ, List, [], ◌∷◌, Option, ap, subst, ◌∙◌}
use Rattle.outer_world.specs.Written.{IsPart, put_to}
use Rattle.thread_tree.specs.Program.{Program}
use Rattle.kernel_model.specs.Dump.{text_of}
use Rattle.kernel_model.specs.Kernel.{State}
use Rattle.kernel_dump.proofs.Callers.{part_of_line, part_of_lines, put_lines}
use Rattle.boot_report.specs.Lines.{begin_lines, replayed, start_line, thread_lines}

module _ (number undone : ℕ) (p : Program) (K : State) (events count : ℕ) (is_events : events ≡ K.events) (is_count : count ≡ replayed K) where
  start-same : start_line number events undone count ≡ start_line number K.events undone (replayed K)
  start-same =
      ap (λ (n : ℕ). start_line number n undone count) is_events ∙ ap (λ (n : ℕ). start_line number K.events undone n) is_count

  -- a part of the first line was put
  pub begin-first : (old now : Option (List ℕ)) → IsPart old now (text_of (start_line number events undone count ∷ []))
      → IsPart old now (text_of (begin_lines number undone p K))
  unfolding begin_lines
  begin-first old now part =
      part_of_line old now (start_line number K.events undone (replayed K)) (thread_lines number p 0 K.rows)
      (subst (λ (line : List ℕ). IsPart old now (text_of (line ∷ []))) start-same part)

  -- it was put, and a part of the others
  pub begin-part : (old now later : Option (List ℕ)) → now ≡ put_to old (text_of (start_line number events undone count ∷ []))
      → IsPart now later (text_of (thread_lines number p 0 K.rows)) → IsPart old later (text_of (begin_lines number undone p K))
  unfolding begin_lines
  begin-part old now later put part =
      part_of_lines old now later (start_line number K.events undone (replayed K)) (thread_lines number p 0 K.rows)
      (subst (λ (line : List ℕ). now ≡ put_to old (text_of (line ∷ []))) start-same put) part

  -- all were put
  pub begin-all : (old now later : Option (List ℕ)) → now ≡ put_to old (text_of (start_line number events undone count ∷ []))
      → later ≡ put_to now (text_of (thread_lines number p 0 K.rows)) → later ≡ put_to old (text_of (begin_lines number undone p K))
  unfolding begin_lines
  begin-all old now later put rest =
      put_lines old now later (start_line number K.events undone (replayed K)) (thread_lines number p 0 K.rows)
      (subst (λ (line : List ℕ). now ≡ put_to old (text_of (line ∷ []))) start-same put) rest
