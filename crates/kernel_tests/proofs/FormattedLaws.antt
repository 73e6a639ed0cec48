-- A formatted device that was settled has sound objects.
use Rattle.std.proofs.Common.{◌≡◌, ℕ, List, ap, sym, subst, ◌∙◌}
use Rattle.undo_journal.specs.Undo.{undone, IsAtRest}
use Rattle.undo_journal.proofs.Callers.{undone-at_rest}
use Rattle.thread_tree.specs.Program.{Program}
use Rattle.kernel_model.specs.Run.{initial}
use Rattle.kernel_model.specs.Show.{visible}
use Rattle.kernel_model.specs.Sound.{IsSound, AreSoundObjects}
use Rattle.kernel_model.specs.Visible.{Visible}
use Rattle.kernel_image.specs.Decoded.{decoded_of, image_in}
use Rattle.kernel_image.specs.Initial.{initial_cell}
use Rattle.kernel_image.specs.Shown.{shown}
use Rattle.persistent_objects.specs.Objects.{objects_of}

pub formatted_objects : (p : Program) (words new : List ℕ) → IsAtRest words → new ≡ undone words → image_in words ≡ decoded_of (initial_cell p) → shown p (decoded_of (initial_cell p)) ≡ visible p (initial p) → IsSound p (initial p) → AreSoundObjects p (objects_of p (image_in new))
unfolding shown visible
formatted_objects p words new rest is image shows sound =
    let same : image_in new ≡ decoded_of (initial_cell p) = ap (λ (ws : List ℕ). image_in ws) (is ∙ undone-at_rest words rest) ∙ image in
    let objects : objects_of p (decoded_of (initial_cell p)) ≡ (initial p).objects = ap (λ (v : Visible). v.objects) shows in
    subst (AreSoundObjects p) (sym (ap (objects_of p) same ∙ objects)) sound.objects
