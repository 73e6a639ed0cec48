-- What the words keep.
use Rattle.std.proofs.Common.{◌≡◌, ℕ, ◌+◌, ◌-◌, ◌*◌, ◌≤◌, refl, ap, subst, ◌∙◌, arith}
use Rattle.nv_memory.specs.declared.nv.Nv.{Ghosts}
use Rattle.nv_memory.specs.Budget.{IsShort}
use Rattle.undo_journal.specs.Lending.{IsWithin}
use Rattle.undo_journal.proofs.Callers.{IsLent-same, IsLent-then, IsWithin-none, IsWithin-then, IsShort-IsWithin}
use Rattle.kernel_image.specs.Decoded.{Decoded, image_in}
use Rattle.kernel_model.specs.Sound.{AreSoundObjects}
use Rattle.persistent_objects.specs.Objects.{objects_of}
use Rattle.thread_tree.specs.Program.{Program}
use Rattle.user_transactions.specs.Works.{Keeps}

-- words that stay as they are
pub keeps_same : {N : Type 0} (g : Ghosts N) (p : Program) (n : N) (more : ℕ) → AreSoundObjects p (objects_of p (image_in (g.words n))) → Keeps g p n n more
keeps_same g p n more sound = record {
  frame = refl;
  sound = sound;
  layout = λ link layout. layout;
  lent = IsLent-same g n;
  within = IsWithin-none g n more;
}

-- one after another
pub keeps_then : {N : Type 0} (g : Ghosts N) (p : Program) (first second third : N) (a b c : ℕ) → a ≤ b → b ≤ c → Keeps g p first second (b - a) → Keeps g p second third (c - b) → Keeps g p first third (c - a)
keeps_then g p first second third a b c le more x y =
    let sum : b - a + (c - b) ≡ c - a = omega arith in
    record {
      frame = y.frame ∙ ap (λ (d : Decoded). record d { heap = (image_in (g.words third)).heap }) x.frame;
      sound = y.sound;
      layout = λ link layout. y.layout link (x.layout link layout);
      lent = IsLent-then g first second third x.lent y.lent;
      within = subst (λ (n : ℕ). IsWithin g first third n) sum (IsWithin-then g first second third (b - a) (c - b) x.within y.within);
    }

-- fewer writes than were needed behind what was kept are fewer than were needed before
pub short_before : {N : Type 0} (g : Ghosts N) (p : Program) (first second : N) (a b : ℕ) → a ≤ b → b ≤ 64 → Keeps g p first second (b - a) → IsShort (g.left second) (4 * (64 - b)) → IsShort (g.left first) (4 * (64 - a))
short_before g p first second a b le few x short =
    let sum : b - a + (64 - b) ≡ 64 - a = omega arith in
    subst (λ (n : ℕ). IsShort (g.left first) (4 * n)) sum (IsShort-IsWithin g first second (b - a) (64 - b) x.within short)

pub ruleset keep_laws = (keeps_same)
