-- The first template of a program that declares a queue and then a thread without parameters.
use Rattle.std.proofs.Common.{arith, ◌≡◌, List, [], ◌∷◌, refl, subst}
use Rattle.std.specs.Prelude.{Option, Some, None, IsSomeAnd, length, slice_get}
use Rattle.thread_tree.specs.declared.block.Block.{Block}
use Rattle.thread_tree.specs.declared.place.At.{At}
use Rattle.thread_tree.specs.declared.place.Num.{Num}
use Rattle.thread_tree.specs.declared.tree.Decl.{Decl}
use Rattle.thread_tree.specs.declared.tree.Decl.TheVariants as decl
use Rattle.thread_tree.specs.Program.{Template, names_of, sorted}

-- no names of none
no_names : (names : List At) → 0 ≡ length names → 0 ≡ length (names_of names)
no_names [] none = refl
no_names (a ∷ names) none = omega (arith, none)

-- template 0 has no parameters
pub plain_template : (ds : List Decl) (q : At) (capacity : Num) (channel : Option Num) (t : At) (names : List At) (priority : Num) (body : Block) → slice_get ds 0 ≡ Some (decl.Queue q capacity channel) → slice_get ds 1 ≡ Some (decl.Thread t names priority body) → 0 ≡ length names → IsSomeAnd (slice_get (sorted ds).templates 0) (λ (found : Template). 0 ≡ length found.parameters)
plain_template [] q capacity channel t names priority body first second none =
    absurd (let f : ◌≡◌ {A = Option Decl} None (Some (decl.Queue q capacity channel)) = first in cc)
plain_template (a ∷ []) q capacity channel t names priority body first second none =
    absurd (let f : ◌≡◌ {A = Option Decl} None (Some (decl.Thread t names priority body)) = second in cc)
plain_template (a ∷ b ∷ ds) q capacity channel t names priority body first second none =
    let one : decl.Queue q capacity channel ≡ a = (let f : ◌≡◌ {A = Option Decl} (Some a) (Some (decl.Queue q capacity channel)) = first in cc) in
    let two : decl.Thread t names priority body ≡ b = (let f : ◌≡◌ {A = Option Decl} (Some b) (Some (decl.Thread t names priority body)) = second in cc) in
    subst (λ (x : Decl). IsSomeAnd (slice_get (sorted (x ∷ b ∷ ds)).templates 0) (λ (found : Template). 0 ≡ length found.parameters)) one
    (subst (λ (y : Decl). IsSomeAnd (slice_get (sorted (decl.Queue q capacity channel ∷ y ∷ ds)).templates 0) (λ (found : Template). 0 ≡ length found.parameters)) two (no_names names none))
