-- When a row of the image stands for a row of the kernel, and a header of the heap for an object.
use Rattle.std.specs.Prelude.{◌≡◌, ℕ, ◌+◌, if◌then◌else◌, List, [], ◌∷◌, slice_index}
use Rattle.kernel_model.specs.Kernel as kernel
use Rattle.kernel_model.specs.Kernel.{Activity, Thread}
use Rattle.kernel_model.specs.Kernel.Activity.{Ready, Delayed, Waiting}
use Rattle.kernel_model.specs.Kernel.Row.{Free, Ended, Live}
use Rattle.kernel_model.specs.Visible.{Object}
use Rattle.kernel_image.specs.Decoded.{RowWords}
use Rattle.kernel_image.specs.Shown.{wait_of, number_of_what, static_mark}
use Rattle.kernel_image.specs.declared.layout.TheConstants.{READY, DELAYED, WAITING, ENDED, FREE}

-- the state of a row is what a thread does
abbrev pub Does : RowWords → Activity → Type 0
Does row Ready = row.state ≡ READY
Does row (Delayed wake) = (row.state ≡ DELAYED) × (row.wake ≡ wake)
Does row (Waiting wait) = (row.state ≡ WAITING) × (wait_of row ≡ wait) × (row.what ≡ number_of_what wait.what)

-- a row has the template, the priority and the stamp of a live thread, and does what it does
pub record IsThread (row : RowWords) (thread : Thread) : Type 0 where
  pub template : row.template ≡ thread.template
  pub priority : row.priority ≡ thread.priority
  pub stamp : row.stamp ≡ thread.stamp
  pub does : Does row thread.activity

-- a row of an ended thread
pub record IsEnded (row : RowWords) (number level cause : ℕ) : Type 0 where
  pub state : row.state ≡ ENDED
  pub template : row.template ≡ number
  pub priority : row.priority ≡ level
  pub code : row.code ≡ cause

-- a row stands for a row of the kernel
abbrev pub Agrees : RowWords → kernel.Row → Type 0
Agrees row Free = row.state ≡ FREE
Agrees row (Ended template priority code) = IsEnded row template priority code
Agrees row (Live thread) = IsThread row thread

-- the elements of two lists, one by one
abbrev pub Both : {X Y : Type 0} → (X → Y → Type 0) → List X → List Y → Type 0
Both R [] [] = Unit {0}
Both R [] (y ∷ ys) = ⊥
Both R (x ∷ xs) [] = ⊥
Both R (x ∷ xs) (y ∷ ys) = R x y × Both R xs ys

-- the header word of an object
abbrev pub header_of : Object → ℕ
header_of object = object.kind + 1 + (if object.is_static then static_mark else 0)

-- the heap has it where the object begins
abbrev pub HasHeader : List ℕ → Object → Type 0
HasHeader heap object = slice_index heap object.place ≡ header_of object
