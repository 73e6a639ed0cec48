-- What the top call is asked for.
use Rattle.std.specs.Prelude.{◌≡◌, ℕ, List, Option, Some, IfSome}
use Rattle.intos_run.specs.Command.{IsCommand}
use Rattle.thread_tree.specs.declared.tree.Tree.{Tree}
use Rattle.intos_run.specs.Program.{IsProgram}
use Rattle.intos_run.specs.Refusals.{RefusesText, line_of, status_of}
use Rattle.intos_run.specs.declared.refusal.Refusal.{Refusal}

-- a run: the name and the text of its program, the tree of that text, the number of events and the budgets
pub record Task : Type 0 where
  pub name : List ℕ
  pub text : List ℕ
  pub tree : Tree
  pub steps : ℕ
  pub cuts : List ℕ

-- the words ask for this run, and the files tell the text of its program, which is accepted and served
pub record Asks (words : List (List ℕ)) (contents : List ℕ → Option (List ℕ)) (task : Task) : Type 0 where
  pub command : IsCommand words task.name task.steps task.cuts
  pub told : contents task.name ≡ Some task.text
  pub accepted : IsProgram task.text task.tree

-- the words are a command, and where the files tell the text of its program it is accepted and served
abbrev pub AreAccepted : List (List ℕ) → (List ℕ → Option (List ℕ)) → Type 0
AreAccepted words contents =
    (name : List ℕ) × (steps : ℕ) × (cuts : List ℕ) × IsCommand words name steps cuts
    × IfSome (contents name) (λ text. (tree : Tree) × IsProgram text tree)

-- the line of a text that is refused, and why it is
abbrev pub IsRefusedBy : List ℕ → List ℕ → Type 0
IsRefusedBy text line = (refusal : Refusal) × (status_of refusal ≡ 4) × RefusesText text refusal × (line ≡ line_of refusal)
