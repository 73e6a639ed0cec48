-- What was read is what was asked for.
use Rattle.std.proofs.Common.{◌≡◌, ℕ, List, Option, Some, None, true, false, inl, inr, sym, ◌∙◌, ap, subst, refl, arith}
use Rattle.std.specs.Prelude.{IfSome}
use Rattle.thread_tree.specs.declared.tree.Tree.{Tree}
use Rattle.thread_text.specs.Verdict.{Verdict, Fine, Faulty as found}
use Rattle.thread_text.specs.declared.fault.TextFault.{TextFault}
use Rattle.thread_text.specs.declared.fault.TextFault.TheVariants as text_fault
use Rattle.thread_check.specs.Faults.{fault_of, IsTold}
use Rattle.thread_check.specs.declared.fault.CheckFault.{CheckFault}
use Rattle.thread_check.specs.declared.fault.CheckFault.TheVariants as check_fault
use Rattle.accepted_program.proofs.Callers.{one_tree}
use Rattle.outer_world.specs.Causes.{Rose}
use Rattle.intos_run.specs.Command.{IsCommand}
use Rattle.served_program.specs.Served.{is_served}
use Rattle.intos_run.specs.Program.{IsProgram}
use Rattle.intos_run.specs.Refusals.{status_of, line_of, refusal_of_text, refusal_of_check, IsTextFault, RefusesText, RefusesRun, Tells}
use Rattle.intos_run.specs.Top.{Task, Asks, IsRefusedBy}
use Rattle.intos_run.specs.declared.refusal.Refusal.{Refusal}
use Rattle.intos_run.specs.declared.refusal.Refusal.TheVariants.{Usage, ProgramUnread, ProgramTooLong, Faulty, ProgramNotYet, NoMemory}
use Rattle.intos_run.proofs.Commands.{IsCommand-unique}

-- a fact of an option that is known
pub at_some : {T : Type 0} (o : Option T) (P : T → Type 0) (value : T) → o ≡ Some value → IfSome o P → P value
at_some {T} o P value is holds = subst (λ (x : Option T). IfSome x P) is holds

-- a text has one program
one_program : (text : List ℕ) (t u : Tree) → IsProgram text t → IsProgram text u → t ≡ u
one_program text t u first second = one_tree text t u first.accepted.spelling second.accepted.spelling

-- the job that was read is the task that is asked for
pub record IsTask (tree : Tree) (steps : ℕ) (cuts : List ℕ) (task : Task) : Type 0 where
  pub tree_is : tree ≡ task.tree
  pub steps_is : steps ≡ task.steps
  pub cuts_is : cuts ≡ task.cuts

pub same_task : (words : List (List ℕ)) (contents : List ℕ → Option (List ℕ)) (tree : Tree) (steps : ℕ) (cuts : List ℕ) (task : Task)
    → (name : List ℕ) × IsCommand words name steps cuts × IfSome (contents name) (λ text. IsProgram text tree) → Asks words contents task → IsTask tree steps cuts task
same_task words contents tree steps cuts task read asks =
    let unique = IsCommand-unique words read.0 task.name steps task.steps cuts task.cuts read.1 asks.command in
    let told : contents read.0 ≡ Some task.text = ap contents unique.0 ∙ asks.told in
    record {
      tree_is = one_program task.text tree task.tree (at_some (contents read.0) (λ text. IsProgram text tree) task.text told read.2) asks.accepted;
      steps_is = unique.1;
      cuts_is = unique.2;
    }

-- what holds of the job holds of the task
pub for_task : (P : Tree → ℕ → List ℕ → Type 0) (tree : Tree) (steps : ℕ) (cuts : List ℕ) (task : Task) → IsTask tree steps cuts task → P tree steps cuts → P task.tree task.steps task.cuts
for_task P tree steps cuts task is holds =
    subst (λ (c : List ℕ). P task.tree task.steps c) is.cuts_is (subst (λ (n : ℕ). P task.tree n cuts) is.steps_is (subst (λ (t : Tree). P t steps cuts) is.tree_is holds))

module _ (words : List (List ℕ)) (contents : List ℕ → Option (List ℕ)) (taken taken_now faults faults_now sink_faults sink_faults_now : ℕ) (old new : Option (List ℕ)) where
  -- a text that is told, of the program that is refused
  text_refused : (refusal : Refusal) (name : List ℕ) (steps : ℕ) (cuts text : List ℕ) → IsCommand words name steps cuts → contents name ≡ Some text
      → (why : (n : List ℕ) × (s : ℕ) × (c : List ℕ) × IsCommand words n s c × IfSome (contents n) (λ t. RefusesText t refusal)) → RefusesText text refusal
  text_refused refusal name steps cuts text command told why =
      let same = IsCommand-unique words why.0 name why.1 steps why.2 cuts why.3 command in
      at_some (contents why.0) (λ t. RefusesText t refusal) text (ap contents same.0 ∙ told) why.4

  -- why a run ends with status 4
  pub refused : (refusal : Refusal) → status_of refusal ≡ 4 → RefusesRun words contents taken taken_now faults faults_now refusal → Tells (line_of refusal) old new sink_faults sink_faults_now
      → (name : List ℕ) (steps : ℕ) (cuts : List ℕ) (text : List ℕ) → IsCommand words name steps cuts → contents name ≡ Some text
      → (line : List ℕ) × IsRefusedBy text line × Tells line old new sink_faults sink_faults_now
  refused Usage is why tells name steps cuts text command told = absurd (omega (arith, is))
  refused ProgramUnread is why tells name steps cuts text command told = absurd (omega (arith, is))
  refused NoMemory is why tells name steps cuts text command told = absurd (omega (arith, is))
  refused ProgramTooLong is why tells name steps cuts text command told =
      (line_of ProgramTooLong, (ProgramTooLong, is, text_refused ProgramTooLong name steps cuts text command told (why.0, why.1, why.2, why.3, why.4.2), refl), tells)
  refused (Faulty place f) is why tells name steps cuts text command told =
      (line_of (Faulty place f), (Faulty place f, is, text_refused (Faulty place f) name steps cuts text command told (why.0, why.1, why.2, why.3, why.4.1), refl), tells)
  refused ProgramNotYet is why tells name steps cuts text command told =
      (line_of ProgramNotYet, (ProgramNotYet, is, text_refused ProgramNotYet name steps cuts text command told (why.0, why.1, why.2, why.3, why.4.1), refl), tells)

fine_found : (v : Verdict) (t : TextFault) → v ≡ Fine → v ≡ found t → ⊥
fine_found v t fine faulty = let e : Fine ≡ found t = sym fine ∙ faulty in cc

-- a text that has a fault has no tree that is accepted
not_faulty : (text : List ℕ) (tree : Tree) (t : TextFault) (refusal : Refusal) → IsProgram text tree → IsTextFault text t → refusal_of_text t ≡ refusal → status_of refusal ≡ 7
not_faulty text tree (text_fault.BadToken place) refusal program fault is = absurd (fine_found _ _ program.accepted.spelling.fine fault.0)
not_faulty text tree (text_fault.Expected place) refusal program fault is = absurd (fine_found _ _ program.accepted.spelling.fine fault.0)
not_faulty text tree (text_fault.NumberTooLarge place) refusal program fault is = absurd (fine_found _ _ program.accepted.spelling.fine fault.0)
not_faulty text tree (text_fault.TooLong place) refusal program fault is = absurd (fine_found _ _ program.accepted.spelling.fine fault.0)
not_faulty text tree text_fault.NoMemory refusal program fault is = ap status_of (sym is)

None-Some : {T : Type 0} (a : T) → None ≡ Some a → ⊥
None-Some a same = cc

-- a tree that is accepted breaks no rule
not_broken : (tree : Tree) (c : CheckFault) (refusal : Refusal) → fault_of tree ≡ None → IsTold (fault_of tree) c → refusal_of_check c ≡ refusal → status_of refusal ≡ 7
not_broken tree (check_fault.UnknownName place) refusal accepted fault is = absurd (None-Some _ (sym accepted ∙ fault))
not_broken tree (check_fault.TwiceNamed place) refusal accepted fault is = absurd (None-Some _ (sym accepted ∙ fault))
not_broken tree (check_fault.NotAllowedHere place) refusal accepted fault is = absurd (None-Some _ (sym accepted ∙ fault))
not_broken tree (check_fault.WrongCount place) refusal accepted fault is = absurd (None-Some _ (sym accepted ∙ fault))
not_broken tree (check_fault.OutOfRange place n) refusal accepted fault is = absurd (None-Some _ (sym accepted ∙ fault))
not_broken tree (check_fault.TooMany place k n) refusal accepted fault is = absurd (None-Some _ (sym accepted ∙ fault))
not_broken tree check_fault.NoMemory refusal accepted fault is = ap status_of (sym is)

-- a program that is accepted and served isn't refused
not_refused : (text : List ℕ) (tree : Tree) (refusal : Refusal) → IsProgram text tree → RefusesText text refusal → status_of refusal ≡ 7
not_refused text tree Usage program why = absurd why
not_refused text tree ProgramUnread program why = absurd why
not_refused text tree ProgramTooLong program why = absurd (omega (arith, why, program.short))
not_refused text tree (Faulty place f) program why = elim why.1 [
  | inl t ↦ not_faulty text tree t.0 (Faulty place f) program t.1 t.2
  | inr t ↦ not_broken t.0 t.1 (Faulty place f) (subst (λ (u : Tree). fault_of u ≡ None) (one_tree text tree t.0 program.accepted.spelling t.2) program.accepted.checked) t.3 t.4
]
not_refused text tree ProgramNotYet program why =
    absurd (let both : false ≡ true = sym why.1.2 ∙ ap is_served (one_tree text why.1.0 tree why.1.1.spelling program.accepted.spelling) ∙ program.serves in cc)
not_refused text tree NoMemory program why = refl

module _ (words : List (List ℕ)) (contents : List ℕ → Option (List ℕ)) (task : Task) (asks : Asks words contents task) where
  -- the text that is asked for isn't refused
  asked : (refusal : Refusal) → (n : List ℕ) × (s : ℕ) × (c : List ℕ) × IsCommand words n s c × IfSome (contents n) (λ t. RefusesText t refusal) → status_of refusal ≡ 7
  asked refusal why =
      let same = IsCommand-unique words why.0 task.name why.1 task.steps why.2 task.cuts why.3 asks.command in
      not_refused task.text task.tree refusal asks.accepted (at_some (contents why.0) (λ t. RefusesText t refusal) task.text (ap contents same.0 ∙ asks.told) why.4)

-- a run that was asked for and that no fault of the files met isn't refused but for memory
pub refused_for_memory : (words : List (List ℕ)) (contents : List ℕ → Option (List ℕ)) (taken taken_now faults faults_now : ℕ) (refusal : Refusal) → RefusesRun words contents taken taken_now faults faults_now refusal → (task : Task) → Asks words contents task
    → (Rose faults faults_now → ⊥) → status_of refusal ≡ 7
refused_for_memory words contents taken taken_now faults faults_now Usage why task asks calm = absurd (why.1 task.name task.steps task.cuts asks.command)
refused_for_memory words contents taken taken_now faults faults_now ProgramUnread why task asks calm = absurd (calm why.4)
refused_for_memory words contents taken taken_now faults faults_now NoMemory why task asks calm = refl
refused_for_memory words contents taken taken_now faults faults_now ProgramTooLong why task asks calm =
    asked words contents task asks ProgramTooLong (why.0, why.1, why.2, why.3, why.4.2)
refused_for_memory words contents taken taken_now faults faults_now (Faulty place f) why task asks calm =
    asked words contents task asks (Faulty place f) (why.0, why.1, why.2, why.3, why.4.1)
refused_for_memory words contents taken taken_now faults faults_now ProgramNotYet why task asks calm =
    asked words contents task asks ProgramNotYet (why.0, why.1, why.2, why.3, why.4.1)
