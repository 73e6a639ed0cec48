-- The fault of a text is why its program is refused.
use Rattle.std.proofs.Common.{◌≡◌, ℕ, ◌≤◌, arith, List, length, Option, Some, None, Result, Ok, Err, IfErr, IfSome, refl, subst, inl}
use Rattle.thread_tree.specs.declared.tree.Tree.{Tree}
use Rattle.thread_tokens.specs.Scan.{scan_of}
use Rattle.thread_text.specs.declared.fault.TextFault.{TextFault}
use Rattle.thread_text.specs.declared.fault.TextFault.TheVariants as text_fault
use Rattle.thread_text.specs.Refusals.{Explains}
use Rattle.thread_text.specs.Verdict.{Answers, verdict}
use Rattle.intos_run.specs.declared.refusal.Refusal.{Refusal}
use Rattle.intos_run.specs.declared.refusal.Refusal.TheVariants.{Usage, ProgramUnread, ProgramTooLong, Faulty, ProgramNotYet, NoMemory}
use Rattle.intos_run.specs.Refusals.{refusal_of_text, RefusesText, RefusesProgram}

pub refuses : (text : List ℕ) (t : TextFault) → length text ≤ 65536 → Answers {X = Tree} (Err t) (verdict (scan_of text).tokens (scan_of text).ending) → Explains (scan_of text).tokens (scan_of text).ending t → RefusesText text (refusal_of_text t)
refuses text (text_fault.BadToken place) short answer says = (short, inl (text_fault.BadToken place, (answer, says), refl))
refuses text (text_fault.Expected place) short answer says = (short, inl (text_fault.Expected place, (answer, says), refl))
refuses text (text_fault.NumberTooLarge place) short answer says = (short, inl (text_fault.NumberTooLarge place, (answer, says), refl))
refuses text (text_fault.TooLong place) short answer says = (short, inl (text_fault.TooLong place, (answer, says), refl))
refuses text text_fault.NoMemory short answer says = tt

-- what is said of a text that was read, of the bytes that are told
if_told : (told : Option (List ℕ)) (text : List ℕ) (P : List ℕ → Type 0) → IfSome told (λ bytes. text ≡ bytes) → P text → IfSome told P
if_told None text P same said = tt
if_told (Some bytes) text P same said = subst P same said

-- why the text of a whole file is refused is why the program is
program_refused : (told : Option (List ℕ)) (text : List ℕ) (taken taken_now faults faults_now : ℕ) (refusal : Refusal) → length text ≤ 65536 → IfSome told (λ bytes. text ≡ bytes) → faults_now ≡ faults → RefusesText text refusal → RefusesProgram told taken taken_now faults faults_now refusal
program_refused told text taken taken_now faults faults_now Usage short same calm why = absurd why
program_refused told text taken taken_now faults faults_now ProgramUnread short same calm why = absurd why
program_refused told text taken taken_now faults faults_now ProgramTooLong short same calm why = absurd (omega (arith, short, why))
program_refused told text taken taken_now faults faults_now (Faulty place f) short same calm why = (calm, if_told told text (λ t. RefusesText t (Faulty place f)) same why)
program_refused told text taken taken_now faults faults_now ProgramNotYet short same calm why = (calm, if_told told text (λ t. RefusesText t ProgramNotYet) same why)
program_refused told text taken taken_now faults faults_now NoMemory short same calm why = calm

pub answer_refused : {X : Type 0} (answer : Result X Refusal) (told : Option (List ℕ)) (text : List ℕ) (taken taken_now faults faults_now : ℕ) → length text ≤ 65536 → IfSome told (λ bytes. text ≡ bytes) → faults_now ≡ faults → IfErr answer (RefusesText text) → IfErr answer (RefusesProgram told taken taken_now faults faults_now)
answer_refused (Ok x) told text taken taken_now faults faults_now short same calm why = tt
answer_refused (Err refusal) told text taken taken_now faults faults_now short same calm why = program_refused told text taken taken_now faults faults_now refusal short same calm why
