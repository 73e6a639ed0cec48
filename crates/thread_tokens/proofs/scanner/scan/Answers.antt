use Rattle.std.proofs.Common.{◌≡◌, length, ap, sym, ◌∙◌, arith}
use Rattle.thread_tokens.specs.Scan.{Scan, ended, scan_of}
use Rattle.thread_tokens.specs.declared.ending.Ending.TheVariants.{End}
use Rattle.std.proofs.lemmas.Bool.Decides.{nat_tests}
use Rattle.thread_tokens.proofs.ScanOrder.{orderly}
use Rattle.thread_tokens.proofs.ScanLemmas.{begins, begins_with_room, step_end}
use Rattle.thread_tokens.proofs.scanner.scan.Goals as goal

pub loop-rest-init : goal.loop-rest-init
loop-rest-init c =
    let s = c.new-scanner.result in
    record {
      same = begins c.args.text.now s.tokens.items s.names s.place c.new-scanner.ensures.tokens c.new-scanner.ensures.names c.new-scanner.ensures.place;
      room = begins_with_room c.args.text.now s.names s.place c.new-scanner.ensures.names c.new-scanner.ensures.place c.requires.short;
    }

-- the whole scan, where nothing of the text is left
whole : (c : goal.In_ok-scanned) → scan_of c.args.text.now ≡ ended c.loop-rest.scanner.tokens.items c.loop-rest.scanner.names (End c.loop-rest.scanner.place)
whole c =
    let s = c.loop-rest.scanner in
    let empty : length c.loop-rest.rest.now ≡ 0 = grind (arith, nat_tests) in
    c.loop-rest.invariant.same ∙ step_end s.tokens.items s.names s.place c.loop-rest.rest.now empty

pub returns-clause-tokens : goal.returns-clause-tokens
returns-clause-tokens c = c.in_ok-scanned.ensures.tokens ∙ sym (ap (λ (scan : Scan). scan.tokens) (whole c))

pub returns-clause-names : goal.returns-clause-names
returns-clause-names c = c.in_ok-scanned.ensures.names ∙ sym (ap (λ (scan : Scan). scan.names) (whole c))

pub returns-clause-ending : goal.returns-clause-ending
returns-clause-ending c = c.in_ok-scanned.ensures.ending ∙ sym (ap (λ (scan : Scan). scan.ending) (whole c))

pub returns-clause-orderly : goal.returns-clause-orderly
returns-clause-orderly c =
    orderly c.args.text.now c.in_ok-scanned.scanned.tokens.items c.in_ok-scanned.scanned.names (c.in_ok-scanned.ensures.tokens ∙ sym (ap (λ (scan : Scan). scan.tokens) (whole c))) (c.in_ok-scanned.ensures.names ∙ sym (ap (λ (scan : Scan). scan.names) (whole c)))

pub returns-in-Ended-clause-orderly : goal.returns-in-Ended-clause-orderly
returns-in-Ended-clause-orderly c =
    let new = c.step.new.self in
    let scanned = c.in_ok-scanned-in-Ended.scanned in
    let stopped = rw c.in-Ended.is at c.in_ok-taken.ensures.goes_on in
    let all : scan_of c.args.text.now ≡ ended new.tokens.items new.names c.in-Ended.ending = c.loop-rest.invariant.same ∙ stopped in
    orderly c.args.text.now scanned.tokens.items scanned.names (c.in_ok-scanned-in-Ended.ensures.tokens ∙ sym (ap (λ (scan : Scan). scan.tokens) all)) (c.in_ok-scanned-in-Ended.ensures.names ∙ sym (ap (λ (scan : Scan). scan.names) all))
