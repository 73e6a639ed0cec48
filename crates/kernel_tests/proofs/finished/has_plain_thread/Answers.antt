use Rattle.std.proofs.Common.{arith, ◌∙◌, ap, sym, slice_get}
use Rattle.std.proofs.lemmas.Bool.Decides.{nat_tests}
use Rattle.std.specs.Prelude.{Some}
use Rattle.thread_tree.specs.declared.tree.Tree.{Tree}
use Rattle.kernel_tests.proofs.TemplateLaws.{plain_template}
use Rattle.kernel_tests.proofs.finished.has_plain_thread.Goals as goal

pub returns-in-Queue-Thread : goal.returns-in-Queue-Thread
returns-in-Queue-Thread c =
    let q = c.in-Queue-Thread in
    let same = sym c.tree.ensures.same in
    let first = ap (λ (t : Tree). slice_get t.decls 0) same ∙ c.get.ensures ∙ ap Some q.is-0 in
    let second = ap (λ (t : Tree). slice_get t.decls 1) same ∙ c.get-2.ensures ∙ ap Some q.is-1 in
    record {
      template = λ none. plain_template c.args.program.now.decls q.field-0-0 q.field-1-0 q.field-2-0 q.field-0-1 q.parameters q.field-2-1 q.field-3-1 first second (grind (arith, nat_tests, none, c.len-in-Queue-Thread.ensures));
    }
