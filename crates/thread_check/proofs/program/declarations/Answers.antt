-- Each declaration is one step of the rule for the declarations that are left.
use Rattle.std.proofs.Common.{◌∙◌, sym, ◌+◌, drop, arith, ap, [], Ok, ◌≡◌}
use Rattle.thread_check.specs.Declarations.{declaration_rule, declarations_rule, with_function}
use Rattle.thread_check.proofs.FewLaws.{few_none, few_after}
use Rattle.thread_check.proofs.ProgramLaws.{first_names, declarations_rule-next, declarations_rule-stops, told}
use Rattle.thread_check.proofs.Steps.{take_at}
use Rattle.thread_check.proofs.program.declarations.Goals as goal

pub loop-i-init : goal.loop-i-init
loop-i-init c = record {
  few = few_none;
  loops = omega arith;
  same = ap (λ functions. declarations_rule (first_names [] 0 functions) 0 c.args.decls.now) c.new-functions.ensures.items;
}

pub returns-in-Err-clause-err : goal.returns-in-Err-clause-err
returns-in-Err-clause-err c =
    told _ c.in-Err.fault (sym c.loop-i.invariant.same ∙ declarations_rule-stops c.args.decls.now c.loop-i.i _ c.loop-i.loops _ _ c.get-decl.ensures (sym c.declare_at.ensures ∙ c.in-Err.is))

pub loop-i-preserved : goal.loop-i-preserved
loop-i-preserved c =
    let kept : declaration_rule (first_names c.args.decls.now c.loop-i.i c.loop-i.functions.items) c.loop-i.loops c.get-decl.result.now ≡ Ok c.in-Ok.scope = sym c.declare_at.ensures ∙ c.in-Ok.is in
    record {
      few = rw (take_at c.args.decls.now c.loop-i.i _ c.get-decl.ensures) (few_after _ _ _ _ kept c.loop-i.invariant.few);
      loops = c.loops-loops.ensures.most;
      same =
          ap (λ functions. declarations_rule (first_names c.args.decls.now (c.loop-i.i + 1) functions) c.loops-loops.result (drop (c.loop-i.i + 1) c.args.decls.now)) (c.in-Ok-add_function.ensures ∙ ap (λ peak. with_function c.get-decl.result.now peak c.loop-i.functions.items) c.peak.ensures)
          ∙ ap (λ loops. declarations_rule (first_names c.args.decls.now (c.loop-i.i + 1) (with_function c.get-decl.result.now c.in-Ok.scope.peak c.loop-i.functions.items)) loops (drop (c.loop-i.i + 1) c.args.decls.now)) c.loops-loops.ensures.count
          ∙ sym (declarations_rule-next c.args.decls.now c.loop-i.i _ c.loop-i.loops _ _ c.get-decl.ensures kept)
          ∙ c.loop-i.invariant.same;
    }
