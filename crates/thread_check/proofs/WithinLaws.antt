-- A program without a fault is within the limits.
use Rattle.std.proofs.Common.{◌≡◌, ℕ, ◌<◌, ◌^◌, List, [], ◌∷◌, length, None, All, Ok, Err, refl, arith}
use Rattle.std.proofs.lemmas.List.Elements.{All-tail}
use Rattle.thread_check.proofs.KeptLaws.{All-nil, All-cons}
use Rattle.thread_tree.specs.declared.tree.Tree.{Tree}
use Rattle.thread_tree.specs.declared.tree.Decl.{Decl}
use Rattle.thread_tree.specs.declared.tree.Decl.TheVariants as decl
use Rattle.thread_tree.specs.Actions.{actions}
use Rattle.thread_tree.specs.Program.{Body, Function, Template, names_of, sorted, program_of}
use Rattle.thread_tree.specs.Need.{Need, IsSmall, need_of_body, callees}
use Rattle.thread_tree.specs.Limits.{IsWithinLimits, IsSound}
use Rattle.thread_check.specs.Verdict.{Answer}
use Rattle.thread_check.specs.Declarations.{declarations_rule}
use Rattle.thread_check.specs.Faults.{fault_of, fault_in, no_names}
use Rattle.thread_check.proofs.FewLaws.{few_none}
use Rattle.thread_check.proofs.CountLaws.{length-kinds, length-objects, length-queues, length-semaphores, length-functions, length-templates, length-starts}
use Rattle.thread_check.proofs.KeptLaws.{each_kind, each_queue, each_semaphore, each_function, each_template, few_to_end}
use Rattle.thread_check.proofs.ProgramLoops.{program_has}
use Rattle.thread_check.proofs.KnownLaws.{program_objects, program_starts, program_arguments}
use Rattle.thread_check.proofs.FitLaws.{program_fits, functions_small}

-- an answer without a fault
record IsKept {A : Type 0} (answer : Answer A) : Type 0 where
  end : A
  kept : answer ≡ Ok end

-- no fault was found
no_fault : {A : Type 0} (answer : Answer A) → fault_in answer ≡ None → IsKept answer
no_fault (Ok a) none = record { end = a; kept = refl }
no_fault (Err fault) none = absurd (cc)

-- a program whose declarations are kept is within the limits
within_kept : (tree : Tree) (end : ℕ) → declarations_rule no_names 0 tree.decls ≡ Ok end → IsWithinLimits (program_of tree)
within_kept tree end kept =
    let few = few_to_end no_names 0 end tree.decls kept few_none in
    let loops = program_has tree end kept in
    record {
      kinds = omega (arith, length-kinds tree.decls, few.types);
      fields = each_kind no_names 0 end tree.decls kept;
      objects = omega (arith, length-objects tree.decls, few.objects);
      object_kinds = program_objects tree end kept;
      queues = omega (arith, length-queues tree.decls, few.queues);
      each_queue = each_queue no_names 0 end tree.decls kept;
      semaphores = omega (arith, length-semaphores tree.decls, few.semaphores);
      each_semaphore = each_semaphore no_names 0 end tree.decls kept;
      functions = omega (arith, length-functions tree.decls, few.functions);
      function_parameters = each_function no_names 0 end tree.decls kept;
      templates = omega (arith, length-templates tree.decls, few.threads);
      each_template = each_template no_names 0 end tree.decls kept;
      starts = omega (arith, length-starts tree.decls, few.starts);
      start_templates = program_starts tree end kept;
      start_arguments = program_arguments tree end kept;
      loop_count = loops.0;
      scopes = loops.1;
      needs = program_fits tree end kept;
    }

-- a program without a fault is within the limits
pub within : (tree : Tree) → fault_of tree ≡ None → IsWithinLimits (program_of tree)
unfolding fault_of
within tree none = let ok = no_fault (declarations_rule no_names 0 tree.decls) none in within_kept tree ok.end ok.kept

-- each function of a program without a fault has a small need
functions_within : (tree : Tree) → fault_of tree ≡ None → All (λ function. IsSmall (need_of_body (callees (program_of tree)) function.parameters function.body)) (program_of tree).functions
unfolding fault_of
functions_within tree none = let ok = no_fault (declarations_rule no_names 0 tree.decls) none in functions_small tree ok.end ok.kept

-- the bodies of declarations are those of their templates and functions
module _ (callee : ℕ → Need) where
  abbrev SmallBody : Body → Type 0
  SmallBody body = IsSmall (need_of_body callee body.parameters body.block)

  abbrev SmallTemplate : Template → Type 0
  SmallTemplate template = IsSmall (need_of_body callee template.parameters template.body)

  abbrev SmallFunction : Function → Type 0
  SmallFunction function = IsSmall (need_of_body callee function.parameters function.body)

  bodies_small : (ds : List Decl) → All SmallTemplate (sorted ds).templates → All SmallFunction (sorted ds).functions → All SmallBody (sorted ds).bodies
  bodies_small [] templates functions = All-nil SmallBody
  bodies_small (decl.Kind name fields ∷ ds) templates functions = bodies_small ds templates functions
  bodies_small (decl.Object name kind ∷ ds) templates functions = bodies_small ds templates functions
  bodies_small (decl.Queue name capacity channel ∷ ds) templates functions = bodies_small ds templates functions
  bodies_small (decl.Semaphore name count maximum ∷ ds) templates functions = bodies_small ds templates functions
  bodies_small (decl.Function name parameters body ∷ ds) templates functions =
      let this : Function = record { name = name.name; parameters = names_of parameters; body = body } in
      All-cons SmallBody (record { parameters = names_of parameters; block = body }) (sorted ds).bodies (functions 0 this (omega arith))
      (bodies_small ds templates (All-tail SmallFunction this (sorted ds).functions functions))
  bodies_small (decl.Thread name parameters priority body ∷ ds) templates functions =
      let this : Template = record { name = name.name; parameters = names_of parameters; priority = priority.value; body = body } in
      All-cons SmallBody (record { parameters = names_of parameters; block = body }) (sorted ds).bodies (templates 0 this (omega arith))
      (bodies_small ds (All-tail SmallTemplate this (sorted ds).templates templates) functions)
  bodies_small (decl.Start place name numbers ∷ ds) templates functions = bodies_small ds templates functions

-- a program without a fault, whose actions are few, is sound
pub sound : (tree : Tree) → fault_of tree ≡ None → length (actions (program_of tree)) < 2 ^ 32 → IsSound (program_of tree)
sound tree none few =
    let limits = within tree none in
    record {
      limits = limits;
      bodies = bodies_small (callees (program_of tree)) tree.decls limits.needs.templates (functions_within tree none);
      few = few;
    }
