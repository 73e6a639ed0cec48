-- The faults of declarations: the first of them, and where they are met.
use Rattle.std.proofs.Common.{ℕ, ◌+◌, true, if◌then◌else◌, List, [], ◌∷◌, ◌++◌, length, Option, Some, None, Err, arith}
use Rattle.thread_tree.specs.declared.place.At.{At}
use Rattle.thread_tree.specs.declared.place.Num.{Num}
use Rattle.thread_tree.specs.declared.token.Placed.{Placed}
use Rattle.thread_tree.specs.declared.tree.Decl.{Decl}
use Rattle.thread_tree.specs.declared.tree.Decl.TheVariants as decl
use Rattle.thread_tree.specs.Spelling.{SpellsNames, SpellsNumber, Separated, one as one_thing, more}
use Rattle.thread_tree.specs.SpellingOfDeclarations.{SpellsParameters, no_parameters, parameters, SpellsNumbers, no_numbers, numbers, SpellsChannel, no_channel, channel, SpellsDecl, kind, object, queue, semaphore, function, thread, start, SpellsDecls, no_decls, decls}
use Rattle.thread_check.specs.declared.fault.Kind.{Kind}
use Rattle.thread_check.specs.declared.fault.Kind.TheVariants as counted
use Rattle.thread_check.specs.declared.fault.CheckFault.TheVariants.{TwiceNamed}
use Rattle.thread_check.specs.Verdict.{fine, same_count, in_range, within_limit}
use Rattle.thread_check.specs.Scope.{Scope, no_scope, with_local}
use Rattle.thread_check.specs.Names.{Names, sort_of_declaration, arity}
use Rattle.thread_check.specs.Uses.{fresh}
use Rattle.thread_check.specs.Calls.{once}
use Rattle.thread_check.specs.Statements.{block_rule}
use Rattle.thread_check.specs.Declarations.{count_of, with_declaration, declared, field_declared, fields_rule, is_taken, channel_rule, parameter_declared, parameters_rule, declaration_rule, after_declaration, declarations_rule}
use Rattle.fault_places.specs.Sorts.{used_as_kind, used_as_thread}
use Rattle.fault_places.specs.OfDeclarations.{declared_faults, field_declared_faults, fields_faults, channel_faults, parameter_faults, parameters_walk, declaration_walk, declarations_walk}
use Rattle.fault_places.specs.OfStatements.{block_walk}
use Rattle.fault_places.proofs.Answers.{Finds, Gives, one, none, both, left_as, ahead, passes, joined}
use Rattle.fault_places.proofs.Ways.{AreIn, raised, Meets, none_met, at_both, then_way, meet, meet_last, skip, skip_placed, then_last}
use Rattle.fault_places.proofs.Places.{used_at, fresh_at, once_at, count_at, range_at, limit_at, twice_at}
use Rattle.fault_places.proofs.Statements.{block_of_body_walked}

-- the fields of a type
fields_find : (before ats : List At) → Finds (fields_rule before ats) (fields_faults before ats)
unfolding field_declared
fields_find before [] = none
fields_find before (at ∷ ats) =
    both (both (one (once before at)) (one (within_limit at.place counted.Fields 10 (length before + 1)))) (fields_find (before ++ at ∷ []) ats)

field_at : (before : List At) (at : At) → AreIn at.place 5 0 (field_declared_faults before at)
field_at before at = at_both (raised 5 (omega arith) (once_at before at)) (limit_at at.place counted.Fields 10 (length before + 1))

fields_met : {a b : List Placed} (before : List At) {ats : List At} → SpellsNames a b ats → Meets a b (fields_faults before ats)
fields_met before (one_thing {x = at} d) = meet d (field_at before at) none_met
fields_met before (more {x = at} d c rest) = meet d (field_at before at) (skip c (fields_met (before ++ at ∷ []) rest))

-- numbers in parentheses, of which no rule asks anything
numbers_met : {a b : List Placed} {ns : List Num} → Separated SpellsNumber a b ns → Meets a b []
numbers_met (one_thing d) = skip_placed d none_met
numbers_met (more d c rest) = skip_placed d (skip c (numbers_met rest))

all_numbers_met : {a b : List Placed} {ns : List Num} → SpellsNumbers a b ns → Meets a b []
all_numbers_met (no_numbers c) = skip c none_met
all_numbers_met (numbers l c) = then_last (numbers_met l) c

module _ (names : Names) where
  -- the name of a declaration
  declared_finds : (d : Decl) (kind_of : Kind) (limit : ℕ) (at : At) → Finds (declared names (sort_of_declaration d) kind_of limit at) (declared_faults names d kind_of limit at)
  unfolding declared
  declared_finds d kind_of limit at =
      both (one (fresh names (no_scope 0) at)) (one (within_limit at.place kind_of limit (count_of (sort_of_declaration d) names.declarations + 1)))

  declared_at : (d : Decl) (kind_of : Kind) (limit : ℕ) (at : At) → AreIn at.place 5 0 (declared_faults names d kind_of limit at)
  declared_at d kind_of limit at =
      at_both (fresh_at names (no_scope 0) at) (limit_at at.place kind_of limit (count_of (sort_of_declaration d) names.declarations + 1))

  -- an input channel
  channel_finds : (input : Option Num) → Finds (channel_rule names input) (channel_faults names input)
  unfolding channel_rule channel_faults
  channel_finds None = none
  channel_finds (Some number) =
      both (one (if is_taken number.value names.declarations then Err (TwiceNamed number.place) else fine)) (one (in_range number 0 15))

  channel_met : {a b : List Placed} {input : Option Num} → SpellsChannel a b input → Meets a b (channel_faults names input)
  unfolding channel_faults
  channel_met (no_channel m) = skip m none_met
  channel_met (channel {n = number} i n m) =
      skip i (then_last (meet_last n (at_both (twice_at number.place (is_taken number.value names.declarations)) (range_at number 0 15))) m)

  -- parameters
  parameters_give : (ats : List At) (scope : Scope) → Gives (parameters_rule names ats scope) (parameters_walk names ats scope)
  unfolding parameter_declared
  parameters_give [] scope = left_as scope
  parameters_give (at ∷ ats) scope =
      ahead (both (one (fresh names scope at)) (one (within_limit at.place counted.Parameters 8 (length scope.locals + 1)))) (parameters_give ats (with_local at.name scope))

  parameter_at : (scope : Scope) (at : At) → AreIn at.place 5 0 (parameter_faults names scope at)
  parameter_at scope at = at_both (fresh_at names scope at) (limit_at at.place counted.Parameters 8 (length scope.locals + 1))

  some_parameters_met : {a b : List Placed} (scope : Scope) {ats : List At} → SpellsNames a b ats → Meets a b (parameters_walk names ats scope).faults
  some_parameters_met scope (one_thing {x = at} d) = meet d (parameter_at scope at) none_met
  some_parameters_met scope (more {x = at} d c rest) = meet d (parameter_at scope at) (skip c (some_parameters_met (with_local at.name scope) rest))

  parameters_met : {a b : List Placed} (scope : Scope) {ats : List At} → SpellsParameters a b ats → Meets a b (parameters_walk names ats scope).faults
  parameters_met scope (no_parameters c) = skip c none_met
  parameters_met scope (parameters l c) = then_last (some_parameters_met scope l) c

-- what holds of a declaration, whatever names are in scope
pub record IsDeclared (before after : List Placed) (d : Decl) : Type 0 where
  pub gives : (names : Names) (loops : ℕ) → Gives (declaration_rule names loops d) (declaration_walk names loops d)
  pub met : (names : Names) (loops : ℕ) → Meets before after (declaration_walk names loops d).faults

pub declaration_walked : {a b : List Placed} {d : Decl} → SpellsDecl a b d → IsDeclared a b d
unfolding declaration_rule declaration_walk sort_of_declaration
declaration_walked (kind {name} {fields} t n o l c) = record {
  gives = λ names loops. ahead (declared_finds names (decl.Kind name fields) counted.Types 32 name) (ahead (fields_find [] fields) (left_as (no_scope loops)));
  met = λ names loops. skip t (meet n (declared_at names (decl.Kind name fields) counted.Types 32 name) (skip o (then_way (fields_met [] l) (skip c none_met))));
}
declaration_walked (object {name} {kind = type_name} t n o k m) = record {
  gives = λ names loops. ahead (declared_finds names (decl.Object name type_name) counted.Objects 64 name) (ahead (one (used_as_kind (with_declaration (decl.Object name type_name) names) (no_scope loops) type_name)) (left_as (no_scope loops)));
  met = λ names loops. skip t (meet n (declared_at names (decl.Object name type_name) counted.Objects 64 name) (skip o (meet k (used_at (with_declaration (decl.Object name type_name) names) (no_scope loops) _ type_name) (skip m none_met))));
}
declaration_walked (queue {name} {capacity} {end} t n o s c i) = record {
  gives = λ names loops. ahead (declared_finds names (decl.Queue name capacity end) counted.Queues 16 name) (ahead (one (in_range capacity 1 48)) (ahead (channel_finds names end) (left_as (no_scope loops))));
  met = λ names loops. skip t (meet n (declared_at names (decl.Queue name capacity end) counted.Queues 16 name) (skip o (meet s (range_at capacity 1 48) (skip c (then_way (channel_met names i) none_met)))));
}
declaration_walked (semaphore {name} {start = count} {most} t n q s x g m) = record {
  gives = λ names loops. ahead (declared_finds names (decl.Semaphore name count most) counted.Semaphores 16 name) (ahead (one (in_range count 0 most.value)) (ahead (one (in_range most 1 65535)) (left_as (no_scope loops))));
  met = λ names loops. skip t (meet n (declared_at names (decl.Semaphore name count most) counted.Semaphores 16 name) (skip q (meet s (range_at count 0 most.value) (skip x (meet g (range_at most 1 65535) (skip m none_met))))));
}
declaration_walked (function {name} {names = ats} {body} t n o l d) = record {
  gives = λ names loops. ahead (declared_finds names (decl.Function name ats body) counted.Functions 64 name) (passes (block_rule (record names { in_function = true }) body) (block_walk (record names { in_function = true }) body) (parameters_give (with_declaration (decl.Function name ats body) names) ats (no_scope loops)) (block_of_body_walked (record names { in_function = true }) d).gives);
  met = λ names loops. skip t (meet n (declared_at names (decl.Function name ats body) counted.Functions 64 name) (skip o (then_way (parameters_met (with_declaration (decl.Function name ats body) names) (no_scope loops) l) ((block_of_body_walked (record names { in_function = true }) d).met _))));
}
declaration_walked (thread {name} {names = ats} {priority} {body} t n o l p s d) = record {
  gives = λ names loops. let inside = with_declaration (decl.Thread name ats priority body) names in ahead (declared_finds names (decl.Thread name ats priority body) counted.Threads 32 name) (passes _ _ (parameters_give inside ats (no_scope loops)) (λ begin. ahead (one (in_range priority 0 7)) ((block_of_body_walked inside d).gives begin)));
  met = λ names loops. let inside = with_declaration (decl.Thread name ats priority body) names in skip t (meet n (declared_at names (decl.Thread name ats priority body) counted.Threads 32 name) (skip o (then_way (parameters_met inside (no_scope loops) l) (skip p (meet s (range_at priority 0 7) ((block_of_body_walked inside d).met _))))));
}
declaration_walked (start {place} {name} {ns} t n o l m) = record {
  gives = λ names loops. ahead (one (within_limit place counted.Starts 16 (count_of (sort_of_declaration (decl.Start place name ns)) names.declarations + 1))) (joined (used_as_thread names (no_scope loops) name) (same_count name.place (arity names name.name) (length ns)) (both (one (used_as_thread names (no_scope loops) name)) (one (same_count name.place (arity names name.name) (length ns)))) (left_as (no_scope loops)));
  met = λ names loops. meet t (limit_at place counted.Starts 16 (count_of (sort_of_declaration (decl.Start place name ns)) names.declarations + 1)) (meet n (at_both (used_at names (no_scope loops) _ name) (count_at name.place (arity names name.name) (length ns))) (skip o (then_way (all_numbers_met l) (skip m none_met))));
}

-- declarations one after another
pub declarations_give : {a b : List Placed} {ds : List Decl} → SpellsDecls a b ds → (names : Names) (loops : ℕ) → Gives (declarations_rule names loops ds) (declarations_walk names loops ds)
declarations_give no_decls names loops = left_as loops
declarations_give (decls {d} {rest = ds} one_decl rest) names loops =
    passes (λ scope. declarations_rule (after_declaration d scope names) scope.loops ds) (λ scope. declarations_walk (after_declaration d scope names) scope.loops ds) ((declaration_walked one_decl).gives names loops) (λ scope. declarations_give rest (after_declaration d scope names) scope.loops)

pub declarations_met : {a b : List Placed} {ds : List Decl} → SpellsDecls a b ds → (names : Names) (loops : ℕ) → Meets a b (declarations_walk names loops ds).faults
declarations_met no_decls names loops = none_met
declarations_met (decls {d} {rest = ds} one_decl rest) names loops =
    then_way ((declaration_walked one_decl).met names loops) (declarations_met rest (after_declaration d (declaration_walk names loops d).left names) (declaration_walk names loops d).left.loops)
