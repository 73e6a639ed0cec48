-- A block gives as many values as it has to.
use Rattle.std.proofs.Common.{ltb, ◌≡◌, ℕ, zero, suc, ◌+◌, Bool, true, cond, ◌==◌, List, [], ◌∷◌, ◌++◌, length, map, take, Option, Some, None, Result, Ok, Err, MatchOption, MatchResult, is_some, refl, sym, ap, subst, ◌∙◌, append-nil, eqb-true}
use Rattle.std.specs.Prelude.{⊤}
use Rattle.std.proofs.lemmas.Bool.{cond_both, and_parts}
use Rattle.std.proofs.lemmas.List.{length-replicate}
use Rattle.thread_tree.specs.declared.expr.Expr.{Expr}
use Rattle.thread_tree.specs.declared.local.Local.{Local}
use Rattle.thread_tree.specs.declared.transaction.TBlock.{TBlock, out-TBlock}
use Rattle.thread_tree.specs.declared.transaction.TStmt.{TStmt, out-TStmt}
use Rattle.thread_tree.specs.declared.transaction.TStmt.TheOpen.{TStmt-F}
use Rattle.thread_tree.specs.declared.transaction.TStmt.TheOpen as tstmt
use Rattle.thread_tree.specs.LocalState.{chosen_by}
use Rattle.thread_tree.specs.Program.{Program}
use Rattle.thread_tree.specs.Numbers.{kind_number}
use Rattle.kernel_model.specs.Objects.{place_for, with_new, object_at, object_of, is_made, without, with_field}
use Rattle.kernel_model.specs.Transactions.{Read, read, read_all, reference_of, counted, most_operations, most_block_moves, too_many_operations, bad_reference, with_read, Thing, Work, things, with_expr, with_made, operated, stored, freed, branched, tested, broken, declared_local, assigned, entered, going_on, moved_by, moved, move, BlockEnd, gives, ended_by, ending, stops, goes_on, block_by, block}
use Rattle.kernel_model.specs.Transactions.Thing.{Do, End, Test}
use Rattle.kernel_model.specs.Transactions.BlockEnd.{Gave, Aborted, Fault}
use Rattle.kernel_model.specs.Visible.{Object}
use Rattle.thread_check.specs.Gives.{all_hold, holds_if_some, block_gives, statement_gives, statement_parts_give}
use Rattle.thread_check.proofs.Callers.{block_gives_out, statement_gives_out}

module _ (p : Program) (given : ℕ) where
  -- a thing to do that gives so many values wherever it gives
  abbrev GivesSo : Thing → Type 0
  GivesSo (Do s) = statement_gives given s ≡ true
  GivesSo (End keep) = ⊤
  GivesSo (Test e block) = block_gives given block ≡ true

  -- things to do that all do
  abbrev AllGive : List Thing → Type 0
  AllGive [] = ⊤
  AllGive (x ∷ xs) = GivesSo x × AllGive xs

  -- work with such things to do, or a fault
  abbrev IsGood : Result Work ℕ → Type 0
  IsGood r = MatchResult r (λ w. AllGive w.todo) (λ fault. ⊤)

  -- an end that gives so many values, if it gives any
  abbrev IsGoodEnd : BlockEnd → Type 0
  IsGoodEnd (Gave objects values) = length values ≡ given
  IsGoodEnd Aborted = ⊤
  IsGoodEnd (Fault code) = ⊤

  -- so many values, or a fault
  abbrev HasMany : ℕ → Result (List ℕ) ℕ → Type 0
  HasMany count r = MatchResult r (λ values. length values ≡ count) (λ fault. ⊤)

  with_read-many : (count : ℕ) (r : Result Read ℕ) (go : Read → Result (List ℕ) ℕ) → ((x : Read) → HasMany count (go x)) → HasMany count (with_read r go)
  with_read-many count (Err fault) go h = tt
  with_read-many count (Ok x) go h = h x

  with_value-many : (count value : ℕ) (r : Result (List ℕ) ℕ) → HasMany count r → HasMany (suc count) (elim r as (λ _. Result (List ℕ) ℕ) [ Err fault ↦ Err fault | Ok values ↦ Ok (value ∷ values) ])
  with_value-many count value (Err fault) h = tt
  with_value-many count value (Ok values) h = ap (λ n. suc n) h

  -- as many values as expressions
  read_all-many : (objects : List Object) (locals : List Local) (es : List Expr) (n : ℕ) → HasMany (length es) (read_all p objects locals es n)
  read_all-many objects locals [] n = refl
  read_all-many objects locals (e ∷ es) n = with_read-many (suc (length es)) (read p objects locals e n)
      (λ x. elim (read_all p objects locals es x.operations) as (λ _. Result (List ℕ) ℕ) [ Err fault ↦ Err fault | Ok values ↦ Ok (x.value ∷ values) ])
      (λ x. with_value-many (length es) x.value (read_all p objects locals es x.operations) (read_all-many objects locals es x.operations))

  with_read-good : (r : Result Read ℕ) (go : Read → Result Work ℕ) → ((x : Read) → IsGood (go x)) → IsGood (with_read r go)
  with_read-good (Err fault) go h = tt
  with_read-good (Ok x) go h = h x

  with_expr-good : (w : Work) (e : Expr) (go : ℕ → Work → Result Work ℕ) → ((value : ℕ) (w' : Work) → IsGood (go value w')) → IsGood (with_expr p w e go)
  with_expr-good w e go all = with_read-good (read p w.objects w.locals e w.operations)
      (λ x. go x.value (record w { operations = x.operations })) (λ x. all x.value (record w { operations = x.operations }))

  counted-good : (operations : ℕ) (r : Result Work ℕ) → IsGood r → IsGood (counted operations r)
  counted-good operations r h = cond_both (ltb operations most_operations) r (Err too_many_operations) IsGood (λ e. h) (λ e. tt)

  with_made-good : (w : Work) (kind : ℕ) (go : ℕ → Work → Work) → ((value : ℕ) (w' : Work) → AllGive (go value w').todo) → IsGood (with_made p w kind go)
  with_made-good w kind go all = counted-good w.operations
      (Ok (go (place_for p w.objects kind) (record w { objects = with_new p w.objects kind (place_for p w.objects kind); operations = w.operations + 1 })))
      (all (place_for p w.objects kind) (record w { objects = with_new p w.objects kind (place_for p w.objects kind); operations = w.operations + 1 }))

  operated-good : (w : Work) (rest : List Thing) (is_good : Bool) (objects : List Object) → AllGive rest → IsGood (operated w rest is_good objects)
  operated-good w rest is_good objects h = counted-good w.operations
      (cond is_good (Ok (record w { objects = objects; operations = w.operations + 1; todo = rest })) (Err bad_reference))
      (cond_both is_good (Ok (record w { objects = objects; operations = w.operations + 1; todo = rest })) (Err bad_reference) IsGood (λ e. h) (λ e. tt))

  chosen-good : (value : ℕ) (taken passed : Work) → AllGive taken.todo → AllGive passed.todo → AllGive (chosen_by value taken passed).todo
  chosen-good value taken passed h g = cond_both (value == 0) passed taken (λ w. AllGive w.todo) (λ e. g) (λ e. h)

  -- what follows a `break`
  broken-good : (locals : List Local) (todo : List Thing) → AllGive todo → AllGive (broken locals todo).1
  broken-good locals [] h = tt
  broken-good locals (Do s ∷ todo) h = broken-good locals todo h.1
  broken-good locals (End keep ∷ todo) h = broken-good (take keep locals) todo h.1
  broken-good locals (Test e block ∷ todo) h = h.1

  -- statements, and what follows them
  statements-good : (ss : List TStmt) (rest : List Thing) → all_hold (map (statement_gives given) ss) ≡ true → AllGive rest → AllGive (map Do ss ++ rest)
  statements-good [] rest h all = all
  statements-good (s ∷ ss) rest h all =
      let parts = and_parts (statement_gives given s) (all_hold (map (statement_gives given) ss)) h in
      (parts.0, statements-good ss rest parts.1 all)

  -- a block, and what follows it
  things-good : (block : TBlock) (rest : List Thing) → block_gives given block ≡ true → AllGive rest → AllGive (things block ++ rest)
  things-good block rest h all = statements-good (out-TBlock block).stmts rest (sym (block_gives_out given block) ∙ h) all

  entered-good : (w : Work) (block : TBlock) (rest : List Thing) → block_gives given block ≡ true → AllGive rest → AllGive (entered w block rest).todo
  entered-good w block rest h all = things-good block (End (length w.locals) ∷ rest) h (tt, all)

  branched-good : (block : TBlock) (other : Option TBlock) (rest : List Thing) (value : ℕ) (w : Work) → block_gives given block ≡ true → holds_if_some (block_gives given) other ≡ true → AllGive rest → AllGive (branched block other rest value w).todo
  branched-good block None rest value w h g all = chosen-good value (entered w block rest) (going_on w rest) (entered-good w block rest h all) all
  branched-good block (Some other) rest value w h g all = chosen-good value (entered w block rest) (entered w other rest) (entered-good w block rest h all) (entered-good w other rest g all)

  tested-good : (e : Expr) (block : TBlock) (rest : List Thing) (value : ℕ) (w : Work) → block_gives given block ≡ true → AllGive rest → AllGive (tested e block rest value w).todo
  tested-good e block rest value w h all = chosen-good value (entered w block (Test e block ∷ rest)) (going_on w rest) (entered-good w block (Test e block ∷ rest) h (h, all)) all

  moved_by-good : (w : Work) (rest : List Thing) (s : TStmt-F TStmt TBlock) → statement_parts_give given s ≡ true → AllGive rest → MatchOption (moved_by p w rest s) ⊤ IsGood
  moved_by-good w rest (tstmt.Let at e) h all = with_expr-good w e (λ value w. Ok (declared_local at.name rest value w)) (λ value w'. all)
  moved_by-good w rest (tstmt.LetNew at kind) h all = with_made-good w (kind_number p kind.name) (declared_local at.name rest) (λ value w'. all)
  moved_by-good w rest (tstmt.Set at e) h all = with_expr-good w e (λ value w. Ok (assigned at.name rest value w)) (λ value w'. all)
  moved_by-good w rest (tstmt.SetNew at kind) h all = with_made-good w (kind_number p kind.name) (assigned at.name rest) (λ value w'. all)
  moved_by-good w rest (tstmt.Store field e) h all = with_expr-good w e (λ value w. stored p w rest field value)
      (λ value w'. let r = reference_of p w'.locals field in
      operated-good w' rest (is_some (object_of w'.objects r.place r.kind)) (with_field w'.objects r.place r.field value) all)
  moved_by-good w rest (tstmt.Free e) h all = with_expr-good w e (λ value w. freed w rest value)
      (λ value w'. operated-good w' rest (is_made (object_at w'.objects value)) (without w'.objects value) all)
  moved_by-good w rest (tstmt.If e block other) h all =
      let parts = and_parts (block_gives given block) (holds_if_some (block_gives given) other) h in
      with_expr-good w e (λ value w. Ok (branched block other rest value w)) (λ value w'. branched-good block other rest value w' parts.0 parts.1 all)
  moved_by-good w rest (tstmt.While e block) h all = with_expr-good w e (λ value w. Ok (tested e block rest value w)) (λ value w'. tested-good e block rest value w' h all)
  moved_by-good w rest (tstmt.Break place) h all = broken-good w.locals rest all
  moved_by-good w rest (tstmt.Abort place) h all = tt
  moved_by-good w rest (tstmt.Give place es) h all = tt

  -- a move leaves such things to do
  moved-good : (w : Work) (todo : List Thing) → AllGive todo → MatchOption (moved p w todo) ⊤ IsGood
  moved-good w [] h = tt
  moved-good w (Do statement ∷ rest) h = moved_by-good w rest (out-TStmt statement) (sym (statement_gives_out given statement) ∙ h.0) h.1
  moved-good w (End keep ∷ rest) h = h.1
  moved-good w (Test e block ∷ rest) h = with_expr-good w e (λ value w. Ok (tested e block rest value w)) (λ value w'. tested-good e block rest value w' h.0 h.1)

  gives-good : (objects : List Object) (r : Result (List ℕ) ℕ) → HasMany given r → IsGoodEnd (gives objects r)
  gives-good objects (Ok values) h = h
  gives-good objects (Err fault) h = tt

  ended_by-good : (w : Work) (s : TStmt-F TStmt TBlock) → statement_parts_give given s ≡ true → IsGoodEnd (ended_by p w s)
  ended_by-good w (tstmt.Let at e) h = tt
  ended_by-good w (tstmt.LetNew at kind) h = tt
  ended_by-good w (tstmt.Set at e) h = tt
  ended_by-good w (tstmt.SetNew at kind) h = tt
  ended_by-good w (tstmt.Store field e) h = tt
  ended_by-good w (tstmt.Free e) h = tt
  ended_by-good w (tstmt.If e block other) h = tt
  ended_by-good w (tstmt.While e block) h = tt
  ended_by-good w (tstmt.Break place) h = tt
  ended_by-good w (tstmt.Abort place) h = tt
  ended_by-good w (tstmt.Give place es) h = gives-good w.objects (read_all p w.objects w.locals es w.operations)
      (subst (λ count. HasMany count (read_all p w.objects w.locals es w.operations)) (eqb-true (length es) given h) (read_all-many w.objects w.locals es w.operations))

  -- an end after such things
  ending-good : (w : Work) (todo : List Thing) → AllGive todo → IsGoodEnd (ending p given w todo)
  ending-good w [] h = length-replicate given 0
  ending-good w (Do statement ∷ rest) h = ended_by-good w (out-TStmt statement) (sym (statement_gives_out given statement) ∙ h.0)
  ending-good w (End keep ∷ rest) h = tt
  ending-good w (Test e block ∷ rest) h = tt

  stops-good : (w : Work) (o : Option (Result Work ℕ)) → AllGive w.todo → IsGoodEnd (stops p given w o)
  stops-good w None h = ending-good w w.todo h
  stops-good w (Some next) h = tt

  goes_on-good : (go : Work → BlockEnd) (w : Work) (o : Option (Result Work ℕ)) → AllGive w.todo → MatchOption o ⊤ IsGood → ((next : Work) → AllGive next.todo → IsGoodEnd (go next)) → IsGoodEnd (goes_on p given go w o)
  goes_on-good go w None h good all = ending-good w w.todo h
  goes_on-good go w (Some (Ok next)) h good all = all next good
  goes_on-good go w (Some (Err fault)) h good all = tt

  block_by-good : (n : ℕ) (w : Work) → AllGive w.todo → IsGoodEnd (block_by p given n w)
  unfolding block_by
  block_by-good zero w h = stops-good w (move p w) h
  block_by-good (suc n) w h = goes_on-good (λ next. block_by p given n next) w (move p w) h (moved-good w w.todo h) (λ next g. block_by-good n next g)

  block-good : (objects : List Object) (locals : List Local) (body : TBlock) → block_gives given body ≡ true → IsGoodEnd (block p objects locals given body)
  block-good objects locals body h = block_by-good most_block_moves _ (subst AllGive (append-nil (things body)) (things-good body [] h tt))

-- a block that gives so many values wherever it gives does give so many
pub gives-many : (p : Program) (objects : List Object) (locals : List Local) (given : ℕ) (body : TBlock) → block_gives given body ≡ true → (os : List Object) (vs : List ℕ) → block p objects locals given body ≡ Gave os vs → length vs ≡ given
gives-many p objects locals given body h os vs is =
    subst (IsGoodEnd p given) is (block-good p given objects locals body h)
