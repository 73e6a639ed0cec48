-- A block of `atomic` leaves sound objects.
use Rattle.std.proofs.Common.{ltb, ◌≡◌, ℕ, zero, suc, ◌+◌, Bool, true, cond, ◌==◌, List, [], ◌∷◌, Option, Some, None, Result, Ok, Err, MatchOption, MatchResult, is_some}
use Rattle.std.specs.Prelude.{⊤}
use Rattle.std.proofs.lemmas.Bool.{cond_both}
use Rattle.kernel_model.specs.Visible.{Object}
use Rattle.kernel_model.specs.Objects.{place_for, with_new, object_at, object_of, is_made, without, with_field}
use Rattle.kernel_model.specs.Transactions.{Read, read, read_all, reference_of, counted, most_operations, too_many_operations, bad_reference, with_read, Thing, Work, with_expr, with_made, operated, stored, freed, branched, tested, declared_local, assigned, entered, going_on, moved_by, moved, move, BlockEnd, gives, ended_by, ending, stops, goes_on, block_by, block}
use Rattle.kernel_model.specs.Transactions.Thing.{Do, End, Test}
use Rattle.kernel_model.specs.Transactions.BlockEnd.{Gave, Aborted, Fault}
use Rattle.thread_tree.specs.Numbers.{kind_number}
use Rattle.kernel_model.specs.Sound.{AreSoundObjects}
use Rattle.kernel_model.proofs.ObjectLemmas.{new-sound, field-sound, without-sound}
use Rattle.thread_tree.specs.declared.local.Local.{Local}
use Rattle.thread_tree.specs.declared.expr.Expr.{Expr}
use Rattle.thread_tree.specs.declared.transaction.TBlock.{TBlock}
use Rattle.thread_tree.specs.declared.transaction.TStmt.{TStmt, out-TStmt}
use Rattle.thread_tree.specs.declared.transaction.TStmt.TheOpen.{TStmt-F}
use Rattle.thread_tree.specs.declared.transaction.TStmt.TheOpen as tstmt
use Rattle.thread_tree.specs.LocalState.{chosen_by}
use Rattle.thread_tree.specs.Program.{Program}

module _ (p : Program) where
  -- work with sound objects, or a fault
  abbrev pub IsGood : Result Work ℕ → Type 0
  IsGood r = MatchResult r (λ w. AreSoundObjects p w.objects) (λ fault. ⊤)

  with_read-good : (r : Result Read ℕ) (go : Read → Result Work ℕ) → ((x : Read) → IsGood (go x)) → IsGood (with_read r go)
  with_read-good (Err fault) go h = tt
  with_read-good (Ok x) go h = h x

  with_expr-good : (w : Work) (e : Expr) (go : ℕ → Work → Result Work ℕ) → AreSoundObjects p w.objects →
      ((value : ℕ) (w' : Work) → AreSoundObjects p w'.objects → IsGood (go value w')) → IsGood (with_expr p w e go)
  with_expr-good w e go h all = with_read-good (read p w.objects w.locals e w.operations)
      (λ x. go x.value (record w { operations = x.operations })) (λ x. all x.value (record w { operations = x.operations }) h)

  counted-good : (operations : ℕ) (r : Result Work ℕ) → IsGood r → IsGood (counted operations r)
  counted-good operations r h = cond_both (ltb operations most_operations) r (Err too_many_operations) IsGood (λ e. h) (λ e. tt)

  with_made-good : (w : Work) (kind : ℕ) (go : ℕ → Work → Work) → AreSoundObjects p w.objects →
      ((value : ℕ) (w' : Work) → AreSoundObjects p w'.objects → AreSoundObjects p (go value w').objects) → IsGood (with_made p w kind go)
  with_made-good w kind go h all = counted-good w.operations
      (Ok (go (place_for p w.objects kind) (record w { objects = with_new p w.objects kind (place_for p w.objects kind); operations = w.operations + 1 })))
      (all (place_for p w.objects kind) (record w { objects = with_new p w.objects kind (place_for p w.objects kind); operations = w.operations + 1 })
      (new-sound p w.objects kind h))

  operated-good : (w : Work) (rest : List Thing) (is_good : Bool) (objects : List Object) → (is_good ≡ true → AreSoundObjects p objects) →
      IsGood (operated w rest is_good objects)
  operated-good w rest is_good objects h = counted-good w.operations
      (cond is_good (Ok (record w { objects = objects; operations = w.operations + 1; todo = rest })) (Err bad_reference))
      (cond_both is_good (Ok (record w { objects = objects; operations = w.operations + 1; todo = rest })) (Err bad_reference) IsGood h (λ e. tt))

  chosen-good : (value : ℕ) (taken passed : Work) → AreSoundObjects p taken.objects → AreSoundObjects p passed.objects →
      AreSoundObjects p (chosen_by value taken passed).objects
  chosen-good value taken passed h g = cond_both (value == 0) passed taken (λ w. AreSoundObjects p w.objects) (λ e. g) (λ e. h)

  branched-good : (block : TBlock) (other : Option TBlock) (rest : List Thing) (value : ℕ) (w : Work) → AreSoundObjects p w.objects →
      AreSoundObjects p (branched block other rest value w).objects
  branched-good block None rest value w h = chosen-good value (entered w block rest) (going_on w rest) h h
  branched-good block (Some other) rest value w h = chosen-good value (entered w block rest) (entered w other rest) h h

  tested-good : (e : Expr) (block : TBlock) (rest : List Thing) (value : ℕ) (w : Work) → AreSoundObjects p w.objects →
      AreSoundObjects p (tested e block rest value w).objects
  tested-good e block rest value w h = chosen-good value (entered w block (Test e block ∷ rest)) (going_on w rest) h h

  moved_by-good : (w : Work) (rest : List Thing) (s : TStmt-F TStmt TBlock) → AreSoundObjects p w.objects →
      MatchOption (moved_by p w rest s) ⊤ IsGood
  moved_by-good w rest (tstmt.Let at e) h = with_expr-good w e (λ value w. Ok (declared_local at.name rest value w)) h (λ value w' g. g)
  moved_by-good w rest (tstmt.LetNew at kind) h = with_made-good w (kind_number p kind.name) (declared_local at.name rest) h (λ value w' g. g)
  moved_by-good w rest (tstmt.Set at e) h = with_expr-good w e (λ value w. Ok (assigned at.name rest value w)) h (λ value w' g. g)
  moved_by-good w rest (tstmt.SetNew at kind) h = with_made-good w (kind_number p kind.name) (assigned at.name rest) h (λ value w' g. g)
  moved_by-good w rest (tstmt.Store field e) h = with_expr-good w e (λ value w. stored p w rest field value) h
      (λ value w' g. let r = reference_of p w'.locals field in
      operated-good w' rest (is_some (object_of w'.objects r.place r.kind)) (with_field w'.objects r.place r.field value)
      (λ e. field-sound r.place r.field value p w'.objects g))
  moved_by-good w rest (tstmt.Free e) h = with_expr-good w e (λ value w. freed w rest value) h
      (λ value w' g. operated-good w' rest (is_made (object_at w'.objects value)) (without w'.objects value) (λ e. without-sound value p w'.objects g e))
  moved_by-good w rest (tstmt.If e block other) h = with_expr-good w e (λ value w. Ok (branched block other rest value w)) h
      (λ value w' g. branched-good block other rest value w' g)
  moved_by-good w rest (tstmt.While e block) h = with_expr-good w e (λ value w. Ok (tested e block rest value w)) h
      (λ value w' g. tested-good e block rest value w' g)
  moved_by-good w rest (tstmt.Break place) h = h
  moved_by-good w rest (tstmt.Abort place) h = tt
  moved_by-good w rest (tstmt.Give place es) h = tt

  moved-good : (w : Work) (todo : List Thing) → AreSoundObjects p w.objects → MatchOption (moved p w todo) ⊤ IsGood
  moved-good w [] h = tt
  moved-good w (Do statement ∷ rest) h = moved_by-good w rest (out-TStmt statement) h
  moved-good w (End keep ∷ rest) h = h
  moved-good w (Test e block ∷ rest) h = with_expr-good w e (λ value w. Ok (tested e block rest value w)) h
      (λ value w' g. tested-good e block rest value w' g)

  -- an end with sound objects
  abbrev pub IsGoodEnd : BlockEnd → Type 0
  IsGoodEnd (Gave objects values) = AreSoundObjects p objects
  IsGoodEnd Aborted = ⊤
  IsGoodEnd (Fault code) = ⊤

  gives-good : (objects : List Object) (r : Result (List ℕ) ℕ) → AreSoundObjects p objects → IsGoodEnd (gives objects r)
  gives-good objects (Ok values) h = h
  gives-good objects (Err fault) h = tt

  ended_by-good : (w : Work) (s : TStmt-F TStmt TBlock) → AreSoundObjects p w.objects → IsGoodEnd (ended_by p w s)
  ended_by-good w (tstmt.Let at e) h = tt
  ended_by-good w (tstmt.LetNew at kind) h = tt
  ended_by-good w (tstmt.Set at e) h = tt
  ended_by-good w (tstmt.SetNew at kind) h = tt
  ended_by-good w (tstmt.Store field e) h = tt
  ended_by-good w (tstmt.Free e) h = tt
  ended_by-good w (tstmt.If e block other) h = tt
  ended_by-good w (tstmt.While e block) h = tt
  ended_by-good w (tstmt.Break place) h = tt
  ended_by-good w (tstmt.Abort place) h = tt
  ended_by-good w (tstmt.Give place es) h = gives-good w.objects (read_all p w.objects w.locals es w.operations) h

  ending-good : (given : ℕ) (w : Work) (todo : List Thing) → AreSoundObjects p w.objects → IsGoodEnd (ending p given w todo)
  ending-good given w [] h = h
  ending-good given w (Do statement ∷ rest) h = ended_by-good w (out-TStmt statement) h
  ending-good given w (End keep ∷ rest) h = tt
  ending-good given w (Test e block ∷ rest) h = tt

  stops-good : (given : ℕ) (w : Work) (o : Option (Result Work ℕ)) → AreSoundObjects p w.objects → IsGoodEnd (stops p given w o)
  stops-good given w None h = ending-good given w w.todo h
  stops-good given w (Some next) h = tt

  goes_on-good : (given : ℕ) (go : Work → BlockEnd) (w : Work) (o : Option (Result Work ℕ)) → AreSoundObjects p w.objects → MatchOption o ⊤ IsGood →
      ((next : Work) → AreSoundObjects p next.objects → IsGoodEnd (go next)) → IsGoodEnd (goes_on p given go w o)
  goes_on-good given go w None h good all = ending-good given w w.todo h
  goes_on-good given go w (Some (Ok next)) h good all = all next good
  goes_on-good given go w (Some (Err fault)) h good all = tt

  block_by-good : (given n : ℕ) (w : Work) → AreSoundObjects p w.objects → IsGoodEnd (block_by p given n w)
  unfolding block_by
  block_by-good given zero w h = stops-good given w (move p w) h
  block_by-good given (suc n) w h = goes_on-good given (λ next. block_by p given n next) w (move p w) h (moved-good w w.todo h)
      (λ next g. block_by-good given n next g)

  -- a block leaves sound objects
  pub block-good : (objects : List Object) (locals : List Local) (given : ℕ) (body : TBlock) → AreSoundObjects p objects →
      IsGoodEnd (block p objects locals given body)
  block-good objects locals given body h = block_by-good given 10000 _ h
