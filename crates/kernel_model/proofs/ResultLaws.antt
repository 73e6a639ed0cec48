-- How many results a call's effect has.
use Rattle.std.proofs.Common.{ltb, leb, ℕ, zero, suc, ◌+◌, Bool, cond, ◌&&◌, ◌==◌, List, [], ◌∷◌, ◌++◌, length, Option, Some, None, refl}
use Rattle.std.proofs.lemmas.Bool.{cond_both}
use Rattle.kernel_model.specs.declared.what.What.{What}
use Rattle.kernel_model.specs.declared.what.What.TheVariants.{Send, Receive, Take}
use Rattle.kernel_model.specs.Kernel.{State, is_live, with_row, behind, items_of, with_items, count_of, with_count}
use Rattle.kernel_model.specs.Kernel.Row.{Free}
use Rattle.kernel_model.specs.Order.{first}
use Rattle.kernel_model.specs.Serve.{Effect, answers, becomes, held, finish, until_of, wake_of, timed_out}
use Rattle.kernel_model.specs.Serve.Fate.{ServesBack, Sleeps, Blocks, Goes}
use Rattle.kernel_model.specs.Calls.{spawn, send, receive, take as take_one, give, console_room, no_thread, birth_row, vacant, with_priority, priority_of, maximum_of, delivered, refilled}
use Rattle.kernel_model.specs.Act.{effect_of_call, whom, printed_line}
use Rattle.thread_tree.specs.Numbers.{template_number, queue_number, semaphore_number}
use Rattle.kernel_model.specs.Effects.{HasMany}
use Rattle.thread_tree.specs.declared.local.Local.{Local}
use Rattle.thread_tree.specs.declared.action.Call.{Call}
use Rattle.thread_tree.specs.declared.action.Call.TheVariants as call
use Rattle.thread_tree.specs.Kinds.{kind_of_call, result_count}
use Rattle.thread_tree.specs.Program.{Program}
use Rattle.thread_tree.specs.Value.{value_of, values_in}

-- one of two effects that have so many results
either-many : (n : ℕ) (b : Bool) (x y : Effect) → HasMany n x → HasMany n y → HasMany n (cond b x y)
either-many n b x y e f = cond_both b x y (HasMany n) (λ t. e) (λ t. f)

module _ (p : Program) (K : State) where
  held-many : (what : What) (target value limit : ℕ) → HasMany (length (timed_out p what target)) (held p K what target value limit)
  held-many what target value limit = either-many (length (timed_out p what target)) (limit == 0) (answers (timed_out p what target) K)
      (becomes (Blocks (record { what = what; target = target; value = value; until = until_of K limit })) K) refl tt

  send-many : (queue value limit : ℕ) → HasMany 1 (send p K queue value limit)
  send-many queue value limit = go (delivered p K queue value)
    where
      go : (o : Option State) → HasMany 1 (elim o [ Some K' ↦ answers (1 ∷ []) K' | None ↦ held p K Send queue value limit ])
      go (Some K') = refl
      go None = held-many Send queue value limit

  receive-many : (queue limit : ℕ) → HasMany 2 (receive p K queue limit)
  receive-many queue limit = go (items_of K queue)
    where
      go : (xs : List ℕ) → HasMany 2 (elim xs [
        | [] ↦ held p K Receive queue 0 limit
        | item ∷ items ↦ answers (1 ∷ item ∷ []) (refilled p (with_items K queue items) queue)
      ])
      go [] = held-many Receive queue 0 limit
      go (item ∷ items) = refl

  take-many : (semaphore limit : ℕ) → HasMany 1 (take_one p K semaphore limit)
  take-many semaphore limit = go (count_of K semaphore)
    where
      go : (n : ℕ) → HasMany 1 (elim n [ zero ↦ held p K Take semaphore 0 limit | suc count ↦ answers (1 ∷ []) (with_count K semaphore count) ])
      go zero = held-many Take semaphore 0 limit
      go (suc count) = refl

  give-many : (semaphore : ℕ) → HasMany 1 (give p K semaphore)
  give-many semaphore = go (first K Take semaphore)
    where
      go : (o : Option ℕ) → HasMany 1 (elim o [
        | Some u ↦ answers (1 ∷ []) (finish p K u (1 ∷ []))
        | None ↦ cond (ltb (count_of K semaphore) (maximum_of p semaphore))
            (answers (1 ∷ []) (with_count K semaphore (count_of K semaphore + 1))) (answers (0 ∷ []) K)
      ])
      go (Some u) = refl
      go None = either-many 1 (ltb (count_of K semaphore) (maximum_of p semaphore))
          (answers (1 ∷ []) (with_count K semaphore (count_of K semaphore + 1))) (answers (0 ∷ []) K) refl refl

  spawn-many : (number : ℕ) (arguments : List ℕ) → HasMany 1 (spawn p K number arguments)
  spawn-many number arguments = go (vacant K.rows)
    where
      go : (o : Option ℕ) → HasMany 1 (elim o [
        | None ↦ answers (no_thread ∷ []) K
        | Some u ↦ answers (u ∷ []) (record (with_row K u (birth_row p number arguments K.stamp)) { stamp = K.stamp + 1 })
      ])
      go None = refl
      go (Some u) = refl

  -- a call's effect has as many results as the call, if it has any
  pub call-many : (t : ℕ) (locals : List Local) (c : Call) → HasMany (result_count (kind_of_call c) 0) (effect_of_call p K t locals c)
  call-many t locals (call.Print items) = either-many 1 (leb (length K.console + length (printed_line locals items)) console_room)
      (answers (1 ∷ []) (record K { console = K.console ++ printed_line locals items })) (answers (0 ∷ []) K) refl refl
  call-many t locals (call.Spawn template arguments) = spawn-many (template_number p template.name) (values_in locals arguments)
  call-many t locals (call.Delete target) = let w = whom t locals target in either-many 1 (is_live K w)
      (cond (w == t) (becomes Goes K) (answers (1 ∷ []) (with_row K w Free))) (answers (0 ∷ []) K)
      (either-many 1 (w == t) (becomes Goes K) (answers (1 ∷ []) (with_row K w Free)) tt refl) refl
  call-many t locals (call.Delay ticks) = either-many 0 (value_of locals ticks == 0) (becomes (ServesBack []) K)
      (becomes (Sleeps (wake_of K (value_of locals ticks))) K) refl tt
  call-many t locals (call.Setprio target priority) = let w = whom t locals target in let q = value_of locals priority in
      either-many 1 (is_live K w && leb q 7)
      (answers (1 ∷ []) (cond (priority_of K w == q) K (behind K w (with_priority q)))) (answers (0 ∷ []) K) refl refl
  call-many t locals (call.Send queue value limit) = send-many (queue_number p queue.name) (value_of locals value) (value_of locals limit)
  call-many t locals (call.Receive queue limit) = receive-many (queue_number p queue.name) (value_of locals limit)
  call-many t locals (call.Take semaphore limit) = take-many (semaphore_number p semaphore.name) (value_of locals limit)
  call-many t locals (call.Give semaphore) = give-many (semaphore_number p semaphore.name)
  call-many t locals c = refl
