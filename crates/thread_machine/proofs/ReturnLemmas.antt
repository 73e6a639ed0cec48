-- What the end of a block and of a body is in the local state.
use Rattle.std.proofs.Common.{◌≡◌, ◌≢◌, ℕ, ◌+◌, List, [], ◌∷◌, ◌++◌, Option, Some, None, refl, ap, sym, ◌∙◌, arith}
use Rattle.std.proofs.lemmas.List.{append-nil}
use Rattle.thread_tree.specs.declared.local.Local.{Local}
use Rattle.thread_tree.specs.Program.{Program}
use Rattle.thread_tree.specs.LocalState.{Thing, LocalState, returned, moved, ended, going_on}
use Rattle.thread_machine.specs.declared.context.Cursor.{Cursor}
use Rattle.thread_machine.specs.declared.context.Way.{Way}
use Rattle.thread_machine.specs.declared.context.Way.TheVariants as way
use Rattle.thread_machine.specs.Context.{Level, Waiting, level_along, level_by, level_called, state_at, todo_after, frames, outermost, kept_in}
use Rattle.thread_machine.proofs.LevelLemmas.{level_along-snoc, level_along-none}

-- the level in a call
pub level_of_call : (p : Program) (template : ℕ) (cs less : List Cursor) (c : Cursor) → cs ≡ less ++ c ∷ [] → c.way ≡ way.Call → level_along p template cs ≡ level_called p (level_along p template less) c.at c.keep
level_of_call p template cs less c is call =
    ap (λ xs. level_along p template xs) is ∙ level_along-snoc p template less c
    ∙ ap (λ w. level_by p (level_along p template less) c.at c.keep w) call

state_of : Option ℕ → List Waiting → List Local → List Local → List Thing → LocalState
state_of result waiting outer own todo = record {
  top = record { locals = own; todo = todo; result = result };
  below = frames outer waiting;
}

returned_any : (result : Option ℕ) (waiting : List Waiting) (outer own : List Local) (todo other : List Thing) (value : ℕ) → returned (state_of result waiting outer own todo) value ≡ returned (state_of result waiting outer own other) value
unfolding state_of
returned_any result [] outer own todo other value = refl
returned_any result (w ∷ ws) outer own todo other value = refl

-- a return depends on the frames alone
pub returned_by : (l m : Level) (outer own : List Local) (todo other : List Thing) (value : ℕ) → l.waiting ≡ m.waiting → l.result ≡ m.result → returned (state_at l outer own todo) value ≡ returned (state_at m outer own other) value
unfolding state_of
returned_by l m outer own todo other value same_waiting same_result =
    ap (λ ws. returned (state_of l.result ws outer own todo) value) same_waiting
    ∙ ap (λ r. returned (state_of r m.waiting outer own todo) value) same_result
    ∙ returned_any m.result m.waiting outer own todo other value

-- the locals of the frames behind a call
pub call_counted : (p : Program) (template base : ℕ) (l : Level) (less : List Cursor) (c : Cursor) → l.waiting ≡ (level_along p template (less ++ c ∷ [])).waiting → c.way ≡ way.Call → kept_in l.waiting ≡ base → kept_in (level_along p template less).waiting + c.keep ≡ base
call_counted p template base l less c same call counted =
    let kept : kept_in (level_along p template (less ++ c ∷ [])).waiting ≡ c.keep + kept_in (level_along p template less).waiting = ap (λ (l : Level). kept_in l.waiting) (level_of_call p template (less ++ c ∷ []) less c refl call) in
    let all : kept_in l.waiting ≡ kept_in (level_along p template (less ++ c ∷ [])).waiting = ap kept_in same in
    omega (arith, kept, all, counted)

-- the end of a thread's body is no move
pub end_none : (p : Program) (template : ℕ) (cs : List Cursor) (outer own : List Local) (before : List Thing) → cs ≡ [] → moved p (state_at (level_along p template cs) outer own before) (level_along p template cs).behind ≡ None
end_none p template cs outer own before is = rw (is, level_along-none p template) refl

-- the end of a called body gives back 0
pub end_call : (p : Program) (template : ℕ) (cs less : List Cursor) (c : Cursor) (outer own : List Local) (before : List Thing) → cs ≡ less ++ c ∷ [] → c.way ≡ way.Call → moved p (state_at (level_along p template cs) outer own before) (level_along p template cs).behind ≡ Some (returned (state_at (level_called p (level_along p template less) c.at c.keep) outer own []) 0)
end_call p template cs less c outer own before is call =
    ap (λ l. moved p (state_at l outer own before) l.behind) (level_of_call p template cs less c is call)

end_at : (p : Program) (l : Level) (at keep : ℕ) (w : Way) (outer own : List Local) (before other : List Thing) → w ≢ way.Call → moved p (state_at (level_by p l at keep w) outer own before) (level_by p l at keep w).behind ≡ Some (ended (state_at l outer own other) keep (todo_after l at))
end_at p l at keep way.First outer own before other is_block = refl
end_at p l at keep way.Else outer own before other is_block = refl
end_at p l at keep way.Call outer own before other is_block = absurd (is_block refl)

-- the end of a block takes away its locals
pub end_block : (p : Program) (template : ℕ) (cs less : List Cursor) (c : Cursor) (outer own : List Local) (before other : List Thing) → cs ≡ less ++ c ∷ [] → c.way ≢ way.Call → moved p (state_at (level_along p template cs) outer own before) (level_along p template cs).behind ≡ Some (ended (state_at (level_along p template less) outer own other) c.keep (todo_after (level_along p template less) c.at))
end_block p template cs less c outer own before other is is_block =
    ap (λ l. moved p (state_at l outer own before) l.behind) (ap (λ xs. level_along p template xs) is ∙ level_along-snoc p template less c)
    ∙ end_at p (level_along p template less) c.at c.keep c.way outer own before other is_block

pub popped_counted : (p : Program) (template base : ℕ) (cs less : List Cursor) (c : Cursor) → cs ≡ less ++ c ∷ [] → c.way ≡ way.Call → kept_in (level_along p template cs).waiting ≡ base → kept_in (level_along p template less).waiting + c.keep ≡ base
popped_counted p template base cs less c is call counted =
    call_counted p template base (level_along p template cs) less c (ap (λ xs. (level_along p template xs).waiting) is) call counted

-- a return behind a call, from within the called body's blocks
pub returned_called : (p : Program) (template : ℕ) (less : List Cursor) (c : Cursor) (l : Level) (outer own : List Local) (todo other : List Thing) (value : ℕ) → c.way ≡ way.Call → l.waiting ≡ (level_along p template (less ++ c ∷ [])).waiting → l.result ≡ (level_along p template (less ++ c ∷ [])).result → returned (state_at (level_called p (level_along p template less) c.at c.keep) outer own todo) value ≡ returned (state_at l outer own other) value
returned_called p template less c l outer own todo other value call same_waiting same_result =
    let level = level_of_call p template (less ++ c ∷ []) less c refl call in
    returned_by (level_called p (level_along p template less) c.at c.keep) l outer own todo other value
    (ap (λ (m : Level). m.waiting) (sym level) ∙ sym same_waiting) (ap (λ (m : Level). m.result) (sym level) ∙ sym same_result)

pub outermost_behind : (p : Program) (template : ℕ) (cs : List Cursor) → cs ≡ [] → (level_along p template cs).behind ≡ []
outermost_behind p template cs is = rw (is, level_along-none p template) refl

-- a return from a thread's body leaves nothing to do
pub returned_none : (p : Program) (template : ℕ) (cs : List Cursor) (l : Level) (outer own : List Local) (todo other : List Thing) (value : ℕ) → cs ≡ [] → l.waiting ≡ (level_along p template (cs ++ [])).waiting → l.result ≡ (level_along p template (cs ++ [])).result → going_on (state_at (level_along p template cs) outer own todo) [] ≡ returned (state_at l outer own other) value
returned_none p template cs l outer own todo other value is same_waiting same_result =
    let level : level_along p template (cs ++ []) ≡ outermost p template = rw (append-nil cs, is) (level_along-none p template) in
    let here : level_along p template cs ≡ outermost p template = rw is (level_along-none p template) in
    ap (λ m. going_on (state_at m outer own todo) []) here
    ∙ returned_by (outermost p template) l outer own todo other value (ap (λ (m : Level). m.waiting) (sym level) ∙ sym same_waiting) (ap (λ (m : Level). m.result) (sym level) ∙ sym same_result)
