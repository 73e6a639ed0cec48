-- What a part of a body adds to its peak.
use Rattle.std.proofs.Common.{◌≡◌, ℕ, ◌+◌, ◌≤◌, max, List, [], ◌∷◌, ◌++◌, length, Ok, refl, ap, ◌∙◌, subst, arith, length-append}
use Rattle.thread_tree.specs.declared.place.Place.{Place}
use Rattle.thread_tree.specs.declared.place.At.{At}
use Rattle.thread_tree.specs.Need.{Need, Weight, nothing, needs, declaration, either, followed, opened as opened_need}
use Rattle.thread_check.specs.declared.peak.Peak.{Peak}
use Rattle.thread_check.specs.Verdict.{Answer, ◌>>=◌}
use Rattle.thread_check.specs.Scope.{Scope, with_local, opened, closed, after_call, room_for_block}
use Rattle.thread_check.specs.Names.{Names}
use Rattle.thread_check.specs.Blocks.{Rule, in_turn, block_of, new_local}
use Rattle.thread_check.proofs.FewLaws.{kept_first, kept_second, within_limit-kept}
use Rattle.thread_check.proofs.KeptLaws.{passes}

-- the peak of a scope is at least what is there now, and within the limits
pub record IsCounted (scope : Scope) : Type 0 where
  pub locals : length scope.locals ≤ scope.peak.locals
  pub blocks : scope.blocks ≤ scope.peak.blocks
  pub most_locals : scope.peak.locals ≤ 48
  pub most_blocks : scope.peak.blocks ≤ 24

-- what a part of this weight leaves
pub record After (w : Weight) (scope end : Scope) : Type 0 where
  pub locals : length end.locals ≡ length scope.locals + w.declares
  pub blocks : end.blocks ≡ scope.blocks
  pub peak_locals : end.peak.locals ≡ max scope.peak.locals (length scope.locals + w.need.locals)
  pub peak_blocks : end.peak.blocks ≡ max scope.peak.blocks (scope.blocks + w.need.blocks)
  pub counted : IsCounted end

-- what statements of this need leave, one after another
pub record AfterTurn (n : Need) (scope end : Scope) : Type 0 where
  pub blocks : end.blocks ≡ scope.blocks
  pub peak_locals : end.peak.locals ≡ max scope.peak.locals (length scope.locals + n.locals)
  pub peak_blocks : end.peak.blocks ≡ max scope.peak.blocks (scope.blocks + n.blocks)
  pub counted : IsCounted end

-- an answer's value
pub value_of_ok : {A : Type 0} (a b : A) → ◌≡◌ {A = Answer A} (Ok a) (Ok b) → a ≡ b
value_of_ok a b e = cc

-- what needs nothing leaves the scope
pub stays : (scope end : Scope) → IsCounted scope → scope ≡ end → After (needs nothing) scope end
stays scope end counted e =
    subst (After (needs nothing) scope) e (record { locals = omega arith; blocks = refl; peak_locals = omega (arith, counted.locals); peak_blocks = omega (arith, counted.blocks); counted = counted })

-- a new local adds one
pub adds_local : (scope end : Scope) (name : ℕ) → IsCounted scope → length scope.locals + 1 ≤ 48 → with_local name scope ≡ end → After declaration scope end
adds_local scope end name counted room e =
    let long : length (scope.locals ++ name ∷ []) ≡ length scope.locals + 1 = length-append scope.locals (name ∷ []) in
    subst (After declaration scope) e (record {
      locals = long;
      blocks = refl;
      peak_locals = refl;
      peak_blocks = omega (arith, counted.blocks);
      counted = record { locals = omega arith; blocks = omega (arith, counted.blocks); most_locals = omega (arith, counted.most_locals); most_blocks = omega (arith, counted.most_blocks) };
    })

-- one part after another, of which neither leaves a local
pub one_or_other : (a b : Need) (scope mid end : Scope) → After (needs a) scope mid → After (needs b) mid end → After (needs (either a b)) scope end
one_or_other a b scope mid end first second = record {
  locals = omega (arith, first.locals, second.locals);
  blocks = second.blocks ∙ first.blocks;
  peak_locals = omega (arith, first.locals, first.peak_locals, second.peak_locals);
  peak_blocks = omega (arith, first.blocks, first.peak_blocks, second.peak_blocks);
  counted = second.counted;
}

-- a part in a scope that differs in loops alone, closed
pub closes : (n : Need) (scope inside inner end : Scope) → IsCounted scope → inside.locals ≡ scope.locals → inside.blocks ≡ scope.blocks → inside.peak ≡ scope.peak → After (needs n) inside inner → closed scope inner ≡ end → After (needs n) scope end
closes n scope inside inner end counted same_locals same_blocks same_peak after e =
    let long = ap (λ (l : List ℕ). length l) same_locals in
    let peak_locals = ap (λ (p : Peak). p.locals) same_peak in
    let peak_blocks = ap (λ (p : Peak). p.blocks) same_peak in
    subst (After (needs n) scope) e (record {
      locals = omega arith;
      blocks = refl;
      peak_locals = omega (arith, after.peak_locals);
      peak_blocks = omega (arith, after.peak_blocks);
      counted = record {
        locals = omega (arith, after.peak_locals, counted.locals);
        blocks = omega (arith, after.peak_blocks, counted.blocks);
        most_locals = after.counted.most_locals;
        most_blocks = after.counted.most_blocks;
      };
    })

-- a part in a scope that differs in loops alone, of which the peak is kept
pub keeps_peak : (n : Need) (scope inside inner end : Scope) → IsCounted scope → inside.locals ≡ scope.locals → inside.blocks ≡ scope.blocks → inside.peak ≡ scope.peak → After (needs n) inside inner → record scope { peak = inner.peak } ≡ end → After (needs n) scope end
keeps_peak n scope inside inner end counted same_locals same_blocks same_peak after e =
    let closed_after = closes n scope inside inner (closed scope inner) counted same_locals same_blocks same_peak after refl in
    subst (After (needs n) scope) e (record {
      locals = closed_after.locals;
      blocks = refl;
      peak_locals = closed_after.peak_locals;
      peak_blocks = closed_after.peak_blocks;
      counted = record { locals = closed_after.counted.locals; blocks = closed_after.counted.blocks; most_locals = closed_after.counted.most_locals; most_blocks = closed_after.counted.most_blocks };
    })

-- a call adds what its callee needs
pub calls : (callee : Peak) (need : Need) (scope end : Scope) → IsCounted scope → need.locals ≡ callee.locals → need.blocks ≡ callee.blocks → length scope.locals + callee.locals ≤ 48 → scope.blocks + callee.blocks ≤ 24 → after_call callee scope ≡ end → After (needs need) scope end
calls callee need scope end counted same_locals same_blocks few_locals few_blocks e =
    subst (After (needs need) scope) e (record {
      locals = omega arith;
      blocks = refl;
      peak_locals = omega arith;
      peak_blocks = omega arith;
      counted = record {
        locals = omega (arith, counted.locals);
        blocks = omega (arith, counted.blocks);
        most_locals = omega (arith, counted.most_locals);
        most_blocks = omega (arith, counted.most_blocks);
      };
    })

-- statements one after another
pub follows : (w : Weight) (n : Need) (scope mid end : Scope) → After w scope mid → AfterTurn n mid end → AfterTurn (followed w n) scope end
follows w n scope mid end first rest = record {
  blocks = rest.blocks ∙ first.blocks;
  peak_locals = omega (arith, first.locals, first.peak_locals, rest.peak_locals);
  peak_blocks = omega (arith, first.blocks, first.peak_blocks, rest.peak_blocks);
  counted = rest.counted;
}

-- no statement
pub no_more : (scope end : Scope) → IsCounted scope → scope ≡ end → AfterTurn nothing scope end
no_more scope end counted e =
    subst (AfterTurn nothing scope) e (record { blocks = refl; peak_locals = omega (arith, counted.locals); peak_blocks = omega (arith, counted.blocks); counted = counted })

-- a block, where its statements add this
pub opens : (n : Need) (place : Place) (rules : List Rule) (scope end : Scope) → IsCounted scope → ((inner : Scope) → IsCounted (opened scope) → in_turn rules (opened scope) ≡ Ok inner → AfterTurn n (opened scope) inner) → block_of place rules scope ≡ Ok end → After (needs (opened_need n)) scope end
opens n place rules scope end counted turn kept =
    let room : scope.blocks + 1 ≤ 24 = within_limit-kept _ _ _ _ (kept_first _ _ end kept) in
    let p = passes (in_turn rules (opened scope)) (λ inner. Ok (closed scope inner)) end (kept_second (room_for_block place scope) (in_turn rules (opened scope) >>= λ inner. Ok (closed scope inner)) end kept) in
    let open_counted : IsCounted (opened scope) = record {
      locals = omega (arith, counted.locals);
      blocks = omega arith;
      most_locals = omega (arith, counted.most_locals);
      most_blocks = omega (arith, counted.most_blocks);
    } in
    let inner : AfterTurn n (opened scope) p.left = turn p.left open_counted p.kept in
    subst (After (needs (opened_need n)) scope) (value_of_ok _ _ p.after) (record {
      locals = omega arith;
      blocks = refl;
      peak_locals = omega (arith, inner.peak_locals);
      peak_blocks = omega (arith, inner.peak_blocks);
      counted = record {
        locals = omega (arith, inner.peak_locals, counted.locals);
        blocks = omega (arith, inner.peak_blocks, counted.blocks);
        most_locals = inner.counted.most_locals;
        most_blocks = inner.counted.most_blocks;
      };
    })

-- a declared local that is kept has room
pub new_local-kept : (names : Names) (scope : Scope) (at : At) → new_local names scope at ≡ Ok tt → length scope.locals + 1 ≤ 48
unfolding new_local
new_local-kept names scope at kept = within_limit-kept _ _ _ _ (kept_second _ _ tt kept)
