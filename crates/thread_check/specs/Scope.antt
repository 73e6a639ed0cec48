-- What is in scope at a point of a body, and what was counted on the way there.
use Rattle.std.specs.Prelude.{ℕ, ◌+◌, max, ◌==◌, Bool, true, false, List, [], ◌∷◌, ◌++◌, length}
use Rattle.std.specs.List.{list_any}
use Rattle.thread_tree.specs.declared.place.Place.{Place}
use Rattle.thread_tree.specs.declared.place.At.{At}
use Rattle.thread_check.specs.declared.peak.Peak.{Peak}
use Rattle.thread_check.specs.declared.fault.Kind.TheVariants as kind
use Rattle.thread_check.specs.Verdict.{Verdict, ◌>>◌, within_limit}
use Rattle.thread_tree.specs.declared.limits.TheConstants.{LOCALS, BLOCKS}

-- the locals in scope in order of declaration, the open blocks, whether a loop of this body or of
-- this transaction is around, the persistent loops of the text so far, and the peak of the body so far
pub record Scope : Type 0 where
  pub locals : List ℕ
  pub blocks : ℕ
  pub in_loop : Bool
  pub loops : ℕ
  pub peak : Peak

-- what is in scope before the parameters of a body
abbrev pub no_scope : ℕ → Scope
no_scope loops = record {
  locals = [];
  blocks = 0;
  in_loop = false;
  loops = loops;
  peak = record { locals = 0; blocks = 0 };
}

-- whether a name is a local in scope
abbrev pub is_local : List ℕ → ℕ → Bool
is_local locals name = list_any (λ local. local == name) locals

-- a peak that so many locals and blocks at once may raise
abbrev pub raised : ℕ → ℕ → Peak → Peak
raised locals blocks peak = record { locals = max peak.locals locals; blocks = max peak.blocks blocks }

-- the scope with one local more
abbrev pub with_local : ℕ → Scope → Scope
with_local name scope = record scope {
  locals = scope.locals ++ name ∷ [];
  peak = raised (length scope.locals + 1) 0 scope.peak;
}

-- the scope in a loop
abbrev pub looping : Scope → Scope
looping scope = record scope { in_loop = true }

-- the scope in a further persistent loop
abbrev pub ploop : Scope → Scope
ploop scope = record scope { in_loop = true; loops = scope.loops + 1 }

-- the scope at the first statement of a block
abbrev pub opened : Scope → Scope
opened scope = record scope {
  blocks = scope.blocks + 1;
  peak = raised 0 (scope.blocks + 1) scope.peak;
}

-- the scope after a block: its locals are dropped, and what was counted in it stays counted
abbrev pub closed : Scope → Scope → Scope
closed scope inner = record scope { loops = inner.loops; peak = inner.peak }

-- the scope after a call of a function with this peak
abbrev pub after_call : Peak → Scope → Scope
after_call callee scope = record scope {
  peak = raised (length scope.locals + callee.locals) (scope.blocks + callee.blocks) scope.peak;
}

-- one local too many
abbrev pub room_for_local : At → Scope → Verdict
room_for_local at scope = within_limit at.place kind.Locals LOCALS (length scope.locals + 1)

-- one block too many
abbrev pub room_for_block : Place → Scope → Verdict
room_for_block place scope = within_limit place kind.Nesting BLOCKS (scope.blocks + 1)

-- a callee that needs too many locals or blocks beside those in scope
abbrev pub room_for_call : Place → Peak → Scope → Verdict
room_for_call place callee scope = do
  within_limit place kind.Locals LOCALS (length scope.locals + callee.locals)
  within_limit place kind.Nesting BLOCKS (scope.blocks + callee.blocks)
