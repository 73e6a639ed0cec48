-- How a store ended.
use Rattle.std.specs.Prelude.{Bool, true, false, Result, Ok, Err}
use Rattle.persistent_objects.specs.declared.stop.Stop.{Stop}
use Rattle.persistent_objects.specs.declared.stop.Stop.TheVariants.{Cut, BadReference}

-- whether the object was there
abbrev pub is_found : {T : Type 0} → Result T Stop → Bool
is_found (Ok x) = true
is_found (Err Cut) = true
is_found (Err BadReference) = false

-- what holds where power was lost
abbrev pub OnCut : {T : Type 0} → Result T Stop → Type 0 → Type 0
OnCut (Ok x) P = Unit {0}
OnCut (Err Cut) P = P
OnCut (Err BadReference) P = Unit {0}

-- what holds where there is no such object
abbrev pub OnBad : {T : Type 0} → Result T Stop → Type 0 → Type 0
OnBad (Ok x) P = Unit {0}
OnBad (Err Cut) P = Unit {0}
OnBad (Err BadReference) P = P
