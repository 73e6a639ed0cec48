-- A choice by a test.
use Rattle.std.proofs.Common.{◌≡◌, Bool, true, false, refl}

pub by_test : (b : Bool) (P : Type 0) → (b ≡ true → P) → (b ≡ false → P) → P
by_test true P holds fails = holds refl
by_test false P holds fails = fails refl
