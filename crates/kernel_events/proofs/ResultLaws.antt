-- What follows from what holds of a result.
use Rattle.std.specs.Prelude.{Result, Ok, Err, IfOk, OnOk}

pub ok_and : {X E : Type 0} (r : Result X E) (P : X → Type 0) (Q : Type 0) (R : X → Type 0) → IfOk r P → OnOk r Q → ((x : X) → P x → Q → R x) → IfOk r R
ok_and (Ok x) P Q R p q follows = follows x p q
ok_and (Err e) P Q R p q follows = tt

pub ok_one : {X E : Type 0} (r : Result X E) (P Q : X → Type 0) → IfOk r P → ((x : X) → P x → Q x) → IfOk r Q
ok_one (Ok x) P Q p follows = follows x p
ok_one (Err e) P Q p follows = tt
