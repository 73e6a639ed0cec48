-- One step of a loop over a list by its places.
use Rattle.std.proofs.Common.{◌≡◌, ℕ, ◌+◌, Bool, true, List, drop, Some, ◌∙◌, sym, ap, ◌&&◌}
use Rattle.std.specs.List.{slice_get, list_all}
use Rattle.thread_check.proofs.Callers.{drop_at}

-- one item more that passes a test
pub all_step : {A : Type 0} (f : A → Bool) (xs : List A) (i : ℕ) (x : A) (b : Bool) → slice_get xs i ≡ Some x → b ≡ f x → b ≡ true → list_all f (drop (i + 1) xs) ≡ list_all f (drop i xs)
all_step f xs i x b there is passes =
    sym (ap (list_all f) (drop_at xs i x there) ∙ ap (λ c. c && list_all f (drop (i + 1) xs)) (sym is ∙ passes))
