-- Up to five values as the list that they are.
use Rattle.std.specs.Prelude.{List, [], ◌∷◌}
use Rattle.thread_tree.specs.declared.few.Few.{Few}
use Rattle.thread_tree.specs.declared.few.Few.TheVariants.{Zero, One, Two, Three, Four, Five}

abbrev pub listed : {A : Type 0} → Few A → List A
listed Zero = []
listed (One a) = a ∷ []
listed (Two a b) = a ∷ b ∷ []
listed (Three a b c) = a ∷ b ∷ c ∷ []
listed (Four a b c d) = a ∷ b ∷ c ∷ d ∷ []
listed (Five a b c d e) = a ∷ b ∷ c ∷ d ∷ e ∷ []
