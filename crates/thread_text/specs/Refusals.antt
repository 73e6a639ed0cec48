-- What a fault says of the text, by the grammar alone.
use Rattle.std.specs.Prelude.{◌≡◌, ◌⊎◌, List, [], ◌∷◌, ◌++◌}
use Rattle.thread_tree.specs.declared.place.Place.{Place}
use Rattle.thread_tree.specs.declared.token.Placed.{Placed}
use Rattle.thread_tokens.specs.declared.ending.Ending.{Ending}
use Rattle.thread_tokens.specs.declared.ending.Ending.TheVariants as ending
use Rattle.grammar_laws.specs.Open.{HasProgram, MayBecome}
use Rattle.thread_text.specs.Fate.{LongAt, fate}
use Rattle.thread_text.specs.Verdict.{none_counted}
use Rattle.thread_text.specs.declared.fault.TextFault.{TextFault}
use Rattle.thread_text.specs.declared.fault.TextFault.TheVariants as fault

-- a program begins with the tokens before this place, and none with the token there too
pub record IsRefusedAt (tokens : List Placed) (place : Place) : Type 0 where
  pub front : List Placed
  pub first : Placed
  pub behind : List Placed
  pub in_order : tokens ≡ front ++ first ∷ behind
  pub at : first.place ≡ place
  pub is_open : MayBecome front
  pub refused : MayBecome (front ++ first ∷ []) → ⊥

-- the text ends at this place; a program begins with its tokens, and they are none
pub record IsUnfinished (tokens : List Placed) (end : Ending) (place : Place) : Type 0 where
  pub ends : end ≡ ending.End place
  pub is_open : MayBecome tokens
  pub no_program : HasProgram tokens → ⊥

-- a program begins with the tokens, and they end so
pub record IsEndedBy (tokens : List Placed) (end fault_end : Ending) : Type 0 where
  pub ends : end ≡ fault_end
  pub is_open : MayBecome tokens

-- a program begins with the tokens up to and with the one at this place, and that is the first to pass a bound
pub record IsLongAt (tokens : List Placed) (place : Place) : Type 0 where
  pub front : List Placed
  pub first : Placed
  pub behind : List Placed
  pub in_order : tokens ≡ front ++ first ∷ behind
  pub at : first.place ≡ place
  pub is_open : MayBecome (front ++ first ∷ [])
  pub passes : fate [] none_counted tokens ≡ LongAt (first ∷ behind)

-- what each fault of these tokens, which end so, says
abbrev pub Explains : List Placed → Ending → TextFault → Type 0
Explains tokens end (fault.Expected place) = IsRefusedAt tokens place ⊎ IsUnfinished tokens end place
Explains tokens end (fault.BadToken place) = IsEndedBy tokens end (ending.BadToken place)
Explains tokens end (fault.NumberTooLarge place) = IsEndedBy tokens end (ending.NumberTooLarge place)
Explains tokens end (fault.TooLong place) = IsLongAt tokens place ⊎ IsEndedBy tokens end (ending.TooLong place)
Explains tokens end fault.NoMemory = Unit {0}
