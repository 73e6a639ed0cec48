-- What a text is answered: the fate of its tokens together with how they end.
use Rattle.std.specs.Prelude.{◌≡◌, List, [], ◌∷◌, Result, Ok, Err}
use Rattle.thread_tree.specs.declared.token.Placed.{Placed}
use Rattle.thread_tokens.specs.declared.ending.Ending.{Ending}
use Rattle.thread_tokens.specs.declared.ending.Ending.TheVariants as ending
use Rattle.thread_text.specs.Bounds.{Counts}
use Rattle.thread_text.specs.Fate.{Fate, Whole, StuckAt, LongAt, fate}
use Rattle.thread_text.specs.declared.fault.TextFault.{TextFault}
use Rattle.thread_text.specs.declared.fault.TextFault.TheVariants as fault

-- a text is a program, or has this fault
pub data Verdict : Type 0 where
  Fine : Verdict
  Faulty : (fault : TextFault) → Verdict

-- nothing counted yet
abbrev pub none_counted : Counts
none_counted = record { operators = 0; parentheses = 0; blocks = 0 }

-- where all tokens are used and more are owed: the fault that ends them, or the end of the text
abbrev pub owed_at : Ending → Verdict
owed_at (ending.End place) = Faulty (fault.Expected place)
owed_at (ending.BadToken place) = Faulty (fault.BadToken place)
owed_at (ending.NumberTooLarge place) = Faulty (fault.NumberTooLarge place)
owed_at (ending.TooLong place) = Faulty (fault.TooLong place)

-- where all tokens are used and nothing is owed
abbrev pub whole_at : Ending → Verdict
whole_at (ending.End place) = Fine
whole_at (ending.BadToken place) = Faulty (fault.BadToken place)
whole_at (ending.NumberTooLarge place) = Faulty (fault.NumberTooLarge place)
whole_at (ending.TooLong place) = Faulty (fault.TooLong place)

-- at a token that can't stand here, and at one that passes a bound
abbrev pub stuck_at : List Placed → Ending → Verdict
stuck_at [] end = owed_at end
stuck_at (t ∷ left) end = Faulty (fault.Expected t.place)

abbrev pub long_at : List Placed → Ending → Verdict
long_at [] end = owed_at end
long_at (t ∷ left) end = Faulty (fault.TooLong t.place)

-- by the fate
abbrev pub judged_by : Fate → Ending → Verdict
judged_by Whole end = whole_at end
judged_by (StuckAt left) end = stuck_at left end
judged_by (LongAt left) end = long_at left end

-- what these tokens with this ending are answered
unfoldable pub verdict : List Placed → Ending → Verdict
verdict tokens end = judged_by (fate [] none_counted tokens) end

-- an answer is this verdict, unless memory runs out
abbrev pub Answers : {X : Type 0} → Result X TextFault → Verdict → Type 0
Answers (Ok x) v = v ≡ Fine
Answers (Err fault.NoMemory) v = Unit {0}
Answers (Err (fault.Expected place)) v = v ≡ Faulty (fault.Expected place)
Answers (Err (fault.BadToken place)) v = v ≡ Faulty (fault.BadToken place)
Answers (Err (fault.NumberTooLarge place)) v = v ≡ Faulty (fault.NumberTooLarge place)
Answers (Err (fault.TooLong place)) v = v ≡ Faulty (fault.TooLong place)
