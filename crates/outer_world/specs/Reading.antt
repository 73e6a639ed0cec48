-- What a reading of a file gives, and when it is refused.
use Rattle.std.specs.Prelude.{◌≡◌, ℕ, ◌+◌, ◌<◌, ◌≤◌, List, length, Option, IfSome, Result, MatchResult}
use Rattle.std.specs.Io.{StartsWith}
use Rattle.outer_world.specs.declared.fault.FileFault.{FileFault}
use Rattle.outer_world.specs.declared.fault.FileFault.TheVariants.{Failed, TooLong, NoMemory}
use Rattle.outer_world.specs.Causes.{count_after, Rose, RoseBy}

-- a whole reading: all bytes that were taken, at most the limit, and the file's where they are told
pub record IsWhole (told : Option (List ℕ)) (limit : ℕ) (held : List ℕ) (before now : ℕ) : Type 0 where
  pub taken : now ≡ count_after (length held) before
  pub within : length held ≤ limit
  pub exact : IfSome told (λ bytes. held ≡ bytes)

-- what a refused reading left: a prefix of the bytes that were taken, and of the file's where they are told
pub record IsBegun (told : Option (List ℕ)) (held : List ℕ) (before now : ℕ) : Type 0 where
  pub taken : RoseBy (length held) before now
  pub prefix : IfSome told (λ bytes. StartsWith bytes held)

-- a file that is too long: more bytes than the limit were taken, and it has more where they are told
pub record IsTooLong (told : Option (List ℕ)) (limit before now : ℕ) : Type 0 where
  pub taken : RoseBy (limit + 1) before now
  pub longer : IfSome told (λ bytes. limit < length bytes)

-- the count of faults at each fault: it rose at Failed, and stands as it was at the others
abbrev pub Counts : FileFault → ℕ → ℕ → Type 0
Counts Failed before now = Rose before now
Counts TooLong before now = now ≡ before
Counts NoMemory before now = now ≡ before

-- Failed only where the count of faults rose; with each other answer it stands as it was; it never falls
pub record HasFileCause {T : Type 0} (before now : ℕ) (result : Result T FileFault) : Type 0 where
  pub later : before ≤ now
  pub cause : MatchResult result (λ _. now ≡ before) (λ fault. Counts fault before now)
