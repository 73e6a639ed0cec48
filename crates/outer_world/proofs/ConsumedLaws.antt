-- Laws of bytes that were read one piece after another.
use Rattle.std.proofs.Common.{◌≡◌, ℕ, ◌<◌, List, [], ◌++◌, length, Option, None, Some, refl, sym, ap, ◌∙◌, append_assoc, append-nil, arith, length-append}
use Rattle.std.proofs.lemmas.List.{take_at}
use Rattle.std.specs.Prelude.{IfSome}
use Rattle.std.specs.Io.{StartsWith}
use Rattle.std.specs.Io.KnownBytes.{Consumes, Keeps, IsAtEnd}

-- nothing is read of what stays
pub consumes_nothing : (told : Option (List ℕ)) → Consumes told told []
consumes_nothing None = tt
consumes_nothing (Some bytes) = refl

-- two pieces one after the other are one piece
pub consumes_twice : (told mid rest : Option (List ℕ)) (a b : List ℕ) → Consumes told mid a → Consumes mid rest b → Consumes told rest (a ++ b)
consumes_twice None mid rest a b first second = tt
consumes_twice (Some bytes) None rest a b first second = absurd first
consumes_twice (Some bytes) (Some left) None a b first second = absurd second
consumes_twice (Some bytes) (Some left) (Some others) a b first second =
    first ∙ ap (λ text. a ++ text) second ∙ sym (append_assoc a b others)

-- what was read up to the end is all
pub all_at_end : (told rest : Option (List ℕ)) (held : List ℕ) → Consumes told rest held → IsAtEnd rest → IfSome told (λ bytes. held ≡ bytes)
all_at_end None rest held read at_end = tt
all_at_end (Some bytes) None held read at_end = absurd read
all_at_end (Some bytes) (Some left) held read at_end =
    sym (read ∙ ap (λ text. held ++ text) at_end ∙ append-nil held)

-- what was read is a prefix
pub prefix_of_read : (told rest : Option (List ℕ)) (held : List ℕ) → Consumes told rest held → IfSome told (λ bytes. StartsWith bytes held)
prefix_of_read None rest held read = tt
prefix_of_read (Some bytes) None held read = absurd read
prefix_of_read (Some bytes) (Some left) held read = rw read (take_at held left (length held) refl)

-- there were more bytes than the limit where more were read
pub longer_than_read : (told rest : Option (List ℕ)) (held : List ℕ) (limit : ℕ) → Consumes told rest held → limit < length held → IfSome told (λ bytes. limit < length bytes)
longer_than_read None rest held limit read more = tt
longer_than_read (Some bytes) None held limit read more = absurd read
longer_than_read (Some bytes) (Some left) held limit read more = omega (arith, ap length read, length-append held left)

-- all these laws, for an attribute `using`
pub ruleset consumed = (consumes_nothing, consumes_twice, all_at_end, prefix_of_read, longer_than_read)
