-- The console as bytes, and the console with bytes behind them.
use Rattle.std.specs.Prelude.{◌≡◌, ℕ, ◌+◌, ◌-◌, ◌/◌, ◌%◌, ◌^◌, nat_lt, if◌then◌else◌, List, ◌++◌, length, slice_index}
use Rattle.kernel_image.specs.Decoded.{Decoded, listed}
use Rattle.kernel_image.specs.Shown.{byte_of}

-- the bytes of the console, as the image shows them
abbrev pub bytes_in : Decoded → List ℕ
bytes_in d = listed d.console_length (byte_of d.console)

-- the console has these bytes more, and all else of the image stays
pub record IsAppended (added : List ℕ) (old new : Decoded) : Type 0 where
  pub size : new.console_length ≡ old.console_length + length added
  pub bytes : bytes_in new ≡ bytes_in old ++ added
  pub rest : record new { console_length = old.console_length; console = old.console } ≡ old

-- byte k of a word, the first one in the least significant bits
abbrev pub byte_in_word : ℕ → ℕ → ℕ
byte_in_word word k = word / 256 ^ k % 256

-- byte `at` of a console of this length with bytes behind it, where this word had the byte before; 0 behind them all
abbrev pub grown_byte : ℕ → ℕ → List ℕ → ℕ → ℕ
grown_byte word len bytes at = if nat_lt at len then byte_in_word word (at % 4) else slice_index bytes (at - len)
