-- The bytes of a console, as the image shows them.
use Rattle.std.proofs.Common.{◌≡◌, ℕ, ◌<◌, length, arith}
use Rattle.std.proofs.lemmas.List.FromFn.{get_or-map-range_with_len, length-map-range_with_len}
use Rattle.std.specs.Prelude.{slice_index}
use Rattle.kernel_image.specs.Decoded.{Decoded, listed}
use Rattle.kernel_image.specs.Shown.{byte_of}
use Rattle.console_store.specs.Console.{bytes_in}

pub byte_at : (d : Decoded) (at : ℕ) → at < d.console_length → slice_index (bytes_in d) at ≡ byte_of d.console at
unfolding listed
byte_at d at low = get_or-map-range_with_len (byte_of d.console) 0 d.console_length at at 0 low (omega arith)

pub bytes_count : (d : Decoded) → length (bytes_in d) ≡ d.console_length
unfolding listed
bytes_count d = length-map-range_with_len (byte_of d.console) 0 d.console_length
