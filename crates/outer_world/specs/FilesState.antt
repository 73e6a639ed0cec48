-- What files in memory count as.
use Rattle.std.specs.Prelude.{ℕ, ◌+◌, List, length, find, Option, None, Some, Result, Ok, Err, if◌then◌else◌}
use Rattle.std.specs.Option.{option_map}
use Rattle.std.specs.Str.{bytes_eq}
use Rattle.outer_world.specs.declared.fault.FileFault.{FileFault}
use Rattle.outer_world.specs.declared.fault.FileFault.TheVariants.{Failed, TooLong, NoMemory}
use Rattle.outer_world.specs.Causes.{count_after}
use Rattle.outer_world.specs.Failing.{is_listed}

-- the files, each its name and its bytes, the calls that are to fail, the calls so far, the bytes taken and the faults so far
pub record FilesState : Type 0 where
  pub files : List (List ℕ × List ℕ)
  pub failing : List ℕ
  pub calls : ℕ
  pub taken : ℕ
  pub faults : ℕ

-- the first file of this name
abbrev pub file_of : List (List ℕ × List ℕ) → List ℕ → Option (List ℕ × List ℕ)
file_of files name = find (λ file. bytes_eq file.0 name) files

-- the bytes of the first file of this name
abbrev pub bytes_of : List (List ℕ × List ℕ) → List ℕ → Option (List ℕ)
bytes_of files name = option_map (λ file. file.1) (file_of files name)

-- the bytes that the next call reads: none where it is to fail or no file has the name
abbrev pub readable : FilesState → List ℕ → Option (List ℕ)
readable state name =
    if is_listed state.failing (count_after 1 state.calls) then None else bytes_of state.files name

-- the files after a call: the call is counted, and by its answer the bytes that it took or its fault
abbrev pub after_call : {T : Type 0} → FilesState → ℕ → List ℕ → Result T FileFault → FilesState
after_call state limit held (Ok _) =
    record state { calls = count_after 1 state.calls; taken = count_after (length held) state.taken }
after_call state limit held (Err Failed) =
    record state { calls = count_after 1 state.calls; faults = count_after 1 state.faults }
after_call state limit held (Err TooLong) =
    record state { calls = count_after 1 state.calls; taken = count_after (limit + 1) state.taken }
after_call state limit held (Err NoMemory) = record state { calls = count_after 1 state.calls }
