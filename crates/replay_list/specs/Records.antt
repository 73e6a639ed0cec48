-- The records of a thread as the words of its row.
use Rattle.std.specs.Prelude.{◌≡◌, ℕ, ◌+◌, ◌≤◌, ◌-◌, ◌/◌, ◌%◌, ◌==◌, if◌then◌else◌, List, [], ◌∷◌, ◌++◌, length, take}
use Rattle.std.specs.List.{AllByRecursion}
use Rattle.thread_tree.specs.Kinds.{result_count}
use Rattle.thread_tree.specs.Relive.{Start, Record}
use Rattle.thread_tree.specs.Relive.Start.{Birth, Loop}
use Rattle.kernel_image.specs.Decoded.{Decoded, RowWords, row_at, with_row}
use Rattle.thread_tree.specs.declared.limits.TheConstants.{RECORD_WORDS}
use Rattle.thread_tree.specs.declared.kinds.TheConstants.{EACH_GIVEN}

-- records one after another: the kind word of each, and its results
abbrev pub encoded : List Record → List ℕ
encoded [] = []
encoded (r ∷ rs) = r.kind ∷ (r.results ++ encoded rs)

-- how many results a record has that begins with this kind word
abbrev pub results_of : ℕ → ℕ
results_of kind_word = result_count (kind_word % EACH_GIVEN) (kind_word / EACH_GIVEN)

-- a record has as many results as its kind word says
abbrev pub IsFit : Record → Type 0
IsFit r = results_of r.kind ≡ length r.results

-- each record has
abbrev pub AreFit : List Record → Type 0
AreFit rs = AllByRecursion IsFit rs

-- the words of a row's records
abbrev pub recorded : RowWords → List ℕ
recorded row = take row.used row.records

-- the values with which the thread of a row starts
abbrev pub values_in : RowWords → List ℕ
values_in row = take row.start_count row.start_values

-- where the thread of a row starts
abbrev pub start_in : RowWords → Start
start_in row = if row.start == 0 then Birth row.template (values_in row) else Loop (row.start - 1) (values_in row)

-- a row has one record more, and is otherwise as before
pub record IsRecorded (kind : ℕ) (results : List ℕ) (old new : RowWords) : Type 0 where
  pub words : recorded new ≡ recorded old ++ kind ∷ results
  pub used : new.used ≡ old.used + 1 + length results
  pub rest : record new { used = old.used; records = old.records } ≡ old

-- an image where the row of a thread has one record more, and all else is as before
pub record IsAppended (thread kind : ℕ) (results : List ℕ) (old new : Decoded) : Type 0 where
  pub row : IsRecorded kind results (row_at old thread) (row_at new thread)
  pub rest : new ≡ with_row old thread (row_at new thread)

-- a row has so many records, and their words lie within the 256
pub record HasRecords (row : RowWords) (count : ℕ) : Type 0 where
  pub records : List Record
  pub words : recorded row ≡ encoded records
  pub fit : AreFit records
  pub many : count ≡ length records
  pub few : row.used ≤ RECORD_WORDS
