-- What the code reads, as the model has it.
use Rattle.std.specs.Prelude.{ℕ, Result, Ok, Err}
use Rattle.kernel_model.specs.Transactions as model
use Rattle.user_transactions.specs.declared.expressions.Found.{Found}
use Rattle.user_transactions.specs.declared.references.Reference.{Reference}

-- a reference
abbrev pub seen_reference : Reference → model.Reference
seen_reference r = record { place = r.place; kind = r.kind; field = r.field }

-- a value that was read
abbrev pub seen_value : Found → model.Read
seen_value r = record { value = r.value; operations = r.operations }

-- a value that was read, or the fault of a field
abbrev pub seen_read : Result Found ℕ → Result model.Read ℕ
seen_read (Ok r) = Ok (seen_value r)
seen_read (Err fault) = Err fault
