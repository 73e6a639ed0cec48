-- The parts of these lines, out of the words and the contexts.
use Rattle.std.specs.Prelude.{ℕ, List, [], ◌∷◌, ◌++◌, Option, Some, None, option_and_then, slice_get, codes}
use Rattle.std.specs.Fmt.{decimal}
use Rattle.thread_tree.specs.declared.local.Local.{Local}
use Rattle.thread_tree.specs.LocalState.{locals_of}
use Rattle.thread_tree.specs.Program.{Program}
use Rattle.thread_machine.specs.declared.context.Ctx.{Ctx}
use Rattle.thread_machine.specs.Context.{local_of}
use Rattle.kernel_model.specs.Names.{name_of}
use Rattle.kernel_model.specs.Show.{bytes_of, names_of}
use Rattle.boot_report.specs.Lines.{locals_text}

-- ` NAME=VALUE`
abbrev pub local_text : Program → Local → List ℕ
local_text p local = codes " " ++ bytes_of p local.name ++ codes "=" ++ decimal local.value

-- the line of a thread by its template and its locals
unfoldable pub line_by : ℕ → Program → ℕ → ℕ → List Local → List ℕ
line_by number p t template locals =
    codes "boot " ++ decimal number ++ codes " thread " ++ decimal t ++ codes " " ++ name_of (names_of p).templates template
    ++ codes ":" ++ locals_text p locals

-- the context of a thread, if there is one
abbrev pub found_in : List (Option Ctx) → ℕ → Option Ctx
found_in contexts t = option_and_then (λ ctx. ctx) (slice_get contexts t)

-- the line of a thread of this template, if it has a context
abbrev pub lines_by : ℕ → Program → ℕ → ℕ → Option Ctx → List (List ℕ)
lines_by number p t template None = []
lines_by number p t template (Some ctx) = line_by number p t template (locals_of (local_of p ctx)) ∷ []
