-- What the actions of a thread leave on the image and in its context.
use Rattle.std.specs.Prelude.{◌≡◌, ℕ, ◌+◌, Bool, true, false, nat_le, List, [], ◌∷◌, ◌++◌, length, flat_map, Option, Some, None}
use Rattle.thread_tree.specs.declared.action.Call.{Call}
use Rattle.thread_tree.specs.declared.action.Call.TheVariants as call
use Rattle.thread_tree.specs.declared.action.Item.{Item}
use Rattle.thread_tree.specs.declared.block.Block.{Block}
use Rattle.thread_tree.specs.declared.block.Stmt.{Stmt}
use Rattle.thread_tree.specs.declared.block.Stmt.TheOpen.{Stmt-F}
use Rattle.thread_tree.specs.declared.block.Stmt.TheOpen as stmt
use Rattle.thread_tree.specs.declared.place.At.{At}
use Rattle.thread_tree.specs.Kinds.{Action, operands_of_item}
use Rattle.thread_tree.specs.LocalState.{LocalState, bind}
use Rattle.thread_tree.specs.Program.{Program}
use Rattle.kernel_image.specs.Decoded.{Decoded, row_at, with_row}
use Rattle.kernel_model.specs.Calls.{console_room}
use Rattle.replay_list.specs.Records.{IsRecorded}
use Rattle.replay_list.specs.Stands.{console_in}

-- the items of a call, where it is a print
abbrev pub printed_by : Call → Option (List Item)
printed_by (call.Print items) = Some items
printed_by _ = None

-- the items of a print, by the layer of its statement
abbrev pub printed_items : Stmt-F Stmt Block → Option (List Item)
printed_items (stmt.Let at e) = None
printed_items (stmt.Set at e) = None
printed_items (stmt.Apply to callee arguments) = None
printed_items (stmt.If e block other) = None
printed_items (stmt.While e block) = None
printed_items (stmt.Ploop place block) = None
printed_items (stmt.Break place) = None
printed_items (stmt.Return place value) = None
printed_items (stmt.Atomic place to block) = None
printed_items (stmt.Call place c to) = printed_by c

-- the names that take what a block gives, by the layer of its statement
abbrev pub block_names : Stmt-F Stmt Block → Option (List At)
block_names (stmt.Let at e) = None
block_names (stmt.Set at e) = None
block_names (stmt.Apply to callee arguments) = None
block_names (stmt.If e block other) = None
block_names (stmt.While e block) = None
block_names (stmt.Ploop place block) = None
block_names (stmt.Break place) = None
block_names (stmt.Return place value) = None
block_names (stmt.Atomic place to block) = Some to
block_names (stmt.Call place c to) = None

-- the action that a print of these items is, whose result these names take
abbrev pub print_action : List Item → List ℕ → Action
print_action items names = record { kind = 1; given = 0; operands = flat_map operands_of_item items; names = names }

-- an event is counted, the row of a thread has one record more with these results, and besides the console and the
-- words of the heap alone may differ
pub record IsServed (thread kind : ℕ) (results : List ℕ) (old new : Decoded) : Type 0 where
  pub row : IsRecorded kind results (row_at old thread) (row_at new thread)
  pub rest : record new { console_length = old.console_length; console = old.console; heap = old.heap }
      ≡ record (with_row old thread (row_at new thread)) { events = old.events + 1 }

-- whether bytes fit on the console
abbrev pub fits_on : Decoded → List ℕ → Bool
fits_on d bytes = nat_le (d.console_length + length bytes) console_room

-- the bytes of a console where these were printed, if they fit
abbrev pub printed_on : Bool → List ℕ → List ℕ → List ℕ
printed_on true console bytes = console ++ bytes
printed_on false console bytes = console

-- the result of a print
abbrev pub ok_of : Bool → ℕ
ok_of true = 1
ok_of false = 0

-- a thread has printed bytes: they are on the console where they fit, the result says whether, and it was bound
pub record IsPrinted (p : Program) (thread : ℕ) (bytes : List ℕ) (old new : Decoded) (before after : LocalState) : Type 0 where
  pub served : IsServed thread 1 (ok_of (fits_on old bytes) ∷ []) old new
  pub console : console_in new ≡ printed_on (fits_on old bytes) (console_in old) bytes
  pub heap : new.heap ≡ old.heap
  pub bound : after ≡ bind p before (ok_of (fits_on old bytes) ∷ [])
