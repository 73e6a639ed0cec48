-- Images that were worked out by hand, and what they show.
use Rattle.std.specs.Prelude.{◌≡◌, ℕ, ◌-◌, true, false, List, [], ◌∷◌, ◌++◌, length, map, replicate, codes, None}
use Rattle.kernel_model.specs.declared.row_state.RowState.TheVariants.{Ready, Delayed, Waiting, Ended}
use Rattle.kernel_model.specs.declared.wait.TheConstants.{NEVER}
use Rattle.kernel_model.specs.declared.what.What.TheVariants.{Send, Take}
use Rattle.kernel_rows.specs.WorkedDumps.{idle_kernel, rows_from, row}
use Rattle.thread_tree.specs.Program.{no_program}
use Rattle.kernel_image.specs.Decoded.{Decoded, RowWords, blank_row}
use Rattle.kernel_image.specs.Shown.{shown}
use Rattle.kernel_image.specs.Initial.{initial_word}

-- a formatted image of no program: the heap is one hole
abbrev pub blank_image : Decoded
blank_image = record {
  events = 0;
  ticks = 0;
  stamp = 0;
  console_length = 0;
  first_hole = 2;
  timed_head = 0;
  ready_heads = replicate 8 0;
  rows = replicate 16 blank_row;
  queues = [];
  semaphores = [];
  console = [];
  heap = 0 ∷ 0 ∷ 4094 ∷ [];
  live = [];
  spare_header = [];
  spare = [];
}

-- nothing runs
abbrev pub NothingShown : Type 0
NothingShown = shown no_program blank_image ≡ idle_kernel

-- sixteen rows of which these are the first and the others are free
abbrev pub rows_first : List RowWords → List RowWords
rows_first rows = rows ++ replicate (16 - length rows) blank_row

-- a ready row of template 0
abbrev pub ready_row : ℕ → ℕ → RowWords
ready_row priority stamp = record blank_row { state = 1; priority = priority; stamp = stamp }

-- three ready threads, of which the last one came first, and one that has ended with code 2
abbrev pub StampsTell : Type 0
StampsTell =
    shown no_program (record blank_image {
      events = 7;
      rows = rows_first (ready_row 1 9 ∷ ready_row 3 4 ∷ record blank_row { state = 4; template = 1; priority = 2; code = 2 } ∷ ready_row 1 6 ∷ []);
    })
    ≡ record idle_kernel {
      events = 7;
      rows = rows_from (row 0 1 Ready ∷ row 0 3 Ready ∷ row 1 2 (Ended 2) ∷ row 0 1 Ready ∷ []);
      ready = [] ∷ (3 ∷ 0 ∷ []) ∷ [] ∷ (1 ∷ []) ∷ replicate 4 [];
    }

-- a waiting row: of a priority and stamp, until a tick, for a target in a call, with a value
abbrev pub waiting_row : ℕ → ℕ → ℕ → ℕ → ℕ → ℕ → RowWords
waiting_row priority stamp wake target what value = record blank_row {
  state = 3;
  priority = priority;
  stamp = stamp;
  wake = wake;
  target = target;
  what = what;
  value = value;
}

-- two senders wait, the more urgent one first, until tick 90 and for ever; a taker and a delayed thread wait too
abbrev pub Waiters : Type 0
Waiters =
    shown
    (record no_program {
      queues = record { name = 0; capacity = 3; channel = None } ∷ [];
      semaphores = record { name = 1; count = 1; maximum = 2 } ∷ [];
    })
    (record blank_image {
      ticks = 80;
      rows = rows_first (
          waiting_row 1 5 90 0 1 41
          ∷ waiting_row 2 6 4294967295 0 1 42
          ∷ record blank_row { state = 2; priority = 7; wake = 85 }
          ∷ waiting_row 1 7 85 0 3 43
          ∷ []);
      queues = record { count = 3; front = 2; senders_head = 0; receivers_head = 0; slots = 11 ∷ 12 ∷ 13 ∷ 14 ∷ []; padding = [] } ∷ [];
      semaphores = record { count = 0; takers_head = 0; third = 0; fourth = 0 } ∷ [];
    })
    ≡ record idle_kernel {
      ticks = 80;
      rows = rows_from (
          row 0 1 (Waiting (record { what = Send; target = 0; value = 41; until = 90 }))
          ∷ row 0 2 (Waiting (record { what = Send; target = 0; value = 42; until = NEVER }))
          ∷ row 0 7 (Delayed 85)
          ∷ row 0 1 (Waiting (record { what = Take; target = 0; value = 0; until = 85 }))
          ∷ []);
      timed = (2, 85) ∷ (3, 85) ∷ (0, 90) ∷ [];
      queues = record { items = 13 ∷ 11 ∷ 12 ∷ []; senders = 1 ∷ 0 ∷ []; receivers = [] } ∷ [];
      semaphores = record { count = 0; takers = 3 ∷ [] } ∷ [];
    }

-- a static object of type 0 at place 2 and a made one of type 1 at place 4; five bytes of the console
abbrev pub ObjectsAndConsole : Type 0
ObjectsAndConsole =
    shown
    (record no_program {
      kinds = record { name = 0; fields = 1 ∷ [] } ∷ record { name = 2; fields = 1 ∷ 3 ∷ [] } ∷ [];
    })
    (record blank_image {
      console_length = 5;
      first_hole = 8;
      console = 1680499297 ∷ 10 ∷ [];
      heap = 0 ∷ 0 ∷ 65537 ∷ 7 ∷ 2 ∷ 8 ∷ 9 ∷ 0 ∷ 4088 ∷ 0 ∷ [];
      live = 6 ∷ [];
    })
    ≡ record idle_kernel {
      objects =
          record { place = 2; kind = 0; is_static = true; values = 7 ∷ [] }
          ∷ record { place = 4; kind = 1; is_static = false; values = 8 ∷ 9 ∷ [] }
          ∷ [];
      console = codes "ab*d\n";
    }

-- the words of the empty program at 0, 6, 7,810 and 7,811
abbrev pub EmptyWords : Type 0
EmptyWords =
    map (initial_word no_program) (0 ∷ 6 ∷ 7810 ∷ 7811 ∷ [])
    ≡ 1229870129 ∷ 2 ∷ 4094 ∷ 0 ∷ []

-- two static objects of types with 1 and 2 fields, so at places 2 and 4, and a semaphore that begins with 3: the next
-- stamp, the first hole, the count, the two headers, a field, the size of the hole, and the live bits
abbrev pub StaticWords : Type 0
StaticWords =
    map (initial_word (record no_program {
      kinds = record { name = 0; fields = 1 ∷ [] } ∷ record { name = 2; fields = 1 ∷ 3 ∷ [] } ∷ [];
      objects = record { name = 4; kind = 0 } ∷ record { name = 5; kind = 2 } ∷ [];
      semaphores = record { name = 6; count = 3; maximum = 3 } ∷ [];
    })) (3 ∷ 6 ∷ 1088 ∷ 7810 ∷ 7811 ∷ 7812 ∷ 7816 ∷ 11904 ∷ 11905 ∷ [])
    ≡ 0 ∷ 8 ∷ 3 ∷ 65537 ∷ 0 ∷ 65538 ∷ 4088 ∷ 6 ∷ 0 ∷ []
