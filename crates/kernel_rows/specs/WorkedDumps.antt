-- Dumps that were worked out by hand: the text that each kernel must have.
use Rattle.std.specs.Prelude.{◌≡◌, ℕ, ◌-◌, true, false, List, [], ◌∷◌, ◌++◌, length, replicate, codes}
use Rattle.kernel_model.specs.declared.row_state.RowState.{RowState}
use Rattle.kernel_model.specs.declared.row_state.RowState.TheVariants.{Ready, Delayed, Waiting, Ended}
use Rattle.kernel_model.specs.declared.wait.TheConstants.{NEVER}
use Rattle.kernel_model.specs.declared.what.What.{What}
use Rattle.kernel_model.specs.declared.what.What.TheVariants.{Send, Receive, Take}
use Rattle.kernel_model.specs.Names.{no_names}
use Rattle.kernel_model.specs.Visible.{Row, free_row, Visible}
use Rattle.kernel_model.specs.Dump.{dump}

-- a kernel in which nothing is and nothing happened
abbrev pub idle_kernel : Visible
idle_kernel = record {
  events = 0;
  ticks = 0;
  rows = replicate 16 free_row;
  ready = replicate 8 [];
  timed = [];
  queues = [];
  semaphores = [];
  objects = [];
  console = [];
}

-- a row with a template, a priority and a state
abbrev pub row : ℕ → ℕ → RowState → Row
row template priority state = record { template = template; priority = priority; state = state }

-- sixteen rows of which these are the first and the others are free
abbrev pub rows_from : List Row → List Row
rows_from rows = rows ++ replicate (16 - length rows) free_row

-- a thread waits in a call on a target until a tick, and sends 0 where it sends
abbrev pub waiting : What → ℕ → ℕ → RowState
waiting what target until = Waiting (record { what = what; target = target; value = 0; until = until })

-- three steps of an empty program
abbrev pub NothingRuns : Type 0
NothingRuns =
    dump no_names (record idle_kernel { events = 3 })
    ≡ codes "events 3\n"
    ++ codes "ticks 0\n"
    ++ codes "console 0\n"

-- a thread printed twice and is ready
abbrev pub TwoPrints : Type 0
TwoPrints =
    dump (record no_names { templates = codes "t" ∷ [] })
    (record idle_kernel {
      events = 2;
      rows = rows_from (row 0 1 Ready ∷ []);
      ready = [] ∷ (0 ∷ []) ∷ replicate 6 [];
      console = codes "a\nb\n";
    })
    ≡ codes "events 2\n"
    ++ codes "ticks 0\n"
    ++ codes "thread 0 t priority 1 ready\n"
    ++ codes "list ready 1: 0\n"
    ++ codes "console 4\n"
    ++ codes "| a\n"
    ++ codes "| b\n"

-- a receiver got what a sender sent, and both are delayed to one tick
abbrev pub BothDelayed : Type 0
BothDelayed =
    dump (record no_names { templates = codes "r" ∷ codes "s" ∷ []; queues = codes "q" ∷ [] })
    (record idle_kernel {
      events = 10007;
      ticks = 1;
      rows = rows_from (row 0 2 (Delayed 900001) ∷ row 1 1 (Delayed 900001) ∷ []);
      timed = (0, 900001) ∷ (1, 900001) ∷ [];
      queues = record { items = []; senders = []; receivers = [] } ∷ [];
      console = codes "7\n";
    })
    ≡ codes "events 10007\n"
    ++ codes "ticks 1\n"
    ++ codes "thread 0 r priority 2 delayed until 900001\n"
    ++ codes "thread 1 s priority 1 delayed until 900001\n"
    ++ codes "list timed: 0@900001 1@900001\n"
    ++ codes "queue q:\n"
    ++ codes "console 2\n"
    ++ codes "| 7\n"

-- the urgent receiver was served first and has ended; two threads of one template
abbrev pub UrgentFirst : Type 0
UrgentFirst =
    dump (record no_names { templates = codes "r" ∷ codes "s" ∷ []; queues = codes "q" ∷ [] })
    (record idle_kernel {
      events = 9;
      rows = rows_from (row 0 1 Ready ∷ row 0 2 (Ended 0) ∷ row 1 0 Ready ∷ []);
      ready = (2 ∷ []) ∷ (0 ∷ []) ∷ replicate 6 [];
      queues = record { items = []; senders = []; receivers = [] } ∷ [];
      console = codes "2:5\n1:6\n";
    })
    ≡ codes "events 9\n"
    ++ codes "ticks 0\n"
    ++ codes "thread 0 r priority 1 ready\n"
    ++ codes "thread 1 r priority 2 ended 0\n"
    ++ codes "thread 2 s priority 0 ready\n"
    ++ codes "list ready 1: 0\n"
    ++ codes "list ready 0: 2\n"
    ++ codes "queue q:\n"
    ++ codes "console 8\n"
    ++ codes "| 2:5\n"
    ++ codes "| 1:6\n"

-- a receiver's wait ended before a sender came, whose value stays in the queue
abbrev pub SentTooLate : Type 0
SentTooLate =
    dump (record no_names { templates = codes "r" ∷ codes "s" ∷ []; queues = codes "q" ∷ [] })
    (record idle_kernel {
      events = 6;
      ticks = 1;
      rows = rows_from (row 0 2 (Ended 0) ∷ row 1 1 Ready ∷ []);
      ready = [] ∷ (1 ∷ []) ∷ replicate 6 [];
      queues = record { items = 9 ∷ []; senders = []; receivers = [] } ∷ [];
      console = codes "00\ns1\n";
    })
    ≡ codes "events 6\n"
    ++ codes "ticks 1\n"
    ++ codes "thread 0 r priority 2 ended 0\n"
    ++ codes "thread 1 s priority 1 ready\n"
    ++ codes "list ready 1: 1\n"
    ++ codes "queue q: 9\n"
    ++ codes "console 6\n"
    ++ codes "| 00\n"
    ++ codes "| s1\n"

-- a sensor's three threads wait, for ever and until a tick, on two queues and a semaphore
abbrev pub SensorWaits : Type 0
SensorWaits =
    dump (record {
      templates = codes "sample" ∷ codes "filter" ∷ codes "logger" ∷ [];
      queues = codes "raw" ∷ codes "good" ∷ [];
      semaphores = codes "lamp" ∷ [];
      types = record { name = codes "Stat"; fields = codes "count" ∷ codes "sum" ∷ codes "most" ∷ [] } ∷ [];
    })
    (record idle_kernel {
      events = 17;
      ticks = 1;
      rows = rows_from (row 0 3 (waiting Receive 0 NEVER)
          ∷ row 1 2 (waiting Receive 1 50)
          ∷ row 2 1 (waiting Take 0 100)
          ∷ []);
      timed = (1, 50) ∷ (2, 100) ∷ [];
      queues = record { items = []; senders = []; receivers = 0 ∷ [] }
          ∷ record { items = []; senders = []; receivers = 1 ∷ [] }
          ∷ [];
      semaphores = record { count = 0; takers = 2 ∷ [] } ∷ [];
      objects = record { place = 2; kind = 0; is_static = true; values = 1 ∷ 16 ∷ 16 ∷ [] } ∷ [];
    })
    ≡ codes "events 17\n"
    ++ codes "ticks 1\n"
    ++ codes "thread 0 sample priority 3 waiting to receive raw for ever\n"
    ++ codes "thread 1 filter priority 2 waiting to receive good until 50\n"
    ++ codes "thread 2 logger priority 1 waiting to take lamp until 100\n"
    ++ codes "list timed: 1@50 2@100\n"
    ++ codes "queue raw:\n"
    ++ codes "queue raw receivers: 0\n"
    ++ codes "queue good:\n"
    ++ codes "queue good receivers: 1\n"
    ++ codes "semaphore lamp: 0\n"
    ++ codes "semaphore lamp takers: 2\n"
    ++ codes "object 2 Stat static count=1 sum=16 most=16\n"
    ++ codes "console 0\n"

-- a thread ended by a fault, a freed row before others, senders at a full queue, a made object, and a console
-- with an empty line and no newline at its end
abbrev pub MixedKernel : Type 0
MixedKernel =
    dump (record {
      templates = codes "a" ∷ codes "b" ∷ [];
      queues = codes "q" ∷ [];
      semaphores = codes "s" ∷ [];
      types = record { name = codes "A"; fields = codes "a" ∷ [] }
          ∷ record { name = codes "B"; fields = codes "x" ∷ codes "y" ∷ [] }
          ∷ [];
    })
    (record idle_kernel {
      events = 4294967295;
      ticks = 30;
      rows = rows_from (row 0 2 (Ended 3)
          ∷ free_row
          ∷ row 1 7 Ready
          ∷ row 1 7 Ready
          ∷ row 0 5 (waiting Send 0 40)
          ∷ row 0 4 (waiting Send 0 NEVER)
          ∷ row 1 0 (waiting Take 0 NEVER)
          ∷ row 1 0 (waiting Take 0 NEVER)
          ∷ []);
      ready = replicate 7 [] ++ (3 ∷ 2 ∷ []) ∷ [];
      timed = (4, 40) ∷ [];
      queues = record { items = 10 ∷ 0 ∷ 4294967295 ∷ []; senders = 4 ∷ 5 ∷ []; receivers = [] } ∷ [];
      semaphores = record { count = 0; takers = 7 ∷ 6 ∷ [] } ∷ [];
      objects = record { place = 2; kind = 0; is_static = true; values = 6 ∷ [] }
          ∷ record { place = 4094; kind = 1; is_static = false; values = 0 ∷ 12 ∷ [] }
          ∷ [];
      console = codes "one\n\ntwo";
    })
    ≡ codes "events 4294967295\n"
    ++ codes "ticks 30\n"
    ++ codes "thread 0 a priority 2 ended 3\n"
    ++ codes "thread 2 b priority 7 ready\n"
    ++ codes "thread 3 b priority 7 ready\n"
    ++ codes "thread 4 a priority 5 waiting to send q until 40\n"
    ++ codes "thread 5 a priority 4 waiting to send q for ever\n"
    ++ codes "thread 6 b priority 0 waiting to take s for ever\n"
    ++ codes "thread 7 b priority 0 waiting to take s for ever\n"
    ++ codes "list ready 7: 3 2\n"
    ++ codes "list timed: 4@40\n"
    ++ codes "queue q: 10 0 4294967295\n"
    ++ codes "queue q senders: 4 5\n"
    ++ codes "semaphore s: 0\n"
    ++ codes "semaphore s takers: 7 6\n"
    ++ codes "object 2 A static a=6\n"
    ++ codes "object 4094 B made x=0 y=12\n"
    ++ codes "console 8\n"
    ++ codes "| one\n"
    ++ codes "| \n"
    ++ codes "| two\n"
