-- Runs that were worked out by hand: the text that each program's dump must have after its events.
use Rattle.std.specs.Prelude.{◌≡◌, ℕ, ◌+◌, ◌*◌, List, [], ◌∷◌, ◌++◌, length, flat_map, replicate, Some, None, codes, decimal}
use Rattle.std.specs.List.{repeat, range_with_len}
use Rattle.kernel_model.specs.declared.event.Event.{Event}
use Rattle.kernel_model.specs.declared.event.Event.TheVariants.{Step, Tick, Input}
use Rattle.thread_tree.specs.declared.expr.Op.TheVariants as op
use Rattle.thread_tree.specs.declared.expr.Expr.TheVariants as expr
use Rattle.thread_tree.specs.declared.action.Call.TheVariants as call
use Rattle.thread_tree.specs.declared.action.Who.TheVariants as who
use Rattle.thread_tree.specs.declared.tree.Tree.{Tree}
use Rattle.thread_tree.specs.Expressions.{unary}
use Rattle.thread_tree.specs.Program.{program_of}
use Rattle.kernel_rows.specs.Literals.{at, tree, n, v, static_field, field_through, binary, declare, assign, apply_to, when, either, repeat as while_, ploop, leave, answer, atomic, does, text, value, tdeclare, tdeclare_new, tassign, tassign_new, store, free, twhen, trepeat, abort, gives, kind, object, queue, semaphore, function, thread, start}
use Rattle.kernel_model.specs.Dump.{dump}
use Rattle.kernel_model.specs.Run.{after}
use Rattle.kernel_model.specs.Show.{visible, names_of}

-- the dump of a program after all these events
abbrev pub dump_after : Tree → List Event → List ℕ
dump_after tree events =
    let p = program_of tree in dump (names_of p) (visible p (after p events (length events)))

-- the program
--     thread t() priority 1 { print "a"; print "b"; } start t();
abbrev pub two_prints_program : Tree
two_prints_program =
    tree (codes "t" ∷ [])
    (thread 0 [] 1 (
    does (call.Print (text (codes "a") ∷ [])) []
    ∷ does (call.Print (text (codes "b") ∷ [])) []
    ∷ [])
    ∷ start 0 []
    ∷ [])

-- two steps of a thread that prints twice
abbrev pub TwoPrints : Type 0
TwoPrints =
    dump_after two_prints_program (replicate 2 Step)
    ≡ codes "events 2\n"
    ++ codes "ticks 0\n"
    ++ codes "thread 0 t priority 1 ready\n"
    ++ codes "list ready 1: 0\n"
    ++ codes "console 4\n"
    ++ codes "| a\n"
    ++ codes "| b\n"

-- the empty program
abbrev pub nobody_ready_program : Tree
nobody_ready_program =
    tree []
    []

-- three steps where nobody is ready
abbrev pub NobodyReady : Type 0
NobodyReady =
    dump_after nobody_ready_program (replicate 3 Step)
    ≡ codes "events 3\n"
    ++ codes "ticks 0\n"
    ++ codes "console 0\n"

-- one tick of a kernel without threads
abbrev pub OneTick : Type 0
OneTick =
    dump_after nobody_ready_program (Tick ∷ [])
    ≡ codes "events 1\n"
    ++ codes "ticks 1\n"
    ++ codes "console 0\n"

-- no event at all
abbrev pub NoEvent : Type 0
NoEvent =
    dump_after nobody_ready_program []
    ≡ codes "events 0\n"
    ++ codes "ticks 0\n"
    ++ codes "console 0\n"

-- the program
--     type T { v }
--     object o: T;
--     thread t() priority 1 {
--       let ok = 9; let x = 9;
--       atomic -> ok { o.v = 1; o.v = 2; abort; }
--       print ok;
--       atomic -> ok, x { o.v = 5; o.v = o.v + 1; give o.v; }
--       print ok, " ", x;
--     }
--     start t();
abbrev pub abort_and_give_program : Tree
abort_and_give_program =
    tree (codes "T" ∷ codes "v" ∷ codes "o" ∷ codes "t" ∷ codes "ok" ∷ codes "x" ∷ [])
    (kind 0 (1 ∷ [])
    ∷ object 2 0
    ∷ thread 3 [] 1 (
    declare 4 (n 9)
    ∷ declare 5 (n 9)
    ∷ atomic (4 ∷ []) (store (static_field 2 1) (n 1) ∷ store (static_field 2 1) (n 2) ∷ abort ∷ [])
    ∷ does (call.Print (value (v 4) ∷ [])) []
    ∷ atomic (4 ∷ 5 ∷ []) (
    store (static_field 2 1) (n 5)
    ∷ store (static_field 2 1) (binary (expr.Field (static_field 2 1)) op.Plus (n 1))
    ∷ gives ((expr.Field (static_field 2 1)) ∷ [])
    ∷ [])
    ∷ does (call.Print (value (v 4) ∷ text (codes " ") ∷ value (v 5) ∷ [])) []
    ∷ [])
    ∷ start 3 []
    ∷ [])

-- a word stored twice, then abort; then a block that gives
abbrev pub AbortAndGive : Type 0
AbortAndGive =
    dump_after abort_and_give_program (replicate 4 Step)
    ≡ codes "events 4\n"
    ++ codes "ticks 0\n"
    ++ codes "thread 0 t priority 1 ready\n"
    ++ codes "list ready 1: 0\n"
    ++ codes "object 2 T static v=6\n"
    ++ codes "console 6\n"
    ++ codes "| 0\n"
    ++ codes "| 1 6\n"

-- the program
--     type T { v } object o: T; thread t() priority 1 { atomic { let i = 0; while i < 65 { o.v = i; i = i + 1; } } } start t();
abbrev pub one_store_too_many_program : Tree
one_store_too_many_program =
    tree (codes "T" ∷ codes "v" ∷ codes "o" ∷ codes "t" ∷ codes "i" ∷ [])
    (kind 0 (1 ∷ [])
    ∷ object 2 0
    ∷ thread 3 [] 1 (
    atomic [] (
    tdeclare 4 (n 0)
    ∷ trepeat (binary (v 4) op.Less (n 65)) (store (static_field 2 1) (v 4) ∷ tassign 4 (binary (v 4) op.Plus (n 1)) ∷ [])
    ∷ [])
    ∷ [])
    ∷ start 3 []
    ∷ [])

-- the 65th store of a block is one operation too many
abbrev pub OneStoreTooMany : Type 0
OneStoreTooMany =
    dump_after one_store_too_many_program (Step ∷ [])
    ≡ codes "events 1\n"
    ++ codes "ticks 0\n"
    ++ codes "thread 0 t priority 1 ended 2\n"
    ++ codes "object 2 T static v=0\n"
    ++ codes "console 0\n"

-- the program
--     type T { v } object o: T; thread t() priority 1 { atomic { let i = 0; while i < 64 { o.v = i; i = i + 1; } } } start t();
abbrev pub as_many_stores_as_allowed_program : Tree
as_many_stores_as_allowed_program =
    tree (codes "T" ∷ codes "v" ∷ codes "o" ∷ codes "t" ∷ codes "i" ∷ [])
    (kind 0 (1 ∷ [])
    ∷ object 2 0
    ∷ thread 3 [] 1 (
    atomic [] (
    tdeclare 4 (n 0)
    ∷ trepeat (binary (v 4) op.Less (n 64)) (store (static_field 2 1) (v 4) ∷ tassign 4 (binary (v 4) op.Plus (n 1)) ∷ [])
    ∷ [])
    ∷ [])
    ∷ start 3 []
    ∷ [])

-- a block of 64 stores
abbrev pub AsManyStoresAsAllowed : Type 0
AsManyStoresAsAllowed =
    dump_after as_many_stores_as_allowed_program (Step ∷ [])
    ≡ codes "events 1\n"
    ++ codes "ticks 0\n"
    ++ codes "thread 0 t priority 1 ready\n"
    ++ codes "list ready 1: 0\n"
    ++ codes "object 2 T static v=63\n"
    ++ codes "console 0\n"

-- the program
--     thread a() priority 2 { while 1 { } } thread b() priority 1 { print "b"; } start a(); start b();
abbrev pub endless_loop_program : Tree
endless_loop_program =
    tree (codes "a" ∷ codes "b" ∷ [])
    (thread 0 [] 2 (while_ (n 1) [] ∷ [])
    ∷ thread 1 [] 1 (does (call.Print (text (codes "b") ∷ [])) [] ∷ [])
    ∷ start 0 []
    ∷ start 1 []
    ∷ [])

-- a thread that only moves is ended, and then the next one runs
abbrev pub EndlessLoop : Type 0
EndlessLoop =
    dump_after endless_loop_program (replicate 2 Step)
    ≡ codes "events 2\n"
    ++ codes "ticks 0\n"
    ++ codes "thread 0 a priority 2 ended 1\n"
    ++ codes "thread 1 b priority 1 ready\n"
    ++ codes "list ready 1: 1\n"
    ++ codes "console 2\n"
    ++ codes "| b\n"

-- the program
--     queue q[1];
--     thread r() priority 2 { let ok = 0; let v = 0; receive q, 4294967295 -> ok, v; print v; delay 900000; }
--     thread s() priority 1 { let ok = 0; delay 1; send q, 7, 0 -> ok; delay 900000; }
--     start r(); start s();
abbrev pub both_delayed_program : Tree
both_delayed_program =
    tree (codes "q" ∷ codes "r" ∷ codes "ok" ∷ codes "v" ∷ codes "s" ∷ [])
    (queue 0 1 None
    ∷ thread 1 [] 2 (
    declare 2 (n 0)
    ∷ declare 3 (n 0)
    ∷ does (call.Receive (at 0) (n 4294967295)) (2 ∷ 3 ∷ [])
    ∷ does (call.Print (value (v 3) ∷ [])) []
    ∷ does (call.Delay (n 900000)) []
    ∷ [])
    ∷ thread 4 [] 1 (
    declare 2 (n 0)
    ∷ does (call.Delay (n 1)) []
    ∷ does (call.Send (at 0) (n 7) (n 0)) (2 ∷ [])
    ∷ does (call.Delay (n 900000)) []
    ∷ [])
    ∷ start 1 []
    ∷ start 4 []
    ∷ [])

-- a blocked receive is finished by a send; then 10,003 steps with nobody ready
abbrev pub BothDelayed : Type 0
BothDelayed =
    dump_after both_delayed_program (replicate 2 Step ++ Tick ∷ [] ++ replicate 10004 Step)
    ≡ codes "events 10007\n"
    ++ codes "ticks 1\n"
    ++ codes "thread 0 r priority 2 delayed until 900001\n"
    ++ codes "thread 1 s priority 1 delayed until 900001\n"
    ++ codes "list timed: 0@900001 1@900001\n"
    ++ codes "queue q:\n"
    ++ codes "console 2\n"
    ++ codes "| 7\n"

-- the program
--     queue q[2];
--     thread r(p) priority 1 { let ok = 0; let v = 0; setprio self, p -> ok; receive q, 4294967295 -> ok, v; print p, ":", v; }
--     thread s() priority 0 { let ok = 0; send q, 5, 0 -> ok; send q, 6, 0 -> ok; }
--     start r(1); start r(2); start s();
abbrev pub urgent_first_program : Tree
urgent_first_program =
    tree (codes "q" ∷ codes "r" ∷ codes "p" ∷ codes "ok" ∷ codes "v" ∷ codes "s" ∷ [])
    (queue 0 2 None
    ∷ thread 1 (2 ∷ []) 1 (
    declare 3 (n 0)
    ∷ declare 4 (n 0)
    ∷ does (call.Setprio who.Own (v 2)) (3 ∷ [])
    ∷ does (call.Receive (at 0) (n 4294967295)) (3 ∷ 4 ∷ [])
    ∷ does (call.Print (value (v 2) ∷ text (codes ":") ∷ value (v 4) ∷ [])) []
    ∷ [])
    ∷ thread 5 [] 0 (
    declare 3 (n 0)
    ∷ does (call.Send (at 0) (n 5) (n 0)) (3 ∷ [])
    ∷ does (call.Send (at 0) (n 6) (n 0)) (3 ∷ [])
    ∷ [])
    ∷ start 1 (1 ∷ [])
    ∷ start 1 (2 ∷ [])
    ∷ start 5 []
    ∷ [])

-- the urgent receiver comes later and is served first
abbrev pub UrgentFirst : Type 0
UrgentFirst =
    dump_after urgent_first_program (replicate 9 Step)
    ≡ codes "events 9\n"
    ++ codes "ticks 0\n"
    ++ codes "thread 0 r priority 1 ready\n"
    ++ codes "thread 1 r priority 2 ended 0\n"
    ++ codes "thread 2 s priority 0 ready\n"
    ++ codes "list ready 1: 0\n"
    ++ codes "list ready 0: 2\n"
    ++ codes "queue q:\n"
    ++ codes "console 8\n"
    ++ codes "| 2:5\n"
    ++ codes "| 1:6\n"

-- the program
--     queue q[1];
--     thread r() priority 2 { let ok = 5; let v = 5; receive q, 1 -> ok, v; print ok, v; }
--     thread s() priority 1 { let ok = 0; send q, 9, 0 -> ok; print "s", ok; }
--     start r(); start s();
abbrev pub tick_before_send_program : Tree
tick_before_send_program =
    tree (codes "q" ∷ codes "r" ∷ codes "ok" ∷ codes "v" ∷ codes "s" ∷ [])
    (queue 0 1 None
    ∷ thread 1 [] 2 (
    declare 2 (n 5)
    ∷ declare 3 (n 5)
    ∷ does (call.Receive (at 0) (n 1)) (2 ∷ 3 ∷ [])
    ∷ does (call.Print (value (v 2) ∷ value (v 3) ∷ [])) []
    ∷ [])
    ∷ thread 4 [] 1 (
    declare 2 (n 0)
    ∷ does (call.Send (at 0) (n 9) (n 0)) (2 ∷ [])
    ∷ does (call.Print (text (codes "s") ∷ value (v 2) ∷ [])) []
    ∷ [])
    ∷ start 1 []
    ∷ start 4 []
    ∷ [])

-- a receive ends by its limit before the send
abbrev pub TickBeforeSend : Type 0
TickBeforeSend =
    dump_after tick_before_send_program (Step ∷ [] ++ Tick ∷ [] ++ replicate 4 Step)
    ≡ codes "events 6\n"
    ++ codes "ticks 1\n"
    ++ codes "thread 0 r priority 2 ended 0\n"
    ++ codes "thread 1 s priority 1 ready\n"
    ++ codes "list ready 1: 1\n"
    ++ codes "queue q: 9\n"
    ++ codes "console 6\n"
    ++ codes "| 00\n"
    ++ codes "| s1\n"

-- the send comes before the limit of the receive
abbrev pub SendBeforeTick : Type 0
SendBeforeTick =
    dump_after tick_before_send_program (replicate 2 Step ++ Tick ∷ [] ++ Step ∷ [])
    ≡ codes "events 4\n"
    ++ codes "ticks 1\n"
    ++ codes "thread 0 r priority 2 ready\n"
    ++ codes "thread 1 s priority 1 ready\n"
    ++ codes "list ready 2: 0\n"
    ++ codes "list ready 1: 1\n"
    ++ codes "queue q:\n"
    ++ codes "console 3\n"
    ++ codes "| 19\n"

-- the program
--     type C { n }
--     object c: C;
--     thread w() priority 1 { let x = 0; let ok = 0; ploop { atomic -> ok, x { c.n = c.n + 1; give c.n; } } }
--     start w();
abbrev pub persistent_loop_program : Tree
persistent_loop_program =
    tree (codes "C" ∷ codes "n" ∷ codes "c" ∷ codes "w" ∷ codes "x" ∷ codes "ok" ∷ [])
    (kind 0 (1 ∷ [])
    ∷ object 2 0
    ∷ thread 3 [] 1 (
    declare 4 (n 0)
    ∷ declare 5 (n 0)
    ∷ ploop (
    atomic (5 ∷ 4 ∷ []) (
    store (static_field 2 1) (binary (expr.Field (static_field 2 1)) op.Plus (n 1))
    ∷ gives ((expr.Field (static_field 2 1)) ∷ [])
    ∷ [])
    ∷ [])
    ∷ [])
    ∷ start 3 []
    ∷ [])

-- a persistent loop counts to 1,000
abbrev pub PersistentLoop : Type 0
PersistentLoop =
    dump_after persistent_loop_program (replicate 2000 Step)
    ≡ codes "events 2000\n"
    ++ codes "ticks 0\n"
    ++ codes "thread 0 w priority 1 ready\n"
    ++ codes "list ready 1: 0\n"
    ++ codes "object 2 C static n=1000\n"
    ++ codes "console 0\n"

-- the program
--     thread t() priority 1 { while 1 { print "x"; } } start t();
abbrev pub no_record_room_program : Tree
no_record_room_program =
    tree (codes "t" ∷ [])
    (thread 0 [] 1 (while_ (n 1) (does (call.Print (text (codes "x") ∷ [])) [] ∷ []) ∷ [])
    ∷ start 0 []
    ∷ [])

-- 128 prints fill the records, and the next one ends the thread
abbrev pub NoRecordRoom : Type 0
NoRecordRoom =
    dump_after no_record_room_program (replicate 129 Step)
    ≡ codes "events 129\n"
    ++ codes "ticks 0\n"
    ++ codes "thread 0 t priority 1 ended 4\n"
    ++ codes "console 256\n"
    ++ repeat 128 (codes "| x\n")

-- the program
--     thread t() priority 1 { ploop { print "x"; } } start t();
abbrev pub turns_make_room_program : Tree
turns_make_room_program =
    tree (codes "t" ∷ [])
    (thread 0 [] 1 (ploop (does (call.Print (text (codes "x") ∷ [])) [] ∷ []) ∷ [])
    ∷ start 0 []
    ∷ [])

-- turns empty the records
abbrev pub TurnsMakeRoom : Type 0
TurnsMakeRoom =
    dump_after turns_make_room_program (replicate 258 Step)
    ≡ codes "events 258\n"
    ++ codes "ticks 0\n"
    ++ codes "thread 0 t priority 1 ready\n"
    ++ codes "list ready 1: 0\n"
    ++ codes "console 258\n"
    ++ repeat 129 (codes "| x\n")

-- the program
--     queue q[1];
--     thread w(a) priority 2 { let ok = 0; let v = 0; receive q, 4294967295 -> ok, v; print a, v; }
--     thread m() priority 1 { let ok = 0; let t = 0; delete 0 -> ok; spawn w(8) -> t; send q, 3, 0 -> ok; print t, ok; }
--     start w(7); start m();
abbrev pub row_used_again_program : Tree
row_used_again_program =
    tree (codes "q" ∷ codes "w" ∷ codes "a" ∷ codes "ok" ∷ codes "v" ∷ codes "m" ∷ codes "t" ∷ [])
    (queue 0 1 None
    ∷ thread 1 (2 ∷ []) 2 (
    declare 3 (n 0)
    ∷ declare 4 (n 0)
    ∷ does (call.Receive (at 0) (n 4294967295)) (3 ∷ 4 ∷ [])
    ∷ does (call.Print (value (v 2) ∷ value (v 4) ∷ [])) []
    ∷ [])
    ∷ thread 5 [] 1 (
    declare 3 (n 0)
    ∷ declare 6 (n 0)
    ∷ does (call.Delete (who.Of (n 0))) (3 ∷ [])
    ∷ does (call.Spawn (at 1) ((n 8) ∷ [])) (6 ∷ [])
    ∷ does (call.Send (at 0) (n 3) (n 0)) (3 ∷ [])
    ∷ does (call.Print (value (v 6) ∷ value (v 3) ∷ [])) []
    ∷ [])
    ∷ start 1 (7 ∷ [])
    ∷ start 5 []
    ∷ [])

-- a row is freed and used again
abbrev pub RowUsedAgain : Type 0
RowUsedAgain =
    dump_after row_used_again_program (replicate 8 Step)
    ≡ codes "events 8\n"
    ++ codes "ticks 0\n"
    ++ codes "thread 0 w priority 2 ended 0\n"
    ++ codes "thread 1 m priority 1 ready\n"
    ++ codes "list ready 1: 1\n"
    ++ codes "queue q:\n"
    ++ codes "console 6\n"
    ++ codes "| 83\n"
    ++ codes "| 01\n"

-- the program
--     type A { a }
--     type B { a, b, c, d, e, f, g, h, i, j }
--     thread t() priority 1 {
--       let k = 0; let ok = 0; let p = 0; let r = 0;
--       while k < 11 {
--         atomic -> ok { let i = 0; let x = 0; while i < 31 { x = new B; i = i + 1; } }
--         k = k + 1;
--       }
--       atomic -> ok, p { let x = new B; give x; }
--       print p;
--       atomic -> ok, p { let x = 0; free 26; x = new A; give x; }
--       atomic -> ok, r { let x = new B; give x; }
--       print p, " ", r;
--       atomic -> ok, r { let x = 26; give x.B.a; }
--     }
--     start t();
abbrev pub full_heap_program : Tree
full_heap_program =
    tree (codes "A" ∷ codes "a" ∷ codes "B" ∷ codes "b" ∷ codes "c" ∷ codes "d" ∷ codes "e" ∷ codes "f" ∷ codes "g" ∷ codes "h" ∷ codes "i" ∷ codes "j" ∷ codes "t" ∷ codes "k" ∷ codes "ok" ∷ codes "p" ∷ codes "r" ∷ codes "x" ∷ [])
    (kind 0 (1 ∷ [])
    ∷ kind 2 (1 ∷ 3 ∷ 4 ∷ 5 ∷ 6 ∷ 7 ∷ 8 ∷ 9 ∷ 10 ∷ 11 ∷ [])
    ∷ thread 12 [] 1 (
    declare 13 (n 0)
    ∷ declare 14 (n 0)
    ∷ declare 15 (n 0)
    ∷ declare 16 (n 0)
    ∷ while_ (binary (v 13) op.Less (n 11)) (
    atomic (14 ∷ []) (
    tdeclare 10 (n 0)
    ∷ tdeclare 17 (n 0)
    ∷ trepeat (binary (v 10) op.Less (n 31)) (tassign_new 17 2 ∷ tassign 10 (binary (v 10) op.Plus (n 1)) ∷ [])
    ∷ [])
    ∷ assign 13 (binary (v 13) op.Plus (n 1))
    ∷ [])
    ∷ atomic (14 ∷ 15 ∷ []) (tdeclare_new 17 2 ∷ gives ((v 17) ∷ []) ∷ [])
    ∷ does (call.Print (value (v 15) ∷ [])) []
    ∷ atomic (14 ∷ 15 ∷ []) (tdeclare 17 (n 0) ∷ free (n 26) ∷ tassign_new 17 0 ∷ gives ((v 17) ∷ []) ∷ [])
    ∷ atomic (14 ∷ 16 ∷ []) (tdeclare_new 17 2 ∷ gives ((v 17) ∷ []) ∷ [])
    ∷ does (call.Print (value (v 15) ∷ text (codes " ") ∷ value (v 16) ∷ [])) []
    ∷ atomic (14 ∷ 16 ∷ []) (tdeclare 17 (n 26) ∷ gives ((expr.Field (field_through 17 2 1)) ∷ []) ∷ [])
    ∷ [])
    ∷ start 12 []
    ∷ [])

-- 341 objects fill the heap, and a freed place is used for a smaller one
abbrev pub FullHeap : Type 0
FullHeap =
    dump_after full_heap_program (replicate 17 Step)
    ≡ codes "events 17\n"
    ++ codes "ticks 0\n"
    ++ codes "thread 0 t priority 1 ended 3\n"
    ++ codes "object 2 B made a=0 b=0 c=0 d=0 e=0 f=0 g=0 h=0 i=0 j=0\n"
    ++ codes "object 14 B made a=0 b=0 c=0 d=0 e=0 f=0 g=0 h=0 i=0 j=0\n"
    ++ codes "object 26 A made a=0\n"
    ++ flat_map (λ k. codes "object " ++ decimal (2 + 12 * k) ++ codes " B made a=0 b=0 c=0 d=0 e=0 f=0 g=0 h=0 i=0 j=0\n") (range_with_len 3 338)
    ++ codes "console 7\n"
    ++ codes "| 0\n"
    ++ codes "| 26 0\n"

-- the program
--     // sensor node
--     type Stat { count, sum, most }
--     object st: Stat;
--     queue raw[8] input 0;
--     queue good[4];
--     semaphore lamp = 0 max 4;
--     fn scale(v) { return v * 3 / 2 + 1; }
--     thread sample() priority 3 {
--       let ok = 0; let v = 0;
--       ploop {
--         receive raw, 4294967295 -> ok, v;
--         if v < 1000 { v = scale(v); send good, v, 5 -> ok; }
--       }
--     }
--     thread filter() priority 2 {
--       let ok = 0; let v = 0; let n = 0;
--       ploop {
--         receive good, 50 -> ok, v;
--         if ok {
--           atomic -> ok, n {
--             st.count = st.count + 1;
--             st.sum = st.sum + v;
--             if v > st.most { st.most = v; }
--             give st.count;
--           }
--           if n % 10 == 0 { give lamp -> ok; }
--         }
--       }
--     }
--     thread logger() priority 1 {
--       let ok = 0; let c = 0; let s = 0; let t = 0;
--       ploop {
--         take lamp, 100 -> ok;
--         if ok {
--           atomic -> ok, c, s { give st.count, st.sum; }
--           now -> t;
--           print t, " ", c, " ", s;
--         }
--       }
--     }
--     start sample();
--     start filter();
--     start logger();
abbrev pub sensor_program : Tree
sensor_program =
    tree (codes "Stat" ∷ codes "count" ∷ codes "sum" ∷ codes "most" ∷ codes "st" ∷ codes "raw" ∷ codes "good" ∷ codes "lamp" ∷ codes "scale" ∷ codes "v" ∷ codes "sample" ∷ codes "ok" ∷ codes "filter" ∷ codes "n" ∷ codes "logger" ∷ codes "c" ∷ codes "s" ∷ codes "t" ∷ [])
    (kind 0 (1 ∷ 2 ∷ 3 ∷ [])
    ∷ object 4 0
    ∷ queue 5 8 (Some 0)
    ∷ queue 6 4 None
    ∷ semaphore 7 0 4
    ∷ function 8 (9 ∷ []) (
    answer (Some (binary (binary (binary (v 9) op.Times (n 3)) op.Over (n 2)) op.Plus (n 1)))
    ∷ [])
    ∷ thread 10 [] 3 (
    declare 11 (n 0)
    ∷ declare 9 (n 0)
    ∷ ploop (
    does (call.Receive (at 5) (n 4294967295)) (11 ∷ 9 ∷ [])
    ∷ when (binary (v 9) op.Less (n 1000)) (apply_to 9 8 ((v 9) ∷ []) ∷ does (call.Send (at 6) (v 9) (n 5)) (11 ∷ []) ∷ [])
    ∷ [])
    ∷ [])
    ∷ thread 12 [] 2 (
    declare 11 (n 0)
    ∷ declare 9 (n 0)
    ∷ declare 13 (n 0)
    ∷ ploop (
    does (call.Receive (at 6) (n 50)) (11 ∷ 9 ∷ [])
    ∷ when (v 11) (
    atomic (11 ∷ 13 ∷ []) (
    store (static_field 4 1) (binary (expr.Field (static_field 4 1)) op.Plus (n 1))
    ∷ store (static_field 4 2) (binary (expr.Field (static_field 4 2)) op.Plus (v 9))
    ∷ twhen (binary (v 9) op.More (expr.Field (static_field 4 3))) (store (static_field 4 3) (v 9) ∷ [])
    ∷ gives ((expr.Field (static_field 4 1)) ∷ [])
    ∷ [])
    ∷ when (binary (binary (v 13) op.Rest (n 10)) op.Same (n 0)) (does (call.Give (at 7)) (11 ∷ []) ∷ [])
    ∷ [])
    ∷ [])
    ∷ [])
    ∷ thread 14 [] 1 (
    declare 11 (n 0)
    ∷ declare 15 (n 0)
    ∷ declare 16 (n 0)
    ∷ declare 17 (n 0)
    ∷ ploop (
    does (call.Take (at 7) (n 100)) (11 ∷ [])
    ∷ when (v 11) (
    atomic (11 ∷ 15 ∷ 16 ∷ []) (
    gives ((expr.Field (static_field 4 1)) ∷ (expr.Field (static_field 4 2)) ∷ [])
    ∷ [])
    ∷ does call.Now (17 ∷ [])
    ∷ does (call.Print (value (v 17) ∷ text (codes " ") ∷ value (v 15) ∷ text (codes " ") ∷ value (v 16) ∷ [])) []
    ∷ [])
    ∷ [])
    ∷ [])
    ∷ start 10 []
    ∷ start 12 []
    ∷ start 14 []
    ∷ [])

-- three threads of a sensor
abbrev pub Sensor : Type 0
Sensor =
    dump_after sensor_program (replicate 2 Step ++ Input 0 10 ∷ [] ++ replicate 10 Step ++ Tick ∷ [] ++ Input 0 2000 ∷ [] ++ replicate 2 Step)
    ≡ codes "events 17\n"
    ++ codes "ticks 1\n"
    ++ codes "thread 0 sample priority 3 waiting to receive raw for ever\n"
    ++ codes "thread 1 filter priority 2 waiting to receive good until 50\n"
    ++ codes "thread 2 logger priority 1 waiting to take lamp until 100\n"
    ++ codes "list timed: 1@50 2@100\n"
    ++ codes "queue raw:\n"
    ++ codes "queue raw receivers: 0\n"
    ++ codes "queue good:\n"
    ++ codes "queue good receivers: 1\n"
    ++ codes "semaphore lamp: 0\n"
    ++ codes "semaphore lamp takers: 2\n"
    ++ codes "object 2 Stat static count=1 sum=16 most=16\n"
    ++ codes "console 0\n"

-- the program
--     thread t(c) priority 1 { while 1 { print c; } } start t(1); start t(2);
abbrev pub slices_program : Tree
slices_program =
    tree (codes "t" ∷ codes "c" ∷ [])
    (thread 0 (1 ∷ []) 1 (while_ (n 1) (does (call.Print (value (v 1) ∷ [])) [] ∷ []) ∷ [])
    ∷ start 0 (1 ∷ [])
    ∷ start 0 (2 ∷ [])
    ∷ [])

-- equals share time by ticks
abbrev pub Slices : Type 0
Slices =
    dump_after slices_program (replicate 2 Step ++ Tick ∷ [] ++ replicate 2 Step ++ Tick ∷ [] ++ Step ∷ [])
    ≡ codes "events 7\n"
    ++ codes "ticks 2\n"
    ++ codes "thread 0 t priority 1 ready\n"
    ++ codes "thread 1 t priority 1 ready\n"
    ++ codes "list ready 1: 0 1\n"
    ++ codes "console 10\n"
    ++ codes "| 1\n"
    ++ codes "| 1\n"
    ++ codes "| 2\n"
    ++ codes "| 2\n"
    ++ codes "| 1\n"

-- the program
--     semaphore s = 1 max 1; thread t() priority 1 { let ok = 0; give s -> ok; print ok; take s, 0 -> ok; print ok; take s, 0 -> ok; print ok; } start t();
abbrev pub greatest_count_program : Tree
greatest_count_program =
    tree (codes "s" ∷ codes "t" ∷ codes "ok" ∷ [])
    (semaphore 0 1 1
    ∷ thread 1 [] 1 (
    declare 2 (n 0)
    ∷ does (call.Give (at 0)) (2 ∷ [])
    ∷ does (call.Print (value (v 2) ∷ [])) []
    ∷ does (call.Take (at 0) (n 0)) (2 ∷ [])
    ∷ does (call.Print (value (v 2) ∷ [])) []
    ∷ does (call.Take (at 0) (n 0)) (2 ∷ [])
    ∷ does (call.Print (value (v 2) ∷ [])) []
    ∷ [])
    ∷ start 1 []
    ∷ [])

-- a semaphore at its maximum
abbrev pub GreatestCount : Type 0
GreatestCount =
    dump_after greatest_count_program (replicate 6 Step)
    ≡ codes "events 6\n"
    ++ codes "ticks 0\n"
    ++ codes "thread 0 t priority 1 ready\n"
    ++ codes "list ready 1: 0\n"
    ++ codes "semaphore s: 0\n"
    ++ codes "console 6\n"
    ++ codes "| 0\n"
    ++ codes "| 1\n"
    ++ codes "| 0\n"

-- the program
--     thread t() priority 0 { } thread m() priority 1 { let x = 0; spawn t() -> x; print x; } start m(); start t(); start t(); start t(); start t(); start t(); start t(); start t(); start t(); start t(); start t(); start t(); start t(); start t(); start t(); start t();
abbrev pub no_row_free_program : Tree
no_row_free_program =
    tree (codes "t" ∷ codes "m" ∷ codes "x" ∷ [])
    (thread 0 [] 0 []
    ∷ thread 1 [] 1 (
    declare 2 (n 0)
    ∷ does (call.Spawn (at 0) []) (2 ∷ [])
    ∷ does (call.Print (value (v 2) ∷ [])) []
    ∷ [])
    ∷ start 1 []
    ∷ start 0 []
    ∷ start 0 []
    ∷ start 0 []
    ∷ start 0 []
    ∷ start 0 []
    ∷ start 0 []
    ∷ start 0 []
    ∷ start 0 []
    ∷ start 0 []
    ∷ start 0 []
    ∷ start 0 []
    ∷ start 0 []
    ∷ start 0 []
    ∷ start 0 []
    ∷ start 0 []
    ∷ [])

-- a spawn where no row is free
abbrev pub NoRowFree : Type 0
NoRowFree =
    dump_after no_row_free_program (replicate 2 Step)
    ≡ codes "events 2\n"
    ++ codes "ticks 0\n"
    ++ codes "thread 0 m priority 1 ready\n"
    ++ codes "thread 1 t priority 0 ready\n"
    ++ codes "thread 2 t priority 0 ready\n"
    ++ codes "thread 3 t priority 0 ready\n"
    ++ codes "thread 4 t priority 0 ready\n"
    ++ codes "thread 5 t priority 0 ready\n"
    ++ codes "thread 6 t priority 0 ready\n"
    ++ codes "thread 7 t priority 0 ready\n"
    ++ codes "thread 8 t priority 0 ready\n"
    ++ codes "thread 9 t priority 0 ready\n"
    ++ codes "thread 10 t priority 0 ready\n"
    ++ codes "thread 11 t priority 0 ready\n"
    ++ codes "thread 12 t priority 0 ready\n"
    ++ codes "thread 13 t priority 0 ready\n"
    ++ codes "thread 14 t priority 0 ready\n"
    ++ codes "thread 15 t priority 0 ready\n"
    ++ codes "list ready 1: 0\n"
    ++ codes "list ready 0: 1 2 3 4 5 6 7 8 9 10 11 12 13 14 15\n"
    ++ codes "console 11\n"
    ++ codes "| 4294967295\n"

-- the program
--     thread t() priority 1 { print 7 / 0, " ", 7 % 0, " ", 0 - 1, " ", 1 << 33; } start t();
abbrev pub arithmetic_program : Tree
arithmetic_program =
    tree (codes "t" ∷ [])
    (thread 0 [] 1 (
    does (call.Print (value (binary (n 7) op.Over (n 0)) ∷ text (codes " ") ∷ value (binary (n 7) op.Rest (n 0)) ∷ text (codes " ") ∷ value (binary (n 0) op.Minus (n 1)) ∷ text (codes " ") ∷ value (binary (n 1) op.Left (n 33)) ∷ [])) []
    ∷ [])
    ∷ start 0 []
    ∷ [])

-- division by 0, a difference below 0 and a shift by more than 31
abbrev pub Arithmetic : Type 0
Arithmetic =
    dump_after arithmetic_program (Step ∷ [])
    ≡ codes "events 1\n"
    ++ codes "ticks 0\n"
    ++ codes "thread 0 t priority 1 ready\n"
    ++ codes "list ready 1: 0\n"
    ++ codes "console 26\n"
    ++ codes "| 4294967295 7 4294967295 2\n"

-- the program
--     thread t() priority 1 { let ok = 0; ploop { print "xxxxxxxxxxxxxxxxxxxxxxxxxxxxxxxxxxxxxxxxxxxxxxxxxxxxxxxxxxxxxxxx" -> ok; if !ok { print "f" -> ok; } } } start t();
abbrev pub console_nearly_full_program : Tree
console_nearly_full_program =
    tree (codes "t" ∷ codes "ok" ∷ [])
    (thread 0 [] 1 (
    declare 1 (n 0)
    ∷ ploop (
    does (call.Print (text (codes "xxxxxxxxxxxxxxxxxxxxxxxxxxxxxxxxxxxxxxxxxxxxxxxxxxxxxxxxxxxxxxxx") ∷ [])) (1 ∷ [])
    ∷ when (unary op.Not (v 1)) (does (call.Print (text (codes "f") ∷ [])) (1 ∷ []) ∷ [])
    ∷ [])
    ∷ [])
    ∷ start 0 []
    ∷ [])

-- the 127th print finds no room
abbrev pub ConsoleNearlyFull : Type 0
ConsoleNearlyFull =
    dump_after console_nearly_full_program (replicate 254 Step)
    ≡ codes "events 254\n"
    ++ codes "ticks 0\n"
    ++ codes "thread 0 t priority 1 ready\n"
    ++ codes "list ready 1: 0\n"
    ++ codes "console 8190\n"
    ++ repeat 126 (codes "| xxxxxxxxxxxxxxxxxxxxxxxxxxxxxxxxxxxxxxxxxxxxxxxxxxxxxxxxxxxxxxxx\n")

-- a shorter print still fits
abbrev pub ConsoleFull : Type 0
ConsoleFull =
    dump_after console_nearly_full_program (replicate 255 Step)
    ≡ codes "events 255\n"
    ++ codes "ticks 0\n"
    ++ codes "thread 0 t priority 1 ready\n"
    ++ codes "list ready 1: 0\n"
    ++ codes "console 8192\n"
    ++ repeat 126 (codes "| xxxxxxxxxxxxxxxxxxxxxxxxxxxxxxxxxxxxxxxxxxxxxxxxxxxxxxxxxxxxxxxx\n")
    ++ codes "| f\n"

-- a full console stays as it is
abbrev pub ConsoleStaysFull : Type 0
ConsoleStaysFull =
    dump_after console_nearly_full_program (replicate 258 Step)
    ≡ codes "events 258\n"
    ++ codes "ticks 0\n"
    ++ codes "thread 0 t priority 1 ready\n"
    ++ codes "list ready 1: 0\n"
    ++ codes "console 8192\n"
    ++ repeat 126 (codes "| xxxxxxxxxxxxxxxxxxxxxxxxxxxxxxxxxxxxxxxxxxxxxxxxxxxxxxxxxxxxxxxx\n")
    ++ codes "| f\n"

-- the program
--     fn f(a) { return a * 2; } thread t() priority 1 { let x = 0; x = f(4); print x; } start t();
abbrev pub a_function_program : Tree
a_function_program =
    tree (codes "f" ∷ codes "a" ∷ codes "t" ∷ codes "x" ∷ [])
    (function 0 (1 ∷ []) (answer (Some (binary (v 1) op.Times (n 2))) ∷ [])
    ∷ thread 2 [] 1 (
    declare 3 (n 0)
    ∷ apply_to 3 0 ((n 4) ∷ [])
    ∷ does (call.Print (value (v 3) ∷ [])) []
    ∷ [])
    ∷ start 2 []
    ∷ [])

-- the value that a function returns
abbrev pub AFunction : Type 0
AFunction =
    dump_after a_function_program (Step ∷ [])
    ≡ codes "events 1\n"
    ++ codes "ticks 0\n"
    ++ codes "thread 0 t priority 1 ready\n"
    ++ codes "list ready 1: 0\n"
    ++ codes "console 2\n"
    ++ codes "| 8\n"

-- the program
--     type T { v } object o: T; thread t() priority 1 { atomic { free 2; } } start t();
abbrev pub static_stays_program : Tree
static_stays_program =
    tree (codes "T" ∷ codes "v" ∷ codes "o" ∷ codes "t" ∷ [])
    (kind 0 (1 ∷ [])
    ∷ object 2 0
    ∷ thread 3 [] 1 (atomic [] (free (n 2) ∷ []) ∷ [])
    ∷ start 3 []
    ∷ [])

-- a static object can't be freed
abbrev pub StaticStays : Type 0
StaticStays =
    dump_after static_stays_program (Step ∷ [])
    ≡ codes "events 1\n"
    ++ codes "ticks 0\n"
    ++ codes "thread 0 t priority 1 ended 3\n"
    ++ codes "object 2 T static v=0\n"
    ++ codes "console 0\n"

-- the program
--     thread a(x) priority 1 { print x; }
--     thread m() priority 2 { let t = 0; let ok = 0; spawn a(5) -> t; setprio t, 3 -> ok; print t, ok; getprio t -> ok; print ok; delete self; }
--     start m();
abbrev pub priorities_program : Tree
priorities_program =
    tree (codes "a" ∷ codes "x" ∷ codes "m" ∷ codes "t" ∷ codes "ok" ∷ [])
    (thread 0 (1 ∷ []) 1 (does (call.Print (value (v 1) ∷ [])) [] ∷ [])
    ∷ thread 2 [] 2 (
    declare 3 (n 0)
    ∷ declare 4 (n 0)
    ∷ does (call.Spawn (at 0) ((n 5) ∷ [])) (3 ∷ [])
    ∷ does (call.Setprio (who.Of (v 3)) (n 3)) (4 ∷ [])
    ∷ does (call.Print (value (v 3) ∷ value (v 4) ∷ [])) []
    ∷ does (call.Getprio (who.Of (v 3))) (4 ∷ [])
    ∷ does (call.Print (value (v 4) ∷ [])) []
    ∷ does (call.Delete who.Own) []
    ∷ [])
    ∷ start 2 []
    ∷ [])

-- a thread sets and asks the priority of another, and deletes itself
abbrev pub Priorities : Type 0
Priorities =
    dump_after priorities_program (replicate 8 Step)
    ≡ codes "events 8\n"
    ++ codes "ticks 0\n"
    ++ codes "thread 1 a priority 3 ended 0\n"
    ++ codes "console 16\n"
    ++ codes "| 5\n"
    ++ codes "| 11\n"
    ++ codes "| 4294967295\n"

-- the program
--     thread t(d) priority 1 { delay d; print d; } start t(2); start t(1); start t(2);
abbrev pub delays_program : Tree
delays_program =
    tree (codes "t" ∷ codes "d" ∷ [])
    (thread 0 (1 ∷ []) 1 (does (call.Delay (v 1)) [] ∷ does (call.Print (value (v 1) ∷ [])) [] ∷ [])
    ∷ start 0 (2 ∷ [])
    ∷ start 0 (1 ∷ [])
    ∷ start 0 (2 ∷ [])
    ∷ [])

-- threads that are delayed wake in order of tick and then number
abbrev pub Delays : Type 0
Delays =
    dump_after delays_program (replicate 3 Step ++ replicate 2 Tick ++ replicate 3 Step)
    ≡ codes "events 8\n"
    ++ codes "ticks 2\n"
    ++ codes "thread 0 t priority 1 ended 0\n"
    ++ codes "thread 1 t priority 1 ready\n"
    ++ codes "thread 2 t priority 1 ready\n"
    ++ codes "list ready 1: 2 1\n"
    ++ codes "console 4\n"
    ++ codes "| 2\n"
    ++ codes "| 2\n"

-- the program
--     queue q[1] input 3;
abbrev pub inputs_program : Tree
inputs_program =
    tree (codes "q" ∷ [])
    (queue 0 1 (Some 3)
    ∷ [])

-- an input is lost where the queue is full, and where no queue has its channel
abbrev pub Inputs : Type 0
Inputs =
    dump_after inputs_program (Input 3 5 ∷ [] ++ Input 3 6 ∷ [] ++ Input 4 7 ∷ [])
    ≡ codes "events 3\n"
    ++ codes "ticks 0\n"
    ++ codes "queue q: 5\n"
    ++ codes "console 0\n"

-- the program
--     queue q[1];
--     thread a(x, p) priority 1 { let ok = 0; setprio self, p -> ok; send q, x, 4294967295 -> ok; print x, ok; }
--     thread r() priority 0 { let ok = 0; let v = 0; waiting q -> v; print v; receive q, 0 -> ok, v; print ok, v; receive q, 0 -> ok, v; print ok, v; delete 1 -> ok; print ok; receive q, 0 -> ok, v; print ok, v; receive q, 0 -> ok, v; print ok, v; }
--     start a(5, 1); start a(6, 1); start a(7, 2); start r();
abbrev pub senders_wait_program : Tree
senders_wait_program =
    tree (codes "q" ∷ codes "a" ∷ codes "x" ∷ codes "p" ∷ codes "ok" ∷ codes "r" ∷ codes "v" ∷ [])
    (queue 0 1 None
    ∷ thread 1 (2 ∷ 3 ∷ []) 1 (
    declare 4 (n 0)
    ∷ does (call.Setprio who.Own (v 3)) (4 ∷ [])
    ∷ does (call.Send (at 0) (v 2) (n 4294967295)) (4 ∷ [])
    ∷ does (call.Print (value (v 2) ∷ value (v 4) ∷ [])) []
    ∷ [])
    ∷ thread 5 [] 0 (
    declare 4 (n 0)
    ∷ declare 6 (n 0)
    ∷ does (call.Waiting (at 0)) (6 ∷ [])
    ∷ does (call.Print (value (v 6) ∷ [])) []
    ∷ does (call.Receive (at 0) (n 0)) (4 ∷ 6 ∷ [])
    ∷ does (call.Print (value (v 4) ∷ value (v 6) ∷ [])) []
    ∷ does (call.Receive (at 0) (n 0)) (4 ∷ 6 ∷ [])
    ∷ does (call.Print (value (v 4) ∷ value (v 6) ∷ [])) []
    ∷ does (call.Delete (who.Of (n 1))) (4 ∷ [])
    ∷ does (call.Print (value (v 4) ∷ [])) []
    ∷ does (call.Receive (at 0) (n 0)) (4 ∷ 6 ∷ [])
    ∷ does (call.Print (value (v 4) ∷ value (v 6) ∷ [])) []
    ∷ does (call.Receive (at 0) (n 0)) (4 ∷ 6 ∷ [])
    ∷ does (call.Print (value (v 4) ∷ value (v 6) ∷ [])) []
    ∷ [])
    ∷ start 1 (5 ∷ 1 ∷ [])
    ∷ start 1 (6 ∷ 1 ∷ [])
    ∷ start 1 (7 ∷ 2 ∷ [])
    ∷ start 5 []
    ∷ [])

-- of two senders at a full queue the urgent one is served first, though it came later
abbrev pub SendersWait : Type 0
SendersWait =
    dump_after senders_wait_program (replicate 11 Step)
    ≡ codes "events 11\n"
    ++ codes "ticks 0\n"
    ++ codes "thread 0 a priority 1 ended 0\n"
    ++ codes "thread 1 a priority 1 waiting to send q for ever\n"
    ++ codes "thread 2 a priority 2 ready\n"
    ++ codes "thread 3 r priority 0 ready\n"
    ++ codes "list ready 2: 2\n"
    ++ codes "list ready 0: 3\n"
    ++ codes "queue q: 7\n"
    ++ codes "queue q senders: 1\n"
    ++ codes "console 5\n"
    ++ codes "| 51\n"
    ++ codes "| 1\n"

-- the same, up to the end
abbrev pub SendersServed : Type 0
SendersServed =
    dump_after senders_wait_program (replicate 30 Step)
    ≡ codes "events 30\n"
    ++ codes "ticks 0\n"
    ++ codes "thread 0 a priority 1 ended 0\n"
    ++ codes "thread 1 a priority 1 ended 0\n"
    ++ codes "thread 2 a priority 2 ended 0\n"
    ++ codes "thread 3 r priority 0 ended 0\n"
    ++ codes "queue q:\n"
    ++ codes "console 25\n"
    ++ codes "| 51\n"
    ++ codes "| 1\n"
    ++ codes "| 71\n"
    ++ codes "| 15\n"
    ++ codes "| 61\n"
    ++ codes "| 17\n"
    ++ codes "| 0\n"
    ++ codes "| 16\n"
    ++ codes "| 00\n"

-- the program
--     semaphore s = 0 max 2;
--     thread t(x) priority 3 { let ok = 0; take s, 9 -> ok; print x, ok; }
--     thread g() priority 1 { let ok = 0; setprio 0, 2 -> ok; print ok; setprio 0, 8 -> ok; print ok; getprio 7 -> ok; print ok; give s -> ok; give s -> ok; give s -> ok; give s -> ok; give s -> ok; print ok; yield; now -> ok; print ok; }
--     start t(1); start t(2); start g();
abbrev pub takers_wait_program : Tree
takers_wait_program =
    tree (codes "s" ∷ codes "t" ∷ codes "x" ∷ codes "ok" ∷ codes "g" ∷ [])
    (semaphore 0 0 2
    ∷ thread 1 (2 ∷ []) 3 (
    declare 3 (n 0)
    ∷ does (call.Take (at 0) (n 9)) (3 ∷ [])
    ∷ does (call.Print (value (v 2) ∷ value (v 3) ∷ [])) []
    ∷ [])
    ∷ thread 4 [] 1 (
    declare 3 (n 0)
    ∷ does (call.Setprio (who.Of (n 0)) (n 2)) (3 ∷ [])
    ∷ does (call.Print (value (v 3) ∷ [])) []
    ∷ does (call.Setprio (who.Of (n 0)) (n 8)) (3 ∷ [])
    ∷ does (call.Print (value (v 3) ∷ [])) []
    ∷ does (call.Getprio (who.Of (n 7))) (3 ∷ [])
    ∷ does (call.Print (value (v 3) ∷ [])) []
    ∷ does (call.Give (at 0)) (3 ∷ [])
    ∷ does (call.Give (at 0)) (3 ∷ [])
    ∷ does (call.Give (at 0)) (3 ∷ [])
    ∷ does (call.Give (at 0)) (3 ∷ [])
    ∷ does (call.Give (at 0)) (3 ∷ [])
    ∷ does (call.Print (value (v 3) ∷ [])) []
    ∷ does call.Yield []
    ∷ does call.Now (3 ∷ [])
    ∷ does (call.Print (value (v 3) ∷ [])) []
    ∷ [])
    ∷ start 1 (1 ∷ [])
    ∷ start 1 (2 ∷ [])
    ∷ start 4 []
    ∷ [])

-- a waiter whose priority falls is served later, and a given word goes to a taker before the count rises
abbrev pub TakersWait : Type 0
TakersWait =
    dump_after takers_wait_program (replicate 6 Step ++ replicate 3 Tick ++ replicate 20 Step)
    ≡ codes "events 29\n"
    ++ codes "ticks 3\n"
    ++ codes "thread 0 t priority 2 ended 0\n"
    ++ codes "thread 1 t priority 3 ended 0\n"
    ++ codes "thread 2 g priority 1 ended 0\n"
    ++ codes "semaphore s: 2\n"
    ++ codes "console 25\n"
    ++ codes "| 1\n"
    ++ codes "| 0\n"
    ++ codes "| 4294967295\n"
    ++ codes "| 21\n"
    ++ codes "| 11\n"
    ++ codes "| 0\n"
    ++ codes "| 3\n"

-- the program
--     semaphore s = 0 max 2;
--     thread t(x, d) priority 3 { let ok = 5; take s, d -> ok; print x, ok; }
--     start t(1, 2); start t(2, 1); start t(3, 2); start t(4, 0); start t(5, 4294967294);
abbrev pub takers_time_out_program : Tree
takers_time_out_program =
    tree (codes "s" ∷ codes "t" ∷ codes "x" ∷ codes "d" ∷ codes "ok" ∷ [])
    (semaphore 0 0 2
    ∷ thread 1 (2 ∷ 3 ∷ []) 3 (
    declare 4 (n 5)
    ∷ does (call.Take (at 0) (v 3)) (4 ∷ [])
    ∷ does (call.Print (value (v 2) ∷ value (v 4) ∷ [])) []
    ∷ [])
    ∷ start 1 (1 ∷ 2 ∷ [])
    ∷ start 1 (2 ∷ 1 ∷ [])
    ∷ start 1 (3 ∷ 2 ∷ [])
    ∷ start 1 (4 ∷ 0 ∷ [])
    ∷ start 1 (5 ∷ 4294967294 ∷ [])
    ∷ [])

-- waits end at their tick, in order of number
abbrev pub TakersTimeOut : Type 0
TakersTimeOut =
    dump_after takers_time_out_program (replicate 6 Step ++ replicate 2 Tick ++ replicate 3 Step)
    ≡ codes "events 11\n"
    ++ codes "ticks 2\n"
    ++ codes "thread 0 t priority 3 ended 0\n"
    ++ codes "thread 1 t priority 3 ready\n"
    ++ codes "thread 2 t priority 3 ready\n"
    ++ codes "thread 3 t priority 3 ended 0\n"
    ++ codes "thread 4 t priority 3 waiting to take s until 4294967294\n"
    ++ codes "list ready 3: 2 1\n"
    ++ codes "list timed: 4@4294967294\n"
    ++ codes "semaphore s: 0\n"
    ++ codes "semaphore s takers: 4\n"
    ++ codes "console 6\n"
    ++ codes "| 40\n"
    ++ codes "| 10\n"

-- the program
--     type T { v } object o: T;
--     thread t() priority 1 { let x = 7; atomic { let i = 0; while i < 63 { o.v = i; i = i + 1; } x.T.v = o.v; } }
--     start t();
abbrev pub operation_before_reference_program : Tree
operation_before_reference_program =
    tree (codes "T" ∷ codes "v" ∷ codes "o" ∷ codes "t" ∷ codes "x" ∷ codes "i" ∷ [])
    (kind 0 (1 ∷ [])
    ∷ object 2 0
    ∷ thread 3 [] 1 (
    declare 4 (n 7)
    ∷ atomic [] (
    tdeclare 5 (n 0)
    ∷ trepeat (binary (v 5) op.Less (n 63)) (store (static_field 2 1) (v 5) ∷ tassign 5 (binary (v 5) op.Plus (n 1)) ∷ [])
    ∷ store (field_through 4 0 1) (expr.Field (static_field 2 1))
    ∷ [])
    ∷ [])
    ∷ start 3 []
    ∷ [])

-- after 63 operations a store reads a field first, and is then one operation too many before its reference is bad
abbrev pub OperationBeforeReference : Type 0
OperationBeforeReference =
    dump_after operation_before_reference_program (Step ∷ [])
    ≡ codes "events 1\n"
    ++ codes "ticks 0\n"
    ++ codes "thread 0 t priority 1 ended 2\n"
    ++ codes "object 2 T static v=0\n"
    ++ codes "console 0\n"

-- the program
--     type T { v } type U { a, b } object o: T; object u: U;
--     thread t() priority 1 { let ok = 0; let x = 2; let y = 4; atomic -> ok, x { y.U.b = x.T.v + 3; give y.U.b; } print ok, x; atomic -> ok { y.T.v = 1; } }
--     start t();
abbrev pub bad_reference_program : Tree
bad_reference_program =
    tree (codes "T" ∷ codes "v" ∷ codes "U" ∷ codes "a" ∷ codes "b" ∷ codes "o" ∷ codes "u" ∷ codes "t" ∷ codes "ok" ∷ codes "x" ∷ codes "y" ∷ [])
    (kind 0 (1 ∷ [])
    ∷ kind 2 (3 ∷ 4 ∷ [])
    ∷ object 5 0
    ∷ object 6 2
    ∷ thread 7 [] 1 (
    declare 8 (n 0)
    ∷ declare 9 (n 2)
    ∷ declare 10 (n 4)
    ∷ atomic (8 ∷ 9 ∷ []) (
    store (field_through 10 2 4) (binary (expr.Field (field_through 9 0 1)) op.Plus (n 3))
    ∷ gives ((expr.Field (field_through 10 2 4)) ∷ [])
    ∷ [])
    ∷ does (call.Print (value (v 8) ∷ value (v 9) ∷ [])) []
    ∷ atomic (8 ∷ []) (store (field_through 10 0 1) (n 1) ∷ [])
    ∷ [])
    ∷ start 7 []
    ∷ [])

-- a reference to an object of another type is bad
abbrev pub BadReference : Type 0
BadReference =
    dump_after bad_reference_program (replicate 3 Step)
    ≡ codes "events 3\n"
    ++ codes "ticks 0\n"
    ++ codes "thread 0 t priority 1 ended 3\n"
    ++ codes "object 2 T static v=0\n"
    ++ codes "object 4 U static a=0 b=3\n"
    ++ codes "console 3\n"
    ++ codes "| 13\n"

-- the program
--     thread t() priority 1 { let ok = 0; let x = 0; atomic -> ok, x { let i = 0; let a = 0; let b = 0; while i < 3332 { i = i + 1; } give i; } print ok, x; }
--     start t();
abbrev pub as_many_moves_as_allowed_program : Tree
as_many_moves_as_allowed_program =
    tree (codes "t" ∷ codes "ok" ∷ codes "x" ∷ codes "i" ∷ codes "a" ∷ codes "b" ∷ [])
    (thread 0 [] 1 (
    declare 1 (n 0)
    ∷ declare 2 (n 0)
    ∷ atomic (1 ∷ 2 ∷ []) (
    tdeclare 3 (n 0)
    ∷ tdeclare 4 (n 0)
    ∷ tdeclare 5 (n 0)
    ∷ trepeat (binary (v 3) op.Less (n 3332)) (tassign 3 (binary (v 3) op.Plus (n 1)) ∷ [])
    ∷ gives ((v 3) ∷ [])
    ∷ [])
    ∷ does (call.Print (value (v 1) ∷ value (v 2) ∷ [])) []
    ∷ [])
    ∷ start 0 []
    ∷ [])

-- a block of 10,000 moves
abbrev pub AsManyMovesAsAllowed : Type 0
AsManyMovesAsAllowed =
    dump_after as_many_moves_as_allowed_program (replicate 2 Step)
    ≡ codes "events 2\n"
    ++ codes "ticks 0\n"
    ++ codes "thread 0 t priority 1 ready\n"
    ++ codes "list ready 1: 0\n"
    ++ codes "console 6\n"
    ++ codes "| 13332\n"

-- the program
--     thread t() priority 1 { let ok = 0; let x = 0; atomic -> ok, x { let i = 0; let a = 0; let b = 0; let c = 0; while i < 3332 { i = i + 1; } give i; } print ok, x; }
--     start t();
abbrev pub one_move_too_many_program : Tree
one_move_too_many_program =
    tree (codes "t" ∷ codes "ok" ∷ codes "x" ∷ codes "i" ∷ codes "a" ∷ codes "b" ∷ codes "c" ∷ [])
    (thread 0 [] 1 (
    declare 1 (n 0)
    ∷ declare 2 (n 0)
    ∷ atomic (1 ∷ 2 ∷ []) (
    tdeclare 3 (n 0)
    ∷ tdeclare 4 (n 0)
    ∷ tdeclare 5 (n 0)
    ∷ tdeclare 6 (n 0)
    ∷ trepeat (binary (v 3) op.Less (n 3332)) (tassign 3 (binary (v 3) op.Plus (n 1)) ∷ [])
    ∷ gives ((v 3) ∷ [])
    ∷ [])
    ∷ does (call.Print (value (v 1) ∷ value (v 2) ∷ [])) []
    ∷ [])
    ∷ start 0 []
    ∷ [])

-- a block with one move more
abbrev pub OneMoveTooMany : Type 0
OneMoveTooMany =
    dump_after one_move_too_many_program (replicate 2 Step)
    ≡ codes "events 2\n"
    ++ codes "ticks 0\n"
    ++ codes "thread 0 t priority 1 ended 1\n"
    ++ codes "console 0\n"

-- the program
--     fn less(a, b) { while 1 { let c = a < b; if c { break; } else { return 0; } } return 1; }
--     fn most(a, b) { let c = 0; c = less(a, b); if c { return b; } return a; }
--     thread t(k) priority 1 {
--       let i = 0; let m = 0;
--       while i < k { let j = i * (k - i); m = most(m, j); if i == 3 { let z = 9; break; } i = i + 1; }
--       print i, ",", m, ",", ~0 ^ (5 & 6 | 8), !k, k >= 5; print k != 5, k <= 4, 9 >> 1, 2 > 1;
--       if k == 5 { return; }
--       print "no";
--     }
--     start t(5);
abbrev pub moves_program : Tree
moves_program =
    tree (codes "less" ∷ codes "a" ∷ codes "b" ∷ codes "c" ∷ codes "most" ∷ codes "t" ∷ codes "k" ∷ codes "i" ∷ codes "m" ∷ codes "j" ∷ codes "z" ∷ [])
    (function 0 (1 ∷ 2 ∷ []) (
    while_ (n 1) (
    declare 3 (binary (v 1) op.Less (v 2))
    ∷ either (v 3) (leave ∷ []) (answer (Some (n 0)) ∷ [])
    ∷ [])
    ∷ answer (Some (n 1))
    ∷ [])
    ∷ function 4 (1 ∷ 2 ∷ []) (
    declare 3 (n 0)
    ∷ apply_to 3 0 ((v 1) ∷ (v 2) ∷ [])
    ∷ when (v 3) (answer (Some (v 2)) ∷ [])
    ∷ answer (Some (v 1))
    ∷ [])
    ∷ thread 5 (6 ∷ []) 1 (
    declare 7 (n 0)
    ∷ declare 8 (n 0)
    ∷ while_ (binary (v 7) op.Less (v 6)) (
    declare 9 (binary (v 7) op.Times (binary (v 6) op.Minus (v 7)))
    ∷ apply_to 8 4 ((v 8) ∷ (v 9) ∷ [])
    ∷ when (binary (v 7) op.Same (n 3)) (declare 10 (n 9) ∷ leave ∷ [])
    ∷ assign 7 (binary (v 7) op.Plus (n 1))
    ∷ [])
    ∷ does (call.Print (value (v 7) ∷ text (codes ",") ∷ value (v 8) ∷ text (codes ",") ∷ value (binary (unary op.Flip (n 0)) op.Xor (binary (binary (n 5) op.And (n 6)) op.Or (n 8))) ∷ value (unary op.Not (v 6)) ∷ value (binary (v 6) op.AtLeast (n 5)) ∷ [])) []
    ∷ does (call.Print (value (binary (v 6) op.Other (n 5)) ∷ value (binary (v 6) op.AtMost (n 4)) ∷ value (binary (n 9) op.Right (n 1)) ∷ value (binary (n 2) op.More (n 1)) ∷ [])) []
    ∷ when (binary (v 6) op.Same (n 5)) (answer None ∷ [])
    ∷ does (call.Print (text (codes "no") ∷ [])) []
    ∷ [])
    ∷ start 5 (5 ∷ [])
    ∷ [])

-- calls, branches, loops and the scopes of locals
abbrev pub Moves : Type 0
Moves =
    dump_after moves_program (replicate 3 Step)
    ≡ codes "events 3\n"
    ++ codes "ticks 0\n"
    ++ codes "thread 0 t priority 1 ended 0\n"
    ++ codes "console 22\n"
    ++ codes "| 3,6,429496728301\n"
    ++ codes "| 0041\n"

-- the program
--     type A { a } type B { a, b, c } object o: A;
--     thread t() priority 1 { let ok = 0; let p = 0; let r = 0; let q = 0;
--       atomic -> ok, p, r, q { let x = new A; let y = new B; let z = new A; give x, y, z; } print p, " ", r, " ", q;
--       atomic -> ok { free p; free r; } atomic -> ok, p, r, q { let x = new B; let y = new A; let z = new A; z.A.a = 7; give x, y, z; } print p, " ", r, " ", q;
--       if ok { atomic -> ok { o.a = q; abort; } } delete self; }
--     start t();
abbrev pub places_program : Tree
places_program =
    tree (codes "A" ∷ codes "a" ∷ codes "B" ∷ codes "b" ∷ codes "c" ∷ codes "o" ∷ codes "t" ∷ codes "ok" ∷ codes "p" ∷ codes "r" ∷ codes "q" ∷ codes "x" ∷ codes "y" ∷ codes "z" ∷ [])
    (kind 0 (1 ∷ [])
    ∷ kind 2 (1 ∷ 3 ∷ 4 ∷ [])
    ∷ object 5 0
    ∷ thread 6 [] 1 (
    declare 7 (n 0)
    ∷ declare 8 (n 0)
    ∷ declare 9 (n 0)
    ∷ declare 10 (n 0)
    ∷ atomic (7 ∷ 8 ∷ 9 ∷ 10 ∷ []) (
    tdeclare_new 11 0
    ∷ tdeclare_new 12 2
    ∷ tdeclare_new 13 0
    ∷ gives ((v 11) ∷ (v 12) ∷ (v 13) ∷ [])
    ∷ [])
    ∷ does (call.Print (value (v 8) ∷ text (codes " ") ∷ value (v 9) ∷ text (codes " ") ∷ value (v 10) ∷ [])) []
    ∷ atomic (7 ∷ []) (free (v 8) ∷ free (v 9) ∷ [])
    ∷ atomic (7 ∷ 8 ∷ 9 ∷ 10 ∷ []) (
    tdeclare_new 11 2
    ∷ tdeclare_new 12 0
    ∷ tdeclare_new 13 0
    ∷ store (field_through 13 0 1) (n 7)
    ∷ gives ((v 11) ∷ (v 12) ∷ (v 13) ∷ [])
    ∷ [])
    ∷ does (call.Print (value (v 8) ∷ text (codes " ") ∷ value (v 9) ∷ text (codes " ") ∷ value (v 10) ∷ [])) []
    ∷ when (v 7) (atomic (7 ∷ []) (store (static_field 5 1) (v 10) ∷ abort ∷ []) ∷ [])
    ∷ does (call.Delete who.Own) []
    ∷ [])
    ∷ start 6 []
    ∷ [])

-- freed places are used again, the least one first
abbrev pub Places : Type 0
Places =
    dump_after places_program (replicate 6 Step)
    ≡ codes "events 6\n"
    ++ codes "ticks 0\n"
    ++ codes "thread 0 t priority 1 ready\n"
    ++ codes "list ready 1: 0\n"
    ++ codes "object 2 A static a=0\n"
    ++ codes "object 4 B made a=0 b=0 c=0\n"
    ++ codes "object 8 A made a=0\n"
    ++ codes "object 10 A made a=0\n"
    ++ codes "object 12 A made a=7\n"
    ++ codes "console 14\n"
    ++ codes "| 4 6 10\n"
    ++ codes "| 4 8 12\n"
