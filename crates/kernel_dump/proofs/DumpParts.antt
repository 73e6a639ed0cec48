-- A dump of what an image shows, in the parts that are put one after another.
use Rattle.std.proofs.Common.{◌≡◌, ℕ, ◌≤◌, List, [], ◌∷◌, ◌++◌, length, sym, ◌∙◌, ap, arith, append_assoc, append-nil}
use Rattle.std.proofs.lemmas.List.FromFn.{length-map-range_with_len}
use Rattle.std.specs.Prelude.{map}
use Rattle.std.specs.List.{enumerate_from}
use Rattle.thread_tree.specs.Program.{Program}
use Rattle.kernel_model.specs.Dump.{console_line, console_lines, console_size_line, dump_lines, events_line, object_lines, ready_lines, row_lines, text_of, ticks_line}
use Rattle.kernel_model.specs.Kernel.{State}
use Rattle.kernel_model.specs.Names.{Names}
use Rattle.kernel_model.specs.Show.{visible}
use Rattle.kernel_model.specs.Sound.{IsSound}
use Rattle.kernel_model.specs.Visible.{Object, Row, Visible}
use Rattle.kernel_model.proofs.Callers.{dump-parts, text_of-append}
use Rattle.kernel_image.specs.Decoded.{Decoded, listed}
use Rattle.kernel_image.specs.Shown.{byte_of, objects_in, ready_lists, shown, shown_queue, shown_row, shown_semaphore, timed_list}
use Rattle.console_store.specs.Console.{bytes_in}

-- the parts
abbrev pub in_parts : Names → ℕ → ℕ → List Row → List (List ℕ) → List Object → List ℕ → List ℕ
in_parts names events ticks rows ready objects console =
    text_of (events_line events ∷ ticks_line ticks ∷ [])
    ++ (text_of (row_lines names rows)
    ++ (text_of (ready_lines ready)
    ++ (text_of (object_lines names objects)
    ++ text_of (console_size_line (length console) ∷ map console_line (console_lines console)))))

-- a kernel of which nothing waits
abbrev quiet : ℕ → ℕ → List Row → List (List ℕ) → List Object → List ℕ → Visible
quiet events ticks rows ready objects console = record {
  events = events;
  ticks = ticks;
  rows = rows;
  ready = ready;
  timed = [];
  queues = [];
  semaphores = [];
  objects = objects;
  console = console;
}

-- texts one after another, of which three are empty
flat : (a b c d e f : List ℕ) → a ++ b ++ c ++ [] ++ [] ++ [] ++ d ++ e ++ f ≡ a ++ (b ++ (c ++ (d ++ (e ++ f))))
flat a b c d e f = simp (append_assoc, append-nil)

quiet_dump : (names : Names) (events ticks : ℕ) (rows : List Row) (ready : List (List ℕ)) (objects : List Object) (console : List ℕ)
    → text_of (dump_lines names (quiet events ticks rows ready objects console)) ≡ in_parts names events ticks rows ready objects console
quiet_dump names events ticks rows ready objects console =
    let counters = text_of (events_line events ∷ ticks_line ticks ∷ []) in
    let threads = text_of (row_lines names rows) in
    let lists = text_of (ready_lines ready) in
    let things = text_of (object_lines names objects) in
    let size = text_of (console_size_line (length console) ∷ []) in
    let printed = text_of (map console_line (console_lines console)) in
    dump-parts names (quiet events ticks rows ready objects console)
    ∙ flat counters threads lists things size printed
    ∙ ap (λ (text : List ℕ). counters ++ (threads ++ (lists ++ (things ++ text)))) (sym (text_of-append (console_size_line (length console) ∷ []) (map console_line (console_lines console))))

-- the dump of an image in its parts
pub dump_is : (p : Program) (names : Names) (d : Decoded) → p.queues ≡ [] → p.semaphores ≡ [] → timed_list d ≡ []
    → in_parts names d.events d.ticks (map shown_row d.rows) (ready_lists d) (objects_in p d.heap d.live) (bytes_in d) ≡ text_of (dump_lines names (shown p d))
unfolding shown
dump_is p names d no_queues no_semaphores untimed =
    sym (ap (λ (v : Visible). text_of (dump_lines names v))
    (λ i. record (quiet d.events d.ticks (map shown_row d.rows) (ready_lists d) (objects_in p d.heap d.live) (bytes_in d)) {
      timed = untimed i;
      queues = map (shown_queue d) (enumerate_from 0 (no_queues i));
      semaphores = map (shown_semaphore d) (enumerate_from 0 (no_semaphores i));
    })
    ∙ quiet_dump names d.events d.ticks (map shown_row d.rows) (ready_lists d) (objects_in p d.heap d.live) (bytes_in d))

-- a console of a kernel is no longer than it may be
pub console_few : (p : Program) (d : Decoded) (K : State) → IsSound p K → shown p d ≡ visible p K → d.console_length ≤ 8192
unfolding shown visible listed
console_few p d K sound same =
    let long = ap (λ (v : Visible). length v.console) same in
    let count = length-map-range_with_len (byte_of d.console) 0 d.console_length in
    omega (arith, long, count, sound.console)

-- and in what was read of it
pub dump_read : (p : Program) (names : Names) (d : Decoded) (events ticks : ℕ) → events ≡ d.events → ticks ≡ d.ticks → p.queues ≡ [] → p.semaphores ≡ [] → timed_list d ≡ []
    → in_parts names events ticks (map shown_row d.rows) (ready_lists d) (objects_in p d.heap d.live) (bytes_in d) ≡ text_of (dump_lines names (shown p d))
dump_read p names d events ticks counted ticked no_queues no_semaphores untimed =
    (λ i. in_parts names (counted i) (ticked i) (map shown_row d.rows) (ready_lists d) (objects_in p d.heap d.live) (bytes_in d)) ∙ dump_is p names d no_queues no_semaphores untimed
