-- The lines of objects, out of the words of the heap.
use Rattle.std.proofs.Common.{◌≡◌, ℕ, suc, ◌+◌, ◌-◌, ◌*◌, ◌%◌, ◌<◌, ◌≤◌, Bool, true, false, List, [], ◌∷◌, ◌++◌, length, drop, refl, sym, ◌∙◌, ap, arith, append_assoc, append-nil, cond, codes, if◌then◌else◌}
use Rattle.std.proofs.Math.Seq.{drop-cons}
use Rattle.std.proofs.Math.ListN.{drop_of_length-le}
use Rattle.std.proofs.lemmas.List.{get_or_past}
use Rattle.std.proofs.lemmas.List.FromFn.{get_or-map-range_with_len, length-map-range_with_len}
use Rattle.std.specs.Fmt.{decimal}
use Rattle.std.specs.Prelude.{filter, flat_map, map, nat_le, slice_get, slice_index, Some, None}
use Rattle.std.specs.List.{range_with_len}
use Rattle.thread_tree.specs.declared.tree.Decl.{Decl}
use Rattle.thread_tree.specs.declared.tree.Tree.{Tree}
use Rattle.thread_tree.specs.Program.{Program, program_of}
use Rattle.kernel_model.specs.Dump.{object_line, object_lines}
use Rattle.kernel_model.specs.Names.{Names, Kind, kind_of}
use Rattle.thread_tree.specs.Numbers.{fields_of}
use Rattle.kernel_model.specs.Show.{bytes_of, names_of}
use Rattle.kernel_model.specs.Visible.{Object}
use Rattle.kernel_image.specs.declared.cell.Cell.{Cell}
use Rattle.kernel_image.specs.declared.cell.Cell.TheVariants.{HeapWord, LiveWord}
use Rattle.kernel_image.specs.Decoded.{decoded_of, listed}
use Rattle.kernel_image.specs.Shown.{even_places, is_begun, object_at, objects_in}
use Rattle.kernel_dump.specs.declared.sort.Sort.TheVariants as sort
use Rattle.kernel_dump.specs.Parts.{is_of, fields_in, fields_text, object_head, lines_at}
use Rattle.kernel_dump.proofs.Declarations.{name_of_found, name_of_none, kind_of_found, kind_of_none, fields_of_found}

-- the words of the heap and of the live bits
pub heap_word_in : (word : Cell → ℕ) (p : ℕ) → p < 4096 → slice_index (decoded_of word).heap p ≡ word (HeapWord p)
unfolding decoded_of listed
heap_word_in word p low = get_or-map-range_with_len (λ p. word (HeapWord p)) 0 4096 p p 0 low (omega arith)

pub heap_word_past : (word : Cell → ℕ) (p : ℕ) → 4096 ≤ p → slice_index (decoded_of word).heap p ≡ 0
unfolding decoded_of listed
heap_word_past word p high =
    let long = length-map-range_with_len (λ p. word (HeapWord p)) 0 4096 in
    get_or_past (map (λ p. word (HeapWord p)) (range_with_len 0 4096)) p 0 (omega (arith, long))

pub live_word : (word : Cell → ℕ) (i : ℕ) → i < 64 → slice_index (decoded_of word).live i ≡ word (LiveWord i)
unfolding decoded_of listed
live_word word i low = get_or-map-range_with_len (λ i. word (LiveWord i)) 0 64 i i 0 low (omega arith)

-- the fields from one on, with their values
abbrev pub fields_from : (ℕ → List ℕ) → (ℕ → ℕ) → List ℕ → ℕ → List ℕ
fields_from f g ids k = fields_text (map f (drop k ids)) (map g (range_with_len k (length ids - k)))

pub fields_from-first : (f : ℕ → List ℕ) (g : ℕ → ℕ) (ids : List ℕ) → fields_from f g ids 0 ≡ fields_text (map f ids) (listed (length ids) g)
unfolding listed
fields_from-first f g ids = let all : length ids - 0 ≡ length ids = omega arith in rw all refl

pub fields_from-next : (f : ℕ → List ℕ) (g : ℕ → ℕ) (ids : List ℕ) (k : ℕ) → k < length ids
    → fields_from f g ids k ≡ (codes " " ++ f (slice_index ids k) ++ codes "=" ++ decimal (g k)) ++ fields_from f g ids (k + 1)
fields_from-next f g ids k low =
    let more : length ids - k ≡ suc (length ids - (k + 1)) = omega arith in
    let one : suc k ≡ k + 1 = omega arith in
    let rest = drop-cons ids k 0 low in
    ap (λ (xs : List ℕ). fields_text (map f xs) (map g (range_with_len k (length ids - k)))) rest
    ∙ ap (λ (n : ℕ). fields_text (map f (slice_index ids k ∷ drop (suc k) ids)) (map g (range_with_len k n))) more
    ∙ ap (λ (n : ℕ). (codes " " ++ f (slice_index ids k) ++ codes "=" ++ decimal (g k)) ++ fields_text (map f (drop n ids)) (map g (range_with_len (k + 1) (length ids - (k + 1))))) one

pub fields_from-last : (f : ℕ → List ℕ) (g : ℕ → ℕ) (ids : List ℕ) (k : ℕ) → length ids ≤ k → fields_from f g ids k ≡ []
fields_from-last f g ids k all =
    ap (λ (xs : List ℕ). fields_text (map f xs) (map g (range_with_len k (length ids - k)))) (drop_of_length-le ids all)

-- a line with one field more
pub field_put : (line name rest all : List ℕ) (value : ℕ) → line ++ ((codes " " ++ name ++ codes "=" ++ decimal value) ++ rest) ≡ all
    → (line ++ codes " " ++ name ++ codes "=" ++ decimal value) ++ rest ≡ all
field_put line name rest all value so_far =
    ap (λ (xs : List ℕ). xs ++ rest)
    (ap (λ (xs : List ℕ). xs ++ codes "=" ++ decimal value) (append_assoc line (codes " ") name)
    ∙ ap (λ (xs : List ℕ). xs ++ decimal value) (append_assoc line (codes " " ++ name) (codes "="))
    ∙ append_assoc line (codes " " ++ name ++ codes "=") (decimal value))
    ∙ append_assoc line (codes " " ++ name ++ codes "=" ++ decimal value) rest
    ∙ so_far

-- the line of an object, by the name and the fields of its type
module _ (p : Program) (heap : List ℕ) (place : ℕ) where
  line_with : ℕ → List ℕ → List (List ℕ) → ℕ → List ℕ
  line_with header name fields n =
      codes "object " ++ decimal place ++ codes " " ++ name ++ (if nat_le 65536 header then codes " static" else codes " made")
      ++ fields_text fields (listed n (λ field. slice_index heap (place + 1 + field)))

  object_line_is : (header kind : ℕ) → header ≡ slice_index heap place → kind ≡ header % 65536 - 1
      → object_line (names_of p) (object_at p heap place) ≡ line_with header (kind_of (names_of p) kind).name (kind_of (names_of p) kind).fields (length (fields_of p kind))
  unfolding object_line line_with
  object_line_is header kind is_header is_kind =
      let k = sym (is_kind ∙ ap (λ (h : ℕ). h % 65536 - 1) is_header) in
      let h = sym is_header in
      λ i. line_with (h i) (kind_of (names_of p) (k i)).name (kind_of (names_of p) (k i)).fields (length (fields_of p (k i)))

pub object_found : (tree : Tree) (heap : List ℕ) (place header kind : ℕ) (d : Decl) → header ≡ slice_index heap place → kind ≡ header % 65536 - 1 → slice_get (filter (is_of sort.Kind) tree.decls) kind ≡ Some d
    → object_line (names_of (program_of tree)) (object_at (program_of tree) heap place)
    ≡ object_head (names_of (program_of tree)) place kind (nat_le 65536 header) ++ fields_text (map (bytes_of (program_of tree)) (fields_in d)) (listed (length (fields_in d)) (λ field. slice_index heap (place + 1 + field)))
unfolding line_with
object_found tree heap place header kind d is_header is_kind found =
    let p = program_of tree in
    let whole = kind_of_found tree kind d found in
    let name = ap (λ (k : Kind). k.name) whole ∙ sym (name_of_found tree sort.Kind kind d found) in
    let fields = ap (λ (k : Kind). k.fields) whole in
    let count = ap length (fields_of_found tree kind d found) in
    object_line_is p heap place header kind is_header is_kind ∙ (λ i. line_with p heap place header (name i) (fields i) (count i))

pub object_none : (tree : Tree) (heap : List ℕ) (place header kind : ℕ) → header ≡ slice_index heap place → kind ≡ header % 65536 - 1 → slice_get (filter (is_of sort.Kind) tree.decls) kind ≡ None
    → object_line (names_of (program_of tree)) (object_at (program_of tree) heap place) ≡ object_head (names_of (program_of tree)) place kind (nat_le 65536 header)
unfolding line_with
object_none tree heap place header kind is_header is_kind none =
    let p = program_of tree in
    let whole = kind_of_none tree kind none in
    let name = ap (λ (k : Kind). k.name) whole ∙ sym (name_of_none tree sort.Kind kind none) in
    let fields = ap (λ (k : Kind). k.fields) whole in
    object_line_is p heap place header kind is_header is_kind
    ∙ (λ i. line_with p heap place header (name i) (fields i) (length (fields_of p kind)))
    ∙ append-nil (object_head (names_of p) place kind (nat_le 65536 header))

-- the lines of the objects that begin at even places, place by place
begun_lines : (test : ℕ → Bool) (line : Object → List ℕ) (object : ℕ → Object) (double : ℕ → ℕ) (xs : List ℕ)
    → flat_map (λ x. if test (double x) then line (object (double x)) ∷ [] else []) xs ≡ map line (map object (filter test (map double xs)))
begun_lines test line object double [] = refl
begun_lines test line object double (x ∷ xs) = go (test (double x)) (begun_lines test line object double xs)
  where
    go : (b : Bool) → flat_map (λ x. if test (double x) then line (object (double x)) ∷ [] else []) xs ≡ map line (map object (filter test (map double xs)))
        → cond b (line (object (double x)) ∷ []) [] ++ flat_map (λ x. if test (double x) then line (object (double x)) ∷ [] else []) xs ≡ map line (map object (cond b (double x ∷ filter test (map double xs)) (filter test (map double xs))))
    go true rest = ap (λ (lines : List (List ℕ)). line (object (double x)) ∷ lines) rest
    go false rest = rest

pub object_lines_are : (names : Names) (p : Program) (heap live : List ℕ) → flat_map (lines_at names p heap live) (range_with_len 0 2048) ≡ object_lines names (objects_in p heap live)
unfolding even_places
object_lines_are names p heap live = begun_lines (is_begun live) (object_line names) (object_at p heap) (λ i. 2 * i) (range_with_len 0 2048)

-- a place where an object begins, or none
pub lines_at_begun : (names : Names) (p : Program) (heap live : List ℕ) (half : ℕ) → is_begun live (2 * half) ≡ true → lines_at names p heap live half ≡ object_line names (object_at p heap (2 * half)) ∷ []
lines_at_begun names p heap live half is = rw is refl

pub lines_at_none : (names : Names) (p : Program) (heap live : List ℕ) (half : ℕ) → is_begun live (2 * half) ≡ false → lines_at names p heap live half ≡ []
lines_at_none names p heap live half is = rw is refl
