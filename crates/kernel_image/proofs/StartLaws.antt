-- The threads that a program starts, as its declarations give them.
use Rattle.std.proofs.Common.{◌≡◌, ℕ, zero, suc, ◌<◌, ◌≤◌, ◌==◌, List, [], ◌∷◌, Bool, true, false, refl, ap, sym, subst, ◌∙◌, arith, length, slice_index}
use Rattle.std.proofs.lemmas.Option.{none-some, slice_get_within, get_or_from_slice_get}
use Rattle.std.proofs.lemmas.Bool.{false≢true}
use Rattle.std.specs.Prelude.{filter, if◌then◌else◌, find, slice_get, slice_index_or, All, Option, Some, None, IsSome, IfSome, option_and_then, option_map, unwrap_or}
use Rattle.thread_tree.specs.declared.place.Num.{Num}
use Rattle.thread_tree.specs.declared.tree.Decl.{Decl}
use Rattle.thread_tree.specs.declared.tree.Tree.{Tree}
use Rattle.thread_tree.specs.Program.{Program, Template, Start, program_of, values_of}
use Rattle.thread_tree.specs.Limits.{IsWithinLimits, IsFitTemplate, template_named}
use Rattle.kernel_model.specs.declared.wait.TheConstants.{NEVER}
use Rattle.thread_tree.specs.Numbers.{template_number}
use Rattle.kernel_image.specs.declared.sort.Sort.TheVariants as sort
use Rattle.kernel_image.specs.Declarations.{is_of, start_in, started_in, argument_count_in, argument_in}
use Rattle.kernel_image.specs.Initial.{priority_of, started_word, initial_row_word, initial_start_value, argument_count}
use Rattle.kernel_image.proofs.Sorted.{length-filter_map, nth-starts, sorted-starts, start_in-is}

-- the value of a number where it stands
pub values_of-at : (numbers : List Num) (i : ℕ) (n : Num) → slice_get numbers i ≡ Some n → slice_index (values_of numbers) i ≡ n.value
values_of-at [] i n is = absurd (none-some n is)
values_of-at (m ∷ numbers) zero n is = ap (λ (o : Option Num). elim o [ None ↦ 0 | Some k ↦ k.value ]) is
values_of-at (m ∷ numbers) (suc i) n is = values_of-at numbers i n is

pub values_of-past : (numbers : List Num) (i : ℕ) → length numbers ≤ i → slice_index (values_of numbers) i ≡ 0
values_of-past [] i past = refl
values_of-past (m ∷ numbers) zero past = absurd (omega (arith, past))
values_of-past (m ∷ numbers) (suc i) past = values_of-past numbers i (omega (arith, past))

-- the start of a number
start-found : (tree : Tree) (n : ℕ) (d : Decl) → slice_get (filter (is_of sort.Start) tree.decls) n ≡ Some d → slice_get (program_of tree).starts n ≡ start_in d
start-found tree n d is = nth-starts tree.decls n ∙ ap (option_and_then start_in) is

start-none : (tree : Tree) (n : ℕ) → slice_get (filter (is_of sort.Start) tree.decls) n ≡ None → slice_get (program_of tree).starts n ≡ None
start-none tree n is = nth-starts tree.decls n ∙ ap (option_and_then start_in) is

pub started-found : (tree : Tree) (n : ℕ) (d : Decl) → slice_get (filter (is_of sort.Start) tree.decls) n ≡ Some d → option_map (λ (s : Start). s.template) (slice_get (program_of tree).starts n) ≡ started_in d
started-found tree n d is = ap (option_map (λ (s : Start). s.template)) (start-found tree n d is)

pub started-none : (tree : Tree) (n : ℕ) → slice_get (filter (is_of sort.Start) tree.decls) n ≡ None → option_map (λ (s : Start). s.template) (slice_get (program_of tree).starts n) ≡ None
started-none tree n is = ap (option_map (λ (s : Start). s.template)) (start-none tree n is)

pub argument_count-found : (tree : Tree) (n : ℕ) (d : Decl) → slice_get (filter (is_of sort.Start) tree.decls) n ≡ Some d → argument_count (program_of tree) n ≡ argument_count_in d
argument_count-found tree n d is = ap (λ (o : Option Start). elim o [ None ↦ 0 | Some s ↦ length s.arguments ]) (start-found tree n d is)

pub argument_count-none : (tree : Tree) (n : ℕ) → slice_get (filter (is_of sort.Start) tree.decls) n ≡ None → argument_count (program_of tree) n ≡ 0
argument_count-none tree n is = ap (λ (o : Option Start). elim o [ None ↦ 0 | Some s ↦ length s.arguments ]) (start-none tree n is)

pub start_value-found : (tree : Tree) (n i : ℕ) (d : Decl) → slice_get (filter (is_of sort.Start) tree.decls) n ≡ Some d → initial_start_value (program_of tree) n i ≡ argument_in d i
start_value-found tree n i d is = ap (λ (o : Option Start). elim o [ None ↦ 0 | Some s ↦ slice_index s.arguments i ]) (start-found tree n d is)

pub start_value-none : (tree : Tree) (n i : ℕ) → slice_get (filter (is_of sort.Start) tree.decls) n ≡ None → initial_start_value (program_of tree) n i ≡ 0
start_value-none tree n i is = ap (λ (o : Option Start). elim o [ None ↦ 0 | Some s ↦ slice_index s.arguments i ]) (start-none tree n is)

-- what was found is one of them
found-cons : {X : Type 0} (P : X → Type 0) (y : X) (here : Bool) (rest : Option X) (x : X) → P y → (rest ≡ Some x → P x) → (if here then Some y else rest) ≡ Some x → P x
found-cons P y true rest x first later is = subst P (ap (λ (o : Option _). unwrap_or o y) is) first
found-cons P y false rest x first later is = later is

found_is : {X : Type 0} (P : X → Type 0) (test : X → Bool) (xs : List X) (x : X) → All P xs → find test xs ≡ Some x → P x
found_is P test [] x all is = absurd (none-some x is)
found_is P test (y ∷ xs) x all is =
    found-cons P y (test y) (find test xs) x (all 0 y (omega arith)) (found_is P test xs x (λ i d low. all (suc i) d (omega (arith, low)))) is

-- a start within the limits has at most 8 arguments
few_by : (p : Program) (name count : ℕ) (o : Option Template) → IsWithinLimits p → template_named p name ≡ o → IsSome o → IfSome o (λ (t : Template). length t.parameters ≡ count) → count ≤ 8
few_by p name count None within is some same = absurd (false≢true some)
few_by p name count (Some t) within is some same =
    let fit = found_is IsFitTemplate (λ (t : Template). t.name == name) p.templates t within.each_template is in
    omega (arith, fit.parameters, same)

few_arguments : (p : Program) (n : ℕ) (s : Start) → IsWithinLimits p → slice_get p.starts n ≡ Some s → length s.arguments ≤ 8
few_arguments p n s within is =
    let low : n < length p.starts = slice_get_within p.starts n s is in
    let here : slice_index_or p.starts n s ≡ s = get_or_from_slice_get p.starts n s s is in
    few_by p s.template (length s.arguments) (template_named p s.template) within refl
    (subst (λ (r : Start). IsSome (template_named p r.template)) here (within.start_templates n s low))
    (subst (λ (r : Start). IfSome (template_named p r.template) (λ (t : Template). length t.parameters ≡ length r.arguments)) here (within.start_arguments n s low))

few_in : (p : Program) (n : ℕ) (o : Option Start) → IsWithinLimits p → slice_get p.starts n ≡ o → elim o [ None ↦ 0 | Some s ↦ length s.arguments ] ≤ 8
few_in p n None within is = omega arith
few_in p n (Some s) within is = few_arguments p n s within is

pub argument_count-few : (tree : Tree) (n : ℕ) (d : Decl) → IsWithinLimits (program_of tree) → slice_get (filter (is_of sort.Start) tree.decls) n ≡ Some d → argument_count_in d ≤ 8
argument_count-few tree n d within is = few_in (program_of tree) n (start_in d) within (start-found tree n d is)

-- how many threads are started
pub start_count-is : (tree : Tree) → length (program_of tree).starts ≡ length (filter (is_of sort.Start) tree.decls)
start_count-is tree = ap length (sorted-starts tree.decls) ∙ length-filter_map start_in (is_of sort.Start) start_in-is tree.decls

pub start_count-few : (tree : Tree) → IsWithinLimits (program_of tree) → length (filter (is_of sort.Start) tree.decls) ≤ 16
start_count-few tree within = let same = start_count-is tree in omega (arith, same, within.starts)

-- the word of a row, by the name of the template and how many arguments there are
abbrev pub row_word_by : Program → ℕ → ℕ → ℕ → ℕ → ℕ
row_word_by p thread word name count =
    if word == 0 then 1 else
    if word == 1 then template_number p name else
    if word == 2 then priority_of p (template_number p name) else
    if word == 4 then NEVER else
    if word == 8 then thread else
    if word == 14 then count else 0

row_word_in : (p : Program) (thread word name : ℕ) (o : Option Start) → Some name ≡ option_map (λ (s : Start). s.template) o → elim o [ None ↦ 0 | Some start ↦ started_word p thread word start ] ≡ row_word_by p thread word name (elim o [ None ↦ 0 | Some s ↦ length s.arguments ])
row_word_in p thread word name None is = absurd (none-some name (sym is))
row_word_in p thread word name (Some s) is =
    ap (λ (n : ℕ). row_word_by p thread word n (length s.arguments)) (sym (ap (λ (o : Option ℕ). unwrap_or o name) is))

no_row_word_in : (p : Program) (thread word : ℕ) (o : Option Start) → None ≡ option_map (λ (s : Start). s.template) o → ◌≡◌ {A = ℕ} (elim o [ None ↦ 0 | Some start ↦ started_word p thread word start ]) 0
no_row_word_in p thread word None is = refl
no_row_word_in p thread word (Some s) is = absurd (none-some s.template is)

-- the words of the row of a started thread, by the name of its template
pub row_word-started : (p : Program) (thread word name : ℕ) → Some name ≡ option_map (λ (s : Start). s.template) (slice_get p.starts thread) →
    initial_row_word p thread word ≡
    (if word == 0 then 1 else
    if word == 1 then template_number p name else
    if word == 2 then priority_of p (template_number p name) else
    if word == 4 then NEVER else
    if word == 8 then thread else
    if word == 14 then argument_count p thread else 0)
row_word-started p thread word name is = row_word_in p thread word name (slice_get p.starts thread) is

pub row_word-none : (p : Program) (thread word : ℕ) → None ≡ option_map (λ (s : Start). s.template) (slice_get p.starts thread) → initial_row_word p thread word ≡ 0
row_word-none p thread word is = no_row_word_in p thread word (slice_get p.starts thread) is
