-- Words ask for one command at most.
use Rattle.std.proofs.Common.{◌≡◌, ℕ, zero, suc, ◌<◌, ◌≤◌, ◌^◌, List, [], ◌∷◌, map, length, get_or, take, drop, All, codes, decimal, ◌-◌, refl, sym, ◌∙◌, ap, arith}
use Rattle.std.proofs.lemmas.Fmt.{decimal_injective}
use Rattle.std.proofs.lemmas.List.{take_rest}
use Rattle.std.proofs.lemmas.List.Elements.{All-head, All-tail}
use Rattle.intos_run.specs.Command.{IsCommand}

-- a number of 32 bits
abbrev Fits32 : ℕ → Type 0
Fits32 number = number < 2 ^ 32

-- the digits of numbers tell the numbers
pub decimals_injective : (cuts cuts' : List ℕ) → All (λ cut. cut < 2 ^ 32) cuts → All (λ cut. cut < 2 ^ 32) cuts' → map decimal cuts ≡ map decimal cuts' → cuts ≡ cuts'
decimals_injective [] [] fit fit' same = refl
decimals_injective [] (cut' ∷ cuts') fit fit' same = cc
decimals_injective (cut ∷ cuts) [] fit fit' same = cc
decimals_injective (cut ∷ cuts) (cut' ∷ cuts') fit fit' same =
    let low : cut < 2 ^ 32 = All-head Fits32 cut cuts fit in
    let low' : cut' < 2 ^ 32 = All-head Fits32 cut' cuts' fit' in
    let heads : decimal cut ≡ decimal cut' = cc in
    let tails : map decimal cuts ≡ map decimal cuts' = cc in
    let first : cut ≡ cut' = decimal_injective cut cut' (omega arith) (omega arith) heads in
    let others : cuts ≡ cuts' = decimals_injective cuts cuts' (All-tail Fits32 cut cuts fit) (All-tail Fits32 cut' cuts' fit') tails in
    cc

-- where all words write numbers, each does
pub word_number : {X : Type 0} (text : X → List ℕ) (words : List X) (cuts : List ℕ) (at : ℕ) (word : X) → map text words ≡ map decimal cuts → All (λ cut. cut < 2 ^ 32) cuts → at < length words → word ≡ get_or words at word → (cut : ℕ) × (cut < 2 ^ 32) × (text word ≡ decimal cut)
word_number text [] cuts at word same fit within is = absurd (omega arith)
word_number text (first ∷ words) [] at word same fit within is = cc
word_number text (first ∷ words) (cut ∷ cuts) zero word same fit within is =
    let heads : text first ≡ decimal cut = cc in
    (cut, All-head Fits32 cut cuts fit, ap text is ∙ heads)
word_number text (first ∷ words) (cut ∷ cuts) (suc at) word same fit within is =
    let tails : map text words ≡ map decimal cuts = cc in
    word_number text words cuts at word tails (All-tail Fits32 cut cuts fit) (omega arith) is

-- a list of three and more, from its first three
pub three_first : {X : Type 0} (words : List X) (first second third : X) → 3 ≤ length words → first ≡ get_or words 0 first → second ≡ get_or words 1 second → third ≡ get_or words 2 third → words ≡ first ∷ (second ∷ (third ∷ drop 3 words))
three_first [] first second third long is is' is'' = absurd (omega arith)
three_first (a ∷ []) first second third long is is' is'' = absurd (omega arith)
three_first (a ∷ (b ∷ [])) first second third long is is' is'' = absurd (omega arith)
three_first (a ∷ (b ∷ (d ∷ words))) first second third long is is' is'' = cc

-- words whose first three and whose others are a command's are that command
pub command_words : {X : Type 0} (text : X → List ℕ) (words : List X) (run program steps : X) (name : List ℕ) (number : ℕ) (cuts : List ℕ) → 3 ≤ length words → run ≡ get_or words 0 run → program ≡ get_or words 1 program → steps ≡ get_or words 2 steps → text run ≡ codes "run" → name ≡ text program → text steps ≡ decimal number → map text (take (length words - 3) (drop 3 words)) ≡ map decimal cuts → map text words ≡ codes "run" ∷ (name ∷ (decimal number ∷ map decimal cuts))
command_words text words run program steps name number cuts long first second third runs named stepped others =
    let parts = ap (map text) (three_first words run program steps long first second third) in
    let behind = ap (map text) (take_rest words 3) in
    cc

-- words ask for one command
pub IsCommand-unique : (words : List (List ℕ)) (name name' : List ℕ) (steps steps' : ℕ) (cuts cuts' : List ℕ) → IsCommand words name steps cuts → IsCommand words name' steps' cuts' → (name ≡ name') × (steps ≡ steps') × (cuts ≡ cuts')
IsCommand-unique words name name' steps steps' cuts cuts' command command' =
    let same = sym command.same ∙ command'.same in
    let names : name ≡ name' = cc in
    let digits : decimal steps ≡ decimal steps' = cc in
    let others : map decimal cuts ≡ map decimal cuts' = cc in
    (names, decimal_injective steps steps' (omega (arith, command.few_steps)) (omega (arith, command'.few_steps)) digits, decimals_injective cuts cuts' command.fit command'.fit others)
