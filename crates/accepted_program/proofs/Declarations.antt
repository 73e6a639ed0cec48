-- A program is determined by its tokens.
use Rattle.std.proofs.Common.{◌≡◌, ◌∙◌, ℕ, List, [], ◌∷◌, Option, Some, sym, refl}
use Rattle.thread_tree.specs.declared.place.At.{At}
use Rattle.thread_tree.specs.declared.place.Num.{Num}
use Rattle.thread_tree.specs.declared.token.Placed.{Placed}
use Rattle.thread_tree.specs.Grammar.{word_number}
use Rattle.thread_tree.specs.declared.tree.Decl.{Decl}
use Rattle.thread_tree.specs.declared.tree.Decl.TheVariants as decl
use Rattle.thread_tree.specs.Spelling.{SpellsName, SpellsNames, SpellsNumber, Separated, one, more}
use Rattle.thread_tree.specs.SpellingOfDeclarations.{SpellsParameters, no_parameters, parameters, SpellsNumbers, no_numbers, numbers, SpellsChannel, no_channel, channel, SpellsDecl, kind, object, queue, semaphore, function, thread, start, SpellsDecls, no_decls, decls, SpellsProgram}
use Rattle.accepted_program.proofs.Blocks.{block_one}
use Rattle.accepted_program.proofs.Follows.{parenthesis, closing_brace}
use Rattle.accepted_program.proofs.Openings.{Opening, opens, told, kind_of}
use Rattle.accepted_program.proofs.Lists.{names_one, numbers_one}
use Rattle.accepted_program.proofs.Takes.{any, takes_one, takes_any, clash, name_one, number_one}

-- parameters, and the numbers of a `start`
names_begin : {p a : List Placed} {xs : List At} → SpellsNames p a xs → (n : At) × (b : List Placed) × SpellsName p b n
names_begin (one h) = (_, _, h)
names_begin (more h c rest) = (_, _, h)

parameters_one : {p q a b : List Placed} {xs ys : List At} → p ≡ q → SpellsParameters p a xs → SpellsParameters q b ys → (a ≡ b) × (xs ≡ ys)
parameters_one e (no_parameters h) (no_parameters k) = ((takes_any e h k).1, refl)
parameters_one e (no_parameters h) (parameters l k) = absurd (clash e h (any (names_begin l).2) (λ x. cc))
parameters_one e (parameters l h) (no_parameters k) = absurd (clash e (any (names_begin l).2) k (λ x. cc))
parameters_one e (parameters l h) (parameters m k) = let all = names_one e l m (parenthesis h) (parenthesis k) in ((takes_any all.0 h k).1, all.1)

numbers_begin : {p a : List Placed} {xs : List Num} → Separated SpellsNumber p a xs → (n : Num) × (b : List Placed) × SpellsNumber p b n
numbers_begin (one h) = (_, _, h)
numbers_begin (more h c rest) = (_, _, h)

given_numbers_one : {p q a b : List Placed} {xs ys : List Num} → p ≡ q → SpellsNumbers p a xs → SpellsNumbers q b ys → (a ≡ b) × (xs ≡ ys)
given_numbers_one e (no_numbers h) (no_numbers k) = ((takes_any e h k).1, refl)
given_numbers_one e (no_numbers h) (numbers l k) = absurd (clash e h (any (numbers_begin l).2) (λ x. cc))
given_numbers_one e (numbers l h) (no_numbers k) = absurd (clash e (any (numbers_begin l).2) k (λ x. cc))
given_numbers_one e (numbers l h) (numbers m k) = let all = numbers_one e l m (parenthesis h) (parenthesis k) in ((takes_any all.0 h k).1, all.1)

-- the end of a queue's declaration
channel_one : {p q a b : List Placed} {x y : Option Num} → p ≡ q → SpellsChannel p a x → SpellsChannel q b y → (a ≡ b) × (x ≡ y)
channel_one e (no_channel h) (no_channel k) = ((takes_any e h k).1, refl)
channel_one e (no_channel h) (channel w n m) = absurd (clash e h w (λ x. cc))
channel_one e (channel w n m) (no_channel k) = absurd (clash e w k (λ x. cc))
channel_one e (channel w n m) (channel v k i) = let number = number_one (takes_any e w v).1 n k in ((takes_any number.0 m i).1, λ j. Some (number.1 j))

-- the kind of a declaration's first token
unfoldable dnumber : {p a : List Placed} {d : Decl} → SpellsDecl p a d → ℕ
dnumber (kind w n o l c) = 0
dnumber (object w n o k m) = 1
dnumber (queue w n o k c l) = 2
dnumber (semaphore w n q k x m i) = 4
dnumber (function w n o l b) = 6
dnumber (thread w n o l x m b) = 7
dnumber (start w n o l m) = 9

dopens : {p a : List Placed} {d : Decl} (h : SpellsDecl p a d) → Opening kind_of (dnumber h) p
unfolding dnumber kind_of word_number
dopens (kind w n o l c) = opens kind_of 0 w refl
dopens (object w n o k m) = opens kind_of 1 w refl
dopens (queue w n o k c l) = opens kind_of 2 w refl
dopens (semaphore w n q k x m i) = opens kind_of 4 w refl
dopens (function w n o l b) = opens kind_of 6 w refl
dopens (thread w n o l x m b) = opens kind_of 7 w refl
dopens (start w n o l m) = opens kind_of 9 (any w) refl

decl_one : {p q a b : List Placed} {x y : Decl} → p ≡ q → SpellsDecl p a x → SpellsDecl q b y → (a ≡ b) × (x ≡ y)
unfolding dnumber
decl_one e (kind w n o l c) (kind w2 n2 o2 l2 c2) =
    let head = takes_any e w w2 in
    let name = name_one head.1 n n2 in
    let sign = takes_any name.0 o o2 in
    let all = names_one sign.1 l l2 (closing_brace c) (closing_brace c2) in
    ((takes_any all.0 c c2).1, λ i. decl.Kind (name.1 i) (all.1 i))
decl_one e (object w n o k m) (object w2 n2 o2 k2 m2) =
    let head = takes_any e w w2 in
    let name = name_one head.1 n n2 in
    let sign = takes_any name.0 o o2 in
    let type = name_one sign.1 k k2 in
    ((takes_any type.0 m m2).1, λ i. decl.Object (name.1 i) (type.1 i))
decl_one e (queue w n o k c l) (queue w2 n2 o2 k2 c2 l2) =
    let head = takes_any e w w2 in
    let name = name_one head.1 n n2 in
    let sign = takes_any name.0 o o2 in
    let size = number_one sign.1 k k2 in
    let end = channel_one (takes_any size.0 c c2).1 l l2 in
    (end.0, λ i. decl.Queue (name.1 i) (size.1 i) (end.1 i))
decl_one e (semaphore w n q k x m i) (semaphore w2 n2 q2 k2 x2 m2 i2) =
    let head = takes_any e w w2 in
    let name = name_one head.1 n n2 in
    let sign = takes_any name.0 q q2 in
    let first = number_one sign.1 k k2 in
    let most = number_one (takes_any first.0 x x2).1 m m2 in
    ((takes_any most.0 i i2).1, λ i. decl.Semaphore (name.1 i) (first.1 i) (most.1 i))
decl_one e (function w n o l b) (function w2 n2 o2 l2 b2) =
    let head = takes_any e w w2 in
    let name = name_one head.1 n n2 in
    let sign = takes_any name.0 o o2 in
    let all = parameters_one sign.1 l l2 in
    let body = block_one all.0 b b2 in
    (body.0, λ i. decl.Function (name.1 i) (all.1 i) (body.1 i))
decl_one e (thread w n o l x m b) (thread w2 n2 o2 l2 x2 m2 b2) =
    let head = takes_any e w w2 in
    let name = name_one head.1 n n2 in
    let sign = takes_any name.0 o o2 in
    let all = parameters_one sign.1 l l2 in
    let priority = number_one (takes_any all.0 x x2).1 m m2 in
    let body = block_one priority.0 b b2 in
    (body.0, λ i. decl.Thread (name.1 i) (all.1 i) (priority.1 i) (body.1 i))
decl_one e (start w n o l m) (start w2 n2 o2 l2 m2) =
    let head = takes_one e w w2 in
    let name = name_one head.2 n n2 in
    let sign = takes_any name.0 o o2 in
    let all = given_numbers_one sign.1 l l2 in
    ((takes_any all.0 m m2).1, λ i. decl.Start (head.1 i) (name.1 i) (all.1 i))
decl_one e d f = absurd (told (dnumber d) (dnumber f) e (dopens d) (dopens f) refl)

-- a declaration is of one token at least
not_nothing : {p a : List Placed} {d : Decl} → SpellsDecl p a d → p ≡ [] → ⊥
not_nothing d h = let first = (dopens d).takes.first in let none : _ ∷ _ ≡ [] = sym first ∙ h in cc

decls_one : {p q a b : List Placed} {ds es : List Decl} → p ≡ q → SpellsDecls p a ds → SpellsDecls q b es → a ≡ [] → b ≡ [] → ds ≡ es
decls_one e no_decls no_decls h k = refl
decls_one e no_decls (decls d rest) h k = absurd (not_nothing d (sym e ∙ h))
decls_one e (decls d rest) no_decls h k = absurd (not_nothing d (e ∙ k))
decls_one e (decls d rest) (decls d2 rest2) h k =
    let first = decl_one e d d2 in
    let further = decls_one first.0 rest rest2 h k in
    λ i. first.1 i ∷ further i

pub unambiguous_program : (tokens : List Placed) (ds es : List Decl) → SpellsProgram tokens ds → SpellsProgram tokens es → ds ≡ es
unambiguous_program tokens ds es d f = decls_one refl d f refl refl
