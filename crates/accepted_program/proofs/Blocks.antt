-- A block is determined by its tokens.
use Rattle.std.proofs.Common.{◌≡◌, ℕ, false, eqb, List, ◌∷◌, Some, None, sym, ap, refl}
use Rattle.thread_tree.specs.declared.place.At.{At}
use Rattle.thread_tree.specs.declared.place.Place.{Place}
use Rattle.thread_tree.specs.declared.token.Mark.TheVariants as mark
use Rattle.thread_tree.specs.declared.token.Placed.{Placed}
use Rattle.thread_tree.specs.Grammar.{word_number}
use Rattle.thread_tree.specs.declared.action.Call.{Call}
use Rattle.thread_tree.specs.declared.block.Block.{Block}
use Rattle.thread_tree.specs.declared.block.Stmt.{Stmt}
use Rattle.thread_tree.specs.declared.block.Stmt.TheOpen as stmt
use Rattle.thread_tree.specs.declared.transaction.TBlock.{TBlock}
use Rattle.thread_tree.specs.Spelling.{TakesMark}
use Rattle.thread_tree.specs.SpellingOfCalls.{SpellsCall}
use Rattle.thread_tree.specs.Pieces.{word_of, shape}
use Rattle.thread_tree.proofs.Callers.{has_shape}
use Rattle.thread_tree.specs.SpellingOfTransactions.{SpellsTBlock, tblock}
use Rattle.thread_tree.specs.SpellingOfBlocks.{SpellsGiven, no_given, given, SpellsBlock, block, SpellsStmts, no_stmts, stmts, SpellsStmt, let_to, set, apply_to, apply, if_only, if_else, while_loop, ploop, break_loop, return_only, return_value, atomic, call}
use Rattle.accepted_program.proofs.Calls.{arguments_one, call_one, results_one, results_close}
use Rattle.accepted_program.proofs.Transactions.{tblock_one}
use Rattle.accepted_program.proofs.Layers.{same_stmt, same_block}
use Rattle.accepted_program.proofs.Follows.{Closed, semicolon, opening_parenthesis, opening_brace, expr_before, no_semicolon, name_expr}
use Rattle.accepted_program.proofs.Openings.{Opening, opens, told, class_of, class_of_word, class_by, NoElse}
use Rattle.accepted_program.proofs.Lists.{names_one}
use Rattle.accepted_program.proofs.Takes.{any, takes_one, takes_any, clash, name_one, any_from}

tblock_brace : {p a : List Placed} {x : TBlock} → SpellsTBlock p a x → (b : List Placed) × TakesMark mark.OpenBrace p b
tblock_brace (tblock o d c) = (_, any o)

-- the names that get what an `atomic` gives
given_one : {p q a b v w : List Placed} {xs ys : List At} → p ≡ q → SpellsGiven p a xs → SpellsGiven q b ys → TakesMark mark.OpenBrace a v → TakesMark mark.OpenBrace b w → (a ≡ b) × (xs ≡ ys)
given_one e no_given no_given h k = (e, refl)
given_one e no_given (given i l) h k = absurd (clash e h i (λ x. cc))
given_one e (given i l) no_given h k = absurd (clash e i k (λ x. cc))
given_one e (given i l) (given j m) h k = names_one (takes_any e i j).1 l m (opening_brace h) (opening_brace k)

pub block_opens : {p a : List Placed} {x : Block} → SpellsBlock p a x → Closed p
block_opens (block o d c) = opening_brace (any o)

call_opens : {place : Place} {p a : List Placed} {c : Call} → SpellsCall place p a c → Opening class_of 50 p
unfolding class_of class_of_word
call_opens {c} h = opens class_of 50 (any h.word) (ap (class_by (word_of c)) (has_shape c).0)

-- the kind of a statement's first token
unfoldable number : {p a : List Placed} {s : Stmt} → SpellsStmt p a s → ℕ
number (let_to h l n q x m) = 10
number (set h n q x m) = 100
number (apply_to h n q k o l m) = 100
number (apply h n o l m) = 100
number (if_only h i x b) = 11
number (if_else h i x b l c) = 11
number (while_loop h w x b) = 13
number (ploop h w b) = 14
number (break_loop h w m) = 15
number (return_only h w m) = 16
number (return_value h w x m) = 16
number (atomic h w g b) = 17
number (call h c l) = 50

opening : {p a : List Placed} {s : Stmt} (d : SpellsStmt p a s) → Opening class_of (number d) p
unfolding number class_of class_of_word word_number shape
opening (let_to h l n q x m) = opens class_of 10 l refl
opening (set h n q x m) = opens class_of 100 (any n) refl
opening (apply_to h n q k o l m) = opens class_of 100 (any n) refl
opening (apply h n o l m) = opens class_of 100 (any n) refl
opening (if_only h i x b) = opens class_of 11 i refl
opening (if_else h i x b l c) = opens class_of 11 i refl
opening (while_loop h w x b) = opens class_of 13 w refl
opening (ploop h w b) = opens class_of 14 (any w) refl
opening (break_loop h w m) = opens class_of 15 (any w) refl
opening (return_only h w m) = opens class_of 16 (any w) refl
opening (return_value h w x m) = opens class_of 16 (any w) refl
opening (atomic h w g b) = opens class_of 17 (any w) refl
opening (call h c l) = call_opens c

stmt_no_else : {p a : List Placed} {s : Stmt} (d : SpellsStmt p a s) → eqb (number d) 12 ≡ false
unfolding number
stmt_no_else (let_to h l n q x m) = refl
stmt_no_else (set h n q x m) = refl
stmt_no_else (apply_to h n q k o l m) = refl
stmt_no_else (apply h n o l m) = refl
stmt_no_else (if_only h i x b) = refl
stmt_no_else (if_else h i x b l c) = refl
stmt_no_else (while_loop h w x b) = refl
stmt_no_else (ploop h w b) = refl
stmt_no_else (break_loop h w m) = refl
stmt_no_else (return_only h w m) = refl
stmt_no_else (return_value h w x m) = refl
stmt_no_else (atomic h w g b) = refl
stmt_no_else (call h c l) = refl

stmt_no_brace : {p a : List Placed} {s : Stmt} (d : SpellsStmt p a s) → eqb (number d) 101 ≡ false
unfolding number
stmt_no_brace (let_to h l n q x m) = refl
stmt_no_brace (set h n q x m) = refl
stmt_no_brace (apply_to h n q k o l m) = refl
stmt_no_brace (apply h n o l m) = refl
stmt_no_brace (if_only h i x b) = refl
stmt_no_brace (if_else h i x b l c) = refl
stmt_no_brace (while_loop h w x b) = refl
stmt_no_brace (ploop h w b) = refl
stmt_no_brace (break_loop h w m) = refl
stmt_no_brace (return_only h w m) = refl
stmt_no_brace (return_value h w x m) = refl
stmt_no_brace (atomic h w g b) = refl
stmt_no_brace (call h c l) = refl

brace_apart : {p q a b : List Placed} {s : Stmt} → p ≡ q → SpellsStmt p a s → TakesMark mark.CloseBrace q b → ⊥
brace_apart e d h = told (number d) 101 e (opening d) (opens class_of 101 h (unfold class_of in refl)) (stmt_no_brace d)

stmts_no_else : {p a b : List Placed} {ss : List Stmt} → SpellsStmts p a ss → TakesMark mark.CloseBrace a b → NoElse p
stmts_no_else no_stmts h c k = clash refl h k (λ x. cc)
stmts_no_else (stmts d rest) h c k = told (number d) 12 refl (opening d) (opens class_of 12 k (unfold class_of class_of_word word_number shape in refl)) (stmt_no_else d)

mutual
  unfolding number

  pub block_one : {p q a b : List Placed} {x y : Block} → p ≡ q → SpellsBlock p a x → SpellsBlock q b y → (a ≡ b) × (x ≡ y)
  block_one e (block o d c) (block o2 d2 c2) =
      let head = takes_one e o o2 in
      let inside = stmts_one head.2 d d2 c c2 in
      ((takes_any inside.0 c c2).1, same_block head.1 inside.1)

  stmts_one : {p q a b v w : List Placed} {ss ts : List Stmt} → p ≡ q → SpellsStmts p a ss → SpellsStmts q b ts → TakesMark mark.CloseBrace a v → TakesMark mark.CloseBrace b w → (a ≡ b) × (ss ≡ ts)
  stmts_one e no_stmts no_stmts h k = (e, refl)
  stmts_one e no_stmts (stmts d rest) h k = absurd (brace_apart (sym e) d h)
  stmts_one e (stmts d rest) no_stmts h k = absurd (brace_apart e d k)
  stmts_one e (stmts d rest) (stmts d2 rest2) h k =
      let first = stmt_one e d d2 (stmts_no_else rest h) (stmts_no_else rest2 k) in
      let further = stmts_one first.0 rest rest2 h k in
      (further.0, λ i. first.1 i ∷ further.1 i)

  stmt_one : {p q a b : List Placed} {s t : Stmt} → p ≡ q → SpellsStmt p a s → SpellsStmt q b t → NoElse a → NoElse b → (a ≡ b) × (s ≡ t)
  stmt_one e (let_to h l n q x m) (let_to h2 l2 n2 q2 x2 m2) s r =
      let head = takes_any e l l2 in
      let name = name_one head.1 n n2 in
      let sign = takes_any name.0 q q2 in
      let value = expr_before sign.1 x x2 (semicolon m).followed (semicolon m2).followed in
      ((takes_any value.0 m m2).1, same_stmt h h2 (λ i. stmt.Let (name.1 i) (value.1 i)))
  stmt_one e (set h n q x m) (set h2 n2 q2 x2 m2) s r =
      let name = name_one e n n2 in
      let sign = takes_any name.0 q q2 in
      let value = expr_before sign.1 x x2 (semicolon m).followed (semicolon m2).followed in
      ((takes_any value.0 m m2).1, same_stmt h h2 (λ i. stmt.Set (name.1 i) (value.1 i)))
  stmt_one e (set h n q x m) (apply_to h2 n2 q2 k2 o2 l2 m2) s r =
      let name = name_one e n n2 in
      let sign = takes_any name.0 q q2 in
      let value = expr_before sign.1 x (name_expr k2) (semicolon m).followed (opening_parenthesis o2).followed in
      absurd (clash value.0 m o2 (λ x. cc))
  stmt_one e (set h n q x m) (apply h2 n2 o2 l2 m2) s r =
      let name = name_one e n n2 in
      absurd (clash name.0 q o2 (λ x. cc))
  stmt_one e (apply_to h n q k o l m) (set h2 n2 q2 x2 m2) s r =
      let name = name_one e n n2 in
      let sign = takes_any name.0 q q2 in
      let value = expr_before sign.1 (name_expr k) x2 (opening_parenthesis o).followed (semicolon m2).followed in
      absurd (clash value.0 o m2 (λ x. cc))
  stmt_one e (apply_to h n q k o l m) (apply_to h2 n2 q2 k2 o2 l2 m2) s r =
      let name = name_one e n n2 in
      let sign = takes_any name.0 q q2 in
      let function = name_one sign.1 k k2 in
      let all = arguments_one (takes_any function.0 o o2).1 l l2 in
      ((takes_any all.0 m m2).1, same_stmt h h2 (λ i. stmt.Apply (Some (name.1 i)) (function.1 i) (all.1 i)))
  stmt_one e (apply_to h n q k o l m) (apply h2 n2 o2 l2 m2) s r =
      let name = name_one e n n2 in
      absurd (clash name.0 q o2 (λ x. cc))
  stmt_one e (apply h n o l m) (set h2 n2 q2 x2 m2) s r =
      let name = name_one e n n2 in
      absurd (clash name.0 o q2 (λ x. cc))
  stmt_one e (apply h n o l m) (apply_to h2 n2 q2 k2 o2 l2 m2) s r =
      let name = name_one e n n2 in
      absurd (clash name.0 o q2 (λ x. cc))
  stmt_one e (apply h n o l m) (apply h2 n2 o2 l2 m2) s r =
      let function = name_one e n n2 in
      let all = arguments_one (takes_any function.0 o o2).1 l l2 in
      ((takes_any all.0 m m2).1, same_stmt h h2 (λ i. stmt.Apply None (function.1 i) (all.1 i)))
  stmt_one e (if_only h i x b) (if_only h2 i2 x2 b2) s r =
      let head = takes_any e i i2 in
      let value = expr_before head.1 x x2 (block_opens b).followed (block_opens b2).followed in
      let inside = block_one value.0 b b2 in
      (inside.0, same_stmt h h2 (λ i. stmt.If (value.1 i) (inside.1 i) None))
  stmt_one e (if_only h i x b) (if_else h2 i2 x2 b2 l2 c2) s r =
      let head = takes_any e i i2 in
      let value = expr_before head.1 x x2 (block_opens b).followed (block_opens b2).followed in
      let inside = block_one value.0 b b2 in
      absurd (s _ (any_from inside.0 l2))
  stmt_one e (if_else h i x b l c) (if_only h2 i2 x2 b2) s r =
      let head = takes_any e i i2 in
      let value = expr_before head.1 x x2 (block_opens b).followed (block_opens b2).followed in
      let inside = block_one value.0 b b2 in
      absurd (r _ (any_from (sym inside.0) l))
  stmt_one e (if_else h i x b l c) (if_else h2 i2 x2 b2 l2 c2) s r =
      let head = takes_any e i i2 in
      let value = expr_before head.1 x x2 (block_opens b).followed (block_opens b2).followed in
      let inside = block_one value.0 b b2 in
      let else_word = takes_any inside.0 l l2 in
      let other = block_one else_word.1 c c2 in
      (other.0, same_stmt h h2 (λ i. stmt.If (value.1 i) (inside.1 i) (Some (other.1 i))))
  stmt_one e (while_loop h w x b) (while_loop h2 w2 x2 b2) s r =
      let head = takes_any e w w2 in
      let value = expr_before head.1 x x2 (block_opens b).followed (block_opens b2).followed in
      let inside = block_one value.0 b b2 in
      (inside.0, same_stmt h h2 (λ i. stmt.While (value.1 i) (inside.1 i)))
  stmt_one e (ploop h w b) (ploop h2 w2 b2) s r =
      let head = takes_one e w w2 in
      let inside = block_one head.2 b b2 in
      (inside.0, same_stmt h h2 (λ i. stmt.Ploop (head.1 i) (inside.1 i)))
  stmt_one e (break_loop h w m) (break_loop h2 w2 m2) s r =
      let head = takes_one e w w2 in
      ((takes_any head.2 m m2).1, same_stmt h h2 (λ i. stmt.Break (head.1 i)))
  stmt_one e (return_only h w m) (return_only h2 w2 m2) s r =
      let head = takes_one e w w2 in
      ((takes_any head.2 m m2).1, same_stmt h h2 (λ i. stmt.Return (head.1 i) None))
  stmt_one e (return_only h w m) (return_value h2 w2 x2 m2) s r =
      let head = takes_one e w w2 in
      absurd (no_semicolon (sym head.2) x2 m)
  stmt_one e (return_value h w x m) (return_only h2 w2 m2) s r =
      let head = takes_one e w w2 in
      absurd (no_semicolon head.2 x m2)
  stmt_one e (return_value h w x m) (return_value h2 w2 x2 m2) s r =
      let head = takes_one e w w2 in
      let value = expr_before head.2 x x2 (semicolon m).followed (semicolon m2).followed in
      ((takes_any value.0 m m2).1, same_stmt h h2 (λ i. stmt.Return (head.1 i) (Some (value.1 i))))
  stmt_one e (atomic h w g b) (atomic h2 w2 g2 b2) s r =
      let head = takes_one e w w2 in
      let names = given_one head.2 g g2 (tblock_brace b).1 (tblock_brace b2).1 in
      let inside = tblock_one names.0 b b2 in
      (inside.0, same_stmt h h2 (λ i. stmt.Atomic (head.1 i) (names.1 i) (inside.1 i)))
  stmt_one e (call h c l) (call h2 c2 l2) s r =
      let asked = call_one e c c2 (results_close l) (results_close l2) in
      let names = results_one asked.1 l l2 in
      (names.0, same_stmt h h2 (λ i. stmt.Call (asked.0 i) (asked.2 i) (names.1 i)))
  stmt_one e d f s r = absurd (told (number d) (number f) e (opening d) (opening f) refl)
