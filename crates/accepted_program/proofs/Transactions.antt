-- A transaction's block is determined by its tokens.
use Rattle.std.proofs.Common.{◌≡◌, ℕ, false, eqb, List, ◌∷◌, Some, None, sym, refl}
use Rattle.thread_tree.specs.declared.expr.Expr.{Expr}
use Rattle.thread_tree.specs.declared.token.Mark.TheVariants as mark
use Rattle.thread_tree.specs.declared.token.Placed.{Placed}
use Rattle.thread_tree.specs.Grammar.{word_number}
use Rattle.thread_tree.specs.declared.transaction.TBlock.{TBlock}
use Rattle.thread_tree.specs.declared.transaction.TStmt.{TStmt}
use Rattle.thread_tree.specs.declared.transaction.TStmt.TheOpen as tstmt
use Rattle.thread_tree.specs.Spelling.{TakesMark}
use Rattle.thread_tree.specs.SpellingOfTransactions.{SpellsValues, no_values, values, SpellsTBlock, tblock, SpellsTStmts, no_tstmts, tstmts, SpellsTStmt, tlet, tlet_new, tset, tset_new, store, free, tif, tif_else, twhile, tbreak, abort, tgive}
use Rattle.accepted_program.proofs.Calls.{list_clash}
use Rattle.accepted_program.proofs.Expressions.{field_first, field_one, not_field}
use Rattle.accepted_program.proofs.Layers.{same_tstmt, same_tblock}
use Rattle.accepted_program.proofs.Follows.{Closed, semicolon, opening_brace, equals, expr_before, no_new, starts}
use Rattle.accepted_program.proofs.Openings.{Opening, opens, told, kind_of, NoElse}
use Rattle.accepted_program.proofs.Lists.{exprs_one}
use Rattle.accepted_program.proofs.Takes.{any, takes_one, takes_any, clash, name_one, any_from}

-- the values of a `give`
values_one : {p q a b : List Placed} {xs ys : List Expr} → p ≡ q → SpellsValues p a xs → SpellsValues q b ys → (a ≡ b) × (xs ≡ ys)
values_one e (no_values h) (no_values k) = ((takes_any e h k).1, refl)
values_one e (no_values h) (values l k) = absurd (list_clash (sym e) l h (unfold starts in refl))
values_one e (values l h) (no_values k) = absurd (list_clash e l k (unfold starts in refl))
values_one e (values l h) (values m k) = let all = exprs_one e l m (semicolon h) (semicolon k) in ((takes_any all.0 h k).1, all.1)

pub tblock_opens : {p a : List Placed} {x : TBlock} → SpellsTBlock p a x → Closed p
tblock_opens (tblock o d c) = opening_brace (any o)

-- the kind of a statement's first token
unfoldable tnumber : {p a : List Placed} {s : TStmt} → SpellsTStmt p a s → ℕ
tnumber (tlet h l n q x m) = 10
tnumber (tlet_new h l n q w k m) = 10
tnumber (tset h n q x m) = 100
tnumber (tset_new h n q w k m) = 100
tnumber (store h f q x m) = 100
tnumber (free h w x m) = 21
tnumber (tif h i x b) = 11
tnumber (tif_else h i x b l c) = 11
tnumber (twhile h w x b) = 13
tnumber (tbreak h w m) = 15
tnumber (abort h w m) = 19
tnumber (tgive h w v) = 18

topens : {p a : List Placed} {s : TStmt} (d : SpellsTStmt p a s) → Opening kind_of (tnumber d) p
unfolding tnumber kind_of word_number
topens (tlet h l n q x m) = opens kind_of 10 l refl
topens (tlet_new h l n q w k m) = opens kind_of 10 l refl
topens (tset h n q x m) = opens kind_of 100 (any n) refl
topens (tset_new h n q w k m) = opens kind_of 100 (any n) refl
topens (store h f q x m) = opens kind_of 100 (any (field_first f).2) refl
topens (free h w x m) = opens kind_of 21 w refl
topens (tif h i x b) = opens kind_of 11 i refl
topens (tif_else h i x b l c) = opens kind_of 11 i refl
topens (twhile h w x b) = opens kind_of 13 w refl
topens (tbreak h w m) = opens kind_of 15 (any w) refl
topens (abort h w m) = opens kind_of 19 (any w) refl
topens (tgive h w v) = opens kind_of 18 (any w) refl

tstmt_no_else : {p a : List Placed} {s : TStmt} (d : SpellsTStmt p a s) → eqb (tnumber d) 12 ≡ false
unfolding tnumber
tstmt_no_else (tlet h l n q x m) = refl
tstmt_no_else (tlet_new h l n q w k m) = refl
tstmt_no_else (tset h n q x m) = refl
tstmt_no_else (tset_new h n q w k m) = refl
tstmt_no_else (store h f q x m) = refl
tstmt_no_else (free h w x m) = refl
tstmt_no_else (tif h i x b) = refl
tstmt_no_else (tif_else h i x b l c) = refl
tstmt_no_else (twhile h w x b) = refl
tstmt_no_else (tbreak h w m) = refl
tstmt_no_else (abort h w m) = refl
tstmt_no_else (tgive h w v) = refl

tstmt_no_brace : {p a : List Placed} {s : TStmt} (d : SpellsTStmt p a s) → eqb (tnumber d) 101 ≡ false
unfolding tnumber
tstmt_no_brace (tlet h l n q x m) = refl
tstmt_no_brace (tlet_new h l n q w k m) = refl
tstmt_no_brace (tset h n q x m) = refl
tstmt_no_brace (tset_new h n q w k m) = refl
tstmt_no_brace (store h f q x m) = refl
tstmt_no_brace (free h w x m) = refl
tstmt_no_brace (tif h i x b) = refl
tstmt_no_brace (tif_else h i x b l c) = refl
tstmt_no_brace (twhile h w x b) = refl
tstmt_no_brace (tbreak h w m) = refl
tstmt_no_brace (abort h w m) = refl
tstmt_no_brace (tgive h w v) = refl

brace_apart : {p q a b : List Placed} {s : TStmt} → p ≡ q → SpellsTStmt p a s → TakesMark mark.CloseBrace q b → ⊥
brace_apart e d h = told (tnumber d) 101 e (topens d) (opens kind_of 101 h (unfold kind_of in refl)) (tstmt_no_brace d)

tstmts_no_else : {p a b : List Placed} {ss : List TStmt} → SpellsTStmts p a ss → TakesMark mark.CloseBrace a b → NoElse p
tstmts_no_else no_tstmts h c k = clash refl h k (λ x. cc)
tstmts_no_else (tstmts d rest) h c k = told (tnumber d) 12 refl (topens d) (opens kind_of 12 k (unfold kind_of word_number in refl)) (tstmt_no_else d)

mutual
  unfolding tnumber

  pub tblock_one : {p q a b : List Placed} {x y : TBlock} → p ≡ q → SpellsTBlock p a x → SpellsTBlock q b y → (a ≡ b) × (x ≡ y)
  tblock_one e (tblock o d c) (tblock o2 d2 c2) =
      let head = takes_one e o o2 in
      let inside = tstmts_one head.2 d d2 c c2 in
      ((takes_any inside.0 c c2).1, same_tblock head.1 inside.1)

  tstmts_one : {p q a b v w : List Placed} {ss ts : List TStmt} → p ≡ q → SpellsTStmts p a ss → SpellsTStmts q b ts → TakesMark mark.CloseBrace a v → TakesMark mark.CloseBrace b w → (a ≡ b) × (ss ≡ ts)
  tstmts_one e no_tstmts no_tstmts h k = (e, refl)
  tstmts_one e no_tstmts (tstmts d rest) h k = absurd (brace_apart (sym e) d h)
  tstmts_one e (tstmts d rest) no_tstmts h k = absurd (brace_apart e d k)
  tstmts_one e (tstmts d rest) (tstmts d2 rest2) h k =
      let first = tstmt_one e d d2 (tstmts_no_else rest h) (tstmts_no_else rest2 k) in
      let further = tstmts_one first.0 rest rest2 h k in
      (further.0, λ i. first.1 i ∷ further.1 i)

  tstmt_one : {p q a b : List Placed} {s t : TStmt} → p ≡ q → SpellsTStmt p a s → SpellsTStmt q b t → NoElse a → NoElse b → (a ≡ b) × (s ≡ t)
  tstmt_one e (tlet h l n q x m) (tlet h2 l2 n2 q2 x2 m2) s r =
      let head = takes_any e l l2 in
      let name = name_one head.1 n n2 in
      let sign = takes_any name.0 q q2 in
      let value = expr_before sign.1 x x2 (semicolon m).followed (semicolon m2).followed in
      ((takes_any value.0 m m2).1, same_tstmt h h2 (λ i. tstmt.Let (name.1 i) (value.1 i)))
  tstmt_one e (tlet h l n q x m) (tlet_new h2 l2 n2 q2 w2 k2 m2) s r =
      let head = takes_any e l l2 in
      let name = name_one head.1 n n2 in
      let sign = takes_any name.0 q q2 in
      absurd (no_new sign.1 x w2)
  tstmt_one e (tlet_new h l n q w k m) (tlet h2 l2 n2 q2 x2 m2) s r =
      let head = takes_any e l l2 in
      let name = name_one head.1 n n2 in
      let sign = takes_any name.0 q q2 in
      absurd (no_new (sym sign.1) x2 w)
  tstmt_one e (tlet_new h l n q w k m) (tlet_new h2 l2 n2 q2 w2 k2 m2) s r =
      let head = takes_any e l l2 in
      let name = name_one head.1 n n2 in
      let sign = takes_any name.0 q q2 in
      let new = takes_any sign.1 w w2 in
      let kind = name_one new.1 k k2 in
      ((takes_any kind.0 m m2).1, same_tstmt h h2 (λ i. tstmt.LetNew (name.1 i) (kind.1 i)))
  tstmt_one e (tset h n q x m) (tset h2 n2 q2 x2 m2) s r =
      let name = name_one e n n2 in
      let sign = takes_any name.0 q q2 in
      let value = expr_before sign.1 x x2 (semicolon m).followed (semicolon m2).followed in
      ((takes_any value.0 m m2).1, same_tstmt h h2 (λ i. tstmt.Set (name.1 i) (value.1 i)))
  tstmt_one e (tset h n q x m) (tset_new h2 n2 q2 w2 k2 m2) s r =
      let name = name_one e n n2 in
      let sign = takes_any name.0 q q2 in
      absurd (no_new sign.1 x w2)
  tstmt_one e (tset h n q x m) (store h2 f2 q2 x2 m2) s r =
      absurd (not_field e n f2 (equals q))
  tstmt_one e (tset_new h n q w k m) (tset h2 n2 q2 x2 m2) s r =
      let name = name_one e n n2 in
      let sign = takes_any name.0 q q2 in
      absurd (no_new (sym sign.1) x2 w)
  tstmt_one e (tset_new h n q w k m) (tset_new h2 n2 q2 w2 k2 m2) s r =
      let name = name_one e n n2 in
      let sign = takes_any name.0 q q2 in
      let new = takes_any sign.1 w w2 in
      let kind = name_one new.1 k k2 in
      ((takes_any kind.0 m m2).1, same_tstmt h h2 (λ i. tstmt.SetNew (name.1 i) (kind.1 i)))
  tstmt_one e (tset_new h n q w k m) (store h2 f2 q2 x2 m2) s r =
      absurd (not_field e n f2 (equals q))
  tstmt_one e (store h f q x m) (tset h2 n2 q2 x2 m2) s r =
      absurd (not_field (sym e) n2 f (equals q2))
  tstmt_one e (store h f q x m) (tset_new h2 n2 q2 w2 k2 m2) s r =
      absurd (not_field (sym e) n2 f (equals q2))
  tstmt_one e (store h f q x m) (store h2 f2 q2 x2 m2) s r =
      let member = field_one e f f2 (equals q) (equals q2) in
      let sign = takes_any member.0 q q2 in
      let value = expr_before sign.1 x x2 (semicolon m).followed (semicolon m2).followed in
      ((takes_any value.0 m m2).1, same_tstmt h h2 (λ i. tstmt.Store (member.1 i) (value.1 i)))
  tstmt_one e (free h w x m) (free h2 w2 x2 m2) s r =
      let head = takes_any e w w2 in
      let value = expr_before head.1 x x2 (semicolon m).followed (semicolon m2).followed in
      ((takes_any value.0 m m2).1, same_tstmt h h2 (λ i. tstmt.Free (value.1 i)))
  tstmt_one e (tif h i x b) (tif h2 i2 x2 b2) s r =
      let head = takes_any e i i2 in
      let value = expr_before head.1 x x2 (tblock_opens b).followed (tblock_opens b2).followed in
      let inside = tblock_one value.0 b b2 in
      (inside.0, same_tstmt h h2 (λ i. tstmt.If (value.1 i) (inside.1 i) None))
  tstmt_one e (tif h i x b) (tif_else h2 i2 x2 b2 l2 c2) s r =
      let head = takes_any e i i2 in
      let value = expr_before head.1 x x2 (tblock_opens b).followed (tblock_opens b2).followed in
      let inside = tblock_one value.0 b b2 in
      absurd (s _ (any_from inside.0 l2))
  tstmt_one e (tif_else h i x b l c) (tif h2 i2 x2 b2) s r =
      let head = takes_any e i i2 in
      let value = expr_before head.1 x x2 (tblock_opens b).followed (tblock_opens b2).followed in
      let inside = tblock_one value.0 b b2 in
      absurd (r _ (any_from (sym inside.0) l))
  tstmt_one e (tif_else h i x b l c) (tif_else h2 i2 x2 b2 l2 c2) s r =
      let head = takes_any e i i2 in
      let value = expr_before head.1 x x2 (tblock_opens b).followed (tblock_opens b2).followed in
      let inside = tblock_one value.0 b b2 in
      let else_word = takes_any inside.0 l l2 in
      let other = tblock_one else_word.1 c c2 in
      (other.0, same_tstmt h h2 (λ i. tstmt.If (value.1 i) (inside.1 i) (Some (other.1 i))))
  tstmt_one e (twhile h w x b) (twhile h2 w2 x2 b2) s r =
      let head = takes_any e w w2 in
      let value = expr_before head.1 x x2 (tblock_opens b).followed (tblock_opens b2).followed in
      let inside = tblock_one value.0 b b2 in
      (inside.0, same_tstmt h h2 (λ i. tstmt.While (value.1 i) (inside.1 i)))
  tstmt_one e (tbreak h w m) (tbreak h2 w2 m2) s r =
      let head = takes_one e w w2 in
      ((takes_any head.2 m m2).1, same_tstmt h h2 (λ i. tstmt.Break (head.1 i)))
  tstmt_one e (abort h w m) (abort h2 w2 m2) s r =
      let head = takes_one e w w2 in
      ((takes_any head.2 m m2).1, same_tstmt h h2 (λ i. tstmt.Abort (head.1 i)))
  tstmt_one e (tgive h w v) (tgive h2 w2 v2) s r =
      let head = takes_one e w w2 in
      let all = values_one head.2 v v2 in
      (all.0, same_tstmt h h2 (λ i. tstmt.Give (head.1 i) (all.1 i)))
  tstmt_one e d f s r = absurd (told (tnumber d) (tnumber f) e (topens d) (topens f) refl)
