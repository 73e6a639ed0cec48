-- The places in bodies and programs are passed along the tokens that spell them, and never fall.
use Rattle.std.proofs.Common.{◌≡◌, ℕ, List, [], ◌∷◌, ◌++◌, map, Option, Some, None, refl, sym, ap, subst, ◌∙◌}
use Rattle.thread_tree.specs.declared.place.Place.{Place}
use Rattle.thread_tree.specs.declared.place.At.{At}
use Rattle.thread_tree.specs.declared.place.Num.{Num}
use Rattle.thread_tree.specs.declared.expr.Expr.{Expr}
use Rattle.thread_tree.specs.declared.token.Placed.{Placed}
use Rattle.thread_tree.specs.declared.transaction.TBlock.{TBlock, out-TBlock, fold_out-TBlock}
use Rattle.thread_tree.specs.declared.transaction.TStmt.{TStmt, out-TStmt, fold_out-TStmt, map-TStmt}
use Rattle.thread_tree.specs.declared.transaction.TStmt.TheOpen.{TStmt-F, TBlock-F}
use Rattle.thread_tree.specs.declared.transaction.TStmt.TheOpen as tstmt
use Rattle.thread_tree.specs.declared.block.Block.{Block, out-Block, fold_out-Block}
use Rattle.thread_tree.specs.declared.block.Stmt.{Stmt, out-Stmt, fold_out-Stmt, map-Stmt}
use Rattle.thread_tree.specs.declared.block.Stmt.TheOpen.{Stmt-F, Block-F}
use Rattle.thread_tree.specs.declared.block.Stmt.TheOpen as stmt
use Rattle.thread_tree.specs.declared.tree.Decl.{Decl}
use Rattle.thread_tree.specs.SpellingOfTransactions.{SpellsValues, no_values, values, SpellsTBlock, tblock, SpellsTStmts, no_tstmts, tstmts, SpellsTStmt, tlet, tlet_new, tset, tset_new, store, free, tif, tif_else, twhile, tbreak, abort, tgive}
use Rattle.thread_tree.specs.SpellingOfBlocks.{SpellsGiven, no_given, given, SpellsBlock, block, SpellsStmts, no_stmts, stmts, SpellsStmt, let_to, set, apply_to, apply, if_only, if_else, while_loop, ploop, break_loop, return_only, return_value, atomic, call}
use Rattle.thread_tree.specs.SpellingOfDeclarations.{SpellsParameters, no_parameters, parameters, SpellsNumbers, no_numbers, numbers, SpellsChannel, no_channel, channel, SpellsDecl, kind, object, queue, semaphore, function, thread, start, SpellsDecls, no_decls, decls}
use Rattle.thread_tokens.specs.Scan.{scan_of}
use Rattle.fault_places.specs.Order.{AreBehind, also_behind, IsRising, before_others}
use Rattle.fault_places.specs.PlacesOf.{in_each, in_some, of_name, of_number, of_expression, in_tstatement, in_tblock, of_tstatement, of_tblock, in_statement, in_block, of_statement, of_block, of_declaration, places_of}
use Rattle.fault_places.specs.Passed.{AreThere, no_more_there, also_there, ArePassed, passed_none, passed_token, IsAtOrBefore, is_it, stands_earlier, BehindNone, no_more_places, not_behind, NeverFall, no_place, then_no_earlier}
use Rattle.fault_places.proofs.Passing.{mark, pass, then_passed, then_pass, names_passed, numbers_passed, field_passed, expression_passed, expressions_passed, arguments_passed, results_passed, call_passed}
use Rattle.fault_places.proofs.Scanning.{text_rises}

places_in_tlayer : (s : TStmt-F TStmt TBlock) → in_tstatement (λ places. places) (map-TStmt TStmt TBlock (List Place) (List Place) of_tstatement of_tblock s) ≡ in_tstatement of_tblock s
places_in_tlayer (tstmt.Let at e) = refl
places_in_tlayer (tstmt.LetNew at type_name) = refl
places_in_tlayer (tstmt.Set at e) = refl
places_in_tlayer (tstmt.SetNew at type_name) = refl
places_in_tlayer (tstmt.Store field e) = refl
places_in_tlayer (tstmt.Free e) = refl
places_in_tlayer (tstmt.If e then_block None) = refl
places_in_tlayer (tstmt.If e then_block (Some other)) = refl
places_in_tlayer (tstmt.While e body) = refl
places_in_tlayer (tstmt.Break place) = refl
places_in_tlayer (tstmt.Abort place) = refl
places_in_tlayer (tstmt.Give place es) = refl

tstatement_out : (s : TStmt) → of_tstatement s ≡ in_tstatement of_tblock (out-TStmt s)
unfolding of_tstatement of_tblock
tstatement_out s = fold_out-TStmt (List Place) (List Place) (in_tstatement (λ places. places)) in_tblock s ∙ places_in_tlayer (out-TStmt s)

tblock_out : (b : TBlock) → of_tblock b ≡ (out-TBlock b).place ∷ in_each (λ places. places) (map of_tstatement (out-TBlock b).stmts)
unfolding of_tstatement of_tblock
tblock_out b = fold_out-TBlock (List Place) (List Place) (in_tstatement (λ places. places)) in_tblock b

by_tlayer : {a b : List Placed} (s : TStmt) {k : TStmt-F TStmt TBlock} → out-TStmt s ≡ k → ArePassed a b (in_tstatement of_tblock k) → ArePassed a b (of_tstatement s)
by_tlayer {a} {b} s is way = subst (λ places. ArePassed a b places) (sym (tstatement_out s ∙ ap (λ x. in_tstatement of_tblock x) is)) way

values_passed : {a b : List Placed} {es : List Expr} → SpellsValues a b es → ArePassed a b (in_each of_expression es)
values_passed (no_values m) = pass m passed_none
values_passed (values l m) = then_pass (expressions_passed l) m

mutual
  tblock_passed : {a b : List Placed} {x : TBlock} → SpellsTBlock a b x → ArePassed a b (of_tblock x)
  tblock_passed {a} {b} (tblock {inside} o d c) = subst (λ places. ArePassed a b places) (sym (tblock_out inside)) (mark o (then_pass (tstmts_passed d) c))

  tstmts_passed : {a b : List Placed} {ss : List TStmt} → SpellsTStmts a b ss → ArePassed a b (in_each (λ places. places) (map of_tstatement ss))
  tstmts_passed no_tstmts = passed_none
  tstmts_passed (tstmts d rest) = then_passed (tstmt_passed d) (tstmts_passed rest)

  tstmt_passed : {a b : List Placed} {s : TStmt} → SpellsTStmt a b s → ArePassed a b (of_tstatement s)
  tstmt_passed (tlet {s} h l n q x m) = by_tlayer s h (pass l (mark n (pass q (then_pass (expression_passed x) m))))
  tstmt_passed (tlet_new {s} h l n q w k m) = by_tlayer s h (pass l (mark n (pass q (pass w (mark k (pass m passed_none))))))
  tstmt_passed (tset {s} h n q x m) = by_tlayer s h (mark n (pass q (then_pass (expression_passed x) m)))
  tstmt_passed (tset_new {s} h n q w k m) = by_tlayer s h (mark n (pass q (pass w (mark k (pass m passed_none)))))
  tstmt_passed (store {s} h d q x m) = by_tlayer s h (then_passed (field_passed d) (pass q (then_pass (expression_passed x) m)))
  tstmt_passed (free {s} h w x m) = by_tlayer s h (pass w (then_pass (expression_passed x) m))
  tstmt_passed (tif {s} h i x d) = by_tlayer s h (pass i (then_passed (expression_passed x) (then_passed (tblock_passed d) passed_none)))
  tstmt_passed (tif_else {s} h i x d l f) = by_tlayer s h (pass i (then_passed (expression_passed x) (then_passed (tblock_passed d) (pass l (tblock_passed f)))))
  tstmt_passed (twhile {s} h w x d) = by_tlayer s h (pass w (then_passed (expression_passed x) (tblock_passed d)))
  tstmt_passed (tbreak {s} h w m) = by_tlayer s h (mark w (pass m passed_none))
  tstmt_passed (abort {s} h w m) = by_tlayer s h (mark w (pass m passed_none))
  tstmt_passed (tgive {s} h w v) = by_tlayer s h (mark w (values_passed v))

places_in_layer : (s : Stmt-F Stmt Block) → in_statement (λ places. places) (map-Stmt Stmt Block (List Place) (List Place) of_statement of_block s) ≡ in_statement of_block s
places_in_layer (stmt.Let at e) = refl
places_in_layer (stmt.Set at e) = refl
places_in_layer (stmt.Apply to callee es) = refl
places_in_layer (stmt.If e then_block None) = refl
places_in_layer (stmt.If e then_block (Some other)) = refl
places_in_layer (stmt.While e body) = refl
places_in_layer (stmt.Ploop place body) = refl
places_in_layer (stmt.Break place) = refl
places_in_layer (stmt.Return place v) = refl
places_in_layer (stmt.Atomic place to body) = refl
places_in_layer (stmt.Call place c to) = refl

statement_out : (s : Stmt) → of_statement s ≡ in_statement of_block (out-Stmt s)
unfolding of_statement of_block
statement_out s = fold_out-Stmt (List Place) (List Place) (in_statement (λ places. places)) in_block s ∙ places_in_layer (out-Stmt s)

block_out : (b : Block) → of_block b ≡ (out-Block b).place ∷ in_each (λ places. places) (map of_statement (out-Block b).stmts)
unfolding of_statement of_block
block_out b = fold_out-Block (List Place) (List Place) (in_statement (λ places. places)) in_block b

by_layer : {a b : List Placed} (s : Stmt) {k : Stmt-F Stmt Block} → out-Stmt s ≡ k → ArePassed a b (in_statement of_block k) → ArePassed a b (of_statement s)
by_layer {a} {b} s is way = subst (λ places. ArePassed a b places) (sym (statement_out s ∙ ap (λ x. in_statement of_block x) is)) way

given_passed : {a b : List Placed} {to : List At} → SpellsGiven a b to → ArePassed a b (in_each of_name to)
given_passed no_given = passed_none
given_passed (given o l) = pass o (names_passed l)

mutual
  block_passed : {a b : List Placed} {x : Block} → SpellsBlock a b x → ArePassed a b (of_block x)
  block_passed {a} {b} (block {inside} o d c) = subst (λ places. ArePassed a b places) (sym (block_out inside)) (mark o (then_pass (stmts_passed d) c))

  stmts_passed : {a b : List Placed} {ss : List Stmt} → SpellsStmts a b ss → ArePassed a b (in_each (λ places. places) (map of_statement ss))
  stmts_passed no_stmts = passed_none
  stmts_passed (stmts d rest) = then_passed (stmt_passed d) (stmts_passed rest)

  stmt_passed : {a b : List Placed} {s : Stmt} → SpellsStmt a b s → ArePassed a b (of_statement s)
  stmt_passed (let_to {s} h l n q x m) = by_layer s h (pass l (mark n (pass q (then_pass (expression_passed x) m))))
  stmt_passed (set {s} h n q x m) = by_layer s h (mark n (pass q (then_pass (expression_passed x) m)))
  stmt_passed (apply_to {s} h n q k o l m) = by_layer s h (mark n (pass q (mark k (pass o (then_pass (arguments_passed l) m)))))
  stmt_passed (apply {s} h n o l m) = by_layer s h (mark n (pass o (then_pass (arguments_passed l) m)))
  stmt_passed (if_only {s} h i x d) = by_layer s h (pass i (then_passed (expression_passed x) (then_passed (block_passed d) passed_none)))
  stmt_passed (if_else {s} h i x d l f) = by_layer s h (pass i (then_passed (expression_passed x) (then_passed (block_passed d) (pass l (block_passed f)))))
  stmt_passed (while_loop {s} h w x d) = by_layer s h (pass w (then_passed (expression_passed x) (block_passed d)))
  stmt_passed (ploop {s} h w d) = by_layer s h (mark w (block_passed d))
  stmt_passed (break_loop {s} h w m) = by_layer s h (mark w (pass m passed_none))
  stmt_passed (return_only {s} h w m) = by_layer s h (mark w (pass m passed_none))
  stmt_passed (return_value {s} h w x m) = by_layer s h (mark w (then_pass (expression_passed x) m))
  stmt_passed (atomic {s} h w g d) = by_layer s h (mark w (then_passed (given_passed g) (tblock_passed d)))
  stmt_passed (call {s} h c l) = by_layer s h (then_passed (call_passed c) (results_passed l))

parameters_passed : {a b : List Placed} {ats : List At} → SpellsParameters a b ats → ArePassed a b (in_each of_name ats)
parameters_passed (no_parameters c) = pass c passed_none
parameters_passed (parameters l c) = then_pass (names_passed l) c

all_numbers_passed : {a b : List Placed} {ns : List Num} → SpellsNumbers a b ns → ArePassed a b (in_each of_number ns)
all_numbers_passed (no_numbers c) = pass c passed_none
all_numbers_passed (numbers l c) = then_pass (numbers_passed l) c

channel_passed : {a b : List Placed} {input : Option Num} → SpellsChannel a b input → ArePassed a b (in_some of_number input)
channel_passed (no_channel m) = pass m passed_none
channel_passed (channel i n m) = pass i (mark n (pass m passed_none))

declaration_passed : {a b : List Placed} {d : Decl} → SpellsDecl a b d → ArePassed a b (of_declaration d)
declaration_passed (kind t n o l c) = pass t (mark n (pass o (then_pass (names_passed l) c)))
declaration_passed (object t n o k m) = pass t (mark n (pass o (mark k (pass m passed_none))))
declaration_passed (queue t n o s c i) = pass t (mark n (pass o (mark s (pass c (channel_passed i)))))
declaration_passed (semaphore t n q s x g m) = pass t (mark n (pass q (mark s (pass x (mark g (pass m passed_none))))))
declaration_passed (function t n o l d) = pass t (mark n (pass o (then_passed (parameters_passed l) (block_passed d))))
declaration_passed (thread t n o l p s d) = pass t (mark n (pass o (then_passed (parameters_passed l) (pass p (mark s (block_passed d))))))
declaration_passed (start t n o l m) = mark t (mark n (pass o (then_pass (all_numbers_passed l) m)))

pub places_passed : (a b : List Placed) (ds : List Decl) → SpellsDecls a b ds → ArePassed a b (places_of ds)
places_passed a b ds no_decls = passed_none
places_passed a b ds (decls {a = middle} {d} {rest = others} first rest) = then_passed (declaration_passed first) (places_passed middle b others rest)

-- places that are passed at tokens behind a place
none_before_both : {p : Place} {ps qs : List Place} → BehindNone p ps → BehindNone p qs → BehindNone p (ps ++ qs)
none_before_both no_more_places more = more
none_before_both (not_behind e rest) more = not_behind e (none_before_both rest more)

there_later : {p q : Place} {ps : List Place} → IsAtOrBefore p q → AreThere q ps → BehindNone p ps
there_later before no_more_there = no_more_places
there_later {p} before (also_there e rest) = not_behind (subst (λ x. IsAtOrBefore p x) (sym e) before) (there_later before rest)

passed_later : {p : Place} {a b : List Placed} {ps : List Place} → AreBehind p a → ArePassed a b ps → BehindNone p ps
passed_later behind passed_none = no_more_places
passed_later {p} (also_behind before others) (passed_token here way e) =
    subst (λ places. BehindNone p places) (sym e) (none_before_both (there_later (stands_earlier before) here) (passed_later others way))

then_fall : {p : Place} {ps qs : List Place} → AreThere p ps → BehindNone p qs → NeverFall qs → NeverFall (ps ++ qs)
then_fall no_more_there behind never = never
then_fall {p} {qs = qs} (also_there {rest} e more) behind never =
    let at_it = none_before_both (there_later (is_it refl) more) behind in
    then_no_earlier (subst (λ x. BehindNone x (rest ++ qs)) (sym e) at_it) (then_fall more behind never)

never_fall : {a b : List Placed} {ps : List Place} → IsRising a → ArePassed a b ps → NeverFall ps
never_fall rising passed_none = no_place
never_fall (before_others behind rising) (passed_token here way e) =
    subst NeverFall (sym e) (then_fall here (passed_later behind way) (never_fall rising way))

-- the places of a text's declarations never fall
pub places_never_fall : (text : List ℕ) (ds : List Decl) → SpellsDecls (scan_of text).tokens [] ds → NeverFall (places_of ds)
places_never_fall text ds spelled = never_fall (text_rises text) (places_passed _ [] ds spelled)
