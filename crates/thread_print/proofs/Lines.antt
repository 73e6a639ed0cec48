-- Declarations on lines of their own.
use Rattle.std.proofs.Common.{◌≡◌, ℕ, ◌+◌, ◌≤◌, List, [], ◌∷◌, ◌++◌, map, take, length, Option, Some, append_assoc, append-nil, refl, sym, ap, ◌∙◌}
use Rattle.std.specs.List.{slice_get, flat_map, join_with_byte}
use Rattle.std.proofs.lemmas.List.{take_all}
use Rattle.std.proofs.lemmas.List.Concat.{flat_map-append}
use Rattle.thread_tree.specs.declared.name.Name.{Name}
use Rattle.thread_tree.specs.declared.token.Token.{Token}
use Rattle.thread_tree.specs.declared.token.Token.TheVariants as token
use Rattle.thread_tree.specs.declared.token.Word.{Word}
use Rattle.thread_tree.specs.declared.tree.Decl.{Decl}
use Rattle.thread_tree.specs.declared.tree.Tree.{Tree}
use Rattle.thread_tokens.specs.Spelled.{token_text}
use Rattle.thread_tokens.specs.Spelling.{word_text}
use Rattle.thread_print.specs.Canonical.{behind_word, declaration, first_word}
use Rattle.thread_print.specs.CanonicalText.{line, text_of, written}
use Rattle.thread_print.specs.Wrote.{Added, Wrote}
use Rattle.thread_print.proofs.Loops.{take_at}

-- what stands before may be written before or after
written-prefix : (names : List Name) (before text : List ℕ) (tokens : List Token) → written names (before ++ text) tokens ≡ before ++ written names text tokens
written-prefix names before text [] = refl
written-prefix names before text (t ∷ tokens) =
    ap (λ b. written names b tokens) (append_assoc before text (32 ∷ token_text names t)) ∙ written-prefix names before (text ++ 32 ∷ token_text names t) tokens

joined-is : (names : List Name) (text : List ℕ) (tokens : List Token) → join_with_byte 32 (text ∷ map (token_text names) tokens) ≡ written names text tokens
joined-is names text [] = refl
joined-is names text (t ∷ tokens) =
    ap (λ b. text ++ 32 ∷ b) (joined-is names (token_text names t) tokens) ∙ (sym (append_assoc text (32 ∷ []) (written names (token_text names t) tokens)) ∙ (sym (written-prefix names (text ++ 32 ∷ []) (token_text names t) tokens) ∙ ap (λ b. written names b tokens) (append_assoc text (32 ∷ []) (token_text names t))))

-- a line behind others
pub line_is : (names : List Name) (before : List ℕ) (first : Word) (tokens : List Token) → written names (before ++ word_text first) tokens ++ 10 ∷ [] ≡ before ++ line names (token.Word first ∷ tokens)
unfolding line token_text
line_is names before first tokens =
    ap (λ b. b ++ 10 ∷ []) (written-prefix names before (word_text first) tokens ∙ ap (λ b. before ++ b) (sym (joined-is names (word_text first) tokens))) ∙ append_assoc before (join_with_byte 32 (word_text first ∷ map (token_text names) tokens)) (10 ∷ [])

-- a declaration on a line of its own
pub wrote_line : {names : List Name} {a b c e : Option (List ℕ)} (d : Decl) → Added a b (word_text (first_word d)) → Wrote names b c (behind_word d) → Added c e (10 ∷ []) → Added a e (line names (declaration d))
wrote_line {names} {a} {b} {c} {e} d word rest newline = record {
  each = λ t end.
      let (s, written_all, ended) = newline.each t end in
      let (r, begun, behind) = rest.each s written_all in
      let (q, old, first) = word.each r begun in
      (q, old, ended ∙ (ap (λ u. u ++ 10 ∷ []) (behind ∙ ap (λ u. written names u (behind_word d)) first) ∙ line_is names q (first_word d) (behind_word d)));
}

-- the lines of the first declarations
abbrev pub lines_of : Tree → ℕ → List ℕ
lines_of tree i = flat_map (λ decl. line tree.names (declaration decl)) (take i tree.decls)

-- a text that stands is that of the first declarations
pub record HasLines (tree : Tree) (i : ℕ) (out : Option (List ℕ)) : Type 0 where
  pub each : (t : List ℕ) → out ≡ Some t → t ≡ lines_of tree i

pub printed_none : {tree : Tree} {out : Option (List ℕ)} → out ≡ Some [] → HasLines tree 0 out
printed_none {tree} {out} is = record { each = λ t end. let e : Some t ≡ Some [] = sym end ∙ is in cc }

pub printed_step : {tree : Tree} {i : ℕ} (d : Decl) {names : List Name} {before behind : Option (List ℕ)} → HasLines tree i before → names ≡ tree.names → slice_get tree.decls i ≡ Some d → Added before behind (line names (declaration d)) → HasLines tree (i + 1) behind
printed_step {tree} {i} d {names} {before} {behind} so_far same there added = record {
  each = λ t end.
      let (s, mid, is) = added.each t end in
      let f : Decl → List ℕ = λ decl. line tree.names (declaration decl) in
      let joined : lines_of tree (i + 1) ≡ lines_of tree i ++ f d =
      ap (flat_map f) (take_at tree.decls i d there) ∙ (flat_map-append f (take i tree.decls) (d ∷ []) ∙ ap (λ ts. lines_of tree i ++ ts) (append-nil (f d))) in
      is ∙ (ap (λ ns. s ++ line ns (declaration d)) same ∙ (ap (λ u. u ++ f d) (so_far.each s mid) ∙ sym joined));
}

pub printed_all : {tree : Tree} {i : ℕ} {out : Option (List ℕ)} {text : List ℕ} → HasLines tree i out → length tree.decls ≤ i → out ≡ Some text → text ≡ text_of tree
unfolding text_of
printed_all {tree} {i} {out} {text} so_far all end = so_far.each text end ∙ ap (flat_map (λ decl. line tree.names (declaration decl))) (take_all i tree.decls all)
