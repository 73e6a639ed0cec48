-- The canonical text is its tokens, each with a byte that separates tokens behind it.
use Rattle.std.proofs.Common.{◌≡◌, ℕ, List, [], ◌∷◌, ◌++◌, map, append_assoc, append-nil, refl, sym, ap, subst, ◌∙◌}
use Rattle.std.specs.List.{flat_map, join_with_byte}
use Rattle.std.proofs.lemmas.List.{map-append}
use Rattle.thread_tree.specs.declared.name.Name.{Name}
use Rattle.thread_tree.specs.declared.token.Placed.{Placed}
use Rattle.thread_tree.specs.declared.token.Token.{Token}
use Rattle.thread_tree.specs.declared.token.Token.TheVariants as token
use Rattle.thread_tree.specs.declared.tree.Decl.{Decl}
use Rattle.thread_tree.specs.declared.tree.Tree.{Tree}
use Rattle.thread_tree.specs.Spelling.{Anywhere}
use Rattle.thread_tree.specs.SpellingOfDeclarations.{SpellsDeclsBy, SpellsProgram}
use Rattle.thread_tokens.specs.Scan.{after, beginning, scan_of}
use Rattle.thread_tokens.specs.Spelled.{AreNames, AreSeparated, AreTokens, Gives, IsOrderly, Part, spelled, token_text}
use Rattle.thread_tokens.proofs.Callers.{scan_orderly, scans_back}
use Rattle.thread_print.specs.Canonical.{behind_word, canonical, declaration, first_word}
use Rattle.thread_print.specs.CanonicalText.{line, text_of}
use Rattle.thread_print.specs.Rescanned.{IsParsed, Rescans, Respells}
use Rattle.thread_print.proofs.Contents.{bare, contents, from_contents, to_contents}
use Rattle.thread_print.proofs.Again.{Again}
use Rattle.thread_print.proofs.AgainDeclarations.{decls_again}

-- the tokens of a line, with a space behind each and a newline behind the last
line_parts : List Token → List Part
line_parts [] = []
line_parts (t ∷ []) = record { token = t; separator = 10 } ∷ []
line_parts (t ∷ u ∷ ts) = record { token = t; separator = 32 } ∷ line_parts (u ∷ ts)

line-parts : (names : List Name) (t : Token) (ts : List Token) → line names (t ∷ ts) ≡ spelled names (line_parts (t ∷ ts))
unfolding line line_parts
line-parts names t [] = refl
line-parts names t (u ∷ ts) =
    append_assoc (token_text names t) (32 ∷ join_with_byte 32 (map (token_text names) (u ∷ ts))) (10 ∷ []) ∙ ap (λ rest. token_text names t ++ (32 ∷ rest)) (line-parts names u ts)

line-tokens : (t : Token) (ts : List Token) → map (λ part. part.token) (line_parts (t ∷ ts)) ≡ t ∷ ts
unfolding line_parts
line-tokens t [] = refl
line-tokens t (u ∷ ts) = ap (λ rest. t ∷ rest) (line-tokens u ts)

line-separated : (t : Token) (ts : List Token) → AreSeparated (line_parts (t ∷ ts))
unfolding line_parts
line-separated t [] = (refl, tt)
line-separated t (u ∷ ts) = (refl, line-separated u ts)

-- the same of lines
lines_parts : List Decl → List Part
lines_parts decls = flat_map (λ d. line_parts (declaration d)) decls

spelled-append : (names : List Name) (xs ys : List Part) → spelled names (xs ++ ys) ≡ spelled names xs ++ spelled names ys
spelled-append names [] ys = refl
spelled-append names (x ∷ xs) ys =
    ap (λ rest. token_text names x.token ++ (x.separator ∷ rest)) (spelled-append names xs ys) ∙ sym (append_assoc (token_text names x.token) (x.separator ∷ spelled names xs) (spelled names ys))

separated-append : (xs ys : List Part) → AreSeparated xs → AreSeparated ys → AreSeparated (xs ++ ys)
separated-append [] ys front behind = behind
separated-append (x ∷ xs) ys front behind = (front.0, separated-append xs ys front.1 behind)

lines-parts : (names : List Name) (decls : List Decl) → flat_map (λ d. line names (declaration d)) decls ≡ spelled names (lines_parts decls)
unfolding lines_parts
lines-parts names [] = refl
lines-parts names (d ∷ decls) =
    ap (λ ts. ts ++ flat_map (λ x. line names (declaration x)) decls) (line-parts names (token.Word (first_word d)) (behind_word d))
    ∙ (ap (λ ts. spelled names (line_parts (declaration d)) ++ ts) (lines-parts names decls)
    ∙ sym (spelled-append names (line_parts (declaration d)) (lines_parts decls)))

lines-tokens : (decls : List Decl) → map (λ part. part.token) (lines_parts decls) ≡ flat_map declaration decls
unfolding lines_parts
lines-tokens [] = refl
lines-tokens (d ∷ decls) =
    map-append (λ part. part.token) (line_parts (declaration d)) (lines_parts decls)
    ∙ (ap (λ ts. ts ++ map (λ part. part.token) (lines_parts decls)) (line-tokens (token.Word (first_word d)) (behind_word d))
    ∙ ap (λ ts. declaration d ++ ts) (lines-tokens decls))

lines-separated : (decls : List Decl) → AreSeparated (lines_parts decls)
unfolding lines_parts
lines-separated [] = tt
lines-separated (d ∷ decls) =
    separated-append (line_parts (declaration d)) (lines_parts decls) (line-separated (token.Word (first_word d)) (behind_word d)) (lines-separated decls)

-- the names of a tree are names, and stand in its canonical tokens in order of their first place
record IsInOrder (tree : Tree) : Type 0 where
  names : AreNames tree.names
  tokens : AreTokens tree.names 0 (canonical tree)

-- the canonical text has the canonical tokens
spelled_text : (tree : Tree) (text : List ℕ) → text ≡ text_of tree → text ≡ spelled tree.names (lines_parts tree.decls)
unfolding text_of
spelled_text tree text is = is ∙ lines-parts tree.names tree.decls

text_rescans_in_order : (tree : Tree) (text : List ℕ) → text ≡ text_of tree → IsInOrder tree → Rescans tree text
text_rescans_in_order tree text is orderly =
    let parts = lines_parts tree.decls in
    let same : map (λ part. part.token) parts ≡ canonical tree = lines-tokens tree.decls in
    let P : List Token → Type 0 = λ ts. AreTokens tree.names 0 ts in
    let Q : List Token → Type 0 = λ ts. Gives ts tree.names (after beginning (spelled tree.names parts)) (scan_of (spelled tree.names parts)) in
    let R : List ℕ → Type 0 = λ bytes. Rescans tree bytes in
    subst R (sym (spelled_text tree text is)) (subst Q same (scans_back tree.names parts orderly.names (subst P (sym same) orderly.tokens) (lines-separated tree.decls)))

-- a tree that was read: its canonical tokens spell it again
tree_again : (tree : Tree) (parsed : IsParsed tree) → Again (canonical tree) (λ b a. SpellsDeclsBy Anywhere b a tree.decls) parsed.tokens []
tree_again tree parsed = decls_again parsed.spells

-- and it has its names in order
in_order : (tree : Tree) → IsParsed tree → IsInOrder tree
in_order tree parsed =
    let kept : contents (bare parsed.tokens) ≡ contents (canonical tree) = (tree_again tree parsed).says [] refl ∙ ap contents (append-nil (canonical tree)) in
    let P : List Token → Type 0 = λ ts. AreTokens tree.names 0 ts in
    record {
      names = parsed.orderly.are_names;
      tokens = from_contents tree.names 0 (canonical tree) (subst P kept (to_contents tree.names 0 (bare parsed.tokens) parsed.orderly.are_tokens));
    }

pub text_rescans : (tree : Tree) (text : List ℕ) → text ≡ text_of tree → IsParsed tree → Rescans tree text
text_rescans tree text is parsed = text_rescans_in_order tree text is (in_order tree parsed)

-- no token is left where all are used
nothing_left : (ps : List Placed) → bare ps ≡ [] → ps ≡ []
nothing_left [] e = refl
nothing_left (p ∷ ps) e = cc

-- the text spells the tree again
pub text_respells : (tree : Tree) (text : List ℕ) → text ≡ text_of tree → IsParsed tree → Respells tree text
text_respells tree text is parsed =
    let gives = text_rescans tree text is parsed in
    let found = (tree_again tree parsed).again (scan_of text).tokens [] (gives.same_tokens ∙ sym (append-nil (canonical tree))) in
    let P : List Placed → Type 0 = λ left. SpellsDeclsBy Anywhere (scan_of text).tokens left tree.decls in
    subst P (nothing_left found.after found.left) found.spells

-- a tree of which that is known which `parse` ensures was read
pub was_read : (text : List ℕ) (tree : Tree) → SpellsProgram (scan_of text).tokens tree.decls → tree.names ≡ (scan_of text).names → IsParsed tree
was_read text tree spelled same =
    let P : List Name → Type 0 = λ names. IsOrderly names (scan_of text).tokens in
    record { tokens = (scan_of text).tokens; orderly = subst P (sym same) (scan_orderly text); spells = spelled }
