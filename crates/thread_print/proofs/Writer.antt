-- What a writer that may be full has written, by parts.
use Rattle.std.proofs.Common.{◌≡◌, ℕ, List, [], ◌∷◌, ◌++◌, Option, append_assoc, refl, sym, ap, ◌∙◌}
use Rattle.std.proofs.lemmas.List.Sums.{fold-append}
use Rattle.thread_tree.specs.declared.name.Name.{Name}
use Rattle.thread_tree.specs.declared.name.Text.{Text}
use Rattle.thread_tree.specs.declared.token.Token.{Token}
use Rattle.thread_tree.specs.declared.token.Token.TheVariants as token
use Rattle.thread_tokens.specs.Spelled.{token_text}
use Rattle.thread_print.specs.CanonicalText.{written}
use Rattle.thread_print.specs.Wrote.{Added, Wrote}

-- some bytes behind others
pub added_two : {a b c : Option (List ℕ)} {xs ys zs : List ℕ} → Added a b xs → Added b c ys → zs ≡ xs ++ ys → Added a c zs
added_two {a} {b} {c} {xs} {ys} {zs} x y is = record {
  each = λ t end.
      let (s, mid, behind) = y.each t end in
      let (r, old, front) = x.each s mid in
      (r, old, behind ∙ (ap (λ u. u ++ ys) front ∙ (append_assoc r xs ys ∙ ap (λ u. r ++ u) (sym is))));
}

-- one token, behind a space
pub wrote_one : {names : List Name} {a b : Option (List ℕ)} {t : Token} {tokens : List Token} → Added a b (32 ∷ token_text names t) → tokens ≡ t ∷ [] → Wrote names a b tokens
wrote_one {names} {a} {b} {t} {tokens} x is = record {
  each = λ u end.
      let (s, old, behind) = x.each u end in
      (s, old, behind ∙ sym (ap (written names s) is));
}

-- nothing
pub wrote_none : {names : List Name} {a : Option (List ℕ)} {tokens : List Token} → tokens ≡ [] → Wrote names a a tokens
wrote_none {names} {a} {tokens} is = record { each = λ t end. (t, end, sym (ap (written names t) is)) }

-- some tokens behind others
pub wrote_two : {names : List Name} {a b c : Option (List ℕ)} {xs ys zs : List Token} → Wrote names a b xs → Wrote names b c ys → zs ≡ xs ++ ys → Wrote names a c zs
wrote_two {names} {a} {b} {c} {xs} {ys} {zs} x y is = record {
  each = λ t end.
      let (s, mid, behind) = y.each t end in
      let (r, old, front) = x.each s mid in
      (r, old, behind ∙ (ap (λ u. written names u ys) front ∙ (sym (fold-append (λ before token. before ++ 32 ∷ token_text names token) r xs ys) ∙ ap (written names r) (sym is))));
}

-- a string in its quotes
pub wrote_text : {names : List Name} {a b c d : Option (List ℕ)} {text : Text} → Added a b (32 ∷ 34 ∷ []) → Added b c text.bytes.items → Added c d (34 ∷ []) → Wrote names a d (token.Text text ∷ [])
unfolding token_text
wrote_text {names} {a} {b} {c} {d} {text} x y z = wrote_one {t = token.Text text} (added_two x (added_two y z refl) refl) refl
