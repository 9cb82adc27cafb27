-- The prefix, last, first and suffix links of a list of least words: there are such links, one of
-- each, and they lead to smaller places.
use Rattle.std.proofs.Common.{◌≡◌, ◌⊎◌, inl, inr, ℕ, ◌<◌, List, [], ◌∷◌, ◌++◌, length, refl, sym, ap, subst, ◌∙◌, arith}
use Rattle.language_theory.specs.Words.{◌⊏◌, word_at}
use Rattle.language_theory.specs.Links.{IsPrefixLink, IsSuffixLink}
use Rattle.language_theory.specs.Congruence.{IsEquivalence, IsRightCongruence, IsCongruence}
use Rattle.language_theory.specs.Representatives.{AreRepresentatives, IsReduced}
use Rattle.language_theory.proofs.Shortlex.{over_suffix, last_letter, last_letter_is_one, shortlex_append_longer, shortlex_shorter}
use Rattle.language_theory.proofs.Representatives.{reduced_is_listed, listed_is_reduced, reduced_prefix, reduced_suffix, listed_once, listed_order, first_is_empty}

module _ (k : ℕ) (same : List ℕ → List ℕ → Type 0) (words : List (List ℕ))
    (e : IsEquivalence k same) (l : AreRepresentatives k same words) where
  not_empty : (i : ℕ) → 0 < i → i < length words → ¬ (word_at words i ≡ [])
  not_empty i p m n =
      let z : i ≡ 0 = listed_once k same words l i 0 m (omega arith)
      (n ∙ sym (first_is_empty k same words l e)) in omega arith

module _ (k : ℕ) (same : List ℕ → List ℕ → Type 0) (words : List (List ℕ))
    (c : IsRightCongruence k same) (l : AreRepresentatives k same words) where
  -- each listed word but the empty one is a listed word and a last letter
  pub prefix_exists : (i : ℕ) → 0 < i → i < length words → (p a : ℕ) × (a < k)
      × IsPrefixLink words i p a
  prefix_exists i z m = by (last_letter (word_at words i))
    where
      by : (word_at words i ≡ []) ⊎ ((u : List ℕ) × (a : ℕ) × (word_at words i ≡ u ++ a ∷ []))
          → (p a : ℕ) × (a < k) × IsPrefixLink words i p a
      by (inl e) = absurd (not_empty k same words c.equivalence l i z m e)
      by (inr (u, a, e)) =
          let r = subst (IsReduced k same) e (listed_is_reduced k same words l c.equivalence i m) in
          let (p, h, f) = reduced_is_listed k same words l u
          (reduced_prefix k same u (a ∷ []) c r) in (
            p,
            a,
            (over_suffix k u (a ∷ []) r.over).0,
            record {
              whole = m;
              prefix = h;
              splits = e
                  ∙ ap (λ (w : List ℕ). w ++ a ∷ []) (sym f);
            },
          )

module _ (k : ℕ) (same : List ℕ → List ℕ → Type 0) (words : List (List ℕ)) (c : IsCongruence k same)
    (l : AreRepresentatives k same words) where
  -- and a first letter and a listed word
  pub suffix_exists : (i : ℕ) → 0 < i → i < length words → (a s : ℕ) × (a < k)
      × IsSuffixLink words i a s
  suffix_exists i z m = by (word_at words i) refl
    where
      by : (w : List ℕ) → word_at words i ≡ w → (a s : ℕ) × (a < k) × IsSuffixLink words i a s
      by [] e = absurd (not_empty k same words c.equivalence l i z m e)
      by (a ∷ w) e =
          let r = subst (IsReduced k same) e (listed_is_reduced k same words l c.equivalence i m) in
          let (s, h, f) = reduced_is_listed k same words l w
          (reduced_suffix k same (a ∷ []) w c r) in (
            a,
            s,
            r.over.0,
            record {
              whole = m;
              suffix = h;
              splits = e
                  ∙ ap (λ (x : List ℕ). a ∷ x) (sym f);
            },
          )

module _ (k : ℕ) (same : List ℕ → List ℕ → Type 0) (words : List (List ℕ))
    (l : AreRepresentatives k same words) where
  pub prefix_is_one : (i p a q b : ℕ) → IsPrefixLink words i p a → IsPrefixLink words i q b
      → (p ≡ q) × (a ≡ b)
  prefix_is_one i p a q b f g =
      let (words_equal, letters_equal) = last_letter_is_one (word_at words p) (word_at words q) a b
      (sym f.splits ∙ g.splits) in
      (listed_once k same words l p q f.prefix g.prefix words_equal, letters_equal)

  pub suffix_is_one : (i a s b t : ℕ) → IsSuffixLink words i a s → IsSuffixLink words i b t
      → (a ≡ b) × (s ≡ t)
  suffix_is_one i a s b t f g =
      let both : a ∷ word_at words s ≡ b ∷ word_at words t = sym f.splits ∙ g.splits in
      let behind : word_at words s ≡ word_at words t = cc in
      ((cc), listed_once k same words l s t f.suffix g.suffix behind)

  pub prefix_before : (i p a : ℕ) → IsPrefixLink words i p a → p < i
  prefix_before i p a f =
      listed_order k same words l p i f.prefix f.whole
      (subst (λ (w : List ℕ). word_at words p ⊏ w) (sym f.splits)
      (shortlex_append_longer (word_at words p) a))

  pub suffix_before : (i a s : ℕ) → IsSuffixLink words i a s → s < i
  suffix_before i a s f =
      listed_order k same words l s i f.suffix f.whole
      (subst (λ (w : List ℕ). word_at words s ⊏ w) (sym f.splits)
      (shortlex_shorter (word_at words s) (a ∷ word_at words s) (omega arith)))
