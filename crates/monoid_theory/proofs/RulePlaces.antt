-- Rules in terms of places: a left side is a listed word and a letter, and tests of places tell
-- which are rules.
use Rattle.std.proofs.Common.{◌≡◌, ◌↔◌, ◌⊎◌, inl, inr, ℕ, ◌<◌, List, [], ◌∷◌, ◌++◌, length, sym, ap, subst, ◌∙◌}
use Rattle.language_theory.specs.Words.{Over, ◌⊏◌, word_at}
use Rattle.language_theory.specs.Congruence.{IsEquivalence}
use Rattle.language_theory.specs.Representatives.{IsPlaceOf, AreRepresentatives, IsReduced}
use Rattle.language_theory.specs.Links.{IsSuffixLink}
use Rattle.monoid_theory.specs.Products.{IsRight}
use Rattle.monoid_theory.specs.Presentation.{IsRule}
use Rattle.language_theory.proofs.Shortlex.{over_suffix, over_last, last_letter, last_letter_is_one, shortlex_append_letters, shortlex_append_last}
use Rattle.language_theory.proofs.Representatives.{reduced_is_listed, listed_is_reduced, empty_is_reduced, place_is_one, place_of_listed, first_is_empty}

module _ (k : ℕ) (same : List ℕ → List ℕ → Type 0) (words : List (List ℕ))
    (l : AreRepresentatives k same words) where
  -- the left side of a rule is a listed word and a letter
  pub rule_is_at_place : (left : List ℕ) (right : ℕ) → IsRule k same words left right
      → (i a : ℕ) × (i < length words) × (a < k) × (left ≡ word_at words i ++ a ∷ [])
  rule_is_at_place left right r = by (last_letter left)
    where
      by : (left ≡ []) ⊎ ((u : List ℕ) × (a : ℕ) × (left ≡ u ++ a ∷ []))
          → (i a : ℕ) × (i < length words) × (a < k) × (left ≡ word_at words i ++ a ∷ [])
      by (inl f) = absurd (r.unreduced (subst (IsReduced k same) (sym f) (empty_is_reduced k same)))
      by (inr (u, a, f)) =
          let (i, h, g) = reduced_is_listed k same words l u (r.prefix u a (sym f)) in (
            i,
            a,
            h,
            (over_suffix k u (a ∷ []) (subst (Over k) f r.over)).0,
            f
                ∙ ap (λ (w : List ℕ). w ++ a ∷ []) (sym g),
          )

  -- listed words with letters behind rise with the places, and at one place with the letters
  pub left_sides_rise : (i j a b : ℕ) → j < length words → (i < j) ⊎ ((i ≡ j) × (a < b))
      → (word_at words i ++ a ∷ []) ⊏ (word_at words j ++ b ∷ [])
  left_sides_rise i j a b h (inl g) =
      shortlex_append_letters (word_at words i) (word_at words j) a b (l.rise i j g h)
  left_sides_rise i j a b h (inr (f, g)) =
      subst (λ (n : ℕ). (word_at words i ++ a ∷ []) ⊏ (word_at words n ++ b ∷ [])) f
      (shortlex_append_last (word_at words i) a b g)

module _ (k : ℕ) (same : List ℕ → List ℕ → Type 0) (words : List (List ℕ))
    (e : IsEquivalence k same) (l : AreRepresentatives k same words) where
  -- a word is reduced where it is the listed word of its place
  pub reduced_at_place : (w : List ℕ) (i : ℕ) → IsPlaceOf same words w i → IsReduced k same w
      ↔ (word_at words i ≡ w)
  reduced_at_place w i p =
      (to, λ h. subst (IsReduced k same) h (listed_is_reduced k same words l e i p.within))
    where
      to : IsReduced k same w → word_at words i ≡ w
      to d =
          let (j, h, f) = reduced_is_listed k same words l w d in
          ap (word_at words) (place_is_one same words w i j p
          (subst (λ (v : List ℕ). IsPlaceOf same words v j) f
          (place_of_listed k same words l e j h))) ∙ f

  -- the listed word at i with the letter a is a left side where it is not listed, but is without
  -- its first letter
  pub rule_by_places : (i a r b s q : ℕ) → a < k → IsRight same words i a r
      → IsSuffixLink words i b s → IsRight same words s a q
      → IsRule k same words (word_at words i ++ a ∷ []) r
      ↔ (¬ (word_at words r ≡ word_at words i ++ a ∷ [])
      × (word_at words q ≡ word_at words s ++ a ∷ []))
  rule_by_places i a r b s q ha f link g = (to, from)
    where
      hi : i < length words
      hi = f.within

      p : IsPlaceOf same words (word_at words i ++ a ∷ []) r
      p = f.place

      t : IsPlaceOf same words (word_at words s ++ a ∷ []) q
      t = g.place

      whole : word_at words i ++ a ∷ [] ≡ b ∷ (word_at words s ++ a ∷ [])
      whole = ap (λ (w : List ℕ). w ++ a ∷ []) link.splits

      to : IsRule k same words (word_at words i ++ a ∷ []) r
          → ¬ (word_at words r ≡ word_at words i ++ a ∷ [])
          × (word_at words q ≡ word_at words s ++ a ∷ [])
      to f = (
        λ g. f.unreduced ((reduced_at_place (word_at words i ++ a ∷ []) r p).1 g),
        (reduced_at_place (word_at words s ++ a ∷ []) q t).0
            (f.suffix b (word_at words s ++ a ∷ []) (sym whole)),
      )

      from : ¬ (word_at words r ≡ word_at words i ++ a ∷ [])
          × (word_at words q ≡ word_at words s ++ a ∷ [])
          → IsRule k same words (word_at words i ++ a ∷ []) r
      from (n, g) = record {
        over = over_last k (word_at words i) a (l.over i hi) ha;
        unreduced = λ d. n ((reduced_at_place (word_at words i ++ a ∷ []) r p).0 d);
        prefix = λ w x f. subst (IsReduced k same)
            (sym ((last_letter_is_one w (word_at words i) x a f).0))
            (listed_is_reduced k same words l e i hi);
        suffix = suffix;
        place = p;
      }
        where
          suffix : (x : ℕ) (w : List ℕ) → x ∷ w ≡ word_at words i ++ a ∷ [] → IsReduced k same w
          suffix x w f =
              let d = f ∙ whole in let m : word_at words s ++ a ∷ [] ≡ w = cc in
              subst (IsReduced k same) m ((reduced_at_place (word_at words s ++ a ∷ []) q t).1 g)

  -- a letter alone is a left side where it is not listed
  pub letter_rule : (a r : ℕ) → a < k → IsRight same words 0 a r → IsRule k same words (a ∷ []) r
      ↔ ¬ (word_at words r ≡ a ∷ [])
  letter_rule a r ha q = (λ f g. f.unreduced ((reduced_at_place (a ∷ []) r p).1 g), from)
    where
      p : IsPlaceOf same words (a ∷ []) r
      p =
          subst (λ (w : List ℕ). IsPlaceOf same words (w ++ a ∷ []) r)
          (first_is_empty k same words l e) q.place

      from : ¬ (word_at words r ≡ a ∷ []) → IsRule k same words (a ∷ []) r
      from n = record {
        over = (ha, tt);
        unreduced = λ d. n ((reduced_at_place (a ∷ []) r p).0 d);
        prefix = λ w x f. subst (IsReduced k same) (sym ((last_letter_is_one w [] x a f).0))
            (empty_is_reduced k same);
        suffix = λ x w f. let m : [] ≡ w = cc in
            subst (IsReduced k same) m (empty_is_reduced k same);
        place = p;
      }
