-- The first listed word with a property that related words share is the least word with it.
use Rattle.std.proofs.Common.{◌≡◌, ◌↔◌, ℕ, ◌<◌, ◌≤◌, ◌⊎◌, inl, inr, List, length, subst, arith}
use Rattle.std.proofs.lemmas.Bool.{cases_lt}
use Rattle.language_theory.specs.Words.{Over, ◌⊏◌, word_at}
use Rattle.language_theory.specs.Languages.{IsLeastWord}
use Rattle.language_theory.specs.Congruence.{IsEquivalence}
use Rattle.language_theory.specs.Representatives.{AreRepresentatives}
use Rattle.language_theory.proofs.Shortlex.{shortlex_trans}

-- two properties that agree on words over k letters have the same least words
pub least_word_again : (k : ℕ) (P Q : List ℕ → Type 0) (w : List ℕ)
    → ((v : List ℕ) → Over k v → P v ↔ Q v) → IsLeastWord k P w → IsLeastWord k Q w
least_word_again k P Q w f h = record {
  over = h.over;
  holds = (f w h.over).0 h.holds;
  least = λ v o q. h.least v o ((f v o).1 q);
}

module _ (k : ℕ) (same : List ℕ → List ℕ → Type 0) (words : List (List ℕ))
    (l : AreRepresentatives k same words) (q : IsEquivalence k same) (P : List ℕ → Type 0)
    (closed : (u v : List ℕ) → Over k u → Over k v → same u v → P u → P v) where
  -- the place of a word with the property has it
  pub place_has : (w : List ℕ) → Over k w → P w → (i : ℕ) × (i < length words) × P (word_at words i)
  place_has w o p =
      let (i, at) = l.place w o in (
        i,
        at.within,
        closed w (word_at words i) o (l.over i at.within)
            (q.symm (word_at words i) w (l.over i at.within) o at.related) p,
      )

  pub least_by_place : (i : ℕ) → i < length words → P (word_at words i)
      → ((j : ℕ) → j < i → ¬ P (word_at words j)) → IsLeastWord k P (word_at words i)
  least_by_place i h p first = record { over = l.over i h; holds = p; least = least }
    where
      least : (v : List ℕ) → Over k v → P v → ¬ (v ⊏ word_at words i)
      least v o pv below = by (cases_lt j i)
        where
          j : ℕ
          j = (l.place v o).0

          within : j < length words
          within = (l.place v o).1.within

          related : same (word_at words j) v
          related = (l.place v o).1.related

          not_below : ¬ (v ⊏ word_at words j)
          not_below = l.least j v within o related

          later : (i < j) ⊎ (j ≤ i) → i ≤ j → ⊥
          later (inl m) n =
              not_below
              (shortlex_trans v (word_at words i) (word_at words j) below (l.rise i j m within))
          later (inr m) n =
              not_below
              (subst (λ (e : ℕ). v ⊏ word_at words e) (let e : i ≡ j = omega arith in e) below)

          by : (j < i) ⊎ (i ≤ j) → ⊥
          by (inl m) =
              first j m
              (closed v (word_at words j) o (l.over j within)
              (q.symm (word_at words j) v (l.over j within) o related) pv)
          by (inr m) = later (cases_lt i j) m
