-- A product followed by a letter.
use Rattle.std.proofs.Common.{◌≡◌, ℕ, ◌+◌, ◌<◌, ◌≤◌, ◌⊎◌, inl, inr, List, [], ◌∷◌, ◌++◌, length, refl, ap, sym, subst, ◌∙◌, arith, append_assoc}
use Rattle.std.specs.Prelude.{slice_index, slice_set}
use Rattle.std.proofs.lemmas.Bool.{cases_lt}
use Rattle.std.proofs.lemmas.List.{get_or-set_other, get_or-set_same}
use Rattle.language_theory.specs.Words.{word_at}
use Rattle.language_theory.specs.Representatives.{IsPlaceOf}
use Rattle.language_theory.specs.ShortlexGraph.{target, SameNode, IsGraphOf}
use Rattle.language_theory.specs.Links.{IsPrefixLink}
use Rattle.language_theory.proofs.Shortlex.{over_append}
use Rattle.language_theory.proofs.Congruences.{agree_itself, right_congruence}
use Rattle.language_theory.proofs.Links.{prefix_is_one}
use Rattle.monoid_theory.specs.Products.{IsProduct}
use Rattle.monoid_theory.proofs.Places.{product_by_first, right_of_word}
use Rattle.monoid_theory.proofs.Cayley.{graph_is_right}
use Rattle.cayley_tables.specs.CayleyGraphs.{CayleyGraphs, AreCayleyGraphs}

module _ (c : CayleyGraphs) (h : AreCayleyGraphs c) where
  own_graph : IsGraphOf c.right.letters (SameNode c.right) c.right c.words
  own_graph = record {
    letters = refl;
    shortlex = h.shortlex;
    nodes = agree_itself c.right.letters (SameNode c.right);
  }

  -- element 0 is the identity
  pub product_begins : (i : ℕ) → i < length c.words → IsProduct (SameNode c.right) c.words i 0 i
  product_begins =
      product_by_first c.right.letters (SameNode c.right) c.words h.congruence.equivalence
      h.shortlex.least

  -- the product with j is that with its prefix, followed by its last letter
  pub product_goes_on : (i j p q x a : ℕ) → a < c.right.letters
      → IsPrefixLink c.words j p x → ((y : ℕ) × IsPrefixLink c.words j y a)
      → IsProduct (SameNode c.right) c.words i p q
      → IsProduct (SameNode c.right) c.words i j (target c.right q a)
  product_goes_on i j p q x a ha link (y, last) m = record {
    left = m.left;
    right = link.whole;
    place =
        subst (λ (w : List ℕ). IsPlaceOf (SameNode c.right) c.words w (target c.right q a)) whole
        ((right_of_word c.right.letters (SameNode c.right) c.words
        (right_congruence c.right.letters (SameNode c.right) h.congruence) h.shortlex.least
        (word_at c.words i ++ word_at c.words p) q a (target c.right q a)
        (over_append c.right.letters (word_at c.words i) (word_at c.words p)
        (h.shortlex.least.over i m.left) (h.shortlex.least.over p link.prefix)) ha m.place).1
        ((graph_is_right c.right.letters (SameNode c.right) c.right c.words own_graph).edge q a
        m.place.within ha));
  }
    where
      letter : x ≡ a
      letter =
          (prefix_is_one c.right.letters (SameNode c.right) c.words h.shortlex.least j p x y a
          link last).1

      whole : (word_at c.words i ++ word_at c.words p) ++ a ∷ []
          ≡ word_at c.words i ++ word_at c.words j
      whole =
          append_assoc (word_at c.words i) (word_at c.words p) (a ∷ [])
          ∙ ap (λ (w : List ℕ). word_at c.words i ++ w)
          (ap (λ (b : ℕ). word_at c.words p ++ b ∷ []) (sym letter) ∙ sym link.splits)

-- one more cell of a row is filled
pub cell_put : (c : CayleyGraphs) (i n r : ℕ) (row : List ℕ) → ((j : ℕ) → j < n
    → IsProduct (SameNode c.right) c.words i j (slice_index row j)) → n < length row
    → IsProduct (SameNode c.right) c.words i n r → (j : ℕ) → j < n + 1
    → IsProduct (SameNode c.right) c.words i j (slice_index (slice_set row n r) j)
cell_put c i n r row h inside m j hj = by (cases_lt j n)
  where
    by : (j < n) ⊎ (n ≤ j)
        → IsProduct (SameNode c.right) c.words i j (slice_index (slice_set row n r) j)
    by (inl l) =
        subst (IsProduct (SameNode c.right) c.words i j)
        (sym (get_or-set_other row n j r 0 (λ e. absurd (omega arith)))) (h j l)
    by (inr l) =
        let last : n ≡ j = omega arith in
        subst (λ (k : ℕ). IsProduct (SameNode c.right) c.words i k
        (slice_index (slice_set row n r) k)) last
        (subst (IsProduct (SameNode c.right) c.words i n)
        (sym (get_or-set_same row n r 0 inside)) m)
