-- The elements of the syntactic monoid as places of words.
use Rattle.std.proofs.Common.{◌≡◌, ◌↔◌, ℕ, ◌<◌, List, [], ◌∷◌, ◌++◌, length, refl, sym, subst, ◌∙◌, arith}
use Rattle.language_theory.specs.Words.{Over, word_at}
use Rattle.language_theory.specs.Congruence.{Syntactic, IsCongruence}
use Rattle.language_theory.specs.Representatives.{AreRepresentatives}
use Rattle.language_theory.specs.ShortlexGraph.{node, SameNode, IsGraphOf}
use Rattle.language_theory.proofs.Congruences.{syntactic_congruence}
use Rattle.language_theory.proofs.Shortlex.{over_append}
use Rattle.monoid_theory.specs.Products.{IsProduct}
use Rattle.monoid_theory.proofs.Agreeing.{agreeing_place}
use Rattle.cayley_tables.specs.CayleyGraphs.{CayleyGraphs}
use Rattle.parallel_table.specs.ProductTables.{ProductTable, IsTableOf, cell}
use Rattle.syntactic_monoid.specs.SyntacticMonoid.{SyntacticMonoid, IsSyntactic, IsInSemigroup, IsNonemptyWordOf, recognised}
use Rattle.syntactic_monoid.proofs.OneMonoid.{right_graph}
use Rattle.local_submonoids.specs.LocalSubmonoids.{IsIdempotentPlace}
use Rattle.local_submonoids.specs.Witness.{IsLeastNonempty}
use Rattle.local_submonoids.specs.LocalTables.{IsClosed, IsIdempotentAt, IsIdempotentElement}
use Rattle.local_submonoids.proofs.LocalTables.{IsProductTable, one_element}

-- the syntactic congruence of the language that a monoid recognises
abbrev pub congruent : SyntacticMonoid → List ℕ → List ℕ → Type 0
congruent m = Syntactic m.graphs.right.letters (recognised m)

not_empty : (w : List ℕ) → 0 < length w → ¬ (w ≡ [])
not_empty [] l e = omega arith
not_empty (a ∷ w) l e = cc

some_letter : (w : List ℕ) → ¬ (w ≡ []) → 0 < length w
some_letter [] n = absurd (n refl)
some_letter (a ∷ w) n = omega arith

-- the products of elements are elements
pub closed : (c : CayleyGraphs) (t : ProductTable) → IsTableOf c t → IsClosed t
closed c t p = record {
  within = λ i j li lj. let e = p.side in
      let place = (p.each i j li lj).place.within in
      omega arith;
}

module _ (m : SyntacticMonoid) (h : IsSyntactic m) where
  pub is_congruence : IsCongruence m.graphs.right.letters (congruent m)
  is_congruence = syntactic_congruence m.graphs.right.letters (recognised m)

  pub representatives : AreRepresentatives m.graphs.right.letters (congruent m) m.graphs.words
  representatives = h.monoid.graphs.words

  graph : IsGraphOf m.graphs.right.letters (congruent m) m.graphs.right m.graphs.words
  graph = right_graph m.graphs.right.letters (recognised m) m h.monoid

  pub element_over : (i : ℕ) → i < length m.graphs.words
      → Over m.graphs.right.letters (word_at m.graphs.words i)
  element_over = representatives.over

  leads : (i : ℕ) → i < length m.graphs.words → node m.graphs.right (word_at m.graphs.words i) ≡ i
  leads i l = let s = graph.shortlex in let e = s.long in s.leads i (omega arith)

  -- the word of i is congruent to the words that lead to i
  pub element_of : (i : ℕ) (w : List ℕ) → i < length m.graphs.words → Over m.graphs.right.letters w
      → (node m.graphs.right w ≡ i) ↔ congruent m (word_at m.graphs.words i) w
  element_of i w l o = (
    λ e. (graph.nodes.both (word_at m.graphs.words i) w (element_over i l) o).0 (leads i l ∙ sym e),
    λ s. sym ((graph.nodes.both (word_at m.graphs.words i) w (element_over i l) o).1 s) ∙ leads i l,
  )

  -- the least word of i that is not empty is the least nonempty word of its class
  pub nonempty_word_is : (i : ℕ) (x : List ℕ) → i < length m.graphs.words → IsNonemptyWordOf m i x
      → IsLeastNonempty m.graphs.right.letters (congruent m) m.graphs.words i x
  nonempty_word_is i x l w = record {
    over = w.over;
    holds = (some_letter x w.holds.0, (element_of i x l w.over).0 w.holds.1);
    least = λ v o p. w.least v o (not_empty v p.0, (element_of i v l o).1 p.1);
  }

  module _ (t : ProductTable) (p : IsTableOf m.graphs t) where
    pub product_table : IsProductTable (congruent m) m.graphs.words t
    product_table = record { side = p.side; each = each }
      where
        each : (i j : ℕ) → i < length m.graphs.words → j < length m.graphs.words
            → IsProduct (congruent m) m.graphs.words i j (cell t i j)
        each i j li lj =
            let e = p.side in
            let product = p.each i j (omega arith) (omega arith) in
            record {
              left = li;
              right = lj;
              place = agreeing_place m.graphs.right.letters (SameNode m.graphs.right) (congruent m)
                  graph.nodes m.graphs.words element_over
                  (word_at m.graphs.words i ++ word_at m.graphs.words j) (cell t i j)
                  (over_append m.graphs.right.letters (word_at m.graphs.words i)
                  (word_at m.graphs.words j) (element_over i li) (element_over j lj))
                  product.place;
            }

    -- the idempotents that have nonempty words are those of the classes
    pub idempotent_place : (e : ℕ) → e < length m.graphs.words → IsIdempotentAt m t e
        ↔ IsIdempotentPlace m.graphs.right.letters (congruent m) m.graphs.words e
    idempotent_place e l = (to, from)
      where
        w : List ℕ
        w = word_at m.graphs.words e

        o : Over m.graphs.right.letters w
        o = element_over e l

        square : congruent m (word_at m.graphs.words (cell t e e)) (w ++ w)
        square = (product_table.each e e l l).place.related

        within : cell t e e < length m.graphs.words
        within = (product_table.each e e l l).place.within

        to : IsIdempotentAt m t e
            → IsIdempotentPlace m.graphs.right.letters (congruent m) m.graphs.words e
        to (same, (v, ov, (some, leads_to))) = record {
          within = l;
          idempotent = is_congruence.equivalence.symm w (w ++ w) o
              (over_append m.graphs.right.letters w w o o)
              (subst (λ (i : ℕ). congruent m (word_at m.graphs.words i) (w ++ w)) same square);
          some = (v, ov, some_letter v some, (element_of e v l ov).0 leads_to);
        }

        from : IsIdempotentPlace m.graphs.right.letters (congruent m) m.graphs.words e
            → IsIdempotentAt m t e
        from q = (same, in_semigroup q.some)
          where
            same : IsIdempotentElement t e
            same =
                one_element m.graphs.right.letters (congruent m) is_congruence m.graphs.words
                representatives (cell t e e) e within l
                (is_congruence.equivalence.trans (word_at m.graphs.words (cell t e e)) (w ++ w) w
                (element_over (cell t e e) within) (over_append m.graphs.right.letters w w o o) o
                square q.idempotent)

            in_semigroup : (v : List ℕ) × Over m.graphs.right.letters v × (0 < length v)
                × congruent m w v → IsInSemigroup m e
            in_semigroup (v, ov, some, s) = (v, ov, (not_empty v some, (element_of e v l ov).1 s))
