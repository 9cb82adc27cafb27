-- The element of a word between two others.
use Rattle.std.proofs.Common.{◌≡◌, ◌↔◌, ℕ, ◌<◌, Bool, IsTrue, List, [], ◌∷◌, ◌++◌, length, refl, ap, sym, subst, subst₂, ◌∙◌, arith}
use Rattle.std.specs.Prelude.{Option, None, MatchOption}
use Rattle.language_theory.specs.Words.{Over, word_at}
use Rattle.language_theory.specs.Representatives.{IsPlaceOf}
use Rattle.language_theory.specs.ShortlexGraph.{Graph, target, node, SameNode, IsShortlex}
use Rattle.language_theory.proofs.Shortlex.{over_append}
use Rattle.language_theory.specs.Automaton.{is_marked}
use Rattle.language_theory.specs.Congruence.{Syntactic}
use Rattle.language_theory.proofs.Congruences.{agree_itself, syntactic_congruence, syntactic_equivalence}
use Rattle.language_theory.proofs.Representatives.{listed_apart}
use Rattle.monoid_theory.specs.Products.{IsProduct}
use Rattle.monoid_theory.proofs.Cayley.{graph_is_right}
use Rattle.cayley_tables.specs.CayleyGraphs.{CayleyGraphs, AreCayleyGraphs}
use Rattle.cayley_tables.proofs.AgreeingGraphs.{graphs_are_cayley}
use Rattle.syntactic_monoid.specs.SyntacticMonoid.{SyntacticMonoid, recognised, IsSyntactic}

-- the place of a word is its node
pub place_is_node : (g : Graph) (words : List (List ℕ)) → IsShortlex g words → (w : List ℕ) (r : ℕ)
    → IsPlaceOf (SameNode g) words w r → r ≡ node g w
place_is_node g words s w r at =
    sym (s.leads r (let e = s.long in let h = at.within in omega arith)) ∙ at.related

-- the graphs of a syntactic monoid are those of a monoid
pub syntactic_graphs : (m : SyntacticMonoid) → IsSyntactic m → AreCayleyGraphs m.graphs
syntactic_graphs m h =
    let k = m.graphs.right.letters in
    graphs_are_cayley k (Syntactic k (recognised m)) (syntactic_congruence k (recognised m))
    m.graphs h.monoid.graphs

-- p and f are the elements of u and v, and r is the product of p with that of i and f
pub record IsBetween (c : CayleyGraphs) (u v : List ℕ) (i p f m r : ℕ) : Type 0 where
  pub before : p ≡ node c.right u
  pub behind : f ≡ node c.right v
  pub inner : IsProduct (SameNode c.right) c.words i f m
  pub outer : IsProduct (SameNode c.right) c.words p m r

module _ (c : CayleyGraphs) (h : AreCayleyGraphs c) where
  -- the edges of the right graph lead to the places of products with letters
  pub right_place : (i a : ℕ) → i < length c.words → a < c.right.letters
      → IsPlaceOf (SameNode c.right) c.words (word_at c.words i ++ a ∷ []) (target c.right i a)
  right_place i a hi ha =
      ((graph_is_right c.right.letters (SameNode c.right) c.right c.words
      (record {
        letters = refl;
        shortlex = h.shortlex;
        nodes = agree_itself c.right.letters (SameNode c.right);
      })).edge i a hi ha).place

  -- so r is the element of the three words
  node_between : (u v : List ℕ) (i p f m r : ℕ) → Over c.right.letters u
      → Over c.right.letters v → i < length c.words → IsBetween c u v i p f m r
      → r ≡ node c.right (u ++ (word_at c.words i ++ v))
  node_between u v i p f m r ou ov hi b =
      place_is_node c.right c.words h.shortlex (word_at c.words p ++ word_at c.words m) r
      b.outer.place
      ∙ (h.congruence.left (word_at c.words m) (s ++ v) (word_at c.words p) om
      (over_append k s v os ov) op same_m
      ∙ h.congruence.right (word_at c.words p) u (s ++ v) op ou (over_append k s v os ov) same_p)
    where
      k : ℕ
      k = c.right.letters

      s : List ℕ
      s = word_at c.words i

      os : Over k s
      os = h.shortlex.least.over i hi

      om : Over k (word_at c.words m)
      om = h.shortlex.least.over m b.inner.place.within

      op : Over k (word_at c.words p)
      op = h.shortlex.least.over p b.outer.left

      leads : (j : ℕ) → j < length c.words → node c.right (word_at c.words j) ≡ j
      leads j l = h.shortlex.leads j (let e = h.shortlex.long in omega arith)

      same_p : SameNode c.right (word_at c.words p) u
      same_p = leads p b.outer.left ∙ b.before

      same_f : SameNode c.right (word_at c.words f) v
      same_f = leads f b.inner.right ∙ b.behind

      same_m : SameNode c.right (word_at c.words m) (s ++ v)
      same_m =
          b.inner.place.related
          ∙ h.congruence.left (word_at c.words f) v s (h.shortlex.least.over f b.inner.right) ov os
          same_f

-- whether an element is accepted between two words, found in equal graphs
pub accepted_between : (m : SyntacticMonoid) → IsSyntactic m → (c : CayleyGraphs) → c ≡ m.graphs
    → (u v : List ℕ) (i p f n r : ℕ) (b : Bool) → Over m.graphs.right.letters u
    → Over m.graphs.right.letters v → i < length m.graphs.words → IsBetween c u v i p f n r
    → b ≡ is_marked m.accepted r
    → IsTrue b ↔ recognised m (u ++ (word_at m.graphs.words i ++ v))
accepted_between m h c e u v i p f n r b ou ov hi at marked =
    let same : b ≡ is_marked m.accepted
    (node m.graphs.right (u ++ (word_at m.graphs.words i ++ v))) =
    marked ∙ ap (is_marked m.accepted)
    (node_between m.graphs (syntactic_graphs m h) u v i p f n r ou ov hi
    (subst (λ (g : CayleyGraphs). IsBetween g u v i p f n r) e at)) in
    (λ t. sym same ∙ t, λ t. same ∙ t)

-- elements whose words are congruent are equal
congruent_elements : (m : SyntacticMonoid) → IsSyntactic m → (i j : ℕ)
    → i < length m.graphs.words → j < length m.graphs.words
    → Syntactic m.graphs.right.letters (recognised m) (word_at m.graphs.words i)
    (word_at m.graphs.words j) → i ≡ j
congruent_elements m h i j hi hj e =
    let k = m.graphs.right.letters in
    listed_apart k (Syntactic k (recognised m)) m.graphs.words h.monoid.graphs.words
    (syntactic_equivalence k (recognised m)) i j hi hj e

pub congruent_elements_by_words : (m : SyntacticMonoid) → IsSyntactic m → (i j : ℕ)
    (s t : List ℕ) → i < length m.graphs.words → j < length m.graphs.words
    → s ≡ word_at m.graphs.words i → t ≡ word_at m.graphs.words j
    → Syntactic m.graphs.right.letters (recognised m) s t → i ≡ j
congruent_elements_by_words m h i j s t hi hj e f r =
    congruent_elements m h i j hi hj
    (subst₂ (Syntactic m.graphs.right.letters (recognised m)) e f r)

pub none_matches : {A : Type 0} (o : Option A) (P : Type 0) (Q : A → Type 0) → o ≡ None
    → MatchOption o P Q → P
none_matches o P Q e h = subst (λ r. MatchOption r P Q) e h

-- the word of an element, found in equal graphs
pub word_in : (m : SyntacticMonoid) (c : CayleyGraphs) → c ≡ m.graphs → (i : ℕ) (w : List ℕ)
    → w ≡ word_at c.words i → w ≡ word_at m.graphs.words i
word_in m c e i w f = f ∙ ap (λ (g : CayleyGraphs). word_at g.words i) e

pub over_in : (m : SyntacticMonoid) (c : CayleyGraphs) → c ≡ m.graphs → (w : List ℕ)
    → Over c.right.letters w → Over m.graphs.right.letters w
over_in m c e w o = subst (λ (g : CayleyGraphs). Over g.right.letters w) e o
