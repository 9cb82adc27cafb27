-- The graphs of a relation that agrees with "leads to the same element", and those of a congruence.
use Rattle.std.proofs.Common.{◌≡◌, ℕ, ◌+◌, ◌*◌, ◌/◌, ◌%◌, ◌<◌, List, ◌∷◌, ◌++◌, length, slice_index, refl, ap, sym, subst, ◌∙◌, arith}
use Rattle.std.proofs.lemmas.Nat.{div-add-mod'}
use Rattle.std.proofs.lemmas.List.{ext_get_or}
use Rattle.language_theory.specs.Words.{word_at}
use Rattle.language_theory.specs.Congruence.{IsCongruence, Agree}
use Rattle.language_theory.specs.Representatives.{AreRepresentatives}
use Rattle.language_theory.specs.ShortlexGraph.{Graph, target, SameNode, IsGraphOf}
use Rattle.language_theory.proofs.Shortlex.{over_append}
use Rattle.language_theory.proofs.Congruences.{right_congruence, agree_turned}
use Rattle.language_theory.proofs.Representatives.{place_is_one, agreeing_list, agreeing_equivalence}
use Rattle.language_theory.proofs.Graphs.{row_of, row_positive, one_graph}
use Rattle.monoid_theory.specs.Products.{IsProduct, IsLeftGraph}
use Rattle.monoid_theory.proofs.Agreeing.{agreeing_place}
use Rattle.monoid_theory.proofs.Cayley.{graph_is_right}
use Rattle.monoid_theory.proofs.RightGraphs.{right_is_graph}
use Rattle.cayley_tables.specs.CayleyGraphs.{CayleyGraphs, AreCayleyGraphs, AreGraphsOf}

module _ (k : ℕ) (same alike : List ℕ → List ℕ → Type 0) (words : List (List ℕ))
    (a : Agree k same alike)
    (l : AreRepresentatives k same words) where
  agreeing_left_graph : (g : Graph) → IsLeftGraph k same words g → IsLeftGraph k alike words g
  agreeing_left_graph g h = record {
    size = h.size;
    letters = h.letters;
    long = h.long;
    edge = λ i b hi hb. let e = h.edge i b hi hb in record {
      within = e.within;
      place = agreeing_place k same alike a words l.over (b ∷ word_at words i) (target g i b)
          (hb, l.over i hi) e.place;
    };
  }

  pub agreeing_product : (i j r : ℕ) → IsProduct same words i j r → IsProduct alike words i j r
  agreeing_product i j r p = record {
    left = p.left;
    right = p.right;
    place = agreeing_place k same alike a words l.over (word_at words i ++ word_at words j) r
        (over_append k (word_at words i) (word_at words j) (l.over i p.left) (l.over j p.right))
        p.place;
  }

-- the graphs of a relation that agrees
pub agreeing_graphs : (same : List ℕ → List ℕ → Type 0) (c : CayleyGraphs) → AreCayleyGraphs c
    → Agree c.right.letters (SameNode c.right) same → AreGraphsOf c.right.letters same c
agreeing_graphs same c h a = record {
  words = agreeing_list c.right.letters (SameNode c.right) same a c.words h.shortlex.least;
  right = graph_is_right c.right.letters same c.right c.words
      (record { letters = refl; shortlex = h.shortlex; nodes = a });
  left = agreeing_left_graph c.right.letters
      (SameNode c.right) same c.words a h.shortlex.least c.left h.left;
}

module _ (k : ℕ) (same : List ℕ → List ℕ → Type 0) (q : IsCongruence k same) where
  pub right_graph_of : (c : CayleyGraphs) → AreGraphsOf k same c → IsGraphOf k same c.right c.words
  right_graph_of c h =
      right_is_graph k same c.words (right_congruence k same q) h.words c.right h.right

  pub graphs_agree : (c : CayleyGraphs) → AreGraphsOf k same c → Agree k (SameNode c.right) same
  graphs_agree c h = (right_graph_of c h).nodes

  pub agreeing_congruence : (other : List ℕ → List ℕ → Type 0) → Agree k same other
      → IsCongruence k other
  agreeing_congruence other a = record {
    equivalence = agreeing_equivalence k same other a q.equivalence;
    right = λ u v w ou ov ow e.
        (a.both (u ++ w) (v ++ w) (over_append k u w ou ow) (over_append k v w ov ow)).0
        (q.right u v w ou ov ow ((a.both u v ou ov).1 e));
    left = λ u v w ou ov ow e.
        (a.both (w ++ u) (w ++ v) (over_append k w u ow ou) (over_append k w v ow ov)).0
        (q.left u v w ou ov ow ((a.both u v ou ov).1 e));
  }

  pub graphs_are_cayley : (c : CayleyGraphs) → AreGraphsOf k same c → AreCayleyGraphs c
  graphs_are_cayley c h =
      let g = right_graph_of c h in
      let back = agree_turned k (SameNode c.right) same g.nodes in
      record {
        shortlex = g.shortlex;
        congruence =
            subst (λ (n : ℕ). IsCongruence n (SameNode c.right)) (sym g.letters)
            (agreeing_congruence (SameNode c.right) back);
        left = subst (λ (n : ℕ). IsLeftGraph n (SameNode c.right) c.words c.left) (sym g.letters)
            (agreeing_left_graph k same (SameNode c.right) c.words back h.words c.left h.left);
      }

-- the left graph of a relation is one
module _ (k : ℕ) (same : List ℕ → List ℕ → Type 0) (words : List (List ℕ)) (g h : Graph)
    (a : IsLeftGraph k same words g) (b : IsLeftGraph k same words h) where
  targets_alike : (i c : ℕ) → i < length words → c < k → target g i c ≡ target h i c
  targets_alike i c hi hc =
      place_is_one same words (c ∷ word_at words i) (target g i c) (target h i c)
      (a.edge i c hi hc).place
      (b.edge i c hi hc).place

  targets_equal : g.targets ≡ h.targets
  targets_equal = ext_get_or 0 g.targets h.targets long at
    where
      long : length g.targets ≡ length h.targets
      long =
          a.long ∙ (ap (λ n. n * g.letters) (a.size ∙ sym b.size)
          ∙ (ap (λ n. h.size * n) (a.letters ∙ sym b.letters) ∙ sym b.long))

      at : (p : ℕ) → p < length g.targets → slice_index g.targets p ≡ slice_index h.targets p
      at p l =
          let n = g.letters in
          let in_list : p < g.size * n = (let d = a.long in omega arith) in
          let some : 0 < n = row_positive g.size n p in_list in
          let split : p / n * n + p % n ≡ p = div-add-mod' p n in
          let row : p / n < g.size = row_of p (p / n) (p % n) g.size n split in_list in
          let column : p % n < n = omega arith in
          let alike : slice_index g.targets (p / n * g.letters + p % n)
          ≡ slice_index h.targets (p / n * h.letters + p % n) =
          targets_alike (p / n) (p % n) (let s = a.size in omega arith) (let d = a.letters in
          omega arith) in
          let split_too : p / n * h.letters + p % n ≡ p =
          ap (λ m. p / n * m + p % n) (b.letters ∙ sym a.letters) ∙ split in
          sym (ap (slice_index g.targets) split) ∙ (alike ∙ ap (slice_index h.targets) split_too)

  pub one_left_graph : g ≡ h
  one_left_graph =
      let e = a.size ∙ sym b.size in
      let f : g.letters ≡ h.letters = a.letters ∙ sym b.letters in
      let t = targets_equal in λ i. record { size = e i; letters = f i; targets = t i }

-- a congruence has at most one pair of graphs
pub graphs_are_one : (k : ℕ) (same : List ℕ → List ℕ → Type 0) (c d : CayleyGraphs)
    → IsCongruence k same
    → AreGraphsOf k same c → AreGraphsOf k same d → c ≡ d
graphs_are_one k same c d q a b =
    let both = one_graph k same c.right d.right c.words d.words (right_graph_of k same q c a)
    (right_graph_of k same q d b) in
    let r = both.0 in
    let w = both.1 in
    let l = one_left_graph k same d.words c.left d.left
    (subst (λ (ws : List (List ℕ)). IsLeftGraph k same ws c.left) w a.left) b.left in
    λ i. record { right = r i; left = l i; words = w i }
