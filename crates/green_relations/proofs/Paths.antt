-- Paths in the Cayley graphs of a finite monoid, and its ideals.
use Rattle.std.proofs.Common.{◌≡◌, ◌↔◌, ℕ, ◌+◌, ◌*◌, ◌/◌, ◌%◌, ◌<◌, List, All, length, slice_index}
use Rattle.std.proofs.Common.{refl, sym, ap, subst, arith, ◌∙◌}
use Rattle.std.proofs.lemmas.Nat.{div-add-mod'}
use Rattle.std.proofs.lemmas.List.Elements.{All-from_get_or}
use Rattle.language_theory.specs.Words.{Over, word_at}
use Rattle.language_theory.specs.ShortlexGraph.{Graph, walk, SameNode, IsGraphOf}
use Rattle.language_theory.proofs.Congruences.{agree_itself, right_congruence}
use Rattle.language_theory.proofs.Graphs.{row_of, row_positive}
use Rattle.monoid_theory.specs.Green.{IsInRightIdeal, IsInLeftIdeal, IsInIdeal, IsR, IsL, IsJ}
use Rattle.monoid_theory.specs.Products.{IsRightGraph}
use Rattle.monoid_theory.proofs.Cayley.{graph_is_right, right_ideal_walks, left_ideal_walks}
use Rattle.monoid_theory.proofs.Cayley.{ideal_walks}
use Rattle.monoid_theory.proofs.Ideals.{in_ideal_itself, in_ideal_through, right_in_ideal}
use Rattle.monoid_theory.proofs.Ideals.{left_in_ideal}
use Rattle.cayley_tables.specs.CayleyGraphs.{CayleyGraphs, AreCayleyGraphs}
use Rattle.components.specs.Components.{Reach, here, step, IsGraph, AreComponents, target}
use Rattle.components.specs.Search.{IsWithin}
use Rattle.components.specs.Beside.{AreBoth}
use Rattle.components.proofs.Paths.{then, stays_within}
use Rattle.components.proofs.Changes.{graph_within}
use Rattle.components.proofs.Classes.{reach_from_walk, walk_from_reach}
use Rattle.components.proofs.Beside.{from_first, from_second, by_either}
use Rattle.green_relations.specs.GreenClasses.{AreLeastMates}
use Rattle.green_relations.proofs.Mates.{component_mates}

-- what a walk leads to is what a path leads to
walks_are_paths : (g : Graph) (x y : ℕ) → ((w : List ℕ) × Over g.letters w × (walk g x w ≡ y))
    ↔ Reach g.letters (target g.letters g.targets) x y
walks_are_paths g x y = (
  λ h. subst (λ (z : ℕ). Reach g.letters (target g.letters g.targets) x z) h.2
      (reach_from_walk (walk g) (Over g.letters) (λ z. refl) (λ z a w. refl) (λ a w o. o)
      h.0 x h.1),
  λ p. walk_from_reach (walk g) (Over g.letters) (λ z. refl) (λ z a w. refl) tt
      (λ a w ha o. (ha, o)) p,
)

module _ (c : CayleyGraphs) (h : AreCayleyGraphs c) where
  own_graph : IsGraphOf c.right.letters (SameNode c.right) c.right c.words
  own_graph = record {
    letters = refl;
    shortlex = h.shortlex;
    nodes = agree_itself c.right.letters (SameNode c.right);
  }

  right_is_right : IsRightGraph c.right.letters (SameNode c.right) c.words c.right
  right_is_right = graph_is_right c.right.letters (SameNode c.right) c.right c.words own_graph

  pub right_graph : IsGraph (length c.words) c.right.letters c.right.targets
  right_graph = record {
    long = h.shortlex.graph.long ∙ ap (λ (n : ℕ). n * c.right.letters) (sym h.shortlex.long);
    within = subst (λ (n : ℕ). All (λ t. t < n) c.right.targets) (sym h.shortlex.long)
        h.shortlex.graph.within;
  }

  pub left_graph : IsGraph (length c.words) c.right.letters c.left.targets
  left_graph = record {
    long = long;
    within = All-from_get_or (λ t. t < length c.words) c.left.targets 0 within;
  }
    where
      k : ℕ
      k = c.right.letters

      long : length c.left.targets ≡ length c.words * c.right.letters
      long = h.left.long ∙ (ap (λ (n : ℕ). n * c.left.letters) h.left.size
          ∙ ap (λ (n : ℕ). length c.words * n) h.left.letters)

      within : (p : ℕ) → p < length c.left.targets → slice_index c.left.targets p < length c.words
      within p hp =
          let in_list : p < length c.words * k = omega (arith, long) in
          let some : 0 < k = row_positive (length c.words) k p in_list in
          let split : p / k * k + p % k ≡ p = div-add-mod' p k in
          let row : p / k < length c.words = row_of p (p / k) (p % k) (length c.words) k split
          in_list in
          let column : p % k < k = omega arith in
          let at : p / k * c.left.letters + p % k ≡ p =
          ap (λ (n : ℕ). p / k * n + p % k) h.left.letters ∙ split in
          subst (λ (q : ℕ). slice_index c.left.targets q < length c.words) at
          (h.left.edge (p / k) (p % k) row column).place.within

  -- a path in the right graph leads into the right ideal
  pub right_paths : (i m : ℕ) → i < length c.words → m < length c.words
      → IsInRightIdeal c.right.letters (SameNode c.right) (word_at c.words m) (word_at c.words i)
      ↔ Reach c.right.letters (target c.right.letters c.right.targets) i m
  right_paths i m hi hm =
      let walks = right_ideal_walks c.right.letters (SameNode c.right) c.words
      (right_congruence c.right.letters (SameNode c.right) h.congruence) h.shortlex.least c.right
      right_is_right i m hi hm in
      let paths = walks_are_paths c.right i m in
      (λ p. paths.0 (walks.0 p), λ p. walks.1 (paths.1 p))

  left_walks : (x y : ℕ) → ((w : List ℕ) × Over c.right.letters w × (walk c.left x w ≡ y))
      ↔ Reach c.right.letters (target c.right.letters c.left.targets) x y
  left_walks x y = subst (λ (k : ℕ). ((w : List ℕ) × Over k w × (walk c.left x w ≡ y))
      ↔ Reach k (target k c.left.targets) x y) h.left.letters (walks_are_paths c.left x y)

  -- a path in the left graph leads into the left ideal
  pub left_paths : (i m : ℕ) → i < length c.words → m < length c.words
      → IsInLeftIdeal c.right.letters (SameNode c.right) (word_at c.words m) (word_at c.words i)
      ↔ Reach c.right.letters (target c.right.letters c.left.targets) i m
  left_paths i m hi hm =
      let walks = left_ideal_walks c.right.letters (SameNode c.right) c.words h.congruence
      h.shortlex.least c.left h.left i m hi hm in
      let paths = left_walks i m in
      (λ p. paths.0 (walks.0 p), λ p. walks.1 (paths.1 p))

  module _ (both : List ℕ)
      (b : AreBoth (length c.words) c.right.letters c.right.letters c.right.targets c.left.targets
      both) where
    right_within : IsWithin (length c.words) c.right.letters
        (target c.right.letters c.right.targets)
    right_within = graph_within right_graph

    left_within : IsWithin (length c.words) c.right.letters
        (target c.right.letters c.left.targets)
    left_within = graph_within left_graph

    -- m is a place, and its word is in the ideal of the word at i
    abbrev LeadsInto : ℕ → ℕ → Type 0
    LeadsInto i m = m < length c.words → IsInIdeal c.right.letters (SameNode c.right)
        (word_at c.words m) (word_at c.words i)

    over : (i : ℕ) → i < length c.words → Over c.right.letters (word_at c.words i)
    over = h.shortlex.least.over

    -- one step and then a path lead into the ideal
    through : (i z m : ℕ) → i < length c.words → z < length c.words
        → IsInIdeal c.right.letters (SameNode c.right) (word_at c.words z) (word_at c.words i)
        → LeadsInto z m → LeadsInto i m
    through i z m hi hz first rest hm = in_ideal_through c.right.letters (SameNode c.right)
        h.congruence (word_at c.words m) (word_at c.words z) (word_at c.words i) (over m hm)
        (over z hz) (over i hi) (rest hm) first

    by_right : (i a m : ℕ) → i < length c.words → a < c.right.letters
        → LeadsInto (target c.right.letters c.right.targets i a) m → LeadsInto i m
    by_right i a m hi ha rest =
        let z = target c.right.letters c.right.targets i a in
        let hz : z < length c.words = right_within.within i a hi ha in
        through i z m hi hz (right_in_ideal c.right.letters (SameNode c.right) (word_at c.words z)
        (word_at c.words i) ((right_paths i z hi hz).1 (step a ha here))) rest

    by_left : (i a m : ℕ) → i < length c.words → a < c.right.letters
        → LeadsInto (target c.right.letters c.left.targets i a) m → LeadsInto i m
    by_left i a m hi ha rest =
        let z = target c.right.letters c.left.targets i a in
        let hz : z < length c.words = left_within.within i a hi ha in
        through i z m hi hz (left_in_ideal c.right.letters (SameNode c.right) (word_at c.words z)
        (word_at c.words i) ((left_paths i z hi hz).1 (step a ha here))) rest

    -- a path in both graphs leads into the two-sided ideal
    pub both_paths : (i m : ℕ) → i < length c.words → m < length c.words
        → IsInIdeal c.right.letters (SameNode c.right) (word_at c.words m) (word_at c.words i)
        ↔ Reach (c.right.letters + c.right.letters)
        (target (c.right.letters + c.right.letters) both) i m
    both_paths i m hi hm = (to, from)
      where
        to : IsInIdeal c.right.letters (SameNode c.right) (word_at c.words m) (word_at c.words i)
            → Reach (c.right.letters + c.right.letters)
            (target (c.right.letters + c.right.letters) both) i m
        to p =
            let (x, y, ox, oy, e) = (ideal_walks c.right.letters (SameNode c.right) c.words
            h.congruence h.shortlex.least c.right c.left right_is_right h.left i m hi hm).0 p in
            let z = walk c.right i x in
            let first : Reach c.right.letters (target c.right.letters c.right.targets) i z =
            (walks_are_paths c.right i z).0 (x, ox, refl) in
            let hz : z < length c.words = stays_within right_within first hi in
            let second : Reach c.right.letters (target c.right.letters c.left.targets) z m =
            (left_walks z m).0 (y, oy, e) in
            then (from_first b.rows right_within first hi)
            (from_second b.rows left_within second hz)

        from : Reach (c.right.letters + c.right.letters)
            (target (c.right.letters + c.right.letters) both) i m
            → IsInIdeal c.right.letters (SameNode c.right) (word_at c.words m) (word_at c.words i)
        from p = by_either b.rows right_within left_within LeadsInto
            (λ v hv. in_ideal_itself c.right.letters (SameNode c.right) h.congruence.equivalence
            (word_at c.words v) (over v hv)) by_right by_left p hi hm

  pub r_mates : (labels : List ℕ)
      → AreComponents (length c.words) c.right.letters c.right.targets labels
      → AreLeastMates (IsR c.right.letters (SameNode c.right)) c.words labels
  r_mates labels a = component_mates c.words c.right.letters c.right.targets labels
      (IsInRightIdeal c.right.letters (SameNode c.right)) right_graph a right_paths

  pub l_mates : (labels : List ℕ)
      → AreComponents (length c.words) c.right.letters c.left.targets labels
      → AreLeastMates (IsL c.right.letters (SameNode c.right)) c.words labels
  l_mates labels a = component_mates c.words c.right.letters c.left.targets labels
      (IsInLeftIdeal c.right.letters (SameNode c.right)) left_graph a left_paths

  pub j_mates : (both labels : List ℕ)
      → AreBoth (length c.words) c.right.letters c.right.letters c.right.targets c.left.targets both
      → AreComponents (length c.words) (c.right.letters + c.right.letters) both labels
      → AreLeastMates (IsJ c.right.letters (SameNode c.right)) c.words labels
  j_mates both labels b a = component_mates c.words (c.right.letters + c.right.letters) both labels
      (IsInIdeal c.right.letters (SameNode c.right)) b.graph a (both_paths both b)
