-- The least longest way down the classes of J is the longest chain.
use Rattle.std.proofs.Common.{◌≡◌, ◌≢◌, ℕ, zero, suc, ◌+◌, ◌-◌, ◌<◌, ◌≤◌, ◌⊎◌, inl, inr, List, []}
use Rattle.std.proofs.Common.{length, slice_index, refl, sym, ap, subst, arith, ◌∙◌}
use Rattle.std.proofs.lemmas.Bool.{cases_eq}
use Rattle.language_theory.specs.Words.{word_at}
use Rattle.language_theory.specs.ShortlexGraph.{SameNode}
use Rattle.language_theory.proofs.Representatives.{first_is_empty}
use Rattle.monoid_theory.specs.Green.{IsInIdeal}
use Rattle.cayley_tables.specs.CayleyGraphs.{CayleyGraphs, AreCayleyGraphs}
use Rattle.green_relations.specs.GreenClasses.{GreenClasses, AreGreens}
use Rattle.green_relations.specs.Chains.{IsBelow, IsChain, IsLongestChain}
use Rattle.simon_bound.specs.Steps.{AreSteps}
use Rattle.simon_bound.specs.Heights.{Falls, one, more, IsAcyclic, AreHeights, IsDescent}
use Rattle.simon_bound.proofs.FallingPaths.{leads_within}
use Rattle.simon_bound.proofs.ClassGraph.{label_least, leads_under, ideal_falls}
use Rattle.simon_bound.proofs.ClassGraph.{below_falls, IsOneOrFalls}

-- along a path from a node with a height all nodes have heights, and these fall
pub heights_fall : (n : ℕ) (starts nodes heights : List ℕ) (c t : ℕ) → IsAcyclic n starts nodes
    → AreHeights n starts nodes heights → c < n → 0 < slice_index heights c
    → Falls starts nodes c t
    → (0 < slice_index heights t) × (slice_index heights t < slice_index heights c)
heights_fall n starts nodes heights c t a h b p (one l) = h.falls c t b p l
heights_fall n starts nodes heights c t a h b p (more z l f) =
    let first = h.falls c z b p l in
    let rest = heights_fall n starts nodes heights z t a h (leads_within n starts nodes c z a b l)
    first.0 f in
    (rest.0, omega (arith, first.1, rest.1))

module _ (c : CayleyGraphs) (h : AreCayleyGraphs c) (g : GreenClasses)
    (a : AreGreens c.right.letters (SameNode c.right) c.words g) (starts nodes : List ℕ)
    (s : AreSteps c g.j (length c.words) starts nodes)
    (d : IsAcyclic (length c.words) starts nodes) (heights : List ℕ)
    (t : AreHeights (length c.words) starts nodes heights)
    (first : 0 < slice_index heights 0) where
  -- each element is in the ideal of the empty word
  below_first : (x : ℕ) → x < length c.words
      → IsInIdeal c.right.letters (SameNode c.right) (word_at c.words x) (word_at c.words 0)
  below_first x b =
      subst (λ (z : List ℕ). IsInIdeal c.right.letters (SameNode c.right) (word_at c.words x) z)
      (sym (first_is_empty c.right.letters (SameNode c.right) c.words h.shortlex.least
      h.congruence.equivalence)) ([], word_at c.words x, tt, h.shortlex.least.over x b, refl)

  first_label : slice_index g.j 0 ≡ 0
  first_label = omega (arith, label_least c h g a starts nodes s 0 d.some)

  -- each class has a height, and none is greater than that of the first one
  has_height : (x : ℕ) → x < length c.words
      → (0 < slice_index heights (slice_index g.j x))
      × (slice_index heights (slice_index g.j x) ≤ slice_index heights 0)
  has_height x b = by (ideal_falls c h g a starts nodes s 0 x d.some b (below_first x b))
    where
      by : IsOneOrFalls starts nodes (slice_index g.j 0) (slice_index g.j x)
          → (0 < slice_index heights (slice_index g.j x))
          × (slice_index heights (slice_index g.j x) ≤ slice_index heights 0)
      by (inl e) =
          let same : slice_index heights (slice_index g.j x) ≡ slice_index heights 0 =
          ap (λ (z : ℕ). slice_index heights z) (sym e ∙ first_label) in
          (omega (arith, first, same), omega (arith, same))
      by (inr f) =
          let from : Falls starts nodes 0 (slice_index g.j x) =
          subst (λ (z : ℕ). Falls starts nodes z (slice_index g.j x)) first_label f in
          let low = heights_fall (length c.words) starts nodes heights 0 (slice_index g.j x) d t
          d.some first from in
          (low.0, omega (arith, low.1))

  -- a chain and the heights of its classes
  module _ (o : List ℕ) (r : IsChain c.right.letters (SameNode c.right) c.words o) where
    height : ℕ → ℕ
    height i = slice_index heights (slice_index g.j (slice_index o i))

    steps_down : (i : ℕ) → i + 1 < length o
        → slice_index heights (slice_index g.j (slice_index o (i + 1)))
        < slice_index heights (slice_index g.j (slice_index o i))
    steps_down i b =
        let x = slice_index o i in
        let y = slice_index o (i + 1) in
        let bx : x < length c.words = r.within i (omega arith) in
        let by : y < length c.words = r.within (i + 1) b in
        let f = below_falls c h g a starts nodes s x y bx by (r.falls i b) in
        (heights_fall (length c.words) starts nodes heights (slice_index g.j x)
        (slice_index g.j y) d t (a.j.within x bx) (has_height x bx).0 f).1

    height_above : (i : ℕ) → i < length o
        → slice_index heights (slice_index g.j (slice_index o i)) + i ≤ slice_index heights 0
    height_above zero b = omega (arith, (has_height (slice_index o 0) (r.within 0 b)).1)
    height_above (suc i) b =
        let next : i + 1 ≡ suc i = omega arith in
        let low : slice_index heights (slice_index g.j (slice_index o (suc i)))
        < slice_index heights (slice_index g.j (slice_index o i)) =
        subst (λ (z : ℕ). slice_index heights (slice_index g.j (slice_index o z))
        < slice_index heights (slice_index g.j (slice_index o i))) next
        (steps_down i (omega arith)) in
        omega (arith, low, height_above i (omega arith))

    height_below : (e i : ℕ) → i + e + 1 ≡ length o
        → e + 1 ≤ slice_index heights (slice_index g.j (slice_index o i))
    height_below zero i q =
        omega (arith, (has_height (slice_index o i) (r.within i (omega arith))).0)
    height_below (suc e) i q =
        omega (arith, steps_down i (omega arith), height_below e (i + 1) (omega arith))

    pub chain_short : length o ≤ slice_index heights 0
    chain_short =
        let last : length o - 1 < length o = omega (arith, r.some) in
        omega (
          arith,
          r.some,
          height_above (length o - 1) last,
          (has_height (slice_index o (length o - 1)) (r.within (length o - 1) last)).0,
        )

    -- in a chain of the greatest length the heights fall by one
    pub chain_height : length o ≡ slice_index heights 0 → (i : ℕ) → i < length o
        → slice_index heights (slice_index g.j (slice_index o i)) + i ≡ slice_index heights 0
    chain_height e i b = omega (
      arith,
      e,
      height_above i b,
      height_below (length o - 1 - i) i (omega arith),
    )

  module _ (path : List ℕ) (p : IsDescent (length c.words) starts nodes heights path)
      (whole : length path ≡ slice_index heights 0) where
    descent_falls : (i : ℕ) → i + 1 < length path
        → IsBelow c.right.letters (SameNode c.right) (word_at c.words (slice_index path (i + 1)))
        (word_at c.words (slice_index path i))
    descent_falls i b =
        (leads_under c h g a starts nodes s (slice_index path i) (slice_index path (i + 1))
        (p.within i (omega arith)) (p.leads i b)).below

    is_chain : IsChain c.right.letters (SameNode c.right) c.words path
    is_chain = record {
      some = p.some;
      within = p.within;
      falls = descent_falls;
    }

    path_label : (i : ℕ) → i < length path
        → slice_index g.j (slice_index path i) ≡ slice_index path i
    path_label i b = elim (cases_eq i 0) [
      | inl e ↦ subst (λ (z : ℕ). slice_index g.j z ≡ z)
          (sym (ap (λ (z : ℕ). slice_index path z) e ∙ p.first)) first_label
      | inr o ↦ subst (λ (z : ℕ). slice_index g.j (slice_index path z) ≡ slice_index path z)
          (before i o) (leads_under c h g a starts nodes s (slice_index path (i - 1))
          (slice_index path (i - 1 + 1)) (p.within (i - 1) (omega arith))
          (p.leads (i - 1) (omega arith))).own
    ]
      where
        before : (i : ℕ) → i ≢ 0 → i - 1 + 1 ≡ i
        before i o = omega arith

    -- where two chains of the greatest length part, the descent has the smaller element
    least_at : (o : List ℕ) (j : ℕ) → IsChain c.right.letters (SameNode c.right) c.words o
        → length o ≡ length path → j + 1 < length path → slice_index o j ≡ slice_index path j
        → slice_index path (j + 1) ≤ slice_index o (j + 1)
    least_at o j r e b same = by falls
      where
        x : ℕ
        x = slice_index path j

        y : ℕ
        y = slice_index g.j (slice_index o (j + 1))

        bx : slice_index path j < length c.words
        bx = p.within j (omega arith)

        y_in : slice_index o (j + 1) < length c.words
        y_in = r.within (j + 1) (omega arith)

        falls : Falls starts nodes (slice_index path j) (slice_index g.j (slice_index o (j + 1)))
        falls = subst (λ (z : ℕ). Falls starts nodes z (slice_index g.j (slice_index o (j + 1))))
            (ap (λ (z : ℕ). slice_index g.j z) same ∙ path_label j (omega arith))
            (below_falls c h g a starts nodes s (slice_index o j) (slice_index o (j + 1))
            (r.within j (omega arith)) y_in (r.falls j (omega arith)))

        tall : slice_index heights (slice_index g.j (slice_index o (j + 1))) + (j + 1)
            ≡ slice_index heights 0
        tall = chain_height o r (e ∙ whole) (j + 1) (omega arith)

        by : Falls starts nodes (slice_index path j) (slice_index g.j (slice_index o (j + 1)))
            → slice_index path (j + 1) ≤ slice_index o (j + 1)
        by (one l) = omega (
          arith,
          p.least j (slice_index g.j (slice_index o (j + 1))) b l tall,
          label_least c h g a starts nodes s (slice_index o (j + 1)) y_in,
        )
        by (more z l f) =
            let up : 0 < slice_index heights (slice_index path j) =
            omega (arith, p.height j (omega arith), whole) in
            let step = t.falls (slice_index path j) z bx up l in
            let rest = heights_fall (length c.words) starts nodes heights z
            (slice_index g.j (slice_index o (j + 1))) d t
            (leads_within (length c.words) starts nodes (slice_index path j) z d bx l) step.0 f in
            absurd (omega (arith, step.1, rest.1, tall, p.height j (omega arith)))

    pub descent_is_longest : IsLongestChain c.right.letters (SameNode c.right) c.words path
    descent_is_longest = record {
      is = is_chain;
      most = λ o r. omega (arith, chain_short o r, whole);
      least = λ o i r e b same. least o i r e b same (cases_eq i 0);
    }
      where
        least : (o : List ℕ) (i : ℕ) → IsChain c.right.letters (SameNode c.right) c.words o
            → length o ≡ length path → i < length path
            → ((m : ℕ) → m < i → slice_index o m ≡ slice_index path m) → (i ≡ 0) ⊎ (i ≢ 0)
            → slice_index path i ≤ slice_index o i
        least o i r e b same (inl z) =
            omega (arith, p.first, ap (λ (q : ℕ). slice_index path q) z)
        least o i r e b same (inr z) =
            let before : i - 1 + 1 ≡ i = omega arith in
            subst (λ (q : ℕ). slice_index path q ≤ slice_index o q) before
            (least_at o (i - 1) r e (omega arith) (same (i - 1) (omega arith)))
