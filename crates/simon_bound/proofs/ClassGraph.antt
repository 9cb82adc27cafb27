-- The graph of the classes of J: its paths lead into the ideals strictly below.
use Rattle.std.proofs.Common.{◌≡◌, ◌≢◌, ◌↔◌, ℕ, ◌<◌, ◌≤◌, ◌⊎◌, inl, inr, List, [], ◌∷◌}
use Rattle.std.proofs.Common.{length, slice_index, refl, sym, ap, subst, arith, ◌∙◌}
use Rattle.std.proofs.lemmas.Bool.{cases_eq}
use Rattle.language_theory.specs.Words.{Over, word_at}
use Rattle.language_theory.specs.ShortlexGraph.{target, walk, SameNode}
use Rattle.language_theory.proofs.Congruences.{agree_itself}
use Rattle.monoid_theory.specs.Green.{IsInIdeal}
use Rattle.monoid_theory.specs.Products.{IsRightGraph}
use Rattle.monoid_theory.proofs.Cayley.{graph_is_right, ideal_walks}
use Rattle.monoid_theory.proofs.Ideals.{in_ideal_itself, in_ideal_through, right_in_ideal}
use Rattle.monoid_theory.proofs.Ideals.{left_in_ideal}
use Rattle.cayley_tables.specs.CayleyGraphs.{CayleyGraphs, AreCayleyGraphs}
use Rattle.green_relations.specs.GreenClasses.{GreenClasses, AreGreens}
use Rattle.green_relations.specs.Chains.{IsBelow}
use Rattle.green_relations.proofs.Labels.{j_shared}
use Rattle.simon_bound.specs.Steps.{IsStep, IsStepDown, AreSteps}
use Rattle.simon_bound.specs.Heights.{Leads, Falls, one, more, IsAcyclic}
use Rattle.simon_bound.proofs.FallingPaths.{falls_then}

-- two nodes are one, or a path leads from one to the other
abbrev pub IsOneOrFalls : List ℕ → List ℕ → ℕ → ℕ → Type 0
IsOneOrFalls starts nodes p q = (p ≡ q) ⊎ Falls starts nodes p q

or_then : (starts nodes : List ℕ) (p q r : ℕ) → IsOneOrFalls starts nodes p q
    → IsOneOrFalls starts nodes q r → IsOneOrFalls starts nodes p r
or_then starts nodes p q r (inl e) f =
    subst (λ (z : ℕ). IsOneOrFalls starts nodes z r) (sym e) f
or_then starts nodes p q r (inr f) (inl e) =
    inr (subst (λ (z : ℕ). Falls starts nodes p z) e f)
or_then starts nodes p q r (inr f) (inr d) = inr (falls_then starts nodes p q r f d)

module _ (c : CayleyGraphs) (h : AreCayleyGraphs c) (g : GreenClasses)
    (a : AreGreens c.right.letters (SameNode c.right) c.words g) (starts nodes : List ℕ)
    (s : AreSteps c g.j (length c.words) starts nodes) where
  -- the word of y is in the ideal of the word of x
  abbrev pub InIdeal : ℕ → ℕ → Type 0
  InIdeal y x = IsInIdeal c.right.letters (SameNode c.right) (word_at c.words y) (word_at c.words x)

  over : (x : ℕ) → x < length c.words → Over c.right.letters (word_at c.words x)
  over = h.shortlex.least.over

  ideal_itself : (x : ℕ) → x < length c.words → InIdeal x x
  ideal_itself x b = in_ideal_itself c.right.letters (SameNode c.right) h.congruence.equivalence
      (word_at c.words x) (over x b)

  ideal_then : (x y z : ℕ) → x < length c.words → y < length c.words → z < length c.words
      → InIdeal x y → InIdeal y z → InIdeal x z
  ideal_then x y z bx by bz = in_ideal_through c.right.letters (SameNode c.right) h.congruence
      (word_at c.words x) (word_at c.words y) (word_at c.words z) (over x bx) (over y by)
      (over z bz)

  shared : (x y : ℕ) → x < length c.words → y < length c.words
      → (slice_index g.j x ≡ slice_index g.j y) ↔ (InIdeal x y × InIdeal y x)
  shared = j_shared c.right.letters (SameNode c.right) c.words h.congruence h.shortlex.least g a

  label_within : (x : ℕ) → x < length c.words → slice_index g.j x < length c.words
  label_within = a.j.within

  label_in : (x : ℕ) → x < length c.words → InIdeal (slice_index g.j x) x
  label_in x b = (a.j.related x b).0

  in_label : (x : ℕ) → x < length c.words → InIdeal x (slice_index g.j x)
  in_label x b = (a.j.related x b).1

  -- a label is its own label, and none is greater than its element
  pub label_own : (x : ℕ) → x < length c.words
      → slice_index g.j (slice_index g.j x) ≡ slice_index g.j x
  label_own x b = (shared (slice_index g.j x) x (label_within x b) b).1 (a.j.related x b)

  pub label_least : (x : ℕ) → x < length c.words → slice_index g.j x ≤ x
  label_least x b = a.j.least x x b b (ideal_itself x b, ideal_itself x b)

  right_is_right : IsRightGraph c.right.letters (SameNode c.right) c.words c.right
  right_is_right = graph_is_right c.right.letters (SameNode c.right) c.right c.words (record {
    letters = refl;
    shortlex = h.shortlex;
    nodes = agree_itself c.right.letters (SameNode c.right);
  })

  right_edge : (x b : ℕ) → x < length c.words → b < c.right.letters
      → (target c.right x b < length c.words) × InIdeal (target c.right x b) x
  right_edge x b bx bb =
      let e = right_is_right.edge x b bx bb in (
        e.place.within,
        right_in_ideal c.right.letters (SameNode c.right) (word_at c.words (target c.right x b))
            (word_at c.words x) (b ∷ [], (bb, tt), e.place.related),
      )

  left_edge : (x b : ℕ) → x < length c.words → b < c.right.letters
      → (target c.left x b < length c.words) × InIdeal (target c.left x b) x
  left_edge x b bx bb =
      let e = h.left.edge x b bx bb in (
        e.place.within,
        left_in_ideal c.right.letters (SameNode c.right) (word_at c.words (target c.left x b))
            (word_at c.words x) (b ∷ [], (bb, tt), e.place.related),
      )

  -- a step leads to the label of an element in the ideal
  step_in : (x t : ℕ) → x < length c.words → IsStep c g.j c.right.letters x t
      → (z : ℕ) × (z < length c.words) × (t ≡ slice_index g.j z) × InIdeal z x
  step_in x t b d = by d.into
    where
      by : (t ≡ slice_index g.j (target c.right x d.letter))
          ⊎ (t ≡ slice_index g.j (target c.left x d.letter))
          → (z : ℕ) × (z < length c.words) × (t ≡ slice_index g.j z) × InIdeal z x
      by (inl e) =
          let f = right_edge x d.letter b d.below in
          (target c.right x d.letter, f.0, e, f.1)
      by (inr e) =
          let f = left_edge x d.letter b d.below in
          (target c.left x d.letter, f.0, e, f.1)

  -- what an edge of the class x leads to is the label of a class strictly below
  pub record IsUnder (x t : ℕ) : Type 0 where
    pub within : t < length c.words
    pub own : slice_index g.j t ≡ t
    pub below : IsBelow c.right.letters (SameNode c.right) (word_at c.words t) (word_at c.words x)

  pub leads_under : (x t : ℕ) → x < length c.words → Leads starts nodes x t → IsUnder x t
  leads_under x t b l = by (step_in d.member t d.within step)
    where
      d : IsStepDown c g.j 0 x (slice_index nodes l.place)
      d = (s.row x b).each l.place l.from l.before

      step : IsStep c g.j c.right.letters d.member t
      step = subst (λ (z : ℕ). IsStep c g.j c.right.letters d.member z) l.to d.step

      -- the member is in the class of x
      member_in : InIdeal d.member x
      member_in = subst (λ (z : ℕ). InIdeal d.member z) d.inside (in_label d.member d.within)

      x_own : slice_index g.j x ≡ x
      x_own = subst (λ (z : ℕ). slice_index g.j z ≡ z) d.inside (label_own d.member d.within)

      by : (z : ℕ) × (z < length c.words) × (t ≡ slice_index g.j z) × InIdeal z d.member
          → IsUnder x t
      by (z, bz, e, f) = record {
        within = tb;
        own = t_own;
        below = (
          ideal,
          λ j. step.other (d.inside ∙ (sym x_own ∙ (sym ((shared t x tb b).1 j)
              ∙ t_own))),
        );
      }
        where
          tb : t < length c.words
          tb = subst (λ (q : ℕ). q < length c.words) (sym e) (label_within z bz)

          t_own : slice_index g.j t ≡ t
          t_own = subst (λ (q : ℕ). slice_index g.j q ≡ q) (sym e) (label_own z bz)

          ideal : InIdeal t x
          ideal = subst (λ (q : ℕ). InIdeal q x) (sym e)
              (ideal_then (slice_index g.j z) z x (label_within z bz) bz b (label_in z bz)
              (ideal_then z d.member x bz d.within b f member_in))

  pub falls_under : (x t : ℕ) → x < length c.words → Falls starts nodes x t → IsUnder x t
  falls_under x t b (one l) = leads_under x t b l
  falls_under x t b (more z l f) =
      let first = leads_under x z b l in
      let rest = falls_under z t first.within f in
      let there : InIdeal t x =
      ideal_then t z x rest.within first.within b rest.below.0 first.below.0 in
      record {
        within = rest.within;
        own = rest.own;
        below = (
          there,
          λ j. rest.below.1 (
            rest.below.0,
            ideal_then z x t first.within b rest.within first.below.0 j.1,
          ),
        );
      }

  pub steps_acyclic : length c.words ≤ 50000 → IsAcyclic (length c.words) starts nodes
  steps_acyclic few = record {
    some = some;
    few = few;
    long = s.long;
    order = λ x b. (s.row x b).order;
    inside = λ x b. (s.row x b).inside;
    within = λ x p b f l. (leads_under x (slice_index nodes p) b (record {
      place = p;
      from = f;
      before = l;
      to = refl;
    })).within;
    none = λ x b f. (falls_under x x b f).below.1 (ideal_itself x b, ideal_itself x b);
  }
    where
      some : 0 < length c.words
      some = omega (arith, h.shortlex.long, h.shortlex.graph.root)

  -- a letter leads to the same class or down
  edge_falls : (x z b : ℕ) → x < length c.words → b < c.right.letters
      → (z ≡ target c.right x b) ⊎ (z ≡ target c.left x b)
      → IsOneOrFalls starts nodes (slice_index g.j x) (slice_index g.j z)
  edge_falls x z b bx bb e = by (cases_eq (slice_index g.j x) (slice_index g.j z))
    where
      into : (z ≡ target c.right x b) ⊎ (z ≡ target c.left x b)
          → (slice_index g.j z ≡ slice_index g.j (target c.right x b))
          ⊎ (slice_index g.j z ≡ slice_index g.j (target c.left x b))
      into (inl f) = inl (ap (λ (q : ℕ). slice_index g.j q) f)
      into (inr f) = inr (ap (λ (q : ℕ). slice_index g.j q) f)

      by : (slice_index g.j x ≡ slice_index g.j z) ⊎ (slice_index g.j x ≢ slice_index g.j z)
          → IsOneOrFalls starts nodes (slice_index g.j x) (slice_index g.j z)
      by (inl f) = inl f
      by (inr o) =
          let (p, f, l, q) = (s.row (slice_index g.j x) (label_within x bx)).all (slice_index g.j z)
          (record {
            member = x;
            from = omega arith;
            within = bx;
            inside = refl;
            step = record {
              letter = b;
              below = bb;
              into = into e;
              other = o;
            };
          }) in
          inr (one (record {
            place = p;
            from = f;
            before = l;
            to = q;
          }))

  right_walk_falls : (u : List ℕ) (x : ℕ) → x < length c.words → Over c.right.letters u
      → (walk c.right x u < length c.words)
      × IsOneOrFalls starts nodes (slice_index g.j x) (slice_index g.j (walk c.right x u))
  right_walk_falls [] x b o = (b, inl refl)
  right_walk_falls (i ∷ u) x b o =
      let z = target c.right x i in
      let rest = right_walk_falls u z (right_edge x i b o.0).0 o.1 in (
        rest.0,
        or_then starts nodes (slice_index g.j x) (slice_index g.j z)
            (slice_index g.j (walk c.right z u)) (edge_falls x z i b o.0 (inl refl)) rest.1,
      )

  left_walk_falls : (u : List ℕ) (x : ℕ) → x < length c.words → Over c.right.letters u
      → (walk c.left x u < length c.words)
      × IsOneOrFalls starts nodes (slice_index g.j x) (slice_index g.j (walk c.left x u))
  left_walk_falls [] x b o = (b, inl refl)
  left_walk_falls (i ∷ u) x b o =
      let z = target c.left x i in
      let rest = left_walk_falls u z (left_edge x i b o.0).0 o.1 in (
        rest.0,
        or_then starts nodes (slice_index g.j x) (slice_index g.j z)
            (slice_index g.j (walk c.left z u)) (edge_falls x z i b o.0 (inr refl)) rest.1,
      )

  -- an element of the ideal is in the same class, or a path leads down to its class
  pub ideal_falls : (x z : ℕ) → x < length c.words → z < length c.words
      → IsInIdeal c.right.letters (SameNode c.right) (word_at c.words z) (word_at c.words x)
      → IsOneOrFalls starts nodes (slice_index g.j x) (slice_index g.j z)
  ideal_falls x z bx bz i =
      let (u, v, ou, ov, e) = (ideal_walks c.right.letters (SameNode c.right) c.words h.congruence
      h.shortlex.least c.right c.left right_is_right h.left x z bx bz).0 i in
      let y = walk c.right x u in
      let first = right_walk_falls u x bx ou in
      let rest = left_walk_falls v y first.0 ov in
      subst (λ (q : ℕ). IsOneOrFalls starts nodes (slice_index g.j x) (slice_index g.j q)) e
      (or_then starts nodes (slice_index g.j x) (slice_index g.j y)
      (slice_index g.j (walk c.left y v)) first.1 rest.1)

  pub below_falls : (x z : ℕ) → x < length c.words → z < length c.words
      → IsBelow c.right.letters (SameNode c.right) (word_at c.words z) (word_at c.words x)
      → Falls starts nodes (slice_index g.j x) (slice_index g.j z)
  below_falls x z bx bz b = by (ideal_falls x z bx bz b.0)
    where
      by : IsOneOrFalls starts nodes (slice_index g.j x) (slice_index g.j z)
          → Falls starts nodes (slice_index g.j x) (slice_index g.j z)
      by (inr f) = f
      by (inl e) = absurd (b.1 ((shared z x bz bx).0 (sym e)))
