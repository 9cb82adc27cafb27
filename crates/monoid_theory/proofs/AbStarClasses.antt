-- Green's classes of the syntactic monoid of (ab)*: {1}, {a, ab, b, ba} and {aa}.
use Rattle.std.proofs.Common.{◌≡◌, ℕ, zero, suc, ◌<◌, List, [], ◌∷◌, ◌++◌, eqb, ltb, refl, ap, ◌∙◌, arith}
use Rattle.std.proofs.lemmas.Bool.{eqb-true, ltb-true}
use Rattle.language_theory.specs.Words.{Over}
use Rattle.language_theory.specs.Congruence.{Syntactic}
use Rattle.language_theory.specs.ShortlexGraph.{target, walk, node, SameNode}
use Rattle.monoid_theory.specs.Green.{IsR, IsL, IsJ, IsH, IsIdempotent}
use Rattle.language_theory.specs.Examples.{IsAbStar}
use Rattle.monoid_theory.specs.Examples.{ab_star_monoid}
use Rattle.monoid_theory.proofs.SmallTests.{at_every, at_every_two}
use Rattle.language_theory.proofs.Shortlex.{over_append}
use Rattle.language_theory.proofs.Graphs.{walk_append, node_within, target_within}
use Rattle.monoid_theory.proofs.AbStarMonoid.{graph, ab_star_monoid_graph}

-- words that lead to one node are congruent
congruent : (u v : List ℕ) → Over 2 u → Over 2 v → SameNode ab_star_monoid u v
    → Syntactic 2 IsAbStar u v
congruent u v ou ov e = (ab_star_monoid_graph.nodes.both u v ou ov).0 e

a : Over 2 (0 ∷ [])
a = (omega arith, tt)

b : Over 2 (1 ∷ [])
b = (omega arith, tt)

ab : Over 2 (0 ∷ 1 ∷ [])
ab = (omega arith, (omega arith, tt))

ba : Over 2 (1 ∷ 0 ∷ [])
ba = (omega arith, (omega arith, tt))

pub a_r_ab : IsR 2 (Syntactic 2 IsAbStar) (0 ∷ []) (0 ∷ 1 ∷ [])
a_r_ab = (
  (0 ∷ [], a, congruent (0 ∷ []) (0 ∷ 1 ∷ 0 ∷ []) a (omega arith, ba) refl),
  (1 ∷ [], b, congruent (0 ∷ 1 ∷ []) (0 ∷ 1 ∷ []) ab ab refl),
)

pub b_r_ba : IsR 2 (Syntactic 2 IsAbStar) (1 ∷ []) (1 ∷ 0 ∷ [])
b_r_ba = (
  (1 ∷ [], b, congruent (1 ∷ []) (1 ∷ 0 ∷ 1 ∷ []) b (omega arith, ab) refl),
  (0 ∷ [], a, congruent (1 ∷ 0 ∷ []) (1 ∷ 0 ∷ []) ba ba refl),
)

pub a_l_ba : IsL 2 (Syntactic 2 IsAbStar) (0 ∷ []) (1 ∷ 0 ∷ [])
a_l_ba = (
  (0 ∷ [], a, congruent (0 ∷ []) (0 ∷ 1 ∷ 0 ∷ []) a (omega arith, ba) refl),
  (1 ∷ [], b, congruent (1 ∷ 0 ∷ []) (1 ∷ 0 ∷ []) ba ba refl),
)

pub b_l_ab : IsL 2 (Syntactic 2 IsAbStar) (1 ∷ []) (0 ∷ 1 ∷ [])
b_l_ab = (
  (1 ∷ [], b, congruent (1 ∷ []) (1 ∷ 0 ∷ 1 ∷ []) b (omega arith, ab) refl),
  (0 ∷ [], a, congruent (0 ∷ 1 ∷ []) (0 ∷ 1 ∷ []) ab ab refl),
)

pub a_j_b : IsJ 2 (Syntactic 2 IsAbStar) (0 ∷ []) (1 ∷ [])
a_j_b = (
  (0 ∷ [], 0 ∷ [], a, a, congruent (0 ∷ []) (0 ∷ 1 ∷ 0 ∷ []) a (omega arith, ba) refl),
  (1 ∷ [], 1 ∷ [], b, b, congruent (1 ∷ []) (1 ∷ 0 ∷ 1 ∷ []) b (omega arith, ab) refl),
)

pub ab_idempotent : IsIdempotent (Syntactic 2 IsAbStar) (0 ∷ 1 ∷ [])
ab_idempotent = congruent (0 ∷ 1 ∷ 0 ∷ 1 ∷ []) (0 ∷ 1 ∷ []) (omega arith, (omega arith, ab)) ab refl

-- the node of aa is never left
stays : (w : List ℕ) → Over 2 w → walk ab_star_monoid 3 w ≡ 3
stays [] o = refl
stays (zero ∷ w) o = stays w o.1
stays (suc zero ∷ w) o = stays w o.1
stays (suc (suc c) ∷ w) o = absurd (omega (arith, o.0))

through_aa : (x y : List ℕ) → Over 2 x → Over 2 y → node ab_star_monoid (x ++ (0 ∷ 0 ∷ y)) ≡ 3
through_aa x y ox oy =
    walk_append ab_star_monoid 0 x (0 ∷ 0 ∷ y)
    ∙ (ap (λ (i : ℕ). walk ab_star_monoid i y) there ∙ stays y oy)
  where
    there : walk ab_star_monoid (node ab_star_monoid x) (0 ∷ 0 ∷ []) ≡ 3
    there =
        eqb-true (walk ab_star_monoid (node ab_star_monoid x) (0 ∷ 0 ∷ [])) 3
        (at_every 6 (λ i. eqb (walk ab_star_monoid i (0 ∷ 0 ∷ [])) 3) refl (node ab_star_monoid x)
        (node_within ab_star_monoid x graph ox))

pub a_not_j_aa : ¬ IsJ 2 (Syntactic 2 IsAbStar) (0 ∷ []) (0 ∷ 0 ∷ [])
a_not_j_aa ((x, y, ox, oy, s), t) =
    let e : 1 ≡ node ab_star_monoid (x ++ (0 ∷ 0 ∷ y)) =
    (ab_star_monoid_graph.nodes.both (0 ∷ []) (x ++ (0 ∷ 0 ∷ y)) a
    (over_append 2 x (0 ∷ 0 ∷ y) ox (omega arith, (omega arith, oy)))).1 s in
    let f = through_aa x y ox oy in
    omega arith

pub one_not_j_aa : ¬ IsJ 2 (Syntactic 2 IsAbStar) [] (0 ∷ 0 ∷ [])
one_not_j_aa ((x, y, ox, oy, s), t) =
    let e : 0 ≡ node ab_star_monoid (x ++ (0 ∷ 0 ∷ y)) =
    (ab_star_monoid_graph.nodes.both [] (x ++ (0 ∷ 0 ∷ y)) tt
    (over_append 2 x (0 ∷ 0 ∷ y) ox (omega arith, (omega arith, oy)))).1 s in
    let f = through_aa x y ox oy in
    omega arith

-- no letter leads to the node of the empty word
never_back : (i : ℕ) (w : List ℕ) → 0 < i → i < 6 → Over 2 w → 0 < walk ab_star_monoid i w
never_back i [] h l o = h
never_back i (c ∷ w) h l o =
    never_back (target ab_star_monoid i c) w
    (ltb-true 0 (target ab_star_monoid i c)
    (at_every_two 6 2 (λ i c. ltb 0 (target ab_star_monoid i c)) refl i c l o.0))
    (target_within ab_star_monoid i c graph l o.0) o.1

pub one_not_j_a : ¬ IsJ 2 (Syntactic 2 IsAbStar) [] (0 ∷ [])
one_not_j_a ((x, y, ox, oy, s), t) =
    let i = node ab_star_monoid x in
    let l = node_within ab_star_monoid x graph ox in
    let e : 0 ≡ node ab_star_monoid (x ++ (0 ∷ y)) =
    (ab_star_monoid_graph.nodes.both [] (x ++ (0 ∷ y)) tt
    (over_append 2 x (0 ∷ y) ox (omega arith, oy))).1 s in
    let f : node ab_star_monoid (x ++ (0 ∷ y)) ≡ walk ab_star_monoid (target ab_star_monoid i 0) y =
    walk_append ab_star_monoid 0 x (0 ∷ y) in
    let g : 0 < target ab_star_monoid i 0 =
    ltb-true 0 (target ab_star_monoid i 0)
    (at_every 6 (λ i. ltb 0 (target ab_star_monoid i 0)) refl i l) in
    let m : 0 < walk ab_star_monoid (target ab_star_monoid i 0) y =
    never_back (target ab_star_monoid i 0) y g
    (target_within ab_star_monoid i 0 graph l (omega arith)) oy in
    omega (arith, e, f, m)

-- no word that ends with ab is congruent to a
never_a : (i : ℕ) → i < 6 → 1 < walk ab_star_monoid i (0 ∷ 1 ∷ [])
never_a i h =
    ltb-true 1 (walk ab_star_monoid i (0 ∷ 1 ∷ []))
    (at_every 6 (λ i. ltb 1 (walk ab_star_monoid i (0 ∷ 1 ∷ []))) refl i h)

pub a_not_h_ab : ¬ IsH 2 (Syntactic 2 IsAbStar) (0 ∷ []) (0 ∷ 1 ∷ [])
a_not_h_ab (r, ((x, ox, s), l)) =
    let xab = over_append 2 x (0 ∷ 1 ∷ []) ox ab in
    let e : 1 ≡ node ab_star_monoid (x ++ (0 ∷ 1 ∷ [])) =
    (ab_star_monoid_graph.nodes.both (0 ∷ []) (x ++ (0 ∷ 1 ∷ [])) a xab).1 s in
    let f = walk_append ab_star_monoid 0 x (0 ∷ 1 ∷ []) in
    let g = never_a (node ab_star_monoid x) (node_within ab_star_monoid x graph ox) in
    omega (arith, e, f, g)
