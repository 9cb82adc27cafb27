-- The rules of the syntactic monoid of (ab)*, and its classes.
use Rattle.std.proofs.Common.{◌≡◌, ℕ, zero, suc, ◌<◌, ◌↔◌, true, cond, ltb, List, [], ◌∷◌, ◌++◌, refl, subst, arith}
use Rattle.std.proofs.lemmas.Bool.{lt-ltb}
use Rattle.language_theory.specs.Words.{word_at, shortlex, ◌⊏◌}
use Rattle.monoid_theory.proofs.SmallTests.{at_every_two, is_less, less_if, under}
use Rattle.language_theory.specs.Congruence.{Syntactic, IsCongruence}
use Rattle.language_theory.specs.Representatives.{AreRepresentatives, IsPlaceOf}
use Rattle.language_theory.specs.ShortlexGraph.{target}
use Rattle.language_theory.specs.Links.{IsSuffixLink}
use Rattle.monoid_theory.specs.Products.{IsRight}
use Rattle.monoid_theory.specs.Presentation.{IsRule, AreRules, rule_at}
use Rattle.language_theory.specs.Examples.{IsAbStar}
use Rattle.monoid_theory.specs.Examples.{ab_star_monoid, ab_star_elements, ab_star_rules}
use Rattle.language_theory.proofs.Congruences.{syntactic_congruence}
use Rattle.language_theory.proofs.Graphs.{graph_list}
use Rattle.language_theory.proofs.Representatives.{place_is_one}
use Rattle.monoid_theory.proofs.Cayley.{graph_is_right}
use Rattle.monoid_theory.proofs.RulePlaces.{rule_is_at_place, rule_by_places, letter_rule}
use Rattle.monoid_theory.proofs.AbStarMonoid.{ab_star_monoid_graph}

congruence : IsCongruence 2 (Syntactic 2 IsAbStar)
congruence = syntactic_congruence 2 IsAbStar

list : AreRepresentatives 2 (Syntactic 2 IsAbStar) ab_star_elements
list = graph_list 2 (Syntactic 2 IsAbStar) ab_star_monoid ab_star_elements ab_star_monoid_graph

right : (i a : ℕ) → i < 6 → a < 2 → IsRight (Syntactic 2 IsAbStar) ab_star_elements i a
    (target ab_star_monoid i a)
right =
    (graph_is_right 2 (Syntactic 2 IsAbStar) ab_star_monoid ab_star_elements
    ab_star_monoid_graph).edge

-- the word at i with the letter a is a left side where it is not listed, but is without its first
-- letter
by_places : (i a b s : ℕ) → a < 2 → i < 6 → IsSuffixLink ab_star_elements i b s
    → IsRule 2 (Syntactic 2 IsAbStar) ab_star_elements (word_at ab_star_elements i ++ a ∷ [])
    (target ab_star_monoid i a)
    ↔ (¬ (word_at ab_star_elements (target ab_star_monoid i a)
    ≡ word_at ab_star_elements i ++ a ∷ [])
    × (word_at ab_star_elements (target ab_star_monoid s a) ≡ word_at ab_star_elements s ++ a ∷ []))
by_places i a b s ha hi link =
    rule_by_places 2 (Syntactic 2 IsAbStar) ab_star_elements congruence.equivalence list i a
    (target ab_star_monoid i a) b s (target ab_star_monoid s a) ha (right i a hi ha) link
    (right s a link.suffix ha)

link_a : IsSuffixLink ab_star_elements 1 0 0
link_a = record { whole = omega arith; suffix = omega arith; splits = refl }

link_b : IsSuffixLink ab_star_elements 2 1 0
link_b = record { whole = omega arith; suffix = omega arith; splits = refl }

link_aa : IsSuffixLink ab_star_elements 3 0 1
link_aa = record { whole = omega arith; suffix = omega arith; splits = refl }

link_ab : IsSuffixLink ab_star_elements 4 0 2
link_ab = record { whole = omega arith; suffix = omega arith; splits = refl }

link_ba : IsSuffixLink ab_star_elements 5 1 1
link_ba = record { whole = omega arith; suffix = omega arith; splits = refl }

each : (n : ℕ) → n < 6 → IsRule 2 (Syntactic 2 IsAbStar) ab_star_elements
    (rule_at ab_star_rules n).0 (rule_at ab_star_rules n).1
each zero h = (by_places 2 1 1 0 (omega arith) (omega arith) link_b).1 (λ e. cc, refl)
each (suc zero) h = (by_places 3 0 0 1 (omega arith) (omega arith) link_aa).1 (λ e. cc, refl)
each (suc (suc zero)) h = (by_places 3 1 0 1 (omega arith) (omega arith) link_aa).1 (λ e. cc, refl)
each (suc (suc (suc zero))) h =
    (by_places 4 0 0 2 (omega arith) (omega arith) link_ab).1 (λ e. cc, refl)
each (suc (suc (suc (suc zero)))) h =
    (by_places 5 0 1 1 (omega arith) (omega arith) link_ba).1 (λ e. cc, refl)
each (suc (suc (suc (suc (suc zero))))) h =
    (by_places 5 1 1 1 (omega arith) (omega arith) link_ba).1 (λ e. cc, refl)
each (suc (suc (suc (suc (suc (suc n)))))) h = absurd (omega arith)

-- each rule stands in the list
stands : (i a : ℕ) → i < 6 → a < 2 → IsRule 2 (Syntactic 2 IsAbStar) ab_star_elements
    (word_at ab_star_elements i ++ a ∷ []) (target ab_star_monoid i a) → (n : ℕ) × (n < 6)
    × (rule_at ab_star_rules n ≡ (word_at ab_star_elements i ++ a ∷ [], target ab_star_monoid i a))
stands zero zero h g r =
    absurd ((letter_rule 2 (Syntactic 2 IsAbStar) ab_star_elements congruence.equivalence list 0 1
    (omega arith) (right 0 0 (omega arith) (omega arith))).0 r refl)
stands zero (suc zero) h g r =
    absurd ((letter_rule 2 (Syntactic 2 IsAbStar) ab_star_elements congruence.equivalence list 1 2
    (omega arith) (right 0 1 (omega arith) (omega arith))).0 r refl)
stands (suc zero) zero h g r =
    absurd (((by_places 1 0 0 0 (omega arith) (omega arith) link_a).0 r).0 refl)
stands (suc zero) (suc zero) h g r =
    absurd (((by_places 1 1 0 0 (omega arith) (omega arith) link_a).0 r).0 refl)
stands (suc (suc zero)) zero h g r =
    absurd (((by_places 2 0 1 0 (omega arith) (omega arith) link_b).0 r).0 refl)
stands (suc (suc zero)) (suc zero) h g r = (0, omega arith, refl)
stands (suc (suc (suc zero))) zero h g r = (1, omega arith, refl)
stands (suc (suc (suc zero))) (suc zero) h g r = (2, omega arith, refl)
stands (suc (suc (suc (suc zero)))) zero h g r = (3, omega arith, refl)
stands (suc (suc (suc (suc zero)))) (suc zero) h g r =
    let e = ((by_places 4 1 0 2 (omega arith) (omega arith) link_ab).0 r).1 in cc
stands (suc (suc (suc (suc (suc zero))))) zero h g r = (4, omega arith, refl)
stands (suc (suc (suc (suc (suc zero))))) (suc zero) h g r = (5, omega arith, refl)
stands (suc (suc (suc (suc (suc (suc i)))))) a h g r = absurd (omega arith)
stands i (suc (suc a)) h g r = absurd (omega arith)

rise : (m n : ℕ) → m < n → n < 6 → (rule_at ab_star_rules m).0 ⊏ (rule_at ab_star_rules n).0
rise m n h l =
    less_if (shortlex (rule_at ab_star_rules m).0 (rule_at ab_star_rules n).0)
    (under (ltb m n) (is_less (shortlex (rule_at ab_star_rules m).0 (rule_at ab_star_rules n).0))
    (at_every_two 6 6 (λ m n. cond (ltb m n)
    (is_less (shortlex (rule_at ab_star_rules m).0 (rule_at ab_star_rules n).0)) true) refl
    m n (omega arith) l) (lt-ltb m n h))

-- the rules of (ab)*
pub ab_star_has_six_rules : AreRules 2 (Syntactic 2 IsAbStar) ab_star_elements ab_star_rules
ab_star_has_six_rules = record { each = each; rise = rise; all = all }
  where
    all : (left : List ℕ) (right_side : ℕ)
        → IsRule 2 (Syntactic 2 IsAbStar) ab_star_elements left right_side → (n : ℕ) × (n < 6)
        × (rule_at ab_star_rules n ≡ (left, right_side))
    all left right_side r =
        by (rule_is_at_place 2 (Syntactic 2 IsAbStar) ab_star_elements list left right_side r)
      where
        by : (i a : ℕ) × (i < 6) × (a < 2) × (left ≡ word_at ab_star_elements i ++ a ∷ [])
            → (n : ℕ) × (n < 6) × (rule_at ab_star_rules n ≡ (left, right_side))
        by (i, a, h, g, e) =
            let t : right_side ≡ target ab_star_monoid i a =
            place_is_one (Syntactic 2 IsAbStar) ab_star_elements
            (word_at ab_star_elements i ++ a ∷ []) right_side (target ab_star_monoid i a)
            (subst (λ (w : List ℕ). IsPlaceOf (Syntactic 2 IsAbStar) ab_star_elements w
            right_side) e r.place) (right i a h g).place in
            let there = subst (IsRule 2 (Syntactic 2 IsAbStar) ab_star_elements
            (word_at ab_star_elements i ++ a ∷ [])) t
            (subst (λ (w : List ℕ). IsRule 2 (Syntactic 2 IsAbStar) ab_star_elements w
            right_side) e r) in
            let (n, l, f) = stands i a h g there in
            (n, l, cc)
