-- The targets of two worked monoids: of the words of even length over one letter, and of (ab)*.
use Rattle.std.proofs.Common.{◌≡◌, ℕ, zero, suc, ◌<◌, true, eqb, ltb, cond, List, [], ◌∷◌, ◌++◌, slice_index_or, refl, ap, sym, ◌∙◌, arith}
use Rattle.std.proofs.lemmas.Bool.{eqb-true, lt-ltb}
use Rattle.language_theory.specs.Words.{Over, word_at, shortlex, ◌⊏◌}
use Rattle.language_theory.specs.Congruence.{Syntactic, IsCongruence, MapsAlike}
use Rattle.language_theory.specs.ShortlexGraph.{Graph, target, walk, node, SameNode, IsGraph, IsShortlex}
use Rattle.language_theory.specs.Examples.{IsAbStar}
use Rattle.language_theory.proofs.Congruences.{agree_turned, syntactic_congruence}
use Rattle.language_theory.proofs.Graphs.{congruence_by_nodes}
use Rattle.language_theory.proofs.ShortlexCriterion.{shortlex_by_letters}
use Rattle.monoid_theory.specs.Examples.{ab_star_monoid, ab_star_elements}
use Rattle.monoid_theory.proofs.AbStarMonoid.{ab_star_monoid_graph}
use Rattle.monoid_theory.proofs.SmallTests.{at_every, at_every_two, is_less, is_not_less, less_if, not_less_if, under}
use Rattle.cayley_tables.specs.Tables.{AreMonoidTargets, right_graph}
use Rattle.cayley_tables.proofs.AgreeingGraphs.{agreeing_congruence}

-- the node of even and the node of odd length
abbrev parity : Graph
parity = right_graph 2 1 (1 ∷ 0 ∷ [])

abbrev parity_words : List (List ℕ)
parity_words = [] ∷ (0 ∷ []) ∷ []

parity_is_graph : IsGraph parity
parity_is_graph = record { root = omega arith; long = refl; within = within }
  where
    within : (k d : ℕ) → k < 2 → slice_index_or parity.targets k d < 2
    within zero d h = omega arith
    within (suc zero) d h = omega arith
    within (suc (suc k)) d h = absurd (omega arith)

parity_shortlex : IsShortlex parity parity_words
parity_shortlex =
    shortlex_by_letters parity parity_words parity_is_graph refl over leads rise refl steps
  where
    over : (i : ℕ) → i < 2 → Over 1 (word_at parity_words i)
    over zero h = tt
    over (suc zero) h = (omega arith, tt)
    over (suc (suc i)) h = tt

    leads : (i : ℕ) → i < 2 → node parity (word_at parity_words i) ≡ i
    leads i h =
        eqb-true (node parity (word_at parity_words i)) i
        (at_every 2 (λ i. eqb (node parity (word_at parity_words i)) i) refl i h)

    rise : (i j : ℕ) → i < j → j < 2 → word_at parity_words i ⊏ word_at parity_words j
    rise i j h l =
        less_if (shortlex (word_at parity_words i) (word_at parity_words j))
        (under (ltb i j) (is_less (shortlex (word_at parity_words i) (word_at parity_words j)))
        (at_every_two 2 2 (λ i j. cond (ltb i j)
        (is_less (shortlex (word_at parity_words i) (word_at parity_words j))) true)
        refl i j (omega arith) l) (lt-ltb i j h))

    steps : (i a : ℕ) → i < 2 → a < 1
        → ¬ ((word_at parity_words i ++ a ∷ []) ⊏ word_at parity_words (target parity i a))
    steps i a h l =
        not_less_if (shortlex (word_at parity_words i ++ a ∷ [])
        (word_at parity_words (target parity i a)))
        (at_every_two 2 1 (λ i a. is_not_less
        (shortlex (word_at parity_words i ++ a ∷ [])
        (word_at parity_words (target parity i a)))) refl i a h l)

other : ℕ → ℕ
other zero = 1
other (suc i) = 0

-- from the two nodes a word leads to the two nodes
parity_turns : (w : List ℕ) → Over 1 w
    → (walk parity 1 w ≡ other (walk parity 0 w)) × (walk parity 0 w ≡ other (walk parity 1 w))
unfolding other
parity_turns [] o = (refl, refl)
parity_turns (zero ∷ w) o = let (p, q) = parity_turns w o.1 in (q, p)
parity_turns (suc a ∷ w) o = absurd (let h = o.0 in omega arith)

pub even_length_targets : AreMonoidTargets 1 (1 ∷ 0 ∷ [])
even_length_targets = record {
  some = omega arith;
  few = omega arith;
  size = 2;
  small = omega arith;
  words = parity_words;
  monoid = record { shortlex = parity_shortlex; alike = alike };
}
  where
    alike : (u v : List ℕ) → Over 1 u → Over 1 v → SameNode parity u v
        → MapsAlike 2 (target parity) u v
    alike u v ou ov e zero h = e
    alike u v ou ov e (suc zero) h =
        let (p, _) = parity_turns u ou in
        let (q, _) = parity_turns v ov in
        p ∙ (ap other e ∙ sym q)
    alike u v ou ov e (suc (suc i)) h = absurd (omega arith)

ab_star_congruence : IsCongruence 2 (SameNode ab_star_monoid)
ab_star_congruence =
    agreeing_congruence 2 (Syntactic 2 IsAbStar) (syntactic_congruence 2 IsAbStar)
    (SameNode ab_star_monoid)
    (agree_turned 2 (SameNode ab_star_monoid) (Syntactic 2 IsAbStar) ab_star_monoid_graph.nodes)

pub ab_star_targets : AreMonoidTargets 2 ab_star_monoid.targets
ab_star_targets = record {
  some = omega arith;
  few = omega arith;
  size = 6;
  small = omega arith;
  words = ab_star_elements;
  monoid = record {
    shortlex = ab_star_monoid_graph.shortlex;
    alike = (congruence_by_nodes ab_star_monoid ab_star_elements ab_star_monoid_graph.shortlex).0
        ab_star_congruence;
  };
}
