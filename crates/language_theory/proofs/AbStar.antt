-- The minimal automaton of (ab)*.
use Rattle.std.proofs.Common.{◌≡◌, ℕ, zero, suc, ◌<◌, ◌↔◌, true, false, IsTrue, List, [], ◌∷◌, ◌++◌, slice_index_or, refl, ap, sym, ◌∙◌, arith}
use Rattle.std.proofs.lemmas.Bool.{both_ways}
use Rattle.language_theory.specs.Words.{Over, power, word_at, ◌⊏◌}
use Rattle.language_theory.specs.Automaton.{is_marked}
use Rattle.language_theory.specs.Congruence.{Syntactic}
use Rattle.language_theory.specs.Nerode.{Nerode, IsMinimal}
use Rattle.language_theory.specs.ShortlexGraph.{target, walk, node, SameNode, IsGraph, IsShortlex, Alike}
use Rattle.language_theory.specs.Examples.{IsAbStar, ab_star}
use Rattle.language_theory.proofs.Congruences.{both_directions}
use Rattle.language_theory.proofs.Graphs.{node_within}
use Rattle.language_theory.proofs.ShortlexCriterion.{shortlex_by_letters}
use Rattle.language_theory.proofs.Minimal.{alike_nodes, syntactic_by_walks}

-- the node of b is never left
stays : (w : List ℕ) → Over 2 w → walk ab_star.graph 2 w ≡ 2
stays [] o = refl
stays (zero ∷ w) o = stays w o.1
stays (suc zero ∷ w) o = stays w o.1
stays (suc (suc a) ∷ w) o = absurd (omega (arith, o.0))

led_back : (w : List ℕ) → Over 2 w → node ab_star.graph w ≡ 0 → IsAbStar w
led_back [] o e = (0, refl)
led_back (zero ∷ []) o e = absurd (omega (arith, e))
led_back (zero ∷ zero ∷ w) o e = absurd (omega (arith, e, stays w o.1.1))
led_back (zero ∷ suc zero ∷ w) o e =
    let (n, f) = led_back w o.1.1 e in (suc n, ap (λ (v : List ℕ). 0 ∷ 1 ∷ v) f)
led_back (zero ∷ suc (suc a) ∷ w) o e = absurd (omega (arith, o.1.0))
led_back (suc zero ∷ w) o e = absurd (omega (arith, e, stays w o.1))
led_back (suc (suc a) ∷ w) o e = absurd (omega (arith, o.0))

leads_back : (n : ℕ) → node ab_star.graph (power n (0 ∷ 1 ∷ [])) ≡ 0
leads_back zero = refl
leads_back (suc n) = leads_back n

marked : (i : ℕ) → is_marked ab_star.finals i ≡ true → i ≡ 0
marked zero e = refl
marked (suc zero) e = absurd (both_ways false refl e)
marked (suc (suc zero)) e = absurd (both_ways false refl e)
marked (suc (suc (suc i))) e = absurd (both_ways false refl e)

final : (w : List ℕ) → Over 2 w → IsTrue (is_marked ab_star.finals (node ab_star.graph w))
    ↔ IsAbStar w
final w o = (
  λ e. led_back w o (marked (node ab_star.graph w) e),
  λ h. let (n, e) = h in
      ap (λ v. is_marked ab_star.finals (node ab_star.graph v)) (sym e)
      ∙ ap (is_marked ab_star.finals) (leads_back n),
)

graph : IsGraph ab_star.graph
graph = record { root = omega arith; long = refl; within = within }
  where
    within : (k d : ℕ) → k < 6 → slice_index_or ab_star.graph.targets k d < 3
    within zero d h = omega arith
    within (suc zero) d h = omega arith
    within (suc (suc zero)) d h = omega arith
    within (suc (suc (suc zero))) d h = omega arith
    within (suc (suc (suc (suc zero)))) d h = omega arith
    within (suc (suc (suc (suc (suc zero))))) d h = omega arith
    within (suc (suc (suc (suc (suc (suc k)))))) d h = absurd (omega arith)

over : (i : ℕ) → i < 3 → Over 2 (word_at ab_star.words i)
over zero h = tt
over (suc zero) h = (omega arith, tt)
over (suc (suc zero)) h = (omega arith, tt)
over (suc (suc (suc i))) h = tt

leads : (i : ℕ) → i < 3 → node ab_star.graph (word_at ab_star.words i) ≡ i
leads zero h = refl
leads (suc zero) h = refl
leads (suc (suc zero)) h = refl
leads (suc (suc (suc i))) h = absurd (omega arith)

rise : (i j : ℕ) → i < j → j < 3 → word_at ab_star.words i ⊏ word_at ab_star.words j
rise zero (suc zero) h l = refl
rise zero (suc (suc zero)) h l = refl
rise (suc zero) (suc (suc zero)) h l = refl
rise i zero h l = absurd (omega arith)
rise (suc i) (suc zero) h l = absurd (omega arith)
rise (suc (suc i)) (suc (suc zero)) h l = absurd (omega arith)
rise i (suc (suc (suc j))) h l = absurd (omega arith)

steps : (i a : ℕ) → i < 3 → a < 2
    → ¬ ((word_at ab_star.words i ++ a ∷ []) ⊏ word_at ab_star.words (target ab_star.graph i a))
steps zero zero h l s = cc
steps zero (suc zero) h l s = cc
steps (suc zero) zero h l s = cc
steps (suc zero) (suc zero) h l s = cc
steps (suc (suc zero)) zero h l s = cc
steps (suc (suc zero)) (suc zero) h l s = cc
steps (suc (suc (suc i))) a h l s = omega arith
steps i (suc (suc a)) h l s = omega arith

shortlex : IsShortlex ab_star.graph ab_star.words
shortlex = shortlex_by_letters ab_star.graph ab_star.words graph refl over leads rise refl steps

-- the empty word and b tell the nodes apart
apart : (i j : ℕ) → i < 3 → j < 3 → Alike ab_star.graph ab_star.finals i j → i ≡ j
apart i j h l f = by i j h l (f [] tt) (f (1 ∷ []) (omega arith, tt))
  where
    by : (i j : ℕ) → i < 3 → j < 3 → is_marked ab_star.finals i ≡ is_marked ab_star.finals j
        → is_marked ab_star.finals (target ab_star.graph i 1)
        ≡ is_marked ab_star.finals (target ab_star.graph j 1) → i ≡ j
    by zero zero h l e d = refl
    by zero (suc zero) h l e d = cc
    by zero (suc (suc zero)) h l e d = cc
    by (suc zero) zero h l e d = cc
    by (suc zero) (suc zero) h l e d = refl
    by (suc zero) (suc (suc zero)) h l e d = cc
    by (suc (suc zero)) zero h l e d = cc
    by (suc (suc zero)) (suc zero) h l e d = cc
    by (suc (suc zero)) (suc (suc zero)) h l e d = refl
    by (suc (suc (suc i))) j h l e d = absurd (omega arith)
    by i (suc (suc (suc j))) h l e d = absurd (omega arith)

nodes : (u v : List ℕ) → Over 2 u → Over 2 v → SameNode ab_star.graph u v ↔ Nerode 2 IsAbStar u v
nodes u v ou ov = both_directions (
  λ e w o. ap (λ i. is_marked ab_star.finals (walk ab_star.graph i w)) e,
  apart (node ab_star.graph u) (node ab_star.graph v) (node_within ab_star.graph u graph ou)
      (node_within ab_star.graph v graph ov),
)
    (alike_nodes 2 IsAbStar ab_star.graph ab_star.words ab_star.finals shortlex refl final u v ou
    ov)

pub ab_star_minimal : IsMinimal 2 IsAbStar ab_star
ab_star_minimal =
    record {
      classes = record {
        letters = refl;
        shortlex = shortlex;
        nodes =
            record { both = nodes };
      };
      long = refl;
      final = final;
    }

pub aba_is_a : Syntactic 2 IsAbStar (0 ∷ 1 ∷ 0 ∷ []) (0 ∷ [])
aba_is_a =
    ((syntactic_by_walks 2 IsAbStar ab_star ab_star_minimal).both (0 ∷ 1 ∷ 0 ∷ []) (0 ∷ [])
    (omega arith, (omega arith, (omega arith, tt))) (omega arith, tt)).1 alike
  where
    alike : (i : ℕ) → i < 3 → walk ab_star.graph i (0 ∷ 1 ∷ 0 ∷ []) ≡ walk ab_star.graph i (0 ∷ [])
    alike zero h = refl
    alike (suc zero) h = refl
    alike (suc (suc zero)) h = refl
    alike (suc (suc (suc i))) h = absurd (omega arith)

pub bb_behind_b : Nerode 2 IsAbStar (1 ∷ 1 ∷ []) (1 ∷ [])
bb_behind_b =
    (nodes (1 ∷ 1 ∷ []) (1 ∷ []) (omega arith, (omega arith, tt)) (omega arith, tt)).0 refl

pub bb_apart_b : ¬ Syntactic 2 IsAbStar (1 ∷ 1 ∷ []) (1 ∷ [])
bb_apart_b s =
    let e : walk ab_star.graph 1 (1 ∷ 1 ∷ []) ≡ walk ab_star.graph 1 (1 ∷ []) =
    ((syntactic_by_walks 2 IsAbStar ab_star ab_star_minimal).both (1 ∷ 1 ∷ []) (1 ∷ [])
    (omega arith, (omega arith, tt)) (omega arith, tt)).0 s 1 (omega arith) in omega (arith, e)
