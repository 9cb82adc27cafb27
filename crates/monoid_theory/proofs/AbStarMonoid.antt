-- The syntactic monoid of (ab)*: its six elements, its rules and its classes.
use Rattle.std.proofs.Common.{◌≡◌, ℕ, zero, suc, ◌+◌, ◌*◌, ◌<◌, true, eqb, ltb, cond, List, [], ◌∷◌, ◌++◌, slice_index, slice_index_or, refl, ap, sym, subst, ◌∙◌, arith}
use Rattle.std.proofs.lemmas.Bool.{eqb-true, eq-eqb, ltb-true, lt-ltb}
use Rattle.std.proofs.lemmas.Grind.{get_or_default_zero}
use Rattle.language_theory.specs.Words.{Over, word_at, shortlex, ◌⊏◌}
use Rattle.language_theory.specs.Congruence.{Syntactic, Agree, MapsAlike}
use Rattle.language_theory.specs.ShortlexGraph.{target, walk, node, SameNode, IsGraph, IsShortlex, IsGraphOf}
use Rattle.language_theory.specs.Examples.{IsAbStar, ab_star}
use Rattle.monoid_theory.specs.Examples.{ab_star_monoid, ab_star_elements}
use Rattle.monoid_theory.proofs.SmallTests.{every_below, at_every, at_every_two, is_less, is_not_less, less_if, not_less_if, under}
use Rattle.language_theory.proofs.Congruences.{agree_joined, agree_turned}
use Rattle.language_theory.proofs.Graphs.{node_within, target_within}
use Rattle.language_theory.proofs.ShortlexCriterion.{shortlex_by_letters}
use Rattle.language_theory.proofs.Minimal.{syntactic_by_walks}
use Rattle.language_theory.proofs.AbStar.{ab_star_minimal}

pub graph : IsGraph ab_star_monoid
graph = record { root = omega arith; long = refl; within = within }
  where
    within : (k d : ℕ) → k < 12 → slice_index_or ab_star_monoid.targets k d < 6
    within k d h =
        subst (λ (t : ℕ). t < 6) (sym (get_or_default_zero ab_star_monoid.targets k d h))
        (ltb-true (slice_index ab_star_monoid.targets k) 6
        (at_every 12 (λ k. ltb (slice_index ab_star_monoid.targets k) 6) refl k h))

over : (i : ℕ) → i < 6 → Over 2 (word_at ab_star_elements i)
over zero h = tt
over (suc zero) h = (omega arith, tt)
over (suc (suc zero)) h = (omega arith, tt)
over (suc (suc (suc zero))) h = (omega arith, (omega arith, tt))
over (suc (suc (suc (suc zero)))) h = (omega arith, (omega arith, tt))
over (suc (suc (suc (suc (suc zero))))) h = (omega arith, (omega arith, tt))
over (suc (suc (suc (suc (suc (suc i)))))) h = tt

leads : (i : ℕ) → i < 6 → node ab_star_monoid (word_at ab_star_elements i) ≡ i
leads i h =
    eqb-true (node ab_star_monoid (word_at ab_star_elements i)) i
    (at_every 6 (λ i. eqb (node ab_star_monoid (word_at ab_star_elements i)) i) refl i h)

rise : (i j : ℕ) → i < j → j < 6 → word_at ab_star_elements i ⊏ word_at ab_star_elements j
rise i j h l =
    less_if (shortlex (word_at ab_star_elements i) (word_at ab_star_elements j))
    (under (ltb i j) (is_less (shortlex (word_at ab_star_elements i)
    (word_at ab_star_elements j)))
    (at_every_two 6 6 (λ i j. cond (ltb i j)
    (is_less (shortlex (word_at ab_star_elements i) (word_at ab_star_elements j))) true)
    refl i j (omega arith) l) (lt-ltb i j h))

steps : (i a : ℕ) → i < 6 → a < 2
    → ¬ ((word_at ab_star_elements i ++ a ∷ []) ⊏ word_at ab_star_elements
    (target ab_star_monoid i a))
steps i a h l =
    not_less_if (shortlex (word_at ab_star_elements i ++ a ∷ [])
    (word_at ab_star_elements (target ab_star_monoid i a)))
    (at_every_two 6 2 (λ i a. is_not_less
    (shortlex (word_at ab_star_elements i ++ a ∷ [])
    (word_at ab_star_elements (target ab_star_monoid i a)))) refl i a h l)

shortlex_graph : IsShortlex ab_star_monoid ab_star_elements
shortlex_graph =
    shortlex_by_letters ab_star_monoid ab_star_elements graph refl over leads rise refl steps

-- where the element m takes the node i of the minimal automaton
act : ℕ → ℕ → ℕ
act m i = walk ab_star.graph i (word_at ab_star_elements m)

act_letter : (m a i : ℕ) → m < 6 → a < 2 → i < 3
    → act (target ab_star_monoid m a) i ≡ target ab_star.graph (act m i) a
unfolding act
act_letter m a i hm ha hi =
    eqb-true (act (target ab_star_monoid m a) i) (target ab_star.graph (act m i) a)
    (at_every 3 (λ i. eqb (act (target ab_star_monoid m a) i) (target ab_star.graph (act m i) a))
    (at_every_two 6 2 (λ m a. every_below 3
    (λ i. eqb (act (target ab_star_monoid m a) i) (target ab_star.graph (act m i) a))) refl
    m a hm ha) i hi)

act_word : (m i : ℕ) (w : List ℕ) → m < 6 → i < 3 → Over 2 w
    → act (walk ab_star_monoid m w) i ≡ walk ab_star.graph (act m i) w
act_word m i [] hm hi o = refl
act_word m i (a ∷ w) hm hi o =
    act_word (target ab_star_monoid m a) i w (target_within ab_star_monoid m a graph hm o.0) hi o.1
    ∙ ap (λ (j : ℕ). walk ab_star.graph j w) (act_letter m a i hm o.0 hi)

-- a word takes the nodes where its element takes them
act_node : (i : ℕ) (w : List ℕ) → i < 3 → Over 2 w
    → act (node ab_star_monoid w) i ≡ walk ab_star.graph i w
unfolding act
act_node i w h o = act_word 0 i w (omega arith) h o

-- the three nodes to which an element takes the nodes, as one number
code : ℕ → ℕ
code m = act m 0 * 9 + act m 1 * 3 + act m 2

code_is_one : (m n : ℕ) → m < 6 → n < 6 → code m ≡ code n → m ≡ n
unfolding code act
code_is_one m n h g e =
    eqb-true m n (under (eqb (code m) (code n)) (eqb m n)
    (at_every_two 6 6 (λ m n. cond (eqb (code m) (code n)) (eqb m n) true) refl m n h g)
    (eq-eqb (code m) (code n) e))

moves_alike : Agree 2 (SameNode ab_star_monoid) (MapsAlike 3 (target ab_star.graph))
unfolding code
moves_alike =
    record {
      both = λ u v ou ov. (
        λ e i h. sym (act_node i u h ou)
            ∙ (ap (λ (m : ℕ). act m i) e ∙ act_node i v h ov),
        from u v ou ov,
      );
    }
  where
    from : (u v : List ℕ) → Over 2 u → Over 2 v → MapsAlike 3 (target ab_star.graph) u v
        → SameNode ab_star_monoid u v
    from u v ou ov f =
        code_is_one (node ab_star_monoid u) (node ab_star_monoid v)
        (node_within ab_star_monoid u graph ou) (node_within ab_star_monoid v graph ov) same
      where
        at : (i : ℕ) → i < 3 → act (node ab_star_monoid u) i ≡ act (node ab_star_monoid v) i
        at i h = act_node i u h ou ∙ (f i h ∙ sym (act_node i v h ov))

        same : code (node ab_star_monoid u) ≡ code (node ab_star_monoid v)
        same =
            let x = at 0 (omega arith) in let y = at 1 (omega arith) in let z =
            at 2 (omega arith) in cc

-- the graph is that of the syntactic congruence of (ab)*
pub ab_star_monoid_graph : IsGraphOf 2 (Syntactic 2 IsAbStar) ab_star_monoid ab_star_elements
ab_star_monoid_graph = record {
  letters = refl;
  shortlex = shortlex_graph;
  nodes =
      agree_joined 2 (SameNode ab_star_monoid) (MapsAlike 3 (target ab_star.graph))
      (Syntactic 2 IsAbStar) moves_alike
      (agree_turned 2 (Syntactic 2 IsAbStar) (MapsAlike 3 (target ab_star.graph))
      (syntactic_by_walks 2 IsAbStar ab_star ab_star_minimal));
}
