-- From the graph of the keys and the pairs that were explored to the level.
use Rattle.std.proofs.Common.{◌≡◌, ◌↔◌, ℕ, ◌<◌, List, [], Option, Some, length, refl, ap, sym, subst, ◌∙◌, arith}
use Rattle.language_theory.specs.Words.{Over}
use Rattle.language_theory.specs.Congruence.{Agree}
use Rattle.exploration.specs.States.{AreNumbered}
use Rattle.exploration.specs.declared.exploring.ExploreFault.{ExploreFault}
use Rattle.exploration.specs.declared.exploring.ExploreFault.TheVariants as explore
use Rattle.exploration.proofs.Searching.{agree_classes}
use Rattle.language_theory.specs.Representatives.{HasMoreClasses}
use Rattle.language_theory.specs.ShortlexGraph.{Graph, node, IsGraphOf}
use Rattle.language_theory.specs.Nerode.{MinimalAutomaton, IsMinimal}
use Rattle.level_search.specs.declared.deciding.Stop.{Stop}
use Rattle.level_search.specs.declared.deciding.Stop.TheVariants as stop
use Rattle.level_search.specs.Stops.{IsExploreStop}
use Rattle.language_theory.specs.Nerode.{accepted}
use Rattle.level_search.specs.Levels.{Suffices, SamePair}
use Rattle.level_search.specs.Pairs.{Pairs, ArePairs, IsLater, IsOnePair, AreFixedByKeys, number_of, pairs_numbered}
use Rattle.level_search.proofs.Fixing.{pair_is_class, fixed_suffices}

-- the one key that was seen has the number 0
pub first_is_zero : (k : ℕ) (same : List ℕ → List ℕ → Type 0) (number : List ℕ → Option ℕ)
    (count n : ℕ) → AreNumbered k same number count → count ≡ 1 → number [] ≡ Some n → number []
    ≡ Some 0
first_is_zero k same number count n h one e =
    let l : n < count = h.below [] n tt e in
    let zero : n ≡ 0 = omega arith in
    e ∙ ap (λ (m : ℕ). Some m) zero

-- a search that stops for many pairs has found more than the limit
pub many_stop : (fault : ExploreFault) (s : Stop) → IsExploreStop fault s → s ≡ stop.Pairs → fault
    ≡ explore.Limit
many_stop explore.Limit s h e = refl
many_stop explore.Memory s h e = cc

module _ (dfa : MinimalAutomaton) (same : List ℕ → List ℕ → Type 0) (keys : Graph)
    (words : List (List ℕ)) (most : ℕ) (p : Pairs)
    (is : p ≡ record { dfa = dfa; keys = keys; seen = [] })
    (m : IsMinimal dfa.graph.letters (accepted dfa) dfa)
    (g : IsGraphOf dfa.graph.letters same keys words) where
  -- the machine that was made is one of pairs of a Nerode class and a key
  made_pairs : Agree dfa.graph.letters (SamePair dfa.graph.letters (accepted dfa) same)
      (IsOnePair p)
  made_pairs =
      subst (λ (q : Pairs). Agree dfa.graph.letters (SamePair dfa.graph.letters (accepted dfa) same)
      (IsOnePair q)) (sym is)
      (pair_is_class dfa.graph.letters (accepted dfa) same
      (record { dfa = dfa; keys = keys; seen = [] }) words m g)

  letters_made : p.dfa.graph.letters ≡ dfa.graph.letters
  letters_made = ap (λ (q : Pairs). q.dfa.graph.letters) is

  pub many_pairs : HasMoreClasses p.dfa.graph.letters (IsOnePair p) most
      → HasMoreClasses dfa.graph.letters (SamePair dfa.graph.letters (accepted dfa) same) most
  many_pairs h = agree_classes dfa.graph.letters (SamePair dfa.graph.letters (accepted dfa) same)
      (IsOnePair p) most made_pairs
      (subst (λ (k : ℕ). HasMoreClasses k (IsOnePair p) most) letters_made h)

  pub few_pairs : ¬ HasMoreClasses p.dfa.graph.letters (IsOnePair p) most
      → ¬ HasMoreClasses dfa.graph.letters (SamePair dfa.graph.letters (accepted dfa) same) most
  few_pairs h f =
      h (subst (λ (k : ℕ). HasMoreClasses k (IsOnePair p) most) (sym letters_made)
      (agree_classes dfa.graph.letters (IsOnePair p)
      (SamePair dfa.graph.letters (accepted dfa) same) most
      (record { both = λ u v ou ov. let b = made_pairs.both u v ou ov in (b.1, b.0) }) f))

  -- after the search, what is recognized is fixed by the keys exactly where the level suffices
  pub explored_suffices : (q : Pairs) (top : Graph) → IsLater p q → ArePairs q
      → ((w : List ℕ) → Over p.dfa.graph.letters w → number_of q w ≡ Some (node top w))
      → AreFixedByKeys q ↔ Suffices dfa.graph.letters (accepted dfa) same
  explored_suffices q top later h numbers =
      fixed_suffices dfa.graph.letters (accepted dfa) same q words
      (subst (λ (d : MinimalAutomaton). IsMinimal dfa.graph.letters (accepted dfa) d)
      (sym dfa_is) m)
      (subst (λ (d : Graph). IsGraphOf dfa.graph.letters same d words) (sym keys_is) g) letters h
      all
    where
      dfa_is : q.dfa ≡ dfa
      dfa_is = ap (λ (r : Pairs). r.dfa) later ∙ ap (λ (r : Pairs). r.dfa) is

      keys_is : q.keys ≡ keys
      keys_is = ap (λ (r : Pairs). r.keys) later ∙ ap (λ (r : Pairs). r.keys) is

      letters : q.dfa.graph.letters ≡ dfa.graph.letters
      letters = ap (λ (d : MinimalAutomaton). d.graph.letters) dfa_is

      all : (w : List ℕ) → Over dfa.graph.letters w → (n : ℕ) × (number_of q w ≡ Some n)
          × (n < length q.seen)
      all w o =
          let e = numbers w (subst (λ (k : ℕ). Over k w) (sym letters_made) o) in (
            node top w,
            e,
            (pairs_numbered q h).below w (node top w)
                (subst (λ (k : ℕ). Over k w) (sym letters) o) e,
          )
