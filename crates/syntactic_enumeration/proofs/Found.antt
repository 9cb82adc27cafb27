-- What the enumeration finds for the steps of a minimal automaton acts on its states.
use Rattle.std.proofs.Common.{◌≡◌, ◌↔◌, ℕ, ◌<◌, ◌≤◌, Bool, List, length, sym, ap, subst, ◌∙◌, arith}
use Rattle.language_theory.specs.Words.{word_at}
use Rattle.language_theory.specs.Congruence.{Syntactic}
use Rattle.language_theory.specs.Nerode.{MinimalAutomaton, IsMinimal, accepted}
use Rattle.language_theory.specs.Representatives.{HasMoreClasses}
use Rattle.language_theory.specs.ShortlexGraph.{walk, IsGraph}
use Rattle.language_theory.proofs.Congruences.{other_direction, agree_turned, syntactic_congruence}
use Rattle.language_theory.proofs.Graphs.{walk_within}
use Rattle.language_theory.proofs.Representatives.{agreeing_classes}
use Rattle.cayley_tables.specs.CayleyGraphs.{CayleyGraphs, AreGraphsOf}
use Rattle.cayley_tables.specs.declared.limits.TheConstants.{MOST_ELEMENTS}
use Rattle.cayley_tables.proofs.AgreeingGraphs.{agreeing_congruence}
use Rattle.froidure_pin.specs.Maps.{Maps, SameMap}
use Rattle.froidure_pin.specs.Rows.{AreRowsOf}
use Rattle.syntactic_monoid.specs.Action.{AreStateRows, IsActionOn, taken}
use Rattle.syntactic_monoid.proofs.OneMonoid.{graphs_of_agreeing}
use Rattle.syntactic_enumeration.specs.Steps.{AreSteps}
use Rattle.syntactic_enumeration.proofs.StateMaps.{steps_walk, steps_are_syntactic}

module _ (d : MinimalAutomaton) (some : 1 ≤ d.graph.letters) (few : d.graph.letters ≤ 60)
    (h : IsMinimal d.graph.letters (accepted d) d) (m : Maps) (s : AreSteps d.graph m) where
  pub more_classes : (n : ℕ) → HasMoreClasses m.letters (SameMap m) n
      ↔ HasMoreClasses d.graph.letters (Syntactic d.graph.letters (accepted d)) n
  more_classes n =
      subst (λ (k : ℕ). HasMoreClasses k (SameMap m) n
      ↔ HasMoreClasses d.graph.letters (Syntactic d.graph.letters (accepted d)) n) (sym s.letters)
      (other_direction ((agreeing_classes d.graph.letters
      (Syntactic d.graph.letters (accepted d)) (SameMap m)
      (steps_are_syntactic d.graph.letters (accepted d) d m h s)).both n))

  pub found_acts : (c : CayleyGraphs) (rows : List (List ℕ)) (finals : List Bool)
      → AreGraphsOf m.letters (SameMap m) c → AreRowsOf m c.words rows → finals ≡ d.finals
      → IsActionOn d c rows finals
  found_acts c rows finals g r e =
      record {
        some_letters = some;
        few_letters = few;
        minimal = h;
        graphs = graphs;
        same_finals = e;
        long = r.long;
        each = each;
      }
    where
      k : ℕ
      k = d.graph.letters

      graphs : AreGraphsOf d.graph.letters (Syntactic d.graph.letters (accepted d)) c
      graphs =
          let agree = steps_are_syntactic d.graph.letters (accepted d) d m h s in
          graphs_of_agreeing d.graph.letters (SameMap m)
          (Syntactic d.graph.letters (accepted d)) c
          (agreeing_congruence d.graph.letters (Syntactic d.graph.letters (accepted d))
          (syntactic_congruence d.graph.letters (accepted d)) (SameMap m) agree)
          (agree_turned d.graph.letters (Syntactic d.graph.letters (accepted d)) (SameMap m) agree)
          (subst (λ (n : ℕ). AreGraphsOf n (SameMap m) c) s.letters g)

      each : (i p : ℕ) → i < length c.words → p < d.graph.size
          → taken rows i p ≡ walk d.graph p (word_at c.words i)
      each i p l n =
          r.each i p (let f = r.long in omega arith) (let f = s.points in omega arith)
          ∙ steps_walk d.graph m h.classes.shortlex.graph s p (word_at c.words i) n
          (graphs.words.over i l)

-- the rows are those of the states
pub rows_of_states : (d : MinimalAutomaton) (c : CayleyGraphs) (rows : List (List ℕ))
    (finals : List Bool) (m : Maps) → IsActionOn d c rows finals → AreSteps d.graph m
    → AreRowsOf m c.words rows → length rows ≤ MOST_ELEMENTS → AreStateRows (length finals) rows
rows_of_states d c rows finals m a s r few =
    subst (λ (n : ℕ). AreStateRows n rows) (sym size) (record {
      some = root;
      few = few;
      long = λ i l. r.points i l ∙ s.points;
      within = λ i p l n. subst (λ (q : ℕ). q < d.graph.size)
          (sym (a.each i p (let f = a.long in omega arith) n))
          (walk_within d.graph p (word_at c.words i) g n
          (a.graphs.words.over i (let f = a.long in omega arith)));
    })
  where
    g : IsGraph d.graph
    g = a.minimal.classes.shortlex.graph

    root : 1 ≤ d.graph.size
    root = let l = g.root in omega arith

    size : length finals ≡ d.graph.size
    size = ap (λ (xs : List Bool). length xs) a.same_finals ∙ a.minimal.long
