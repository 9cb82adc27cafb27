-- The elements of the syntactic monoid act on the states of the minimal automaton.
use Rattle.std.proofs.Common.{◌≡◌, ◌↔◌, ℕ, ◌<◌, Bool, IsTrue, List, Option, length, sym, ap, subst, ◌∙◌, arith}
use Rattle.language_theory.specs.Words.{Over, word_at}
use Rattle.language_theory.specs.Automaton.{is_marked}
use Rattle.language_theory.specs.Congruence.{Syntactic}
use Rattle.language_theory.specs.Nerode.{MinimalAutomaton, IsMinimal, accepted}
use Rattle.language_theory.specs.ShortlexGraph.{walk, node, SameNode, IsGraphOf}
use Rattle.language_theory.proofs.Congruences.{syntactic_congruence}
use Rattle.language_theory.proofs.Graphs.{word_of_node, node_within}
use Rattle.language_theory.proofs.Minimal.{syntactic_by_walks, agreeing_minimal}
use Rattle.cayley_tables.specs.CayleyGraphs.{CayleyGraphs}
use Rattle.cayley_tables.proofs.AgreeingGraphs.{right_graph_of}
use Rattle.syntactic_monoid.specs.SyntacticMonoid.{SyntacticMonoid, recognised, IsSyntacticMonoid, IsSyntactic}
use Rattle.syntactic_monoid.specs.Action.{AreMarksOfStates, IsActionOn, IsActing, taken, state_of}
use Rattle.syntactic_monoid.proofs.OneMonoid.{same_words, monoid_of_recognised}

module _ (d : MinimalAutomaton) (c : CayleyGraphs) (rows : List (List ℕ)) (finals : List Bool)
    (a : IsActionOn d c rows finals) where
  pub action_graph : IsGraphOf d.graph.letters (Syntactic d.graph.letters (accepted d)) c.right
      c.words
  action_graph =
      right_graph_of d.graph.letters (Syntactic d.graph.letters (accepted d))
      (syntactic_congruence d.graph.letters (accepted d)) c a.graphs

  pub in_right : (w : List ℕ) → Over d.graph.letters w → Over c.right.letters w
  in_right w o = subst (λ (n : ℕ). Over n w) (sym action_graph.letters) o

  pub from_right : (w : List ℕ) → Over c.right.letters w → Over d.graph.letters w
  from_right w o = subst (λ (n : ℕ). Over n w) action_graph.letters o

  pub element_within : (w : List ℕ) → Over d.graph.letters w → node c.right w < length c.words
  element_within w o =
      let s = action_graph.shortlex in
      let l = node_within c.right w s.graph (in_right w o) in
      let e = s.long in omega arith

  -- the element of a word takes each state where the word leads from it
  pub element_acts : (w : List ℕ) (p : ℕ) → Over d.graph.letters w → p < d.graph.size
      → taken rows (node c.right w) p ≡ walk d.graph p w
  element_acts w p o l =
      let i = node c.right w in
      let u = word_at c.words i in
      let n = element_within w o in
      let ou = a.graphs.words.over i n in
      let same : SameNode c.right u w =
      word_of_node c.right c.words action_graph.shortlex w (in_right w o) in
      let alike = ((syntactic_by_walks d.graph.letters (accepted d) d a.minimal).both u w ou o).0
      ((action_graph.nodes.both u w ou o).0 same) in
      a.each i p n l ∙ alike p l

  pub element_state : (w : List ℕ) → Over d.graph.letters w
      → state_of rows (node c.right w) ≡ node d.graph w
  element_state w o = element_acts w 0 o a.minimal.classes.shortlex.graph.root

-- the marks of their states make the elements the syntactic monoid
pub acting_monoid : (d : MinimalAutomaton) (m : SyntacticMonoid) (rows : List (List ℕ))
    (finals : List Bool) → IsActionOn d m.graphs rows finals
    → AreMarksOfStates rows finals m.accepted
    → IsSyntacticMonoid d.graph.letters (accepted d) m
acting_monoid d m rows finals a f =
    record {
      graphs = a.graphs;
      long = f.long ∙ a.long;
      accepts = λ w o. by w o;
    }
  where
    by : (w : List ℕ) → Over d.graph.letters w → recognised m w ↔ accepted d w
    by w o =
        let i = node m.graphs.right w in
        let l = element_within d m.graphs rows finals a w o in
        let e : is_marked m.accepted i ≡ is_marked d.finals (node d.graph w) =
        f.each i (let n = a.long in omega arith)
        ∙ (ap (is_marked finals) (element_state d m.graphs rows finals a w o)
        ∙ ap (λ (xs : List Bool). is_marked xs (node d.graph w)) a.same_finals) in
        (λ t. subst IsTrue e t, λ t. subst IsTrue (sym e) t)

module _ (m : SyntacticMonoid) (rows : List (List ℕ)) (finals : List Bool) (returns : Option ℕ)
    (h : IsActing m rows finals returns) where
  pub monoid_of_automaton : IsSyntacticMonoid h.automaton.graph.letters (accepted h.automaton) m
  monoid_of_automaton = acting_monoid h.automaton m rows finals h.action h.marks

  pub letters_of_automaton : m.graphs.right.letters ≡ h.automaton.graph.letters
  letters_of_automaton = (action_graph h.automaton m.graphs rows finals h.action).letters

  -- each value is the syntactic monoid of the language that it recognises
  pub acting_is_syntactic : IsSyntactic m
  acting_is_syntactic =
      let e = letters_of_automaton in
      record {
        some_letters = (let l = h.action.some_letters in omega arith);
        few_letters = (let l = h.action.few_letters in omega arith);
        monoid = subst (λ (k : ℕ). IsSyntacticMonoid k (recognised m) m) (sym e)
            (monoid_of_recognised h.automaton.graph.letters (accepted h.automaton) m
            monoid_of_automaton);
      }

  -- and its automaton is the minimal one of that language
  pub acting_minimal : IsMinimal h.automaton.graph.letters (recognised m) h.automaton
  acting_minimal =
      agreeing_minimal h.automaton.graph.letters (accepted h.automaton) (recognised m) h.automaton
      (same_words h.automaton.graph.letters (accepted h.automaton) m monoid_of_automaton)
      h.action.minimal
