-- A language has one syntactic monoid, and so have languages with the same words.
use Rattle.std.proofs.Common.{◌≡◌, ◌↔◌, ℕ, ◌<◌, false, IsTrue, List, length, sym, ap, subst, ◌∙◌, arith}
use Rattle.std.specs.Cmp.{both_ways}
use Rattle.std.proofs.lemmas.List.{ext_get_or}
use Rattle.language_theory.specs.Words.{word_at}
use Rattle.language_theory.specs.Automaton.{is_marked}
use Rattle.language_theory.specs.Congruence.{Syntactic, IsCongruence, Agree}
use Rattle.language_theory.specs.Languages.{HaveSameWords}
use Rattle.language_theory.specs.ShortlexGraph.{SameNode, IsGraphOf}
use Rattle.language_theory.proofs.Congruences.{both_directions, other_direction, syntactic_congruence, syntactic_agrees, agree_joined}
use Rattle.cayley_tables.specs.CayleyGraphs.{CayleyGraphs, AreGraphsOf}
use Rattle.cayley_tables.proofs.AgreeingGraphs.{agreeing_graphs, right_graph_of, graphs_agree, graphs_are_cayley, graphs_are_one}
use Rattle.syntactic_monoid.specs.SyntacticMonoid.{SyntacticMonoid, recognised, IsSyntacticMonoid}

-- the graphs of a congruence are those of each relation that agrees with it
pub graphs_of_agreeing : (k : ℕ) (same other : List ℕ → List ℕ → Type 0) (c : CayleyGraphs)
    → IsCongruence k same → Agree k same other → AreGraphsOf k same c → AreGraphsOf k other c
graphs_of_agreeing k same other c q a h =
    let letters : c.right.letters ≡ k = (right_graph_of k same q c h).letters in
    let agree : Agree k (SameNode c.right) other =
    agree_joined k (SameNode c.right) same other (graphs_agree k same q c h) a in
    subst (λ (n : ℕ). AreGraphsOf n other c) letters
    (agreeing_graphs other c (graphs_are_cayley k same q c h)
    (subst (λ (n : ℕ). Agree n (SameNode c.right) other) (sym letters) agree))

-- the syntactic monoid of a language is that of each language with the same words
pub monoid_of_agreeing : (k : ℕ) (L M : List ℕ → Type 0) (m : SyntacticMonoid)
    → HaveSameWords k L M → IsSyntacticMonoid k L m → IsSyntacticMonoid k M m
monoid_of_agreeing k L M m a h = record {
  graphs = graphs_of_agreeing k (Syntactic k L) (Syntactic k M) m.graphs (syntactic_congruence k L)
      (syntactic_agrees k L M a) h.graphs;
  long = h.long;
  accepts = λ w o. both_directions (h.accepts w o) (a.both w o);
}

module _ (k : ℕ) (L : List ℕ → Type 0) (m : SyntacticMonoid) (h : IsSyntacticMonoid k L m) where
  -- the right graph is the shortlex graph of the syntactic congruence
  pub right_graph : IsGraphOf k (Syntactic k L) m.graphs.right m.graphs.words
  right_graph = right_graph_of k (Syntactic k L) (syntactic_congruence k L) m.graphs h.graphs

  -- a monoid of a language recognises a language with the same words
  pub same_words : HaveSameWords k L (recognised m)
  same_words = record { both = λ w o. other_direction (h.accepts w o) }

  -- and is the monoid of what it recognises
  pub monoid_of_recognised : IsSyntacticMonoid k (recognised m) m
  monoid_of_recognised = monoid_of_agreeing k L (recognised m) m same_words h

  -- an element is accepted where its word is in the language
  pub accepted_at : (i : ℕ) → i < length m.graphs.words
      → IsTrue (is_marked m.accepted i) ↔ L (word_at m.graphs.words i)
  accepted_at i l =
      let s = right_graph.shortlex in
      let e = s.long in
      subst (λ (j : ℕ). IsTrue (is_marked m.accepted j) ↔ L (word_at m.graphs.words i))
      (s.leads i (omega arith)) (h.accepts (word_at m.graphs.words i) (h.graphs.words.over i l))

-- a language has one syntactic monoid
pub monoids_are_one : (k : ℕ) (L : List ℕ → Type 0) (m n : SyntacticMonoid)
    → IsSyntacticMonoid k L m → IsSyntacticMonoid k L n → m ≡ n
monoids_are_one k L m n g h =
    let e = graphs in let f = marks in λ i. record { graphs = e i; accepted = f i }
  where
    graphs : m.graphs ≡ n.graphs
    graphs = graphs_are_one k (Syntactic k L) m.graphs n.graphs (syntactic_congruence k L) g.graphs
        h.graphs

    words : m.graphs.words ≡ n.graphs.words
    words = ap (λ (c : CayleyGraphs). c.words) graphs

    at : (i : ℕ) → i < length m.accepted → is_marked m.accepted i ≡ is_marked n.accepted i
    at i l =
        let j : i < length m.graphs.words = (let e = g.long in omega arith) in
        let one = accepted_at k L m g i j in
        let other : IsTrue (is_marked n.accepted i) ↔ L (word_at m.graphs.words i) =
        subst (λ (ws : List (List ℕ)). IsTrue (is_marked n.accepted i) ↔ L (word_at ws i))
        (sym words)
        (accepted_at k L n h i
        (subst (λ (ws : List (List ℕ)). i < length ws) words j)) in
        both_ways (is_marked m.accepted i) (is_marked n.accepted i) (λ t. other.1 (one.0 t))
        (λ t. one.1 (other.0 t))

    marks : m.accepted ≡ n.accepted
    marks =
        ext_get_or false m.accepted n.accepted
        (g.long ∙ (ap (λ (ws : List (List ℕ)). length ws) words ∙ sym h.long)) at
