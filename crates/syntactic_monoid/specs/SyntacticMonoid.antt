-- The syntactic monoid of a language (Pin, "Mathematical Foundations of Automata Theory": the
-- syntactic monoid, the syntactic semigroup).
use Rattle.std.specs.Prelude.{◌≡◌, ◌≤◌, ◌↔◌, ℕ, Bool, IsTrue, List, length}
use Rattle.language_theory.specs.Words.{Over}
use Rattle.language_theory.specs.Automaton.{is_marked}
use Rattle.language_theory.specs.Congruence.{Syntactic}
use Rattle.language_theory.specs.Languages.{IsLeastWord}
use Rattle.language_theory.specs.ShortlexGraph.{node, LeadsNonempty}
use Rattle.cayley_tables.specs.CayleyGraphs.{CayleyGraphs, AreGraphsOf}
use Rattle.syn_words.specs.Alphabet.{most_letters}

-- the elements with both Cayley graphs, and for each whether its words are in the language
pub record SyntacticMonoid : Type 0 where
  pub graphs : CayleyGraphs
  pub accepted : List Bool

-- the language: the words that lead to an accepted element
abbrev pub recognised : SyntacticMonoid → List ℕ → Type 0
recognised m w = IsTrue (is_marked m.accepted (node m.graphs.right w))

-- m is the syntactic monoid of L (over k letters): its elements are the classes of the syntactic
-- congruence by their least words, with both Cayley graphs, and those of words of L are accepted
pub record IsSyntacticMonoid (k : ℕ) (L : List ℕ → Type 0) (m : SyntacticMonoid) : Type 0 where
  pub graphs : AreGraphsOf k (Syntactic k L) m.graphs
  pub long : length m.accepted ≡ length m.graphs.words
  pub accepts : (w : List ℕ) → Over k w → recognised m w ↔ L w

-- the syntactic monoid of the language that it recognises, over 1 to 60 letters
pub record IsSyntactic (m : SyntacticMonoid) : Type 0 where
  pub some_letters : 1 ≤ m.graphs.right.letters
  pub few_letters : m.graphs.right.letters ≤ most_letters
  pub monoid : IsSyntacticMonoid m.graphs.right.letters (recognised m) m

-- the element i is that of some word that is not empty: it is in the syntactic semigroup
abbrev pub IsInSemigroup : SyntacticMonoid → ℕ → Type 0
IsInSemigroup m i =
    (w : List ℕ) × Over m.graphs.right.letters w × LeadsNonempty m.graphs.right i w

-- w is the least word of the element i that is not empty
abbrev pub IsNonemptyWordOf : SyntacticMonoid → ℕ → List ℕ → Type 0
IsNonemptyWordOf m i w = IsLeastWord m.graphs.right.letters (LeadsNonempty m.graphs.right i) w
