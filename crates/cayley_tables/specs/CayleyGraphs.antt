-- The elements of a finite monoid that letters generate: its two Cayley graphs and the least words
-- of the elements (Froidure and Pin 1997).
use Rattle.std.specs.Prelude.{ℕ, List}
use Rattle.language_theory.specs.Words.{Over}
use Rattle.language_theory.specs.Congruence.{IsCongruence, MapsAlike}
use Rattle.language_theory.specs.Representatives.{AreRepresentatives}
use Rattle.language_theory.specs.ShortlexGraph.{Graph, target, SameNode, IsShortlex}
use Rattle.monoid_theory.specs.Products.{IsRightGraph, IsLeftGraph}

-- the right and the left Cayley graph, and the least word of each element
pub record CayleyGraphs : Type 0 where
  pub right : Graph
  pub left : Graph
  pub words : List (List ℕ)

-- a shortlex graph that is a right Cayley graph: words that lead from the root to one node lead
-- from each node to one node
pub record IsMonoidGraph (g : Graph) (words : List (List ℕ)) : Type 0 where
  pub shortlex : IsShortlex g words
  pub alike : (u v : List ℕ) → Over g.letters u → Over g.letters v → SameNode g u v
      → MapsAlike g.size (target g) u v

-- To lead to one node of the right graph is a congruence, the words are its least representatives,
-- and the left graph is its own.
pub record AreCayleyGraphs (c : CayleyGraphs) : Type 0 where
  pub shortlex : IsShortlex c.right c.words
  pub congruence : IsCongruence c.right.letters (SameNode c.right)
  pub left : IsLeftGraph c.right.letters (SameNode c.right) c.words c.left

-- the elements are the classes of a relation between words over k letters, by their least words,
-- and the graphs are those of the relation
pub record AreGraphsOf (k : ℕ) (same : List ℕ → List ℕ → Type 0) (c : CayleyGraphs) : Type 0 where
  pub words : AreRepresentatives k same c.words
  pub right : IsRightGraph k same c.words c.right
  pub left : IsLeftGraph k same c.words c.left
