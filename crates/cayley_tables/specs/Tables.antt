-- The flat tables of a finite monoid, and what they stand for.
use Rattle.std.specs.Prelude.{◌<◌, ◌≤◌, ◌+◌, ◌*◌, ℕ, List, length}
use Rattle.language_theory.specs.Congruence.{IsCongruence}
use Rattle.language_theory.specs.ShortlexGraph.{Graph, target, SameNode, IsShortlex}
use Rattle.monoid_theory.specs.Products.{IsLeftGraph}
use Rattle.cayley_tables.specs.declared.limits.TheConstants.{MOST_ELEMENTS}
use Rattle.cayley_tables.specs.CayleyGraphs.{CayleyGraphs, IsMonoidGraph}
use Rattle.cayley_tables.specs.Links.{LinkLists, AreLinks, spelled}
use Rattle.syn_words.specs.Alphabet.{most_letters}

pub record Tables : Type 0 where
  pub letters : ℕ
  pub right : List ℕ
  pub left : List ℕ
  pub links : LinkLists

-- the graph of these targets, with a node for each element
abbrev pub graph_of : Tables → List ℕ → Graph
graph_of t targets = record { size = length t.links.prefix; letters = t.letters; targets = targets }

-- the graphs and words that tables stand for
abbrev pub graphs_of : Tables → CayleyGraphs
graphs_of t =
    record {
      right = graph_of t t.right;
      left = graph_of t t.left;
      words =
          spelled t.links.prefix t.links.last;
    }

abbrev pub tables : ℕ → List ℕ → List ℕ → LinkLists → Tables
tables letters right left links =
    record { letters = letters; right = right; left = left; links = links }

-- the tables of a monoid whose elements have these words
pub record AreTables (t : Tables) (words : List (List ℕ)) : Type 0 where
  pub some : 1 ≤ t.letters
  pub letters : t.letters ≤ most_letters
  pub small : length t.links.prefix ≤ MOST_ELEMENTS
  pub shortlex : IsShortlex (graph_of t t.right) words
  pub congruence : IsCongruence t.letters (SameNode (graph_of t t.right))
  pub left : IsLeftGraph t.letters (SameNode (graph_of t t.right)) words (graph_of t t.left)
  pub links : AreLinks t.letters words (length t.links.prefix) t.links

abbrev pub right_graph : ℕ → ℕ → List ℕ → Graph
right_graph size letters targets = record { size = size; letters = letters; targets = targets }

-- targets that are a right Cayley graph of at most `MOST_ELEMENTS` elements and 60 letters
pub record AreMonoidTargets (letters : ℕ) (targets : List ℕ) : Type 0 where
  pub some : 1 ≤ letters
  pub few : letters ≤ most_letters
  pub size : ℕ
  pub small : size ≤ MOST_ELEMENTS
  pub words : List (List ℕ)
  pub monoid : IsMonoidGraph (right_graph size letters targets) words

-- the links of the elements that are found among the first n targets of a monoid's right graph
pub record IsLinking (g : Graph) (n : ℕ) (l : LinkLists) : Type 0 where
  pub words : List (List ℕ)
  pub monoid : IsMonoidGraph g words
  pub few : length l.prefix ≤ g.size
  pub links : AreLinks g.letters words (length l.prefix) l
  pub handled : (p a : ℕ) → a < g.letters → p * g.letters + a < n → target g p a < length l.prefix
