-- Finite complete deterministic graphs whose nodes are numbered in shortlex order of the least
-- words that lead to them from node 0.
use Rattle.std.specs.Prelude.{◌≡◌, ◌<◌, ◌+◌, ◌*◌, ◌↔◌, ℕ, Bool, List, [], length, slice_index, All}
use Rattle.language_theory.specs.Words.{Over, word_at}
use Rattle.language_theory.specs.Automaton.{is_marked}
use Rattle.language_theory.specs.Representatives.{AreRepresentatives}
use Rattle.language_theory.specs.Congruence.{Agree, moved}

-- the targets of node 0 for each letter, then those of node 1, and so on
pub record Graph : Type 0 where
  pub size : ℕ
  pub letters : ℕ
  pub targets : List ℕ

-- the node to which the letter a leads from node i
abbrev pub target : Graph → ℕ → ℕ → ℕ
target g i a = slice_index g.targets (i * g.letters + a)

-- the node to which a word leads from node i
abbrev pub walk : Graph → ℕ → List ℕ → ℕ
walk g i w = moved (target g) i w

-- the node to which a word leads from the root
abbrev pub node : Graph → List ℕ → ℕ
node g w = walk g 0 w

-- both words lead from the root to one node
abbrev pub SameNode : Graph → List ℕ → List ℕ → Type 0
SameNode g u v = node g u ≡ node g v

-- a word that is not empty leads from the root to the node i
abbrev pub LeadsNonempty : Graph → ℕ → List ℕ → Type 0
LeadsNonempty g i w = ¬ (w ≡ []) × (node g w ≡ i)

-- each node has a target among the nodes for each letter
pub record IsGraph (g : Graph) : Type 0 where
  pub root : 0 < g.size
  pub long : length g.targets ≡ g.size * g.letters
  pub within : All (λ t. t < g.size) g.targets

-- `words` has the least word of each node, and they rise with the nodes
pub record IsShortlex (g : Graph) (words : List (List ℕ)) : Type 0 where
  pub graph : IsGraph g
  pub long : length words ≡ g.size
  pub leads : (i : ℕ) → i < g.size → node g (word_at words i) ≡ i
  pub least : AreRepresentatives g.letters (SameNode g) words

-- the shortlex graph of a relation between words over k letters: its nodes are the classes
pub record IsGraphOf (k : ℕ) (same : List ℕ → List ℕ → Type 0) (g : Graph)
    (words : List (List ℕ)) : Type 0 where
  pub letters : g.letters ≡ k
  pub shortlex : IsShortlex g words
  pub nodes : Agree k (SameNode g) same

-- Class numbers below `count`, one for each node, in the order in which the classes first occur.
pub record IsNumbering (count : ℕ) (classes : List ℕ) : Type 0 where
  pub within : (i : ℕ) → i < length classes → slice_index classes i < count
  pub used : (c : ℕ) → c < count → (i : ℕ) × (i < length classes) × (slice_index classes i ≡ c)
  pub order : (i c : ℕ) → i < length classes → c < slice_index classes i → (j : ℕ) × (j < i)
      × (slice_index classes j ≡ c)

-- i is the least node of the class c
pub record IsFirst (classes : List ℕ) (c i : ℕ) : Type 0 where
  pub within : i < length classes
  pub member : slice_index classes i ≡ c
  pub least : (j : ℕ) → j < i → ¬ (slice_index classes j ≡ c)

-- a partition of the nodes that every letter keeps
pub record IsPartition (g : Graph) (count : ℕ) (classes : List ℕ) : Type 0 where
  pub long : length classes ≡ g.size
  pub numbering : IsNumbering count classes
  pub kept : (i j a : ℕ) → i < g.size → j < g.size → a < g.letters
      → slice_index classes i ≡ slice_index classes j
      → slice_index classes (target g i a) ≡ slice_index classes (target g j a)

-- the graph whose nodes are the classes of a partition
pub record IsQuotient (g : Graph) (count : ℕ) (classes : List ℕ) (quotient : Graph) : Type 0 where
  pub size : quotient.size ≡ count
  pub letters : quotient.letters ≡ g.letters
  pub graph : IsGraph quotient
  pub targets : (i a : ℕ) → i < g.size → a < g.letters
      → target quotient (slice_index classes i) a ≡ slice_index classes (target g i a)

-- each class has the least word of its least node
pub record AreFirstWords (count : ℕ) (classes : List ℕ) (words first : List (List ℕ)) : Type 0 where
  pub long : length first ≡ count
  pub at : (c i : ℕ) → c < count → IsFirst classes c i → word_at first c ≡ word_at words i

-- no word tells the nodes apart: it leads from both to marked nodes, or from both to nodes without
-- a mark (Moore)
abbrev pub Alike : Graph → List Bool → ℕ → ℕ → Type 0
Alike g marks i j =
    (w : List ℕ) → Over g.letters w → is_marked marks (walk g i w) ≡ is_marked marks (walk g j w)

-- the coarsest partition that respects the marks and the letters
pub record IsCoarsest (g : Graph) (marks : List Bool) (count : ℕ) (classes : List ℕ) : Type 0 where
  pub partition : IsPartition g count classes
  pub alike : (i j : ℕ) → i < g.size → j < g.size → (slice_index classes i ≡ slice_index classes j)
      ↔ Alike g marks i j
