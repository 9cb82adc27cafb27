-- Star-free lists: star-free expressions, written as a list of nodes of which each names earlier
-- ones (Pin, "Mathematical Foundations of Automata Theory": star-free languages; Schützenberger
-- 1965). The complement is taken in the words over k letters.
use Rattle.std.specs.Prelude.{◌≡◌, ◌<◌, ◌⊎◌, ◌+◌, ◌++◌, ℕ, suc, Bool, true, false, cond, eqb, List}
use Rattle.std.specs.Prelude.{[], ◌∷◌}
use Rattle.std.specs.Prelude.{length, reverse, max}
use Rattle.language_theory.specs.Words.{Over}
use Rattle.star_free_theory.specs.declared.nodes.SfNode.TheVariants as node
-- a node, which names others by their places
pub use Rattle.star_free_theory.specs.declared.nodes.SfNode.{SfNode}

-- a word of L and a word of M behind it
abbrev pub Concat : (List ℕ → Type 0) → (List ℕ → Type 0) → List ℕ → Type 0
Concat L M w = (u v : List ℕ) × L u × M v × (u ++ v ≡ w)

-- the words of a node, where M i is the words of node i
abbrev pub Meaning : ℕ → SfNode → (ℕ → List ℕ → Type 0) → List ℕ → Type 0
Meaning k node.Empty M w = ⊥
Meaning k node.Eps M w = w ≡ []
Meaning k (node.Letter a) M w = (a < k) × (w ≡ a ∷ [])
Meaning k (node.Not i) M w = Over k w × ¬ M i w
Meaning k (node.Cat i j) M w = Concat (M i) (M j) w
Meaning k (node.Or i j) M w = M i w ⊎ M j w
Meaning k (node.And i j) M w = M i w × M j w

abbrev pub Choice : Bool → Type 0 → Type 0 → Type 0
Choice true A B = A
Choice false A B = B

-- the words of node n of a list whose newest node comes first
abbrev pub Means : ℕ → List SfNode → ℕ → List ℕ → Type 0
Means k [] n w = ⊥
Means k (x ∷ xs) n w = Choice (eqb n (length xs)) (Meaning k x (Means k xs) w) (Means k xs n w)

-- w is a word of node n of a list, as it is written
abbrev pub Denotes : ℕ → List SfNode → ℕ → List ℕ → Type 0
Denotes k nodes = Means k (reverse nodes)

-- the nodes that a node names are below n
abbrev pub NamesBelow : ℕ → SfNode → Type 0
NamesBelow n node.Empty = Unit {0}
NamesBelow n node.Eps = Unit {0}
NamesBelow n (node.Letter a) = Unit {0}
NamesBelow n (node.Not i) = i < n
NamesBelow n (node.Cat i j) = (i < n) × (j < n)
NamesBelow n (node.Or i j) = (i < n) × (j < n)
NamesBelow n (node.And i j) = (i < n) × (j < n)

-- each node names earlier ones, where the first of the list has the number n
abbrev pub NameEarlier : ℕ → List SfNode → Type 0
NameEarlier n [] = Unit {0}
NameEarlier n (x ∷ xs) = NamesBelow n x × NameEarlier (suc n) xs

-- each node names earlier ones, and the root is one of them
pub record IsStarFreeList (nodes : List SfNode) (root : ℕ) : Type 0 where
  pub earlier : NameEarlier 0 nodes
  pub inside : root < length nodes

-- the number from which on no power tells words of a node apart, where h gives those of the nodes
-- that it names
abbrev pub settling_of : SfNode → (ℕ → ℕ) → ℕ
settling_of node.Empty h = 0
settling_of node.Eps h = 1
settling_of (node.Letter a) h = 2
settling_of (node.Not i) h = h i
settling_of (node.Cat i j) h = h i + h j + 1
settling_of (node.Or i j) h = max (h i) (h j)
settling_of (node.And i j) h = max (h i) (h j)

-- the settling number of node n of a list whose newest node comes first
abbrev pub settling_newest : List SfNode → ℕ → ℕ
settling_newest [] n = 0
settling_newest (x ∷ xs) n =
    cond (eqb n (length xs)) (settling_of x (settling_newest xs)) (settling_newest xs n)

-- the settling number of node n of a list
abbrev pub settling : List SfNode → ℕ → ℕ
settling nodes = settling_newest (reverse nodes)
