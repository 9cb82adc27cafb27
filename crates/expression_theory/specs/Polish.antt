-- Polish notation: the nodes of a tree, each before its parts.
use Rattle.std.specs.Prelude.{ℕ, ◌+◌, ◌≤◌, ◌||◌, Bool, false, List, [], ◌∷◌, ◌++◌, length}
use Rattle.expression_theory.specs.Expression.{Tree, Zero, One, Letter, Or, Cat, Star, Plus, Opt}
use Rattle.expression_theory.specs.Positions.{positions, numbered}
use Rattle.expression_theory.specs.FirstLast.{follows}
use Rattle.expression_theory.specs.declared.notation.Node.TheVariants as node
-- a node without its parts
pub use Rattle.expression_theory.specs.declared.notation.Node.{Node}

-- the nodes of the tree
abbrev pub polish : Tree → List Node
polish Zero = node.Zero ∷ []
polish One = node.One ∷ []
polish (Letter a) = node.Letter a ∷ []
polish (Or s t) = node.Or ∷ (polish s ++ polish t)
polish (Cat s t) = node.Cat ∷ (polish s ++ polish t)
polish (Star t) = node.Star ∷ polish t
polish (Plus t) = node.Plus ∷ polish t
polish (Opt t) = node.Opt ∷ polish t

-- trees, one after the other
abbrev pub polish_all : List Tree → List Node
polish_all [] = []
polish_all (t ∷ ts) = polish t ++ polish_all ts

-- the node takes the parts that it needs from the first of the trees
abbrev pub built : Node → List Tree → List Tree
built node.Zero ts = Zero ∷ ts
built node.One ts = One ∷ ts
built (node.Letter a) ts = Letter a ∷ ts
built node.Or (s ∷ (t ∷ ts)) = Or s t ∷ ts
built node.Cat (s ∷ (t ∷ ts)) = Cat s t ∷ ts
built node.Star (t ∷ ts) = Star t ∷ ts
built node.Plus (t ∷ ts) = Plus t ∷ ts
built node.Opt (t ∷ ts) = Opt t ∷ ts
built n ts = ts

-- the trees that the nodes are the notation of
abbrev pub trees : List Node → List Tree
trees [] = []
trees (n ∷ ns) = built n (trees ns)

-- how many parts the node has
abbrev pub arity : Node → ℕ
arity node.Zero = 0
arity node.One = 0
arity (node.Letter a) = 0
arity node.Or = 2
arity node.Cat = 2
arity node.Star = 1
arity node.Plus = 1
arity node.Opt = 1

-- each node finds its parts behind it
abbrev pub IsNotation : List Node → Type 0
IsNotation [] = Unit {0}
IsNotation (n ∷ ns) = (arity n ≤ length (trees ns)) × IsNotation ns

-- the letters, from the left
abbrev pub letters : List Node → List ℕ
letters [] = []
letters (node.Letter a ∷ ns) = a ∷ letters ns
letters (n ∷ ns) = letters ns

-- how many positions the trees have
abbrev pub positions_among : List Tree → ℕ
positions_among [] = 0
positions_among (t ∷ ts) = length (positions t) + positions_among ts

-- whether q can follow p in a word of one of the trees, whose positions are numbered from n on
abbrev pub follows_among : ℕ → List Tree → ℕ → ℕ → Bool
follows_among n [] p q = false
follows_among n (t ∷ ts) p q =
    follows (numbered n t) p q || follows_among (n + length (positions t)) ts p q
