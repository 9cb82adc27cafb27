-- Rational expressions and their languages (Pin: rational expressions).
use Rattle.std.specs.Prelude.{◌≡◌, ℕ, ◌+◌, ◌⊎◌, List, [], ◌∷◌, ◌++◌}

-- An expression without the addresses of its parts. `Plus` is once or more, `Opt` is once or not.
pub data Tree : Type 0 where
  Zero : Tree
  One : Tree
  Letter : (a : ℕ) → Tree
  Or : (s t : Tree) → Tree
  Cat : (s t : Tree) → Tree
  Star : (t : Tree) → Tree
  Plus : (t : Tree) → Tree
  Opt : (t : Tree) → Tree

-- the words `u v`, u of the first language and v of the second
abbrev pub Concatenation : (L M : List ℕ → Type 0) → List ℕ → Type 0
Concatenation L M w = (u v : List ℕ) × L u × M v × (u ++ v ≡ w)

-- the empty word, and the words `u v`, u a nonempty word of L and v again such a word
pub data KleeneStar (L : List ℕ → Type 0) : List ℕ → Type 0 where
  nothing : KleeneStar L []
  piece : {a : ℕ} {u v : List ℕ} → L (a ∷ u) → KleeneStar L v → KleeneStar L (a ∷ (u ++ v))

-- the language of an expression
abbrev pub Means : Tree → List ℕ → Type 0
Means Zero w = ⊥
Means One w = w ≡ []
Means (Letter a) w = w ≡ a ∷ []
Means (Or s t) w = Means s w ⊎ Means t w
Means (Cat s t) w = Concatenation (Means s) (Means t) w
Means (Star t) w = KleeneStar (Means t) w
Means (Plus t) w = Concatenation (Means t) (KleeneStar (Means t)) w
Means (Opt t) w = (w ≡ []) ⊎ Means t w

-- how many nodes the tree has: one for each letter, `0`, `1`, union, concatenation and postfix sign
abbrev pub nodes : Tree → ℕ
nodes Zero = 1
nodes One = 1
nodes (Letter a) = 1
nodes (Or s t) = nodes s + nodes t + 1
nodes (Cat s t) = nodes s + nodes t + 1
nodes (Star t) = nodes t + 1
nodes (Plus t) = nodes t + 1
nodes (Opt t) = nodes t + 1

-- the most nodes of a tree that is read from a text
abbrev pub most_nodes : ℕ
most_nodes = 4000
