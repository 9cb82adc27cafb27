-- Contexts that tell two words apart. Which context stands for all, the least one, is this
-- project's choice.
use Rattle.std.specs.Prelude.{◌≡◌, ◌<◌, ◌++◌, ℕ, List}
use Rattle.language_theory.specs.Words.{Over}
use Rattle.language_theory.specs.Languages.{ExactlyOne, IsLeastWord}
use Rattle.language_theory.specs.ShortlexGraph.{Graph, walk}

-- between u and v exactly one of s and t gives a word of L
abbrev pub Separates : (List ℕ → Type 0) → List ℕ → List ℕ → List ℕ → List ℕ → Type 0
Separates L s t u v = ExactlyOne (L (u ++ (s ++ v))) (L (u ++ (t ++ v)))

-- u, together with some v, separates s and t
abbrev pub CanSeparate : ℕ → (List ℕ → Type 0) → List ℕ → List ℕ → List ℕ → Type 0
CanSeparate k L s t u = (v : List ℕ) × Over k v × Separates L s t u v

-- u is the least word that together with some v separates s and t, and v the least such word for
-- that u
pub record IsSeparation (k : ℕ) (L : List ℕ → Type 0) (s t u v : List ℕ) : Type 0 where
  pub before : IsLeastWord k (CanSeparate k L s t) u
  pub behind : IsLeastWord k (Separates L s t u) v

-- s and t lead from the node i to two nodes, and from each smaller node to one
pub record IsFirstParting (g : Graph) (s t : List ℕ) (i : ℕ) : Type 0 where
  pub within : i < g.size
  pub parts : ¬ (walk g i s ≡ walk g i t)
  pub first : (j : ℕ) → j < i → walk g j s ≡ walk g j t
