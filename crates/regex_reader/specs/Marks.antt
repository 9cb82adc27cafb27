-- A relation of numbers below a width, as a row of marks for each.
use Rattle.std.specs.Prelude.{◌≡◌, ℕ, ◌+◌, ◌<◌, ◌≤◌, Bool, false, ◌||◌, List, [], length, All, slice_index_or}
use Rattle.language_theory.specs.Automaton as automaton
use Rattle.expression_theory.specs.Expression.{most_nodes}

-- the greatest width of a table: an expression has no more letters than nodes, and before them
-- there is the start
abbrev pub widest : ℕ
widest = most_nodes + 1

-- a row of marks for each number below the width
pub record Table : Type 0 where
  pub width : ℕ
  pub rows : List (List Bool)

-- each row has a place for each number below the width
pub record IsSquare (m : Table) : Type 0 where
  pub long : length m.rows ≡ m.width
  pub row : All (λ marks. length marks ≡ m.width) m.rows

-- the row of a number
abbrev pub row_of : Table → ℕ → List Bool
row_of m p = slice_index_or m.rows p []

-- whether the pair is there
abbrev pub is_marked : Table → ℕ → ℕ → Bool
is_marked m p q = automaton.is_marked (row_of m p) q

-- the pairs of f are added, and nothing else changes
pub record IsAdded (old new : Table) (f : ℕ → ℕ → Bool) : Type 0 where
  pub width : new.width ≡ old.width
  pub each : (p q : ℕ) → p < old.width → q < old.width
      → is_marked new p q ≡ (is_marked old p q || f p q)

-- the pairs whose first number is from `from` on and below `to` are taken out, and nothing else
-- changes
pub record IsCleared (old new : Table) (from to : ℕ) : Type 0 where
  pub width : new.width ≡ old.width
  pub inside : (p q : ℕ) → from ≤ p → p < to → q < old.width → is_marked new p q ≡ false
  pub before : (p q : ℕ) → p < from → q < old.width → is_marked new p q ≡ is_marked old p q
  pub behind : (p q : ℕ) → to ≤ p → p < old.width → q < old.width
      → is_marked new p q ≡ is_marked old p q
