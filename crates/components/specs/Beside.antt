-- Two graphs over the same nodes, as one.
use Rattle.std.specs.Prelude.{◌≡◌, ℕ, ◌+◌, ◌*◌, ◌<◌, List, length}
use Rattle.components.specs.Components.{IsGraph, target}

-- the edges of each of the first i nodes are those of the first graph, and then those of the second
pub record HasBoth (i d e : ℕ) (first second both : List ℕ) : Type 0 where
  pub long : length both ≡ i * (d + e)
  pub left : (x a : ℕ) → x < i → a < d → target (d + e) both x a ≡ target d first x a
  pub right : (x b : ℕ) → x < i → b < e → target (d + e) both x (d + b) ≡ target e second x b

pub record AreBoth (nodes d e : ℕ) (first second both : List ℕ) : Type 0 where
  pub graph : IsGraph nodes (d + e) both
  pub rows : HasBoth nodes d e first second both
