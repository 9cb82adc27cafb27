-- Words with the same short subwords (Simon 1975: piecewise testable events; Pin: subwords).
use Rattle.std.specs.Prelude.{◌≤◌, ◌↔◌, ℕ, List, length}
use Rattle.language_theory.specs.Words.{IsSubword}

-- both words have the same subwords of length at most n: Simon's congruence
pub record SameSubwords (n : ℕ) (u v : List ℕ) : Type 0 where
  pub of : (x : List ℕ) → length x ≤ n → IsSubword x u ↔ IsSubword x v
