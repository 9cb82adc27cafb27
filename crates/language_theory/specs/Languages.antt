-- A language is a predicate on words. Its words are those over k letters for which it holds.
use Rattle.std.specs.Prelude.{◌⊎◌, ◌↔◌, ℕ, List}
use Rattle.language_theory.specs.Words.{Over, ◌⊏◌}

-- exactly one of two facts holds
abbrev pub ExactlyOne : Type 0 → Type 0 → Type 0
ExactlyOne P Q = (P × ¬ Q) ⊎ (¬ P × Q)

-- two languages have the same words over k letters
pub record HaveSameWords (k : ℕ) (L M : List ℕ → Type 0) : Type 0 where
  pub both : (w : List ℕ) → Over k w → L w ↔ M w

-- w is the shortlex-least of the words over k letters for which P holds
pub record IsLeastWord (k : ℕ) (P : List ℕ → Type 0) (w : List ℕ) : Type 0 where
  pub over : Over k w
  pub holds : P w
  pub least : (v : List ℕ) → Over k v → P v → ¬ (v ⊏ w)
