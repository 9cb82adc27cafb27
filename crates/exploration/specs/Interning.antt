-- States that are kept as a list of distinct keys, in the order in which they were seen.
use Rattle.std.specs.Prelude.{◌≡◌, ◌<◌, ℕ, Bool, List, length, position, Some}
use Rattle.language_theory.specs.Words.{Over}

-- Each key is that of the state to which some word leads, and no key before it is equal to it.
pub record AreReached {X : Type 0} (eq : X → X → Bool) (k : ℕ) (state_of : List ℕ → X)
    (keys : List X) : Type 0 where
  pub reached : (n : ℕ) → n < length keys
      → (w : List ℕ) × Over k w × (position (eq (state_of w)) keys ≡ Some n)
