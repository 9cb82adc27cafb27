-- States that words over k letters lead to, numbered as they are first seen.
use Rattle.std.specs.Prelude.{◌≡◌, ◌<◌, ◌+◌, ◌++◌, ◌↔◌, ◌⊎◌, ℕ, List, [], ◌∷◌, Option, Some}
use Rattle.language_theory.specs.Words.{Over}
use Rattle.language_theory.specs.Congruence.{Agree}

-- The states that were seen have the numbers below `count`: each number is used, and words have the
-- same number exactly if they lead to the same state.
pub record AreNumbered (k : ℕ) (same : List ℕ → List ℕ → Type 0) (number : List ℕ → Option ℕ)
    (count : ℕ) : Type 0 where
  pub below : (w : List ℕ) (n : ℕ) → Over k w → number w ≡ Some n → n < count
  pub used : (n : ℕ) → n < count → (w : List ℕ) × Over k w × (number w ≡ Some n)
  pub one : (u v : List ℕ) (n : ℕ) → Over k u → Over k v → number u ≡ Some n
      → (number v ≡ Some n) ↔ same u v

-- two machines have the same letters, and the same words lead to one state
pub record IsSameMachine (k l : ℕ) (old new : List ℕ → List ℕ → Type 0) : Type 0 where
  pub letters : l ≡ k
  pub same : Agree k old new

-- each state that had a number has it still
pub record AreKept (k : ℕ) (old new : List ℕ → Option ℕ) : Type 0 where
  pub kept : (w : List ℕ) (n : ℕ) → Over k w → old w ≡ Some n → new w ≡ Some n

-- n is now the number of the state to which the letter a leads from the state with the number p
pub record IsNext (k : ℕ) (old new : List ℕ → Option ℕ) (p a n : ℕ) : Type 0 where
  pub leads : (w : List ℕ) → Over k w → old w ≡ Some p → new (w ++ a ∷ []) ≡ Some n

-- n is the number of a state that was seen before, or the next one
abbrev pub IsCounted : ℕ → ℕ → ℕ → Type 0
IsCounted old new n = ((n < old) × (new ≡ old)) ⊎ ((n ≡ old) × (new ≡ old + 1))
