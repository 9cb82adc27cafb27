-- Chains of two-sided ideals of a finite monoid (Green 1951; Pin: the J-order). An element is the place
-- of its least word.
use Rattle.std.specs.Prelude.{◌≡◌, ◌<◌, ◌≤◌, ◌+◌, ℕ, List, length, slice_index}
use Rattle.language_theory.specs.Words.{word_at}
use Rattle.monoid_theory.specs.Green.{IsInIdeal, IsJ}

-- s is in the two-sided ideal of t, and they are not J-related
abbrev pub IsBelow : ℕ → (List ℕ → List ℕ → Type 0) → List ℕ → List ℕ → Type 0
IsBelow k same s t = IsInIdeal k same s t × ¬ IsJ k same s t

-- a nonempty list of elements, each next one below the one before
pub record IsChain (k : ℕ) (same : List ℕ → List ℕ → Type 0) (words : List (List ℕ))
    (chain : List ℕ) : Type 0 where
  pub some : 1 ≤ length chain
  pub within : (i : ℕ) → i < length chain → slice_index chain i < length words
  pub falls : (i : ℕ) → i + 1 < length chain
      → IsBelow k same (word_at words (slice_index chain (i + 1)))
      (word_at words (slice_index chain i))

-- a chain, no chain has more elements, and of those with as many it is the least list: at the first
-- place where another one differs, it has the smaller element
pub record IsLongestChain (k : ℕ) (same : List ℕ → List ℕ → Type 0) (words : List (List ℕ))
    (chain : List ℕ) : Type 0 where
  pub is : IsChain k same words chain
  pub most : (other : List ℕ) → IsChain k same words other → length other ≤ length chain
  pub least : (other : List ℕ) (i : ℕ) → IsChain k same words other
      → length other ≡ length chain → i < length chain
      → ((m : ℕ) → m < i → slice_index other m ≡ slice_index chain m)
      → slice_index chain i ≤ slice_index other i
