-- A breadth-first search over words, as far as it has come: the targets of node 0 by each letter,
-- then those of node 1, and so on.
use Rattle.std.specs.Prelude.{◌≡◌, ◌<◌, ◌≤◌, ◌+◌, ◌-◌, ◌*◌, ◌^◌, ◌++◌, ℕ, List, [], ◌∷◌, Option, Some, length, slice_index, All}
use Rattle.language_theory.specs.Words.{Over, ◌⊏◌, word_at}

-- Each node has a word; the words rise, and each but the root's is that of an earlier node with a
-- letter behind it. No target has a greater word than the one that leads to it.
pub record IsBreadthFirst (k : ℕ) (words : List (List ℕ)) (targets : List ℕ) : Type 0 where
  pub some : 0 < length words
  pub root : word_at words 0 ≡ []
  pub over : (i : ℕ) → i < length words → Over k (word_at words i)
  pub rise : (i j : ℕ) → i < j → j < length words → word_at words i ⊏ word_at words j
  pub found : (j : ℕ) → 0 < j → j < length words
      → (p a : ℕ) × (a < k) × (p * k + a < length targets) × (slice_index targets (p * k + a) ≡ j)
      × (word_at words j ≡ word_at words p ++ a ∷ [])
  pub handled : length targets ≤ length words * k
  pub within : All (λ t. t < length words) targets
  pub least : (p a : ℕ) → a < k → p * k + a < length targets
      → ¬ ((word_at words p ++ a ∷ []) ⊏ word_at words (slice_index targets (p * k + a)))

-- Each node is the number of its word, and each target that of the state to which the letter leads.
pub record AreNodes (k : ℕ) (number : List ℕ → Option ℕ) (words : List (List ℕ))
    (targets : List ℕ) : Type 0 where
  pub own : (i : ℕ) → i < length words → number (word_at words i) ≡ Some i
  pub next : (p a : ℕ) (w : List ℕ) → a < k → p * k + a < length targets → Over k w
      → number w ≡ Some p → number (w ++ a ∷ []) ≡ Some (slice_index targets (p * k + a))

-- a breadth-first search has come to these targets
pub record IsSearched (k : ℕ) (number : List ℕ → Option ℕ) (count : ℕ) (targets : List ℕ) : Type 0
  where
    pub words : List (List ℕ)
    pub long : length words ≡ count
    pub first : IsBreadthFirst k words targets
    pub nodes : AreNodes k number words targets

-- A search within a limit has come to a place: the targets before it are found, and at most `limit`
-- states were seen.
pub record IsExploring (k : ℕ) (number : List ℕ → Option ℕ) (count limit place : ℕ)
    (targets : List ℕ) : Type 0 where
  pub small : limit < 2 ^ 32 - 1
  pub few : count ≤ limit
  pub here : length targets ≡ place
  pub searched : IsSearched k number count targets

-- The search has gone on to a place, and no state is forgotten.
pub record HasExplored (k : ℕ) (number : List ℕ → Option ℕ) (before count limit place : ℕ)
    (targets : List ℕ)
    : Type 0 where
  pub grows : before ≤ count
  pub exploring : IsExploring k number count limit place targets
