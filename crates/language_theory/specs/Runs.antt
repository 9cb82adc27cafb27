-- Acceptance by the list of the states that a path goes through (Pin: successful paths).
use Rattle.std.specs.Prelude.{◌≡◌, ◌<◌, ◌+◌, ℕ, IsTrue, List, length, slice_index}
use Rattle.language_theory.specs.Automaton.{Automaton, IsInitial, IsTarget, is_final}

-- one state more than letters: an initial state first, a final one last, and a step by each letter
-- from a state to the next
pub record IsRun (m : Automaton) (w states : List ℕ) : Type 0 where
  pub long : length states ≡ length w + 1
  pub first : IsInitial m (slice_index states 0)
  pub steps : (i : ℕ) → i < length w → IsTarget m (slice_index states i) (slice_index w i)
      (slice_index states (i + 1))
  pub last : IsTrue (is_final m (slice_index states (length w)))
