-- The states to which empty moves lead, as rows of marks.
use Rattle.std.specs.Prelude.{◌≡◌, ℕ, ◌<◌, ◌↔◌, ◌⊎◌, Bool, IsTrue, List, [], All, length, slice_index_or}
use Rattle.language_theory.specs.Automaton.{Automaton, Path, HasMovesTakenIn, is_marked}
use Rattle.automata.specs.Nfa.{IsSized, AreRows, AreNear, in_moves, of_rows}

-- there are as many rows as each of them has places
pub record AreSquare (rows : List (List Bool)) : Type 0 where
  pub row : All (λ marks. length marks ≡ length rows) rows

-- the first n rows have the marks of each state and of the states to which empty moves lead from it
pub record AreNearRows (m : Automaton) (n : ℕ) (rows : List (List Bool)) : Type 0 where
  pub long : length rows ≡ n
  pub each : (p : ℕ) → p < n → AreNear m p (slice_index_or rows p [])

-- each row has the marks of the states to which none or more empty moves lead from its state
pub record AreClosures (m : Automaton) (closures : List (List Bool)) : Type 0 where
  pub long : length closures ≡ m.states
  pub square : AreSquare closures
  pub each : (p q : ℕ) → p < m.states → IsTrue (in_moves closures p q) ↔ Path m p [] q

-- the pairs of the old rows, and those that are put together of two that meet in the middle
pub record GoThrough (old new : List (List Bool)) (middle : ℕ) : Type 0 where
  pub long : length new ≡ length old
  pub square : AreSquare new
  pub each : (p q : ℕ) → p < length old → IsTrue (in_moves new p q) ↔ (IsTrue (in_moves old p q)
      ⊎ (IsTrue (in_moves old p middle) × IsTrue (in_moves old middle q)))

-- the second set has the marks of the rows of all members of the first
pub record IsClosed (closures : List (List Bool)) (set new : List Bool) : Type 0 where
  pub long : length new ≡ length set
  pub each : (q : ℕ) → IsTrue (is_marked new q)
      ↔ ((s : ℕ) × IsTrue (is_marked set s) × IsTrue (in_moves closures s q))

-- so has each of the second rows those of the first
pub record AreClosed (closures rows new : List (List Bool)) : Type 0 where
  pub long : length new ≡ length rows
  pub each : (i : ℕ) → i < length rows
      → IsClosed closures (slice_index_or rows i []) (slice_index_or new i [])

-- with these initial states and rows of steps, and no empty moves, words lead where they lead in m
pub record AreTakenIn (m : Automaton) (initial : List Bool) (rows : List (List Bool)) : Type 0 where
  pub sized : IsSized (of_rows m.letters initial m.finals rows [])
  pub are_rows : AreRows (length initial) m.letters rows
  pub taken_in : HasMovesTakenIn m (of_rows m.letters initial m.finals rows [])
