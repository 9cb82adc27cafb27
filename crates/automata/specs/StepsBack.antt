-- The states from which an automaton accepts a word, as a row of marks.
use Rattle.std.specs.Prelude.{◌≡◌, ◌<◌, ◌↔◌, ℕ, Bool, IsTrue, List, length}
use Rattle.language_theory.specs.Automaton.{Automaton, AcceptsFrom, IsTarget, is_marked}

-- a state is marked exactly if a path with the letters of w leads from it to a final state
pub record AreAccepting (m : Automaton) (w : List ℕ) (marks : List Bool) : Type 0 where
  pub long : length marks ≡ m.states
  pub each : (p : ℕ) → p < m.states → IsTrue (is_marked marks p) ↔ AcceptsFrom m w p

-- a state is marked in the second row exactly if a step by a leads from it to one that is marked in
-- the first
pub record AreBefore (m : Automaton) (a : ℕ) (marks before : List Bool) : Type 0 where
  pub long : length before ≡ m.states
  pub each : (p : ℕ) → p < m.states → IsTrue (is_marked before p)
      ↔ ((q : ℕ) × IsTarget m p a q × IsTrue (is_marked marks q))
