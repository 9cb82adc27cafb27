-- What an automaton gains.
use Rattle.std.specs.Prelude.{◌≡◌, ℕ, ◌-◌, ◌+◌, ◌<◌, ◌≤◌, ◌&&◌, ◌||◌, ◌==◌, ◌⊎◌, ◌↔◌, Bool, IsTrue, List, [], length, slice_index}
use Rattle.language_theory.specs.Automaton as automaton
use Rattle.language_theory.specs.Automaton.{Automaton, is_initial, is_final, has_step, IsInOrder}
use Rattle.automata.specs.Nfa.{IsSized}
use Rattle.expression_theory.specs.FirstLast.{has}
use Rattle.regex_reader.specs.Marks.{Table, is_marked}

-- the states for which f holds become final, and nothing else changes
pub record HasFinals (old new : Automaton) (f : ℕ → Bool) : Type 0 where
  pub states : new.states ≡ old.states
  pub letters : new.letters ≡ old.letters
  pub initial : new.initial ≡ old.initial
  pub steps : new.steps ≡ old.steps
  pub moves : new.moves ≡ old.moves
  pub long : length new.finals ≡ length old.finals
  pub finals : (p : ℕ) → is_final new p ≡ (is_final old p || f p)

-- the steps for which F holds are added, and nothing else changes
pub record HasGrown (old new : Automaton) (F : ℕ → ℕ → ℕ → Type 0) : Type 0 where
  pub states : new.states ≡ old.states
  pub letters : new.letters ≡ old.letters
  pub initial : new.initial ≡ old.initial
  pub finals : new.finals ≡ old.finals
  pub moves : new.moves ≡ old.moves
  pub steps : (p a q : ℕ) → IsTrue (has_step new p a q) ↔ (IsTrue (has_step old p a q) ⊎ F p a q)

-- q is one of the first k positions, and has the letter a
abbrev pub IsPosition : List ℕ → ℕ → ℕ → ℕ → Type 0
IsPosition letters k a q = (1 ≤ q) × (q ≤ k) × (a ≡ slice_index letters (q - 1))

-- the set of those among the first k positions that have the letter a
pub record HasPositions (letters : List ℕ) (k a : ℕ) (marks : List Bool) : Type 0 where
  pub long : length marks ≡ length letters + 1
  pub each : (q : ℕ) → IsTrue (automaton.is_marked marks q) ↔ IsPosition letters k a q

-- the steps by a letter from a state to those positions of a set that are marked
abbrev pub IsRowStep : Table → List Bool → ℕ → ℕ → ℕ → ℕ → ℕ → Type 0
IsRowStep table found state letter p a q =
    (p ≡ state) × (a ≡ letter) × IsTrue (is_marked table p q)
    × IsTrue (automaton.is_marked found q)

-- such steps from the states below a number
abbrev pub IsLetterStep : Table → List Bool → ℕ → ℕ → ℕ → ℕ → ℕ → Type 0
IsLetterStep table found letter states p a q =
    (p < states) × (a ≡ letter) × IsTrue (is_marked table p q)
    × IsTrue (automaton.is_marked found q)

-- the steps from each state to the positions that are marked, by their letters
abbrev pub IsTableStep : Table → List ℕ → ℕ → ℕ → ℕ → Type 0
IsTableStep table positions p a q =
    (p < table.width) × IsTrue (is_marked table p q) × IsPosition positions (length positions) a q

-- those of these steps whose letters are below a number
abbrev pub IsEarlyStep : Table → List ℕ → ℕ → ℕ → ℕ → ℕ → Type 0
IsEarlyStep table positions k p a q = (a < k) × IsTableStep table positions p a q

-- what is built from the positions that can end a word, the table and the letters of the positions
pub record IsBuilt (has_empty : Bool) (last : List ℕ) (table : Table) (positions : List ℕ) (k : ℕ)
    (m : Automaton) : Type 0 where
  pub states : m.states ≡ length positions + 1
  pub letters : m.letters ≡ k
  pub initial : (p : ℕ) → is_initial m p ≡ (0 == p)
  pub finals : (p : ℕ) → is_final m p ≡ ((has_empty && (0 == p)) || has last p)
  pub steps : (p a q : ℕ) → IsTrue (has_step m p a q)
      ↔ IsTableStep table positions p a q
  pub sized : IsSized m
  pub ordered : IsInOrder m
  pub plain : m.moves ≡ []
