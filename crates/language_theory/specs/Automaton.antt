-- Automata, which may have many initial states and many steps from one state by one letter (Pin:
-- automata, paths, acceptance).
use Rattle.std.specs.Prelude.{◌≡◌, ◌<◌, ◌&&◌, ◌==◌, ◌↔◌, ℕ, Bool, false, IsTrue, List, [], ◌∷◌, length, slice_index_or, All, if◌then◌else◌}
use Rattle.std.specs.List.{list_any, flat_map, range_with_len}

-- A step is a triple: from, letter, to. An empty move is a pair: from, to. Whether a state is initial
-- or final is told by its place in a row of marks.
pub record Automaton : Type 0 where
  pub states : ℕ
  pub letters : ℕ
  pub initial : List Bool
  pub finals : List Bool
  pub steps : List (ℕ × ℕ × ℕ)
  pub moves : List (ℕ × ℕ)

-- the mark of a place, and false behind the end
abbrev pub is_marked : List Bool → ℕ → Bool
is_marked marks p = slice_index_or marks p false

abbrev pub is_initial : Automaton → ℕ → Bool
is_initial m p = is_marked m.initial p

abbrev pub is_final : Automaton → ℕ → Bool
is_final m p = is_marked m.finals p

abbrev pub is_step : ℕ → ℕ → ℕ → ℕ × ℕ × ℕ → Bool
is_step p a q s = (s.0 == p) && ((s.1 == a) && (s.2 == q))

abbrev pub has_step : Automaton → ℕ → ℕ → ℕ → Bool
has_step m p a q = list_any (is_step p a q) m.steps

abbrev pub is_move : ℕ → ℕ → ℕ × ℕ → Bool
is_move p q s = (s.0 == p) && (s.1 == q)

abbrev pub has_move : Automaton → ℕ → ℕ → Bool
has_move m p q = list_any (is_move p q) m.moves

-- the steps that pass a test, in the order of their states, letters and targets, each once
unfoldable pub steps_where : ℕ → ℕ → (ℕ → ℕ → ℕ → Bool) → List (ℕ × ℕ × ℕ)
steps_where states letters f =
    flat_map (λ p. flat_map (λ a. flat_map (λ q. if f p a q then (p, a, q) ∷ [] else [])
    (range_with_len 0 states)) (range_with_len 0 letters)) (range_with_len 0 states)

-- the empty moves that pass a test, in the order of their states and targets, each once
unfoldable pub moves_where : ℕ → (ℕ → ℕ → Bool) → List (ℕ × ℕ)
moves_where states f =
    flat_map (λ p. flat_map (λ q. if f p q then (p, q) ∷ [] else [])
    (range_with_len 0 states)) (range_with_len 0 states)

-- the steps and the empty moves stand in that order
pub record IsInOrder (m : Automaton) : Type 0 where
  pub steps : m.steps ≡ steps_where m.states m.letters (has_step m)
  pub moves : m.moves ≡ moves_where m.states (has_move m)

-- the rows of marks have a place for each state, the steps lead from states to states by letters
-- below `letters`, and the empty moves lead from states to states
pub record IsAutomaton (m : Automaton) : Type 0 where
  pub initial : length m.initial ≡ m.states
  pub finals : length m.finals ≡ m.states
  pub from : All (λ s. s.0 < m.states) m.steps
  pub letter : All (λ s. s.1 < m.letters) m.steps
  pub to : All (λ s. s.2 < m.states) m.steps
  pub moves_from : All (λ s. s.0 < m.states) m.moves
  pub moves_to : All (λ s. s.1 < m.states) m.moves

-- q is a state to which a step with the letter a leads from p
abbrev pub IsTarget : Automaton → ℕ → ℕ → ℕ → Type 0
IsTarget m p a q = (q < m.states) × IsTrue (has_step m p a q)

-- q is a state to which an empty move leads from p
abbrev pub IsMove : Automaton → ℕ → ℕ → Type 0
IsMove m p q = (q < m.states) × IsTrue (has_move m p q)

-- A path from a state to a state: none or more moves, each a step with a letter or an empty move,
-- in which each move begins where the one before ended. Its word is the list of the letters of its
-- steps.
pub data Path (m : Automaton) : ℕ → List ℕ → ℕ → Type 0 where
  stay : {p : ℕ} → Path m p [] p
  step : {p a q r : ℕ} {w : List ℕ} → IsTarget m p a q → Path m q w r → Path m p (a ∷ w) r
  move : {p q r : ℕ} {w : List ℕ} → IsMove m p q → Path m q w r → Path m p w r

-- from p, a path with the word ends in a final state
abbrev pub AcceptsFrom : Automaton → List ℕ → ℕ → Type 0
AcceptsFrom m w p = (r : ℕ) × Path m p w r × IsTrue (is_final m r)

-- p is an initial state
abbrev pub IsInitial : Automaton → ℕ → Type 0
IsInitial m p = (p < m.states) × IsTrue (is_initial m p)

-- the language of the automaton: some path with the word leads from an initial to a final state
abbrev pub Accepts : Automaton → List ℕ → Type 0
Accepts m w = (p : ℕ) × IsInitial m p × AcceptsFrom m w p

-- r is in the set of states in which a path with the word that begins in an initial state can end
abbrev pub IsReached : Automaton → List ℕ → ℕ → Type 0
IsReached m w r = (p : ℕ) × IsInitial m p × Path m p w r

-- both words lead to the same set of states; the classes of this relation are the subsets of the
-- automaton
abbrev pub SameSubset : Automaton → List ℕ → List ℕ → Type 0
SameSubset m u v = (r : ℕ) → IsReached m u r ↔ IsReached m v r

-- n has no empty moves, and words lead in it where they lead in m: it begins where empty moves lead
-- from an initial state of m, and its steps are those of m with empty moves behind them
pub record HasMovesTakenIn (m n : Automaton) : Type 0 where
  pub states : n.states ≡ m.states
  pub letters : n.letters ≡ m.letters
  pub moves : n.moves ≡ []
  pub finals : n.finals ≡ m.finals
  pub initial : (p : ℕ) → IsInitial n p ↔ ((i : ℕ) × IsInitial m i × Path m i [] p)
  pub steps : (p a q : ℕ) → IsTarget n p a q ↔ ((s : ℕ) × IsTarget m p a s × Path m s [] q)
