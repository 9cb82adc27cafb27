-- The sizes that an automaton of the program may have, the changes of an automaton, and its rows.
use Rattle.std.specs.Prelude.{◌≡◌, ℕ, ◌+◌, ◌*◌, ◌≤◌, ◌&&◌, ◌||◌, ◌==◌, ◌⊎◌, Bool, true, false, IsTrue, List, [], All, length, replicate, slice_set, slice_index_or}
use Rattle.language_theory.specs.Automaton.{Automaton, IsAutomaton, is_marked, is_step, is_move, has_step, has_move, steps_where, moves_where}
use Rattle.syn_words.specs.Alphabet.{most_letters}

-- the most states that an automaton of the program may have: one more than an expression has nodes
abbrev pub most_states : ℕ
most_states = 4001

-- an automaton with 1 to `most_states` states and 1 to `most_letters` letters
pub record IsSized (m : Automaton) : Type 0 where
  pub automaton : IsAutomaton m
  pub some_states : 1 ≤ m.states
  pub few_states : m.states ≤ most_states
  pub some_letters : 1 ≤ m.letters
  pub few_letters : m.letters ≤ most_letters

-- the automaton with no initial states, final states, steps or empty moves
abbrev pub bare : ℕ → ℕ → Automaton
bare states letters =
    record {
      states = states;
      letters = letters;
      initial = replicate states false;
      finals =
          replicate states false;
      steps = [];
      moves = [];
    }

-- the automaton with p among its initial states too
abbrev pub with_initial : Automaton → ℕ → Automaton
with_initial m p = record m { initial = slice_set m.initial p true }

-- the automaton with p among its final states too
abbrev pub with_final : Automaton → ℕ → Automaton
with_final m p = record m { finals = slice_set m.finals p true }

-- the automaton with a step too; the steps stand in the order of states, letters and targets
abbrev pub with_step : Automaton → ℕ → ℕ → ℕ → Automaton
with_step m p a q = record m {
  steps = steps_where m.states m.letters
      (λ x b y. has_step m x b y || is_step x b y (p, a, q));
}

-- the automaton with steps by a from p to all marked states too, in the same order
abbrev pub with_row : Automaton → ℕ → ℕ → List Bool → Automaton
with_row m p a marks = record m {
  steps = steps_where m.states m.letters
      (λ x b y. has_step m x b y || ((p == x) && ((a == b) && is_marked marks y)));
}

-- the automaton with an empty move too; the empty moves stand in the order of states and targets
abbrev pub with_move : Automaton → ℕ → ℕ → Automaton
with_move m p q = record m {
  moves = moves_where m.states (λ x y. has_move m x y || is_move x y (p, q));
}

-- the marks are those of the states to which steps by a lead from p; places at the end may lack
pub record IsRow (m : Automaton) (p a : ℕ) (marks : List Bool) : Type 0 where
  pub long : length marks ≤ m.states
  pub each : (q : ℕ) → is_marked marks q ≡ has_step m p a q

-- whether a step by a leads from p to q, by a row of marks for each state and letter: first those of
-- state 0, in the order of the letters
abbrev pub in_rows : ℕ → List (List Bool) → ℕ → ℕ → ℕ → Bool
in_rows letters rows p a q = is_marked (slice_index_or rows (p * letters + a) []) q

-- whether an empty move leads from p to q, by a row of marks for each state
abbrev pub in_moves : List (List Bool) → ℕ → ℕ → Bool
in_moves moves p q = is_marked (slice_index_or moves p []) q

-- the automaton with these rows of marks, of its steps and of its empty moves
abbrev pub of_rows : ℕ → List Bool → List Bool → List (List Bool) → List (List Bool) → Automaton
of_rows letters initial finals rows moves = record {
  states = length initial;
  letters = letters;
  initial = initial;
  finals = finals;
  steps = steps_where (length initial) letters (in_rows letters rows);
  moves = moves_where (length initial) (in_moves moves);
}

-- there is a row for each state and letter; it has no place where there is no step yet, and else one
-- for each state
pub record AreRows (states letters : ℕ) (rows : List (List Bool)) : Type 0 where
  pub long : length rows ≡ states * letters
  pub row : All (λ marks. (length marks ≡ 0) ⊎ (length marks ≡ states)) rows

-- there is a row for each state, which has no place where no empty move leads from it, and else one
-- for each state; and there is an empty move
pub record AreSomeMoves (states : ℕ) (moves : List (List Bool)) : Type 0 where
  pub long : length moves ≡ states
  pub row : All (λ marks. (length marks ≡ 0) ⊎ (length marks ≡ states)) moves
  pub some : (p q : ℕ) × IsTrue (in_moves moves p q)

-- there are such rows, or no rows where there is no empty move
abbrev pub AreMoves : ℕ → List (List Bool) → Type 0
AreMoves states moves = (moves ≡ []) ⊎ AreSomeMoves states moves

-- rows of empty moves, and those with one move more
pub record HasMove (states : ℕ) (old new : List (List Bool)) (p q : ℕ) : Type 0 where
  pub moves : AreMoves states new
  pub each : (x y : ℕ) → in_moves new x y ≡ (in_moves old x y || is_move x y (p, q))

-- the marks are those of a state and of the states to which empty moves lead from it
pub record AreNear (m : Automaton) (p : ℕ) (marks : List Bool) : Type 0 where
  pub long : length marks ≡ m.states
  pub each : (q : ℕ) → is_marked marks q ≡ ((p == q) || has_move m p q)
