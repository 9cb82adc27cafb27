-- The generated file of a size: its lines, its text, and the source that it spells.
use Rattle.std.specs.Prelude.{ℕ, ◌+◌, ◌-◌, ◌++◌, ◌==◌, Bool, true, false, List, [], ◌∷◌, codes, replicate, if◌then◌else◌}
use Rattle.std.specs.Fmt.{decimal}
use Rattle.std.specs.List.{flat_map, range_with_len}
use Rattle.language_theory.specs.Automaton.{Automaton}
use Rattle.automaton_file.specs.FileText.{SourceText, OfAutomaton}

-- the least size
abbrev pub least_size : ℕ
least_size = 2

-- the greatest size
abbrev pub most_size : ℕ
most_size = 1000

-- the state behind state i, and state 0 behind the last one
abbrev pub next_state : ℕ → ℕ → ℕ
next_state size i = if i + 1 == size then 0 else i + 1

-- The text.

-- the line of a step
abbrev pub step_line : ℕ → List ℕ → ℕ → List ℕ
step_line from letter to = decimal from ++ codes " " ++ letter ++ codes " " ++ decimal to

-- the lines of the steps from state i: a leads to the next state, and b to state 0
abbrev pub step_lines : ℕ → ℕ → List (List ℕ)
step_lines size i = step_line i (codes "a") (next_state size i) ∷ step_line i (codes "b") 0 ∷ []

-- the lines before those of the steps
unfoldable pub head_lines : ℕ → List (List ℕ)
head_lines size =
    codes "synmon 1"
    ∷ codes "alphabet ab"
    ∷ (codes "nfa " ++ decimal size)
    ∷ codes "initial 0"
    ∷ codes "final 0"
    ∷ []

-- all lines: those of the steps stand in the order of the states
abbrev pub generated_lines : ℕ → List (List ℕ)
generated_lines size = head_lines size ++ flat_map (step_lines size) (range_with_len 0 size)

-- lines, each of which ends with LF
abbrev pub text_of : List (List ℕ) → List ℕ
text_of lines = flat_map (λ line. line ++ codes "\n") lines

-- the text of the file of a size
unfoldable pub generated_text : ℕ → List ℕ
generated_text size = text_of (generated_lines size)

-- The source.

-- the steps from state i; the letter a has the number 0 and b the number 1
abbrev pub steps_from : ℕ → ℕ → List (ℕ × ℕ × ℕ)
steps_from size i = (i, 0, next_state size i) ∷ (i, 1, 0) ∷ []

-- the row of marks with state 0 alone
abbrev pub first_alone : ℕ → List Bool
first_alone size = true ∷ replicate (size - 1) false

-- State 0 is the one initial state and the one final state. The letter a leads round all states,
-- and b leads from each to state 0.
unfoldable pub generated_automaton : ℕ → Automaton
generated_automaton size = record {
  states = size;
  letters = 2;
  initial = first_alone size;
  finals = first_alone size;
  steps = flat_map (steps_from size) (range_with_len 0 size);
  moves = [];
}

-- the source of the file of a size
abbrev pub generated_source : ℕ → SourceText
generated_source size =
    record { letters = codes "ab"; body = OfAutomaton (generated_automaton size) }
