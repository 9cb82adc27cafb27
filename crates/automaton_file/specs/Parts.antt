-- File format 1: what each part of a file must be, and what it says.
use Rattle.std.specs.Prelude.{◌≡◌, ◌<◌, ◌≤◌, ◌↔◌, ℕ, IsTrue, List, [], ◌∷◌, length, drop, codes, slice_index, All}
use Rattle.std.specs.Fmt.{decimal}
use Rattle.std.specs.List.{concat, Any}
use Rattle.language_theory.specs.Automaton.{Automaton, IsAutomaton, IsInOrder, is_initial, is_final, has_step}
use Rattle.expression_theory.specs.Expression.{Tree}
use Rattle.expression_theory.specs.Scan.{classes, IsAccepted, SpellsTree}
use Rattle.syn_words.specs.Alphabet.{IsAlphabet}
use Rattle.automaton_file.specs.LineText.{fields, behind_first}

-- the most states that the automaton of a file may have
abbrev pub most_states : ℕ
most_states = 1000

-- lines without their ends
abbrev pub Lines : Type 0
Lines = List (List ℕ)

-- the fields of a line
abbrev pub Fields : Type 0
Fields = List (List ℕ)

-- the field spells the number: it is the number's decimal notation
abbrev pub SpellsNumber : ℕ → List ℕ → Type 0
SpellsNumber n field = field ≡ decimal n

-- the field spells the number of a state
abbrev pub IsState : ℕ → List ℕ → Type 0
IsState states field = (p : ℕ) × (p < states) × SpellsNumber p field

-- the field is the letter with this number
abbrev pub SpellsLetter : List ℕ → ℕ → List ℕ → Type 0
SpellsLetter alphabet a field = (a < length alphabet) × (field ≡ slice_index alphabet a ∷ [])

-- the field is a letter
abbrev pub IsLetter : List ℕ → List ℕ → Type 0
IsLetter alphabet field = (a : ℕ) × SpellsLetter alphabet a field

-- The header has the two fields `synmon` and `1`.
abbrev pub IsHeader : List ℕ → Type 0
IsHeader line = fields line ≡ codes "synmon" ∷ codes "1" ∷ []

-- An alphabet line has the field `alphabet` and behind it the letters, however they are cut into
-- fields.
pub record SpellsAlphabet (alphabet line : List ℕ) : Type 0 where
  pub pieces : Fields
  pub stands : fields line ≡ codes "alphabet" ∷ pieces
  pub joined : alphabet ≡ concat pieces
  pub letters : IsAlphabet alphabet

-- The body line of an automaton has the field `nfa` and the number of states.
pub record SpellsCount (states : ℕ) (line : List ℕ) : Type 0 where
  pub stands : fields line ≡ codes "nfa" ∷ decimal states ∷ []
  pub some : 1 ≤ states
  pub few : states ≤ most_states

-- The body line of an expression has the field `expr` and behind it the text of the expression.
pub record SpellsExpression (alphabet : List ℕ) (t : Tree) (line : List ℕ) : Type 0 where
  pub more : Fields
  pub stands : fields line ≡ codes "expr" ∷ more
  pub accepted : IsAccepted (classes alphabet (behind_first line))
  pub spelled : SpellsTree (classes alphabet (behind_first line)) t

-- A line of states has its word, `initial` or `final`, and behind it the numbers of states, none
-- or more.
pub record IsStatesLine (word : List ℕ) (states : ℕ) (line : List ℕ) : Type 0 where
  pub numbers : Fields
  pub stands : fields line ≡ word ∷ numbers
  pub each : All (IsState states) numbers

-- a field behind the first one spells the number
abbrev pub Names : List ℕ → ℕ → Type 0
Names line p = Any (SpellsNumber p) (drop 1 (fields line))

-- The three fields of a step line spell from, letter and to.
pub record SpellsStep (alphabet : List ℕ) (states from letter to : ℕ) (line : List ℕ) : Type 0 where
  pub stands : fields line ≡ decimal from ∷ (slice_index alphabet letter ∷ []) ∷ decimal to ∷ []
  pub from_state : from < states
  pub of_alphabet : letter < length alphabet
  pub to_state : to < states

-- the line is a step line
abbrev pub IsStepLine : List ℕ → ℕ → List ℕ → Type 0
IsStepLine alphabet states line = (p a q : ℕ) × SpellsStep alphabet states p a q line

-- The automaton that a line `initial`, a line `final` and the step lines spell: a state is
-- initial exactly where a field of the line `initial` spells its number, final likewise, and
-- there is a step exactly where some step line spells it. The steps are listed in the order of
-- their states, letters and targets, each once, and there are no empty moves.
pub record SpellsAutomaton (alphabet : List ℕ) (count : ℕ) (initial_line final_line : List ℕ)
    (step_lines : Lines) (m : Automaton) : Type 0 where
  pub automaton : IsAutomaton m
  pub states : m.states ≡ count
  pub letters : m.letters ≡ length alphabet
  pub initial : (p : ℕ) → p < count → IsTrue (is_initial m p) ↔ Names initial_line p
  pub finals : (p : ℕ) → p < count → IsTrue (is_final m p) ↔ Names final_line p
  pub steps : (p a q : ℕ) → IsTrue (has_step m p a q)
      ↔ Any (SpellsStep alphabet count p a q) step_lines
  pub ordered : IsInOrder m
  pub plain : m.moves ≡ []
