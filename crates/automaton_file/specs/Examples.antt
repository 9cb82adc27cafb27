-- A worked file and the source that it spells, and a file that is refused.
use Rattle.std.specs.Prelude.{ℕ, true, false, List, [], ◌∷◌, codes}
use Rattle.language_theory.specs.Automaton.{Automaton}
use Rattle.automaton_file.specs.FileText.{SourceText, OfAutomaton}

-- two states, a step from 0 to 1 by a, and two steps from 1 by b, the first of them written twice
abbrev pub worked_text : List ℕ
worked_text =
    codes "synmon 1\n# words a, ab, abb, abab ..\nalphabet a b\nnfa 2\ninitial 0\nfinal 1\n0 a 1\n1 b 0\r\n1 b 1\n1 b 0"

-- state 0 is initial and 1 is final; a has the number 0, b the number 1
abbrev pub worked_automaton : Automaton
worked_automaton = record {
  states = 2;
  letters = 2;
  initial = true ∷ false ∷ [];
  finals = false ∷ true ∷ [];
  steps = (0, 0, 1) ∷ (1, 1, 0) ∷ (1, 1, 1) ∷ [];
  moves = [];
}

abbrev pub worked_source : SourceText
worked_source = record { letters = codes "ab"; body = OfAutomaton worked_automaton }

-- its fifth line names a state that is not there
abbrev pub refused_text : List ℕ
refused_text = codes "synmon 1\nalphabet ab\nnfa 2\ninitial 0\nfinal 1 2\n0 a 1\n"
