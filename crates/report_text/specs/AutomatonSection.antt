-- The text of the section `automaton`.
use Rattle.std.specs.Prelude.{ℕ, List, ◌++◌, codes}
use Rattle.std.specs.Fmt.{decimal}
use Rattle.language_theory.specs.Words.{word_at}
use Rattle.language_theory.specs.Automaton.{is_marked}
use Rattle.language_theory.specs.ShortlexGraph.{target}
use Rattle.language_theory.specs.Nerode.{MinimalAutomaton}
use Rattle.report_buffer.specs.Texts.{texts_below, numbers_below, word_text, membership_text}

-- a number, the least word, whether it is in the language, and the next state for each letter
abbrev pub state_text : List ℕ → MinimalAutomaton → ℕ → List ℕ
state_text signs m i =
    decimal i ++ codes " " ++ word_text signs (word_at m.words i) ++ codes " " ++ membership_text
    (is_marked m.finals i)
    ++ numbers_below (target m.graph i) m.graph.letters ++ codes "\n"

-- the letters, and the number of states
abbrev pub automaton_head : List ℕ → MinimalAutomaton → List ℕ
automaton_head signs m =
    codes "automaton\nalphabet " ++ signs ++ codes "\nstates " ++ decimal m.graph.size ++ codes "\n"

-- the section: its head, and a line for each state
abbrev pub automaton_text : List ℕ → MinimalAutomaton → List ℕ
automaton_text signs m = automaton_head signs m ++ texts_below (state_text signs m) m.graph.size
