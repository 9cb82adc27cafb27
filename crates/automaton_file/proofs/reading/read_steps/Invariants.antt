use Rattle.std.proofs.Common.{◌≡◌}
use Rattle.automaton_file.specs.LineText.{parts}
use Rattle.automaton_file.specs.Reading.{with_step_lines, lines_from, left, steps_first_fault}
use Rattle.automaton_file.proofs.reading.read_steps.Given as goal

abbrev pub invariant-lines : goal.invariant-lines
invariant-lines l = record {
  faults : steps_first_fault l.alphabet l.fn.nfa.states l.ahead.number (lines_from l.ahead)
      ≡ steps_first_fault l.alphabet l.fn.nfa.states l.fn.cursor.number (lines_from l.fn.cursor);
  steps : with_step_lines l.alphabet l.nfa (parts (lines_from l.ahead))
      ≡ with_step_lines l.alphabet l.fn.nfa (parts (lines_from l.fn.cursor));
  states : l.nfa.states ≡ l.fn.nfa.states;
  letters : l.nfa.letters ≡ l.fn.nfa.letters;
}

abbrev pub decreases-lines : goal.decreases-lines
decreases-lines l = left l.ahead
