use Rattle.std.proofs.Common.{◌≡◌, length}
use Rattle.std.specs.List.{list_all}
use Rattle.automaton_file.specs.LineText.{fields}
use Rattle.automaton_file.specs.FileText.{is_state}
use Rattle.automaton_file.specs.Reading.{with_marks, mark_state}
use Rattle.automaton_file.proofs.parts.mark_states.Given as goal

abbrev pub invariant-fields : goal.invariant-fields
invariant-fields l = record {
  marks : with_marks (mark_state l.mark) l.nfa (fields l.rest) ≡ with_marks
      (mark_state l.mark) l.fn.nfa (fields l.text);
  numbers : list_all (is_state l.fn.nfa.states) (fields l.rest) ≡ list_all
      (is_state l.fn.nfa.states) (fields l.text);
  states : l.nfa.states ≡ l.fn.nfa.states;
  letters : l.nfa.letters ≡ l.fn.nfa.letters;
}

abbrev pub decreases-fields : goal.decreases-fields
decreases-fields l = length l.rest
