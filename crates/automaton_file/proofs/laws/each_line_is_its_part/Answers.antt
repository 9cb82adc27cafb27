use Rattle.automaton_file.proofs.PartTests.{header_test, alphabet_part, body_part, states_part, step_part}
use Rattle.automaton_file.proofs.laws.each_line_is_its_part.Goals as goal

pub returns : goal.returns
returns c = record {
  header = λ line. header_test line;
  alphabet = λ line. alphabet_part line;
  body = λ alphabet line. body_part alphabet line;
  states = λ word line states few. states_part word states line few;
  step = λ alphabet line states is few. step_part alphabet states line is few;
}
