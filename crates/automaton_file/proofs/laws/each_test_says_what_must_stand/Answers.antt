use Rattle.expression_theory.specs.Scan.{classes}
use Rattle.automaton_file.proofs.Letters.{lower_case_test, from_lower_case_test, distinct_test, from_distinct_test, alphabet_test, from_alphabet_test}
use Rattle.automaton_file.proofs.Expressions.{accepted_test, test_accepted}
use Rattle.automaton_file.proofs.PartTests.{word_test, state_of, state_passes, letter_test}
use Rattle.automaton_file.proofs.laws.each_test_says_what_must_stand.Goals as goal

pub returns : goal.returns
returns c = record {
  word = λ word line. word_test word line;
  lower = λ byte. (from_lower_case_test byte, lower_case_test byte);
  distinct = λ text. (from_distinct_test text, distinct_test text);
  alphabet = λ text. (from_alphabet_test text, alphabet_test text);
  expression = λ alphabet text.
      (test_accepted (classes alphabet text), accepted_test (classes alphabet text));
  state = λ states field few. (state_of states field few, state_passes states field few);
  letter = λ alphabet field is. letter_test alphabet field is;
}
