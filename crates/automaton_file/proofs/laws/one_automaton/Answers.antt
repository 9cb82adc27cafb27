use Rattle.automaton_file.proofs.SameAutomata.{one_body_automaton, automaton_language}
use Rattle.automaton_file.proofs.laws.one_automaton.Goals as goal

pub returns : goal.returns
returns c = record {
  same = λ k body m n h i. one_body_automaton k body m n h i;
  language = λ k body m h w. automaton_language k body m h w;
}
