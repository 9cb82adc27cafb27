use Rattle.subword_theory.proofs.SameWords.{same_congruence, same_context}
use Rattle.subword_theory.proofs.laws.same_subwords_are_a_congruence.Goals as goal

pub returns-clause-congruence : goal.returns-clause-congruence
returns-clause-congruence c = same_congruence

pub returns-clause-context : goal.returns-clause-context
returns-clause-context c = same_context
