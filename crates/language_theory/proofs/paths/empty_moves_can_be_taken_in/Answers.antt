use Rattle.language_theory.proofs.Automata.{taken_in_reached, taken_in_subset, taken_in_accepts}
use Rattle.language_theory.proofs.paths.empty_moves_can_be_taken_in.Goals as goal

pub returns-clause-reached : goal.returns-clause-reached
returns-clause-reached c = taken_in_reached

pub returns-clause-subsets : goal.returns-clause-subsets
returns-clause-subsets c = taken_in_subset

pub returns-clause-language : goal.returns-clause-language
returns-clause-language c = taken_in_accepts
