use Rattle.monoid_theory.proofs.Ideals.{right_ideal_of_values, left_ideal_of_values, ideal_of_values}
use Rattle.monoid_theory.proofs.green.ideals_of_values.Goals as goal

pub returns-clause-right : goal.returns-clause-right
returns-clause-right c k value q = right_ideal_of_values k value q

pub returns-clause-left : goal.returns-clause-left
returns-clause-left c k value q = left_ideal_of_values k value q

pub returns-clause-two_sided : goal.returns-clause-two_sided
returns-clause-two_sided c k value q = ideal_of_values k value q
