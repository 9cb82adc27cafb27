use Rattle.monoid_theory.proofs.EvenLength.{a_has_period_two, a_never_settles}
use Rattle.monoid_theory.proofs.examples.even_length_never_settles.Goals as goal

pub returns-clause-period : goal.returns-clause-period
returns-clause-period c = a_has_period_two

pub returns-clause-settle : goal.returns-clause-settle
returns-clause-settle c = a_never_settles
