use Rattle.expression_theory.proofs.Limits.{too_deep, too_large}
use Rattle.expression_theory.proofs.examples.limits_are_exact.Goals as goal

pub returns-clause-depth : goal.returns-clause-depth
returns-clause-depth c = too_deep

pub returns-clause-size : goal.returns-clause-size
returns-clause-size c = too_large
