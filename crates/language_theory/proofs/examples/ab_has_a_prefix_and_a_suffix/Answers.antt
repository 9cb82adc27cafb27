use Rattle.std.proofs.Common.{refl, arith}
use Rattle.language_theory.proofs.examples.ab_has_a_prefix_and_a_suffix.Goals as goal

pub returns-clause-prefix : goal.returns-clause-prefix
returns-clause-prefix c = record { whole = omega arith; prefix = omega arith; splits = refl }

pub returns-clause-suffix : goal.returns-clause-suffix
returns-clause-suffix c = record { whole = omega arith; suffix = omega arith; splits = refl }
