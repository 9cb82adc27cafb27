use Rattle.expression_theory.proofs.SomeWords.{star_cases}
use Rattle.expression_theory.proofs.examples.star_is_plus_or_empty.Goals as goal

pub returns : goal.returns
returns c = star_cases
