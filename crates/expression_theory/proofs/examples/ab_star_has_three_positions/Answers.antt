use Rattle.expression_theory.proofs.AbStar.{positions}
use Rattle.expression_theory.proofs.examples.ab_star_has_three_positions.Goals as goal

pub returns : goal.returns
returns c = positions
