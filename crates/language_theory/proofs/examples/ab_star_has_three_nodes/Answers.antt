use Rattle.language_theory.proofs.AbStar.{ab_star_minimal}
use Rattle.language_theory.proofs.examples.ab_star_has_three_nodes.Goals as goal

pub returns : goal.returns
returns c = ab_star_minimal
