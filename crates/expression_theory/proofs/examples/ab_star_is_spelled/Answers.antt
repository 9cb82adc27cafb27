use Rattle.expression_theory.proofs.Spelled.{ab_star}
use Rattle.expression_theory.proofs.examples.ab_star_is_spelled.Goals as goal

pub returns-clause-tree : goal.returns-clause-tree
returns-clause-tree c = ab_star
