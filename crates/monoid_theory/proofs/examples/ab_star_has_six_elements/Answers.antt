use Rattle.monoid_theory.proofs.AbStarMonoid.{ab_star_monoid_graph}
use Rattle.monoid_theory.proofs.examples.ab_star_has_six_elements.Goals as goal

pub returns : goal.returns
returns c = ab_star_monoid_graph
