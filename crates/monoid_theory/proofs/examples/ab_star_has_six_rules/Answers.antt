use Rattle.monoid_theory.proofs.AbStarRules.{ab_star_has_six_rules}
use Rattle.monoid_theory.proofs.examples.ab_star_has_six_rules.Goals as goal

pub returns : goal.returns
returns c = ab_star_has_six_rules
