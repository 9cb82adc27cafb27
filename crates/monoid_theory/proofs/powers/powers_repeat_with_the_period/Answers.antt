use Rattle.monoid_theory.proofs.Exponents.{related_powers}
use Rattle.monoid_theory.proofs.powers.powers_repeat_with_the_period.Goals as goal

pub returns : goal.returns
returns g c k q = related_powers k g.R.Relation.same q
