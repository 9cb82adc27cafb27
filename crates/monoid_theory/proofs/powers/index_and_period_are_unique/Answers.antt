use Rattle.monoid_theory.proofs.Returns.{index_exists}
use Rattle.monoid_theory.proofs.Exponents.{index_is_one, period_is_one}
use Rattle.monoid_theory.proofs.powers.index_and_period_are_unique.Goals as goal

pub returns-clause-exists : goal.returns-clause-exists
returns-clause-exists g c k words q l = index_exists k g.R.Relation.same words q l

pub returns-clause-index : goal.returns-clause-index
returns-clause-index g c x = index_is_one g.R.Relation.same x

pub returns-clause-period : goal.returns-clause-period
returns-clause-period g c x = period_is_one g.R.Relation.same x
