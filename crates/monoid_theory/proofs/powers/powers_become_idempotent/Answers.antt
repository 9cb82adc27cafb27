use Rattle.monoid_theory.proofs.IdempotentPowers.{index_and_period_bound, power_idempotent, idempotent_power}
use Rattle.monoid_theory.proofs.powers.powers_become_idempotent.Goals as goal

pub returns-clause-bound : goal.returns-clause-bound
returns-clause-bound g c k words q l = index_and_period_bound k g.R.Relation.same words q l

pub returns-clause-exactly : goal.returns-clause-exactly
returns-clause-exactly g c k q = power_idempotent k g.R.Relation.same q

pub returns-clause-some : goal.returns-clause-some
returns-clause-some g c k words q l = idempotent_power k g.R.Relation.same words q l
