use Rattle.monoid_theory.proofs.Aperiodic.{aperiodic_or_loops, loop_not_aperiodic, first_loop_is_one}
use Rattle.monoid_theory.proofs.powers.a_finite_monoid_is_aperiodic_or_loops.Goals as goal

pub returns-clause-either : goal.returns-clause-either
returns-clause-either g c k words q l = aperiodic_or_loops k g.R.Relation.same q words l

pub returns-clause-not_both : goal.returns-clause-not_both
returns-clause-not_both g c k = loop_not_aperiodic k g.R.Relation.same

pub returns-clause-one : goal.returns-clause-one
returns-clause-one g c words = first_loop_is_one g.R.Relation.same words
