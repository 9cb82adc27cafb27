use Rattle.monoid_theory.proofs.Agreeing.{agreeing_index, agreeing_aperiodic}
use Rattle.monoid_theory.proofs.powers.agreeing_relations_have_the_same_powers.Goals as goal

pub returns-clause-index : goal.returns-clause-index
returns-clause-index g c k a = agreeing_index k g.R.Relation.same g.S.Relation.same a

pub returns-clause-aperiodic : goal.returns-clause-aperiodic
returns-clause-aperiodic g c k a = agreeing_aperiodic k g.R.Relation.same g.S.Relation.same a
