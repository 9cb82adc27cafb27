use Rattle.monoid_theory.proofs.Ideals.{r_in_j, l_in_j}
use Rattle.monoid_theory.proofs.green.r_and_l_are_in_j.Goals as goal

pub returns-clause-right : goal.returns-clause-right
returns-clause-right g c k = r_in_j k g.R.Relation.same

pub returns-clause-left : goal.returns-clause-left
returns-clause-left g c k = l_in_j k g.R.Relation.same
