use Rattle.monoid_theory.proofs.FiniteIdeals.{j_trivial_by_sides, r_trivial_by_j, l_trivial_by_j}
use Rattle.monoid_theory.proofs.green.trivial_on_both_sides.Goals as goal

pub returns-clause-both : goal.returns-clause-both
returns-clause-both g c k words q l = j_trivial_by_sides k g.R.Relation.same words q l

pub returns-clause-right : goal.returns-clause-right
returns-clause-right g c k = r_trivial_by_j k g.R.Relation.same

pub returns-clause-left : goal.returns-clause-left
returns-clause-left g c k = l_trivial_by_j k g.R.Relation.same
