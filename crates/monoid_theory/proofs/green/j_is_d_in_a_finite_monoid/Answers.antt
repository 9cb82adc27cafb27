use Rattle.monoid_theory.proofs.FiniteIdeals.{j_is_d, r_of_ideal, l_of_ideal}
use Rattle.monoid_theory.proofs.green.j_is_d_in_a_finite_monoid.Goals as goal

pub returns-clause-same : goal.returns-clause-same
returns-clause-same g c k words q l = j_is_d k g.R.Relation.same words q l

pub returns-clause-right : goal.returns-clause-right
returns-clause-right g c k words q l = r_of_ideal k g.R.Relation.same words q l

pub returns-clause-left : goal.returns-clause-left
returns-clause-left g c k words q l = l_of_ideal k g.R.Relation.same words q l
