use Rattle.monoid_theory.proofs.Agreeing.{r_agrees, l_agrees, j_agrees, h_agrees, d_agrees}
use Rattle.monoid_theory.proofs.green.agreeing_relations_have_the_same_ideals.Goals as goal

pub returns-clause-right : goal.returns-clause-right
returns-clause-right g c k = r_agrees k g.R.Relation.same g.S.Relation.same

pub returns-clause-left : goal.returns-clause-left
returns-clause-left g c k = l_agrees k g.R.Relation.same g.S.Relation.same

pub returns-clause-two_sided : goal.returns-clause-two_sided
returns-clause-two_sided g c k = j_agrees k g.R.Relation.same g.S.Relation.same

pub returns-clause-both : goal.returns-clause-both
returns-clause-both g c k = h_agrees k g.R.Relation.same g.S.Relation.same

pub returns-clause-product : goal.returns-clause-product
returns-clause-product g c k = d_agrees k g.R.Relation.same g.S.Relation.same
