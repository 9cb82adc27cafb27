use Rattle.monoid_theory.proofs.Ideals.{r_equivalence, l_equivalence, j_equivalence, h_equivalence, h_of_related}
use Rattle.monoid_theory.proofs.green.greens_relations_are_equivalences.Goals as goal

pub returns-clause-right : goal.returns-clause-right
returns-clause-right g c k q = r_equivalence k g.R.Relation.same q

pub returns-clause-left : goal.returns-clause-left
returns-clause-left g c k q = l_equivalence k g.R.Relation.same q

pub returns-clause-two_sided : goal.returns-clause-two_sided
returns-clause-two_sided g c k q = j_equivalence k g.R.Relation.same q

pub returns-clause-both : goal.returns-clause-both
returns-clause-both g c k q = h_equivalence k g.R.Relation.same q

pub returns-clause-related : goal.returns-clause-related
returns-clause-related g c k q = h_of_related k g.R.Relation.same q
