use Rattle.monoid_theory.proofs.Cayley.{right_ideal_walks, left_ideal_walks, ideal_walks}
use Rattle.monoid_theory.proofs.green.ideals_are_walks.Goals as goal

pub returns-clause-right : goal.returns-clause-right
returns-clause-right g c k words q l = right_ideal_walks k g.R.Relation.same words q l

pub returns-clause-left : goal.returns-clause-left
returns-clause-left g c k words q l = left_ideal_walks k g.R.Relation.same words q l

pub returns-clause-two_sided : goal.returns-clause-two_sided
returns-clause-two_sided g c k words q l = ideal_walks k g.R.Relation.same words q l
