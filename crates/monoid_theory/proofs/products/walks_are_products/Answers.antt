use Rattle.monoid_theory.proofs.Cayley.{right_walk, left_walk}
use Rattle.monoid_theory.proofs.products.walks_are_products.Goals as goal

pub returns-clause-right : goal.returns-clause-right
returns-clause-right g c k words q l = right_walk k g.R.Relation.same words q l

pub returns-clause-left : goal.returns-clause-left
returns-clause-left g c k words q l = left_walk k g.R.Relation.same words q l
