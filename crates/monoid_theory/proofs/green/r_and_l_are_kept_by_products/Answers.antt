use Rattle.monoid_theory.proofs.Ideals.{r_before, l_behind}
use Rattle.monoid_theory.proofs.green.r_and_l_are_kept_by_products.Goals as goal

pub returns-clause-right : goal.returns-clause-right
returns-clause-right g c k q = r_before k g.R.Relation.same q

pub returns-clause-left : goal.returns-clause-left
returns-clause-left g c k q = l_behind k g.R.Relation.same q
