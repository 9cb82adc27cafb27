use Rattle.language_theory.proofs.Representatives.{place_of_empty}
use Rattle.monoid_theory.proofs.Places.{product_is_associative, product_with_first, product_by_first}
use Rattle.monoid_theory.proofs.products.products_form_a_monoid.Goals as goal

pub returns-clause-associative : goal.returns-clause-associative
returns-clause-associative g c k words q l = product_is_associative k g.R.Relation.same words q l

pub returns-clause-empty : goal.returns-clause-empty
returns-clause-empty g c k words q l = place_of_empty k g.R.Relation.same words l q

pub returns-clause-before : goal.returns-clause-before
returns-clause-before g c k words q l = product_with_first k g.R.Relation.same words q l

pub returns-clause-behind : goal.returns-clause-behind
returns-clause-behind g c k words q l = product_by_first k g.R.Relation.same words q l
