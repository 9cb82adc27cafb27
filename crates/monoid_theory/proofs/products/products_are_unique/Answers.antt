use Rattle.monoid_theory.proofs.Places.{product_exists, product_is_one, product_of_words}
use Rattle.monoid_theory.proofs.products.products_are_unique.Goals as goal

pub returns-clause-exists : goal.returns-clause-exists
returns-clause-exists g c k = product_exists k g.R.Relation.same

pub returns-clause-one : goal.returns-clause-one
returns-clause-one g c words = product_is_one g.R.Relation.same words

pub returns-clause-any : goal.returns-clause-any
returns-clause-any g c k words q l = product_of_words k g.R.Relation.same words q l
