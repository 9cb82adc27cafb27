use Rattle.monoid_theory.proofs.Rewriting.{rules_are_one}
use Rattle.monoid_theory.proofs.presentation.rules_are_unique.Goals as goal

pub returns : goal.returns
returns g c k words = rules_are_one k g.R.Relation.same words
