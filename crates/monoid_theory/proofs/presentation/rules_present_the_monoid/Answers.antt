use Rattle.monoid_theory.proofs.Rewriting.{rewrites_to_listed, related_by_rewriting}
use Rattle.monoid_theory.proofs.presentation.rules_present_the_monoid.Goals as goal

pub returns-clause-reduces : goal.returns-clause-reduces
returns-clause-reduces g c k words q l = rewrites_to_listed k g.R.Relation.same words q l

pub returns-clause-decides : goal.returns-clause-decides
returns-clause-decides g c k words q l = related_by_rewriting k g.R.Relation.same words q l
