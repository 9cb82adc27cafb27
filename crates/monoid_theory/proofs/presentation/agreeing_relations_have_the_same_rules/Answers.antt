use Rattle.monoid_theory.proofs.Agreeing.{agreeing_rules}
use Rattle.monoid_theory.proofs.presentation.agreeing_relations_have_the_same_rules.Goals as goal

pub returns : goal.returns
returns g c k a = agreeing_rules k g.R.Relation.same g.S.Relation.same a
