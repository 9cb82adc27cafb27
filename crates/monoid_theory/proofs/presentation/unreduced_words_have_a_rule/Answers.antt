use Rattle.monoid_theory.proofs.Rules.{unreduced_has_rule, unreduced_is_replaced}
use Rattle.monoid_theory.proofs.presentation.unreduced_words_have_a_rule.Goals as goal

pub returns-clause-factor : goal.returns-clause-factor
returns-clause-factor g c k words q l = unreduced_has_rule k g.R.Relation.same words q l

pub returns-clause-replaced : goal.returns-clause-replaced
returns-clause-replaced g c k words q l = unreduced_is_replaced k g.R.Relation.same words q l
