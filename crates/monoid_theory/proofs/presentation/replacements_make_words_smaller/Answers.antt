use Rattle.monoid_theory.proofs.Rules.{replacement_over, replacement_falls}
use Rattle.monoid_theory.proofs.Rewriting.{replacement_related}
use Rattle.monoid_theory.proofs.presentation.replacements_make_words_smaller.Goals as goal

pub returns-clause-over : goal.returns-clause-over
returns-clause-over g c k words = replacement_over k g.R.Relation.same words

pub returns-clause-smaller : goal.returns-clause-smaller
returns-clause-smaller g c k words q l = replacement_falls k g.R.Relation.same words q l

pub returns-clause-related : goal.returns-clause-related
returns-clause-related g c k words q l = replacement_related k g.R.Relation.same words q l
