use Rattle.language_theory.proofs.Links.{prefix_exists, suffix_exists, prefix_is_one, suffix_is_one, prefix_before, suffix_before}
use Rattle.language_theory.proofs.reduced_words.links_are_unique.Goals as goal

pub returns-clause-prefix : goal.returns-clause-prefix
returns-clause-prefix g c k words q l = prefix_exists k g.R.Relation.same words q l

pub returns-clause-suffix : goal.returns-clause-suffix
returns-clause-suffix g c k words q l = suffix_exists k g.R.Relation.same words q l

pub returns-clause-one_prefix : goal.returns-clause-one_prefix
returns-clause-one_prefix g c k words l = prefix_is_one k g.R.Relation.same words l

pub returns-clause-one_suffix : goal.returns-clause-one_suffix
returns-clause-one_suffix g c k words l = suffix_is_one k g.R.Relation.same words l

pub returns-clause-smaller_prefix : goal.returns-clause-smaller_prefix
returns-clause-smaller_prefix g c k words l = prefix_before k g.R.Relation.same words l

pub returns-clause-smaller_suffix : goal.returns-clause-smaller_suffix
returns-clause-smaller_suffix g c k words l = suffix_before k g.R.Relation.same words l
