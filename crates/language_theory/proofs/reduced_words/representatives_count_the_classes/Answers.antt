use Rattle.language_theory.proofs.Representatives.{not_more_classes, has_more_classes}
use Rattle.language_theory.proofs.reduced_words.representatives_count_the_classes.Goals as goal

pub returns-clause-not_more : goal.returns-clause-not_more
returns-clause-not_more g c k words q r = not_more_classes k g.R.Relation.same words r q

pub returns-clause-more : goal.returns-clause-more
returns-clause-more g c k words m q r = has_more_classes k g.R.Relation.same words r q m
