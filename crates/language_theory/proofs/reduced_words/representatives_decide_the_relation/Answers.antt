use Rattle.language_theory.proofs.Representatives.{related_or_not}
use Rattle.language_theory.proofs.reduced_words.representatives_decide_the_relation.Goals as goal

pub returns : goal.returns
returns g c k words q r = related_or_not k g.R.Relation.same words r q
