use Rattle.language_theory.proofs.Representatives.{agreeing_classes, agreeing_list}
use Rattle.language_theory.proofs.reduced_words.agreeing_relations_have_one_list.Goals as goal

pub returns-clause-classes : goal.returns-clause-classes
returns-clause-classes g c k = agreeing_classes k g.R.Relation.same g.S.Relation.same

pub returns-clause-list : goal.returns-clause-list
returns-clause-list g c k words a = agreeing_list k g.R.Relation.same g.S.Relation.same a words
