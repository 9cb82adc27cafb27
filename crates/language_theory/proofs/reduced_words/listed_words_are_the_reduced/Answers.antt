use Rattle.language_theory.proofs.Representatives.{listed_is_reduced, reduced_is_listed}
use Rattle.language_theory.proofs.reduced_words.listed_words_are_the_reduced.Goals as goal

pub returns-clause-reduced : goal.returns-clause-reduced
returns-clause-reduced g c k words q r = listed_is_reduced k g.R.Relation.same words r q

pub returns-clause-listed : goal.returns-clause-listed
returns-clause-listed g c k words = reduced_is_listed k g.R.Relation.same words
