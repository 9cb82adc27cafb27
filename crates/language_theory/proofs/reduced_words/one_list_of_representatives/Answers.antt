use Rattle.language_theory.proofs.Representatives.{one_list}
use Rattle.language_theory.proofs.reduced_words.one_list_of_representatives.Goals as goal

pub returns : goal.returns
returns g c k xs ys = one_list k g.R.Relation.same xs ys
