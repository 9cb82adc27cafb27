use Rattle.monoid_theory.proofs.Aperiodic.{index_of_related}
use Rattle.monoid_theory.proofs.powers.related_words_have_the_same_powers.Goals as goal

pub returns : goal.returns
returns g c k q = index_of_related k g.R.Relation.same q
