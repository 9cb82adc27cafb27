use Rattle.language_theory.proofs.Congruences.{syntactic_congruence, syntactic_nerode, nerode_respects, syntactic_coarsest}
use Rattle.language_theory.proofs.equivalences.syntactic_is_the_coarsest_congruence.Goals as goal

pub returns-clause-congruence : goal.returns-clause-congruence
returns-clause-congruence g c k = syntactic_congruence k g.L.Language.has

pub returns-clause-classes : goal.returns-clause-classes
returns-clause-classes g c k u v h =
    nerode_respects k g.L.Language.has u v (syntactic_nerode k g.L.Language.has u v h)

pub returns-clause-coarsest : goal.returns-clause-coarsest
returns-clause-coarsest g c k = syntactic_coarsest k g.L.Language.has g.R.Relation.same
