use Rattle.language_theory.proofs.Congruences.{nerode_right, nerode_respects, nerode_coarsest}
use Rattle.language_theory.proofs.equivalences.nerode_is_the_coarsest_right_congruence.Goals as goal

pub returns-clause-right : goal.returns-clause-right
returns-clause-right g c k = nerode_right k g.L.Language.has

pub returns-clause-classes : goal.returns-clause-classes
returns-clause-classes g c k = nerode_respects k g.L.Language.has

pub returns-clause-coarsest : goal.returns-clause-coarsest
returns-clause-coarsest g c k = nerode_coarsest k g.L.Language.has g.R.Relation.same
