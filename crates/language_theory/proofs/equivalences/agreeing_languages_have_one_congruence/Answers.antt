use Rattle.language_theory.proofs.Congruences.{nerode_agrees, syntactic_agrees}
use Rattle.language_theory.proofs.equivalences.agreeing_languages_have_one_congruence.Goals as goal

pub returns-clause-nerode : goal.returns-clause-nerode
returns-clause-nerode g c k = nerode_agrees k g.L.Language.has g.M.Language.has

pub returns-clause-syntactic : goal.returns-clause-syntactic
returns-clause-syntactic g c k = syntactic_agrees k g.L.Language.has g.M.Language.has
