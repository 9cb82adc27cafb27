use Rattle.language_theory.proofs.Congruences.{agree_itself, agree_turned, agree_joined}
use Rattle.language_theory.proofs.equivalences.agreement_is_an_equivalence.Goals as goal

pub returns-clause-itself : goal.returns-clause-itself
returns-clause-itself g c k = agree_itself k g.R.Relation.same

pub returns-clause-turned : goal.returns-clause-turned
returns-clause-turned g c k = agree_turned k g.R.Relation.same g.S.Relation.same

pub returns-clause-joined : goal.returns-clause-joined
returns-clause-joined g c k = agree_joined k g.R.Relation.same g.S.Relation.same g.T.Relation.same
