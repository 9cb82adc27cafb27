use Rattle.monoid_theory.proofs.Contexts.{separation_is_one}
use Rattle.monoid_theory.proofs.separation.separating_contexts_are_unique.Goals as goal

pub returns : goal.returns
returns g c k = separation_is_one k g.L.Language.has
