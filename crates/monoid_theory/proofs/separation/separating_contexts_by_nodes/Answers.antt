use Rattle.monoid_theory.proofs.Contexts.{separation_by_nodes}
use Rattle.monoid_theory.proofs.separation.separating_contexts_by_nodes.Goals as goal

pub returns : goal.returns
returns g c k d m = separation_by_nodes k g.L.Language.has d m
