use Rattle.piecewise_testable.proofs.Simon.{some_level_suffices}
use Rattle.piecewise_testable.proofs.SufficientLevels.{a_sufficient_level_makes_it_j_trivial}
use Rattle.piecewise_testable.proofs.laws.piecewise_testable_exactly_where_j_trivial.Goals as goal

pub returns : goal.returns
returns g c k words l = (
  some_level_suffices k g.L.Language.has words l,
  λ h. a_sufficient_level_makes_it_j_trivial k h.0 g.L.Language.has words l h.1,
)
