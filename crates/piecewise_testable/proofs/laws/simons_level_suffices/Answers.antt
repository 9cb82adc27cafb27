use Rattle.piecewise_testable.proofs.Simon.{simons_level_suffices}
use Rattle.piecewise_testable.proofs.laws.simons_level_suffices.Goals as goal

pub returns : goal.returns
returns g c k words chain l h j = simons_level_suffices k g.L.Language.has words chain l h j
