use Rattle.piecewise_testable.proofs.SufficientLevels.{a_sufficient_level_makes_it_j_trivial}
use Rattle.piecewise_testable.proofs.laws.a_sufficient_level_makes_it_j_trivial.Goals as goal

pub returns : goal.returns
returns g c k n words l h =
    a_sufficient_level_makes_it_j_trivial k n g.L.Language.has words l h
