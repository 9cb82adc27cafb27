use Rattle.piecewise_testable.proofs.Answering.{minimal_fits}
use Rattle.piecewise_testable.proofs.laws.the_minimal_automaton_fits_the_monoid.Goals as goal

pub returns : goal.returns
returns g c k m d h n = minimal_fits k g.L.Language.has m d h n
