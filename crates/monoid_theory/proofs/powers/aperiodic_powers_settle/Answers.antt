use Rattle.monoid_theory.proofs.Settling.{settles, aperiodic_settles}
use Rattle.monoid_theory.proofs.powers.aperiodic_powers_settle.Goals as goal

pub returns-clause-one : goal.returns-clause-one
returns-clause-one g c k = settles k g.L.Language.has

pub returns-clause-all : goal.returns-clause-all
returns-clause-all g c k = aperiodic_settles k g.L.Language.has
