use Rattle.monoid_theory.proofs.Aperiodic.{loop_never_settles}
use Rattle.monoid_theory.proofs.powers.loops_never_settle.Goals as goal

pub returns : goal.returns
returns g c k d m = loop_never_settles k g.L.Language.has d m
