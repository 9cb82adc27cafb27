use Rattle.monoid_theory.proofs.Settling.{never_settles}
use Rattle.monoid_theory.proofs.powers.separated_powers_never_settle.Goals as goal

pub returns : goal.returns
returns g c k = never_settles k g.L.Language.has
