use Rattle.piecewise_testable.proofs.ToldApart.{told_apart, no_level, not_trivial_on, not_j_trivial}
use Rattle.piecewise_testable.proofs.laws.a_witness_is_told_apart_at_every_level.Goals as goal

pub returns-clause-apart : goal.returns-clause-apart
returns-clause-apart g c k n w h = told_apart k g.L.Language.has w h n

pub returns-clause-none : goal.returns-clause-none
returns-clause-none g c k n w h = no_level k g.L.Language.has w h n

pub returns-clause-side : goal.returns-clause-side
returns-clause-side g c k w h = not_trivial_on k g.L.Language.has w h

pub returns-clause-not_trivial : goal.returns-clause-not_trivial
returns-clause-not_trivial g c k w h = not_j_trivial k g.L.Language.has w h
