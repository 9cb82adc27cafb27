use Rattle.locally_testable.proofs.Witnesses.{swap_tells_apart, swap_no_level, two_member}
use Rattle.locally_testable.proofs.laws.a_swap_is_told_apart_at_every_level.Goals as goal

pub returns-clause-apart : goal.returns-clause-apart
returns-clause-apart g c k = swap_tells_apart k g.L.Language.has

pub returns-clause-first : goal.returns-clause-first
returns-clause-first g c k u x y z v h n pos =
    two_member k g.L.Language.has u x v h.before h.behind h.idempotent n pos y z h.first h.second

pub returns-clause-none : goal.returns-clause-none
returns-clause-none g c k = swap_no_level k g.L.Language.has
