use Rattle.locally_testable.proofs.Witnesses.{repeat_tells_apart, repeat_no_level, one_member}
use Rattle.locally_testable.proofs.laws.a_repeat_is_told_apart_at_every_level.Goals as goal

pub returns-clause-apart : goal.returns-clause-apart
returns-clause-apart g c k = repeat_tells_apart k g.L.Language.has

pub returns-clause-first : goal.returns-clause-first
returns-clause-first g c k u x y v h n pos =
    one_member k g.L.Language.has u x v h.before h.behind h.idempotent n pos y h.inner

pub returns-clause-none : goal.returns-clause-none
returns-clause-none g c k = repeat_no_level k g.L.Language.has
