use Rattle.report_outcome.proofs.Workers.{workers_are_free}
use Rattle.synmon_top.proofs.laws.workers_change_no_outcome.Goals as goal

pub returns : goal.returns
returns c = workers_are_free
