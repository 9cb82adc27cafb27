use Rattle.command_line.proofs.Ranges.{table_within, workers_within}
use Rattle.report_outcome.proofs.reporting.table_within.Goals as goal

pub new_table-requires : goal.new_table-requires
new_table-requires g c = (table_within c.args.request.now c.requires.range).1

pub fill-requires-clause-some : goal.fill-requires-clause-some
fill-requires-clause-some g c = λ ks lived. (workers_within c.args.request.now c.requires.range).0

pub fill-requires-clause-few : goal.fill-requires-clause-few
fill-requires-clause-few g c = λ ks lived. (workers_within c.args.request.now c.requires.range).1
