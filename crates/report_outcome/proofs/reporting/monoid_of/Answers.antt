use Rattle.command_line.proofs.Ranges.{elements_within, workers_within}
use Rattle.report_outcome.proofs.reporting.monoid_of.Goals as goal

pub syntactic_of-requires-clause-max_elements : goal.syntactic_of-requires-clause-max_elements
syntactic_of-requires-clause-max_elements g c = λ ks lived.
    (elements_within c.args.request.now c.requires.range).1

pub syntactic_of-requires-clause-some : goal.syntactic_of-requires-clause-some
syntactic_of-requires-clause-some g c = λ ks lived. (workers_within c.args.request.now c.requires.range).0

pub syntactic_of-requires-clause-workers : goal.syntactic_of-requires-clause-workers
syntactic_of-requires-clause-workers g c = λ ks lived. (workers_within c.args.request.now c.requires.range).1
