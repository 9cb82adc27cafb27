use Rattle.std.proofs.Common.{refl, rules}
use Rattle.automaton_file.specs.FileText.{source_text}
use Rattle.command_line.proofs.Ranges.{subsets_within}
use Rattle.report_outcome.specs.Reports.{HasMoreSubsets}
use Rattle.report_outcome.specs.declared.ending.Stop.TheVariants as stop
use Rattle.report_outcome.proofs.Outcomes.{ends_stopped}
use Rattle.report_outcome.proofs.reporting.report_on_source.Goals as goal

pub minimal_of-requires-clause-subsets : goal.minimal_of-requires-clause-subsets
minimal_of-requires-clause-subsets g c = (subsets_within c.args.request.now c.requires.range).1

pub returns-in-Err-SubsetLimit-clause-ends : goal.returns-in-Err-SubsetLimit-clause-ends
returns-in-Err-SubsetLimit-clause-ends g c = λ bytes spelled.
    let r = c.args.request.now in
    let source = source_text c.args.source.now in
    let more : HasMoreSubsets source r.subsets = search rules in
    rw c.stopped.ensures (ends_stopped _ r source (stop.Subsets r.subsets) _ spelled (refl, more))
