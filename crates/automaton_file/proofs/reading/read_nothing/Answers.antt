use Rattle.std.proofs.Common.{subst}
use Rattle.automaton_file.specs.Reading.{IsAhead}
use Rattle.automaton_file.proofs.PartFaults.{part_behind_expression, nothing_at_end}
use Rattle.automaton_file.proofs.reading.read_nothing.Goals as goal

pub returns-in-Part-clause-err : goal.returns-in-Part-clause-err
returns-in-Part-clause-err c = part_behind_expression c.args.cursor _
    (subst (IsAhead c.args.cursor) c.in-Part.is c.in_ok-ahead.ensures.ok)

pub returns-in-End-clause-ok : goal.returns-in-End-clause-ok
returns-in-End-clause-ok c =
    nothing_at_end c.args.cursor _
    (subst (IsAhead c.args.cursor) c.in-End.is c.in_ok-ahead.ensures.ok)
