use Rattle.automaton_file.proofs.PartFaults.{bad_part}
use Rattle.automaton_file.proofs.reading.look_ahead.Goals as goal

pub returns-in-BadByte-clause-err : goal.returns-in-BadByte-clause-err
returns-in-BadByte-clause-err c = bad_part _ _ c.in-BadByte.ensures
