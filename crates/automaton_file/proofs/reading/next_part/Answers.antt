use Rattle.automaton_file.proofs.PartFaults.{no_part}
use Rattle.automaton_file.proofs.reading.next_part.Goals as goal

pub returns-in-End-clause-err : goal.returns-in-End-clause-err
returns-in-End-clause-err c = no_part _ _ (rw c.in-End.is at c.in_ok-part.ensures.ok)
