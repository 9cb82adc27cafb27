use Rattle.automaton_file.specs.LineText.{fields}
use Rattle.automaton_file.specs.FileText.{header_fault}
use Rattle.automaton_file.proofs.PartFaults.{taken, part_refused}
use Rattle.automaton_file.proofs.reading.take_header.Goals as goal

pub returns-in-Ok-clause-ok : goal.returns-in-Ok-clause-ok
returns-in-Ok-clause-ok c =
    record {
      line = c.in_ok-part.part.text.now;
      taken = taken _ _ c.in_ok-part.ensures.ok;
      passes =
          c.in-Ok.ensures;
    }

pub returns-in-Err-clause-err : goal.returns-in-Err-clause-err
returns-in-Err-clause-err c =
    part_refused (λ line. header_fault (fields line)) _ _ _ c.in_ok-part.ensures.ok c.in-Err.ensures
