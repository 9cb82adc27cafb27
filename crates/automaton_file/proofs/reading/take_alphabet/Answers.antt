use Rattle.std.proofs.Common.{subst}
use Rattle.automaton_file.specs.Reading.{IsLineFault}
use Rattle.automaton_file.specs.LineText.{fields}
use Rattle.automaton_file.specs.FileText.{alphabet_fault}
use Rattle.automaton_file.proofs.PartFaults.{taken, part_refused}
use Rattle.automaton_file.proofs.reading.take_alphabet.Goals as goal

pub returns-in-Ok-clause-ok : goal.returns-in-Ok-clause-ok
returns-in-Ok-clause-ok c = record {
  line = c.in_ok-part.part.text.now;
  taken = taken _ _ c.in_ok-part.ensures.ok;
  passes = c.in-Ok.ensures.ok.0;
  same = c.in-Ok.ensures.ok.1;
  is_alphabet = c.in-Ok.ensures.ok.2;
}

pub returns-in-Err-Bad-clause-err : goal.returns-in-Err-Bad-clause-err
returns-in-Err-Bad-clause-err c =
    part_refused (λ line. alphabet_fault (fields line)) _ _ _ c.in_ok-part.ensures.ok
    (subst (IsLineFault (alphabet_fault (fields c.in_ok-part.part.text.now)))
    c.in-Err-Bad.field-0-is c.in-Err-Bad.ensures.err)
