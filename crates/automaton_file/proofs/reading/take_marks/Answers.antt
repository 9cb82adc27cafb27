use Rattle.automaton_file.specs.LineText.{fields}
use Rattle.automaton_file.specs.FileText.{marks_fault}
use Rattle.automaton_file.specs.Reading.{mark_word}
use Rattle.automaton_file.proofs.PartFaults.{taken, part_refused}
use Rattle.automaton_file.proofs.reading.take_marks.Goals as goal

pub returns-in-Ok-clause-ok : goal.returns-in-Ok-clause-ok
returns-in-Ok-clause-ok c =
    record {
      line = c.in_ok-part.part.text.now;
      taken = taken _ _ c.in_ok-part.ensures.ok;
      passes =
          c.in-Ok.ensures.ok.0;
      marked = c.in-Ok.ensures.ok.1;
    }

pub returns-in-Err-clause-err : goal.returns-in-Err-clause-err
returns-in-Err-clause-err c =
    part_refused (λ line. marks_fault (mark_word c.args.mark) c.args.nfa.now.states (fields line)) _
    _ _ c.in_ok-part.ensures.ok c.in-Err.ensures.err
