use Rattle.std.proofs.Common.{[], refl, sym, subst}
use Rattle.automaton_file.specs.LineText.{text_lines}
use Rattle.automaton_file.specs.FileText.{too_long, IsFileRefusal}
use Rattle.automaton_file.specs.Reading.{first_fault, IsReadFault}
use Rattle.automaton_file.specs.declared.sources.Wrong.TheVariants.{TooLong}
use Rattle.automaton_file.proofs.WellSpelled.{well_spelled}
use Rattle.automaton_file.proofs.ReadSources.{read_is_source}
use Rattle.automaton_file.proofs.Refusals.{fault_refusal}
use Rattle.automaton_file.proofs.reading.read_file.Goals as goal

pub returns-then-bytes-gt-MOST_BYTES-clause-refused :
    goal.returns-then-bytes-gt-MOST_BYTES-clause-refused
returns-then-bytes-gt-MOST_BYTES-clause-refused c =
    subst (IsFileRefusal c.args.bytes.now) (sym c.refused.ensures)
    (record { fault = TooLong; is_wrong = too_long c.if-bytes-gt-MOST_BYTES.true; number = refl })

pub returns-in-Ok-clause-ok : goal.returns-in-Ok-clause-ok
returns-in-Ok-clause-ok c =
    read_is_source _ _ (record {
      short = c.if-bytes-gt-MOST_BYTES.false;
      spelled = well_spelled _ c.in-Ok.ensures.spelled;
      same = c.in-Ok.ensures.source;
    })

pub returns-in-Err-Bad-clause-refused : goal.returns-in-Err-Bad-clause-refused
returns-in-Err-Bad-clause-refused c =
    let found = subst (IsReadFault (first_fault [] 1 (text_lines c.args.bytes.now)))
    c.in-Err-Bad.field-0-is c.in-Err-Bad.ensures.err in
    subst (IsFileRefusal c.args.bytes.now) (sym c.refused-in-Err-Bad.ensures)
    (fault_refusal _ _ _ _ c.if-bytes-gt-MOST_BYTES.false found refl)
