use Rattle.std.proofs.Common.{rules}
use Rattle.automaton_file.specs.FileText.{IsRefusal}
use Rattle.report_outcome.proofs.Outcomes.{ends_refused}
use Rattle.report_outcome.proofs.reporting.report.Goals as goal

pub returns-in-Err-Refused-clause-ends : goal.returns-in-Err-Refused-clause-ends
returns-in-Err-Refused-clause-ends g c =
    let h : IsRefusal c.args.bytes.now c.in-Err-Refused.refusal.line c.in-Err-Refused.refusal.code =
    search rules in
    rw c.in-Err-Refused.field-0-is (ends_refused _ _ _ _ _ h)
