use Rattle.std.proofs.Common.{ap}
use Rattle.report_buffer.specs.Saying.{Pending}
use Rattle.report_outcome.proofs.Outcomes.{prefix_given, on_err}
use Rattle.report_outcome.proofs.reporting.print.Goals as goal

pub returns-in_err-flush-clause-cut : goal.returns-in_err-flush-clause-cut
returns-in_err-flush-clause-cut g c =
    on_err _
    (prefix_given (ap (λ (h : Pending). h.bytes) c.in_ok-buffer.ensures)
    c.in_ok-say_answers.ensures.said c.in_err-flush.ensures.says.cut)
