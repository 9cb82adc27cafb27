use Rattle.std.proofs.Common.{◌∙◌, List, sym, ap, subst}
use Rattle.std.specs.Io.KnownBytes.{Appends}
use Rattle.automaton_file.specs.FileText.{source_text}
use Rattle.report_sections.specs.Limits.{limits_of}
use Rattle.report_sections.specs.Answers.{said_of_all}
use Rattle.report_outcome.specs.Outcome.{IsGivenPrefix}
use Rattle.report_sections.specs.declared.answering.Answer.{Answer}
use Rattle.report_outcome.proofs.Outcomes.{ends_said, ends_cut, ends_short, ends_without_memory, report_of_answers}
use Rattle.report_outcome.proofs.reporting.write_sections.Goals as goal

pub returns-in-Ok-print-clause-ends : goal.returns-in-Ok-print-clause-ends
returns-in-Ok-print-clause-ends g c = λ bytes spelled within.
    let request = c.args.values.now.request.now in
    let source = source_text c.args.values.now.source.now in
    let said = said_of_all source.letters (limits_of request) in
    let on = report_of_answers bytes request source _ c.in-Ok.answers.items spelled within
    c.sections_of-sections.ensures c.in-Ok.ensures.said in
    ends_said _ _ (said c.in-Ok.answers.items) _ _ _ on
    (ap (λ (answers : List Answer). (said answers).limited) (sym c.as_slice-all.ensures.value)
    ∙ sym c.have_limit.ensures)
    (let P : List Answer → Type 0 = λ answers.
    Appends (g.O.Sink.written c.args.out.now) (g.O.Sink.written c.print.new.out)
    (said answers).text in
    subst P c.as_slice-all.ensures.value c.in-Ok-print.ensures.whole)

pub returns-in-Err-Write-clause-ends : goal.returns-in-Err-Write-clause-ends
returns-in-Err-Write-clause-ends g c = λ bytes spelled within.
    let request = c.args.values.now.request.now in
    let source = source_text c.args.values.now.source.now in
    let said = said_of_all source.letters (limits_of request) in
    let on = report_of_answers bytes request source _ c.in-Ok.answers.items spelled within
    c.sections_of-sections.ensures c.in-Ok.ensures.said in
    ends_cut _ _ (said c.in-Ok.answers.items) _ _ on
    (let P : List Answer → Type 0 = λ answers.
    IsGivenPrefix (g.O.Sink.written c.args.out.now) (g.O.Sink.written c.print.new.out)
    (said answers).text in
    subst P c.as_slice-all.ensures.value c.in-Err-Write.ensures.cut)

pub returns-clause-ends : goal.returns-clause-ends
returns-clause-ends g c = λ bytes spelled within.
    let request = c.args.values.now.request.now in
    let source = source_text c.args.values.now.source.now in
    let said = said_of_all source.letters (limits_of request) in
    let on = report_of_answers bytes request source _ c.in-Ok.answers.items spelled within
    c.sections_of-sections.ensures c.in-Ok.ensures.said in
    ends_short _ _ (said c.in-Ok.answers.items) _ _ on
    (let P : List Answer → Type 0 = λ answers.
    IsGivenPrefix (g.O.Sink.written c.args.out.now) (g.O.Sink.written c.print.new.out)
    (said answers).text in
    subst P c.as_slice-all.ensures.value c.in-Err-Memory.ensures.cut)

pub returns-in_default-clause-ends : goal.returns-in_default-clause-ends
returns-in_default-clause-ends g c = λ bytes spelled within.
    ends_without_memory bytes c.args.values.now.request.now _
