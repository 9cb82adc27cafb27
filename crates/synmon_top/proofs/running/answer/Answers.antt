use Rattle.std.proofs.Common.{◌∙◌, ◌+◌, sym, subst, map, rules, Global}
use Rattle.std.specs.Prelude.{string_bytes}
use Rattle.syn_outside.specs.NamedFiles.{HasPrefix}
use Rattle.automaton_file.specs.FileText.{most_bytes}
use Rattle.report_outcome.specs.Outcome.{Ends}
use Rattle.report_outcome.specs.declared.ending.Ending.{Ending}
use Rattle.report_outcome.proofs.Outcomes.{ends_of_read, has_read_file, has_read_generated, asks_for_file, ends_of_fault, fault_is_no_read, fault_is_no_write}
use Rattle.generated_file.specs.Generated.{generated_text}
use Rattle.synmon_top.proofs.running.answer.Goals as goal

pub returns-in-Err-clause-ends : goal.returns-in-Err-clause-ends
returns-in-Err-clause-ends g c =
    let P : Ending → Type 0 = λ e.
    Ends (g.F.Files.held c.args.files.now) (map (string_bytes {Z = Global}) c.args.words.now) e
    (g.O.Sink.written c.args.out.now) (g.O.Sink.written c.args.out.now) in
    subst P (sym c.without_request.ensures)
    (ends_of_fault _ _ c.in-Err.fault _ c.in-Err.ensures.fault)

pub returns-in-Err-clause-cannot_read : goal.returns-in-Err-clause-cannot_read
returns-in-Err-clause-cannot_read g c = λ e.
    absurd (fault_is_no_read c.in-Err.fault (sym c.without_request.ensures ∙ e))

pub returns-in-Err-clause-cannot_write : goal.returns-in-Err-clause-cannot_write
returns-in-Err-clause-cannot_write g c = λ e.
    absurd (fault_is_no_write c.in-Err.fault (sym c.without_request.ensures ∙ e))

pub returns-then-is_generated-clause-ends : goal.returns-then-is_generated-clause-ends
returns-then-is_generated-clause-ends g c =
    let held = g.F.Files.held c.args.files.now in
    let request = c.in-Ok.request in
    let is = c.is_generated.ensures.generated c.if-is_generated.true in
    ends_of_read held _ request (generated_text request.size) c.in-Ok.ensures.line
    (has_read_generated held request is) _ _ _ c.report_on_generated.ensures.ends

pub returns-in-Ok-read_all-clause-ends : goal.returns-in-Ok-read_all-clause-ends
returns-in-Ok-read_all-clause-ends g c =
    let held = g.F.Files.held c.args.files.now in
    let request = c.in-Ok.request in
    let prefix : HasPrefix held request.operand (most_bytes + 1) c.as_slice.result.now =
    search rules in
    ends_of_read held _ request c.as_slice.result.now c.in-Ok.ensures.line
    (has_read_file held request c.as_slice.result.now
    (c.is_generated.ensures.other c.if-is_generated.false) prefix) _ _ _ c.report.ensures.ends

pub returns-in-Ok-read_all-clause-untouched : goal.returns-in-Ok-read_all-clause-untouched
returns-in-Ok-read_all-clause-untouched g c = λ none.
    absurd (none (asks_for_file _ c.in-Ok.request c.in-Ok.ensures.line
    (c.is_generated.ensures.other c.if-is_generated.false)))

pub returns-in-Err-Missing-clause-untouched : goal.returns-in-Err-Missing-clause-untouched
returns-in-Err-Missing-clause-untouched g c = λ none.
    absurd (none (asks_for_file _ c.in-Ok.request c.in-Ok.ensures.line
    (c.is_generated.ensures.other c.if-is_generated.false)))

pub returns-in-Err-Failed-clause-untouched : goal.returns-in-Err-Failed-clause-untouched
returns-in-Err-Failed-clause-untouched g c = λ none.
    absurd (none (asks_for_file _ c.in-Ok.request c.in-Ok.ensures.line
    (c.is_generated.ensures.other c.if-is_generated.false)))

pub returns-in-Err-Memory-clause-untouched : goal.returns-in-Err-Memory-clause-untouched
returns-in-Err-Memory-clause-untouched g c = λ none.
    absurd (none (asks_for_file _ c.in-Ok.request c.in-Ok.ensures.line
    (c.is_generated.ensures.other c.if-is_generated.false)))
