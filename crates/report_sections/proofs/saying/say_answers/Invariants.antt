use Rattle.std.proofs.Common.{drop}
use Rattle.std.specs.List.{flat_map}
use Rattle.report_buffer.specs.Saying.{channel, IsSaidUpTo}
use Rattle.report_sections.specs.Limits.{limits_of}
use Rattle.report_sections.specs.Answers.{text_of}
use Rattle.report_sections.proofs.saying.say_answers.Given as goal

-- the sections of the answers before this one are said
abbrev pub invariant-loop-answer : goal.invariant-loop-answer
invariant-loop-answer g l =
    let now = channel (g.S.Sink.written l.sink) (g.S.Sink.faults l.sink) l.buffer in
    let before = channel (g.S.Sink.written l.fn.sink) (g.S.Sink.faults l.fn.sink) l.fn.buffer in
    let text = text_of l.alphabet (limits_of l.request) in
    IsSaidUpTo before now (flat_map text l.answers)
    (flat_map text (drop l.answer-index l.answers))
