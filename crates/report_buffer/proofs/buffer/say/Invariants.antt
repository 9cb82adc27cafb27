use Rattle.std.proofs.Common.{length}
use Rattle.report_buffer.specs.Saying.{channel, IsSaidUpTo}
use Rattle.report_buffer.proofs.buffer.say.Given as goal

-- what of the text is not left is said
abbrev pub invariant-loop-rest : goal.invariant-loop-rest
invariant-loop-rest g l =
    let now = channel (g.S.Sink.written l.sink) (g.S.Sink.faults l.sink) l.buffer in
    let before = channel (g.S.Sink.written l.fn.sink) (g.S.Sink.faults l.fn.sink) l.fn.buffer in
    IsSaidUpTo before now l.text l.rest

abbrev pub decreases-loop-rest : goal.decreases-loop-rest
decreases-loop-rest g l = length l.rest
