use Rattle.report_buffer.specs.Saying.{channel, AreLinesSaid}
use Rattle.report_text.specs.GreenSection.{marked, boxes_head, box_text}
use Rattle.report_text.proofs.green_section.say_boxes.Given as goal

-- the head and the boxes before this one are said
abbrev pub invariant-loop-index : goal.invariant-loop-index
invariant-loop-index g l =
    let now = channel (g.S.Sink.written l.sink) (g.S.Sink.faults l.sink) l.buffer in
    let before = channel (g.S.Sink.written l.fn.sink) (g.S.Sink.faults l.fn.sink) l.fn.buffer in
    AreLinesSaid before now (boxes_head l.boxes)
    (box_text l.alphabet (marked l.cayley.words l.green.idempotents) l.boxes) l.index
