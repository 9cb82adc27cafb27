use Rattle.std.proofs.Common.{◌≡◌, []}
use Rattle.green_relations.specs.EggBoxes.{box_at, row_at}
use Rattle.report_buffer.specs.Saying.{channel, AreLinesSaid}
use Rattle.report_text.specs.GreenSection.{marked, box_head, row_text}
use Rattle.report_text.proofs.green_section.say_box.Given as goal

-- the head and the lines of the rows before this one are said, and the next line is empty
abbrev pub invariant-loop-row : goal.invariant-loop-row
invariant-loop-row g l =
    let now = channel (g.S.Sink.written l.sink) (g.S.Sink.faults l.sink) l.buffer in
    let before = channel (g.S.Sink.written l.fn.sink) (g.S.Sink.faults l.fn.sink) l.fn.buffer in
    record {
      lines : AreLinesSaid before now (box_head l.index (box_at l.boxes l.index))
          (λ y. row_text l.alphabet (marked l.cayley.words l.green.idempotents)
          (row_at (box_at l.boxes l.index) y)) l.row;
      empty : l.line.items ≡ [];
    }
