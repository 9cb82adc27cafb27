use Rattle.std.proofs.Common.{◌≡◌, []}
use Rattle.report_buffer.specs.Saying.{channel, AreLinesSaid}
use Rattle.report_text.specs.StarFreeSection.{list_head, node_line}
use Rattle.report_text.proofs.star_free_section.say_nodes.Given as goal

-- the head and the lines of the nodes before this one are said, and the next line is empty
abbrev pub invariant-loop-number : goal.invariant-loop-number
invariant-loop-number g l =
    let now = channel (g.S.Sink.written l.sink) (g.S.Sink.faults l.sink) l.buffer in
    let before = channel (g.S.Sink.written l.fn.sink) (g.S.Sink.faults l.fn.sink) l.fn.buffer in
    record {
      lines : AreLinesSaid before now (list_head l.list) (node_line l.alphabet l.list) l.number;
      empty : l.line.items ≡ [];
    }
