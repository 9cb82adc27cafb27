use Rattle.std.proofs.Common.{◌≡◌, []}
use Rattle.report_buffer.specs.Saying.{channel, AreLinesSaid}
use Rattle.report_text.specs.TableSection.{table_head, products_text}
use Rattle.report_text.proofs.table_section.say_products.Given as goal

-- the head and the lines of the elements before this one are said, and the next line is empty
abbrev pub invariant-loop-element : goal.invariant-loop-element
invariant-loop-element g l =
    let now = channel (g.S.Sink.written l.sink) (g.S.Sink.faults l.sink) l.buffer in
    let before = channel (g.S.Sink.written l.fn.sink) (g.S.Sink.faults l.fn.sink) l.fn.buffer in
    record {
      lines : AreLinesSaid before now (table_head l.table) (products_text l.table) l.element;
      empty : l.line.items ≡ [];
    }
