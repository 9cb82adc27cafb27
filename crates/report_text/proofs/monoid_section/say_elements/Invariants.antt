use Rattle.std.proofs.Common.{◌≡◌, []}
use Rattle.report_buffer.specs.Saying.{channel, AreLinesSaid}
use Rattle.report_text.specs.MonoidSection.{elements_head, element_text}
use Rattle.report_text.proofs.monoid_section.say_elements.Given as goal

-- the head and the lines of the elements before this one are said, and the next line is empty
abbrev pub invariant-loop-element : goal.invariant-loop-element
invariant-loop-element g l =
    let now = channel (g.S.Sink.written l.sink) (g.S.Sink.faults l.sink) l.buffer in
    let before = channel (g.S.Sink.written l.fn.sink) (g.S.Sink.faults l.fn.sink) l.fn.buffer in
    record {
      lines : AreLinesSaid before now (elements_head l.monoid) (element_text l.alphabet l.monoid)
          l.element;
      empty : l.line.items ≡ [];
    }
