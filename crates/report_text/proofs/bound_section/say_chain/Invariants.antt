use Rattle.std.proofs.Common.{◌≡◌, []}
use Rattle.report_buffer.specs.Saying.{channel, AreLinesSaid}
use Rattle.report_text.specs.BoundSection.{chain_head, link_text}
use Rattle.report_text.proofs.bound_section.say_chain.Given as goal

-- the head and the lines of the places before this one are said, and the next line is empty
abbrev pub invariant-loop-place : goal.invariant-loop-place
invariant-loop-place g l =
    let now = channel (g.S.Sink.written l.sink) (g.S.Sink.faults l.sink) l.buffer in
    let before = channel (g.S.Sink.written l.fn.sink) (g.S.Sink.faults l.fn.sink) l.fn.buffer in
    record {
      lines : AreLinesSaid before now (chain_head l.chain)
          (link_text l.alphabet l.cayley.words l.chain) l.place;
      empty : l.line.items ≡ [];
    }
