use Rattle.std.proofs.Common.{◌≡◌, []}
use Rattle.report_buffer.specs.Saying.{channel, AreLinesSaid}
use Rattle.report_text.specs.AutomatonSection.{automaton_head, state_text}
use Rattle.report_text.proofs.automaton_section.say_automaton.Given as goal

-- the head and the lines of the states before this one are said, and the next line is empty
abbrev pub invariant-loop-state : goal.invariant-loop-state
invariant-loop-state g l =
    let now = channel (g.S.Sink.written l.sink) (g.S.Sink.faults l.sink) l.buffer in
    let before = channel (g.S.Sink.written l.fn.sink) (g.S.Sink.faults l.fn.sink) l.fn.buffer in
    record {
      lines : AreLinesSaid before now (automaton_head l.alphabet l.dfa)
          (state_text l.alphabet l.dfa) l.state;
      empty : l.line.items ≡ [];
    }
