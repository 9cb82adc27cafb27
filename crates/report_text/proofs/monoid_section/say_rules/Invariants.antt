use Rattle.std.proofs.Common.{◌≡◌, []}
use Rattle.report_buffer.specs.Saying.{channel, AreLinesSaid}
use Rattle.report_text.specs.MonoidSection.{rules_head, rule_text}
use Rattle.report_text.proofs.monoid_section.say_rules.Given as goal

-- the head and the lines of the rules before this one are said, and the next line is empty
abbrev pub invariant-loop-rule : goal.invariant-loop-rule
invariant-loop-rule g l =
    let now = channel (g.S.Sink.written l.sink) (g.S.Sink.faults l.sink) l.buffer in
    let before = channel (g.S.Sink.written l.fn.sink) (g.S.Sink.faults l.fn.sink) l.fn.buffer in
    record {
      lines : AreLinesSaid before now (rules_head l.rules)
          (rule_text l.alphabet l.monoid.graphs.words l.rules) l.rule;
      empty : l.line.items ≡ [];
    }
