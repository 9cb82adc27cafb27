use Rattle.std.proofs.Common.{length, rules}
use Rattle.report_buffer.specs.Texts.{texts_below}
use Rattle.report_text.specs.MonoidSection.{rules_head, rule_text}
use Rattle.report_buffer.proofs.Channels.{says-raised, rendered-alone, lines-said, lines-raised}
use Rattle.report_text.proofs.monoid_section.say_rules.Goals as goal

pub returns-in_err-say_rendered : goal.returns-in_err-say_rendered
returns-in_err-say_rendered g c =
    says-raised {p = rules_head c.args.rules.now} c.from_residual.result
    (texts_below (rule_text c.args.alphabet.now c.args.monoid.now.graphs.words c.args.rules.now)
    (length c.args.rules.now))
    c.from_residual.ensures.1
    (c.in_err-say_rendered.ensures.says (rules_head c.args.rules.now)
    (rendered-alone c.push_rules_head-head.result c.new-line.result.items
    c.push_rules_head-head.new.text.items _ c.new-line.ensures.items
    c.push_rules_head-head.ensures))

pub returns-in_err-say_rendered-2 : goal.returns-in_err-say_rendered-2
returns-in_err-say_rendered-2 g c =
    lines-raised {head = rules_head c.args.rules.now}
    {line = rule_text c.args.alphabet.now c.args.monoid.now.graphs.words c.args.rules.now}
    {size = length c.args.rules.now}
    c.from_residual-in_err-say_rendered-2.result
    c.loop-rule.invariant.lines (search rules) c.from_residual-in_err-say_rendered-2.ensures.1
    (c.in_err-say_rendered-2.ensures.says
    (rule_text c.args.alphabet.now c.args.monoid.now.graphs.words c.args.rules.now c.loop-rule.rule)
    (rendered-alone c.push_rule-rendered.result c.loop-rule.line.items
    c.push_rule-rendered.new.text.items _ c.loop-rule.invariant.empty
    c.push_rule-rendered.ensures))

pub loop-rule-preserved : goal.loop-rule-preserved
loop-rule-preserved g c = record {
  lines =
      lines-said {head = rules_head c.args.rules.now}
      {line = rule_text c.args.alphabet.now c.args.monoid.now.graphs.words c.args.rules.now} _
      c.loop-rule.invariant.lines
      (c.in_ok-say_rendered-2.ensures.says
      (rule_text c.args.alphabet.now c.args.monoid.now.graphs.words c.args.rules.now c.loop-rule.rule)
      (rendered-alone c.push_rule-rendered.result c.loop-rule.line.items
      c.push_rule-rendered.new.text.items _ c.loop-rule.invariant.empty
      c.push_rule-rendered.ensures));
  empty = c.in_ok-say_rendered-2.ensures.empty;
}
