use Rattle.std.proofs.Common.{length, rules}
use Rattle.report_buffer.specs.Texts.{texts_below}
use Rattle.report_text.specs.StarFreeSection.{list_head, node_line}
use Rattle.report_buffer.proofs.Channels.{says-raised, rendered-alone, lines-said, lines-raised}
use Rattle.report_text.proofs.star_free_section.say_nodes.Goals as goal

pub returns-in_err-say_rendered : goal.returns-in_err-say_rendered
returns-in_err-say_rendered g c =
    says-raised {p = list_head c.args.list.now} c.from_residual.result
    (texts_below (node_line c.args.alphabet.now c.args.list.now) (length c.args.list.now.nodes))
    c.from_residual.ensures.1
    (c.in_err-say_rendered.ensures.says (list_head c.args.list.now)
    (rendered-alone c.push_list_head-head.result c.new-line.result.items
    c.push_list_head-head.new.text.items _ c.new-line.ensures.items
    c.push_list_head-head.ensures))

pub returns-in_err-say_rendered-2 : goal.returns-in_err-say_rendered-2
returns-in_err-say_rendered-2 g c =
    lines-raised {head = list_head c.args.list.now}
    {line = node_line c.args.alphabet.now c.args.list.now}
    {size = length c.args.list.now.nodes}
    c.from_residual-in_err-say_rendered-2.result
    c.loop-number.invariant.lines (search rules) c.from_residual-in_err-say_rendered-2.ensures.1
    (c.in_err-say_rendered-2.ensures.says
    (node_line c.args.alphabet.now c.args.list.now c.loop-number.number)
    (rendered-alone c.push_node_line-rendered.result c.loop-number.line.items
    c.push_node_line-rendered.new.text.items _ c.loop-number.invariant.empty
    c.push_node_line-rendered.ensures))

pub loop-number-preserved : goal.loop-number-preserved
loop-number-preserved g c = record {
  lines =
      lines-said {head = list_head c.args.list.now}
      {line = node_line c.args.alphabet.now c.args.list.now} _
      c.loop-number.invariant.lines
      (c.in_ok-say_rendered-2.ensures.says
      (node_line c.args.alphabet.now c.args.list.now c.loop-number.number)
      (rendered-alone c.push_node_line-rendered.result c.loop-number.line.items
      c.push_node_line-rendered.new.text.items _ c.loop-number.invariant.empty
      c.push_node_line-rendered.ensures));
  empty = c.in_ok-say_rendered-2.ensures.empty;
}
