use Rattle.std.proofs.Common.{rules}
use Rattle.report_buffer.specs.Texts.{texts_below}
use Rattle.report_text.specs.TableSection.{table_head, products_text}
use Rattle.report_buffer.proofs.Channels.{says-raised, rendered-alone, lines-said, lines-raised}
use Rattle.report_text.proofs.table_section.say_products.Goals as goal

pub returns-in_err-say_rendered : goal.returns-in_err-say_rendered
returns-in_err-say_rendered g c =
    says-raised {p = table_head c.args.table.now} c.from_residual.result
    (texts_below (products_text c.args.table.now)
    c.args.table.now.side)
    c.from_residual.ensures.1
    (c.in_err-say_rendered.ensures.says (table_head c.args.table.now)
    (rendered-alone c.push_table_head-head.result c.new-line.result.items
    c.push_table_head-head.new.text.items _ c.new-line.ensures.items
    c.push_table_head-head.ensures))

pub returns-in_err-say_rendered-2 : goal.returns-in_err-say_rendered-2
returns-in_err-say_rendered-2 g c =
    lines-raised {head = table_head c.args.table.now}
    {line = products_text c.args.table.now}
    {size = c.args.table.now.side}
    c.from_residual-in_err-say_rendered-2.result
    c.loop-element.invariant.lines (search rules) c.from_residual-in_err-say_rendered-2.ensures.1
    (c.in_err-say_rendered-2.ensures.says
    (products_text c.args.table.now c.loop-element.element)
    (rendered-alone c.push_products-rendered.result c.loop-element.line.items
    c.push_products-rendered.new.text.items _ c.loop-element.invariant.empty
    c.push_products-rendered.ensures))

pub loop-element-preserved : goal.loop-element-preserved
loop-element-preserved g c = record {
  lines =
      lines-said {head = table_head c.args.table.now}
      {line = products_text c.args.table.now} _
      c.loop-element.invariant.lines
      (c.in_ok-say_rendered-2.ensures.says
      (products_text c.args.table.now c.loop-element.element)
      (rendered-alone c.push_products-rendered.result c.loop-element.line.items
      c.push_products-rendered.new.text.items _ c.loop-element.invariant.empty
      c.push_products-rendered.ensures));
  empty = c.in_ok-say_rendered-2.ensures.empty;
}
