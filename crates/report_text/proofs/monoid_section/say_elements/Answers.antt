use Rattle.std.proofs.Common.{length, rules}
use Rattle.report_buffer.specs.Texts.{texts_below}
use Rattle.report_text.specs.MonoidSection.{elements_head, element_text}
use Rattle.report_buffer.proofs.Channels.{says-raised, rendered-alone, lines-said, lines-raised}
use Rattle.report_text.proofs.monoid_section.say_elements.Goals as goal

pub returns-in_err-say_rendered : goal.returns-in_err-say_rendered
returns-in_err-say_rendered g c =
    says-raised {p = elements_head c.args.monoid.now} c.from_residual.result
    (texts_below (element_text c.args.alphabet.now c.args.monoid.now)
    (length c.args.monoid.now.graphs.words))
    c.from_residual.ensures.1
    (c.in_err-say_rendered.ensures.says (elements_head c.args.monoid.now)
    (rendered-alone c.push_elements_head-head.result c.new-line.result.items
    c.push_elements_head-head.new.text.items _ c.new-line.ensures.items
    c.push_elements_head-head.ensures))

pub returns-in_err-say_rendered-2 : goal.returns-in_err-say_rendered-2
returns-in_err-say_rendered-2 g c =
    lines-raised {head = elements_head c.args.monoid.now}
    {line = element_text c.args.alphabet.now c.args.monoid.now}
    {size = length c.args.monoid.now.graphs.words}
    c.from_residual-in_err-say_rendered-2.result
    c.loop-element.invariant.lines (search rules) c.from_residual-in_err-say_rendered-2.ensures.1
    (c.in_err-say_rendered-2.ensures.says
    (element_text c.args.alphabet.now c.args.monoid.now c.loop-element.element)
    (rendered-alone c.push_element-rendered.result c.loop-element.line.items
    c.push_element-rendered.new.text.items _ c.loop-element.invariant.empty
    c.push_element-rendered.ensures))

pub loop-element-preserved : goal.loop-element-preserved
loop-element-preserved g c = record {
  lines =
      lines-said {head = elements_head c.args.monoid.now}
      {line = element_text c.args.alphabet.now c.args.monoid.now} _
      c.loop-element.invariant.lines
      (c.in_ok-say_rendered-2.ensures.says
      (element_text c.args.alphabet.now c.args.monoid.now c.loop-element.element)
      (rendered-alone c.push_element-rendered.result c.loop-element.line.items
      c.push_element-rendered.new.text.items _ c.loop-element.invariant.empty
      c.push_element-rendered.ensures));
  empty = c.in_ok-say_rendered-2.ensures.empty;
}
