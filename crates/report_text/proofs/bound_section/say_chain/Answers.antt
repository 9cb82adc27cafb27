use Rattle.std.proofs.Common.{length, rules}
use Rattle.report_buffer.specs.Texts.{texts_below}
use Rattle.report_text.specs.BoundSection.{chain_head, link_text}
use Rattle.report_buffer.proofs.Channels.{says-raised, rendered-alone, lines-said, lines-raised}
use Rattle.report_text.proofs.bound_section.say_chain.Goals as goal

pub returns-in_err-say_rendered : goal.returns-in_err-say_rendered
returns-in_err-say_rendered g c =
    says-raised {p = chain_head c.args.chain.now} c.from_residual.result
    (texts_below (link_text c.args.alphabet.now c.args.cayley.now.words c.args.chain.now)
    (length c.args.chain.now))
    c.from_residual.ensures.1
    (c.in_err-say_rendered.ensures.says (chain_head c.args.chain.now)
    (rendered-alone c.push_chain_head-head.result c.new-line.result.items
    c.push_chain_head-head.new.text.items _ c.new-line.ensures.items
    c.push_chain_head-head.ensures))

pub returns-in_err-say_rendered-2 : goal.returns-in_err-say_rendered-2
returns-in_err-say_rendered-2 g c =
    lines-raised {head = chain_head c.args.chain.now}
    {line = link_text c.args.alphabet.now c.args.cayley.now.words c.args.chain.now}
    {size = length c.args.chain.now}
    c.from_residual-in_err-say_rendered-2.result
    c.loop-place.invariant.lines (search rules) c.from_residual-in_err-say_rendered-2.ensures.1
    (c.in_err-say_rendered-2.ensures.says
    (link_text c.args.alphabet.now c.args.cayley.now.words c.args.chain.now c.loop-place.place)
    (rendered-alone c.push_link-rendered.result c.loop-place.line.items
    c.push_link-rendered.new.text.items _ c.loop-place.invariant.empty
    c.push_link-rendered.ensures))

pub loop-place-preserved : goal.loop-place-preserved
loop-place-preserved g c = record {
  lines =
      lines-said {head = chain_head c.args.chain.now}
      {line = link_text c.args.alphabet.now c.args.cayley.now.words c.args.chain.now} _
      c.loop-place.invariant.lines
      (c.in_ok-say_rendered-2.ensures.says
      (link_text c.args.alphabet.now c.args.cayley.now.words c.args.chain.now c.loop-place.place)
      (rendered-alone c.push_link-rendered.result c.loop-place.line.items
      c.push_link-rendered.new.text.items _ c.loop-place.invariant.empty
      c.push_link-rendered.ensures));
  empty = c.in_ok-say_rendered-2.ensures.empty;
}
