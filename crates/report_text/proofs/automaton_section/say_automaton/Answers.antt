use Rattle.std.proofs.Common.{rules}
use Rattle.report_buffer.specs.Texts.{texts_below}
use Rattle.report_text.specs.AutomatonSection.{automaton_head, state_text}
use Rattle.report_buffer.proofs.Channels.{says-raised, rendered-alone, lines-said, lines-raised}
use Rattle.report_text.proofs.automaton_section.say_automaton.Goals as goal

pub returns-in_err-say_rendered : goal.returns-in_err-say_rendered
returns-in_err-say_rendered g c =
    says-raised {p = automaton_head c.args.alphabet.now c.args.dfa.now} c.from_residual.result
    (texts_below (state_text c.args.alphabet.now c.args.dfa.now) c.args.dfa.now.graph.size)
    c.from_residual.ensures.1
    (c.in_err-say_rendered.ensures.says (automaton_head c.args.alphabet.now c.args.dfa.now)
    (rendered-alone c.push_head-head.result c.new-line.result.items c.push_head-head.new.text.items
    _ c.new-line.ensures.items c.push_head-head.ensures))

pub returns-in_err-say_rendered-2 : goal.returns-in_err-say_rendered-2
returns-in_err-say_rendered-2 g c =
    lines-raised {head = automaton_head c.args.alphabet.now c.args.dfa.now}
    {line = state_text c.args.alphabet.now c.args.dfa.now}
    {size = c.args.dfa.now.graph.size} c.from_residual-in_err-say_rendered-2.result
    c.loop-state.invariant.lines (search rules) c.from_residual-in_err-say_rendered-2.ensures.1
    (c.in_err-say_rendered-2.ensures.says
    (state_text c.args.alphabet.now c.args.dfa.now c.loop-state.state)
    (rendered-alone c.push_state-rendered.result c.loop-state.line.items
    c.push_state-rendered.new.text.items _ c.loop-state.invariant.empty
    c.push_state-rendered.ensures))

pub loop-state-preserved : goal.loop-state-preserved
loop-state-preserved g c = record {
  lines =
      lines-said {head = automaton_head c.args.alphabet.now c.args.dfa.now}
      {line = state_text c.args.alphabet.now c.args.dfa.now} _
      c.loop-state.invariant.lines
      (c.in_ok-say_rendered-2.ensures.says
      (state_text c.args.alphabet.now c.args.dfa.now c.loop-state.state)
      (rendered-alone c.push_state-rendered.result c.loop-state.line.items
      c.push_state-rendered.new.text.items _ c.loop-state.invariant.empty
      c.push_state-rendered.ensures));
  empty = c.in_ok-say_rendered-2.ensures.empty;
}
