use Rattle.report_text.specs.PiecewiseSection.{piecewise_text}
use Rattle.report_buffer.proofs.Channels.{rendered-alone}
use Rattle.report_text.proofs.piecewise_section.say_piecewise.Goals as goal

pub returns : goal.returns
returns g c =
    c.say_rendered.ensures.says (piecewise_text c.args.alphabet.now c.args.answer.now)
    (rendered-alone c.push_piecewise-rendered.result c.new-text.result.items
    c.push_piecewise-rendered.new.text.items _ c.new-text.ensures.items
    c.push_piecewise-rendered.ensures)
