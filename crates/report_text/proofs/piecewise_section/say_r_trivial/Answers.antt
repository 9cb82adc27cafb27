use Rattle.report_text.specs.PiecewiseSection.{r_trivial_text}
use Rattle.report_buffer.proofs.Channels.{rendered-alone}
use Rattle.report_text.proofs.piecewise_section.say_r_trivial.Goals as goal

pub returns : goal.returns
returns g c =
    c.say_rendered.ensures.says (r_trivial_text c.args.alphabet.now c.args.answer.now)
    (rendered-alone c.push_r_trivial-rendered.result c.new-text.result.items
    c.push_r_trivial-rendered.new.text.items _ c.new-text.ensures.items
    c.push_r_trivial-rendered.ensures)
