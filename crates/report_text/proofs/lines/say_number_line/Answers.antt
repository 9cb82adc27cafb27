use Rattle.report_buffer.specs.Texts.{number_line}
use Rattle.report_buffer.proofs.Channels.{rendered-alone}
use Rattle.report_text.proofs.lines.say_number_line.Goals as goal

pub returns : goal.returns
returns g c =
    c.say_rendered.ensures.says (number_line c.args.name.now c.args.number)
    (rendered-alone c.push_number_line-rendered.result c.new-line.result.items
    c.push_number_line-rendered.new.text.items _ c.new-line.ensures.items
    c.push_number_line-rendered.ensures)
