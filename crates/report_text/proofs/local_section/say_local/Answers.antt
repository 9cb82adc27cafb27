use Rattle.report_text.specs.LocalSection.{local_text}
use Rattle.report_buffer.proofs.Channels.{rendered-alone}
use Rattle.report_text.proofs.local_section.say_local.Goals as goal

pub returns : goal.returns
returns g c =
    c.say_rendered.ensures.says (local_text c.args.alphabet.now c.args.max_table c.args.answer.now)
    (rendered-alone c.push_local-rendered.result c.new-text.result.items
    c.push_local-rendered.new.text.items _ c.new-text.ensures.items
    c.push_local-rendered.ensures)
