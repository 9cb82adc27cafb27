use Rattle.report_text.specs.BoundSection.{level_text}
use Rattle.report_buffer.proofs.Channels.{rendered-alone}
use Rattle.report_text.proofs.bound_section.say_level.Goals as goal

pub returns : goal.returns
returns g c =
    c.say_rendered.ensures.says (level_text c.args.chain.now c.args.trivial)
    (rendered-alone c.push_level-rendered.result c.new-line.result.items
    c.push_level-rendered.new.text.items _ c.new-line.ensures.items
    c.push_level-rendered.ensures)
