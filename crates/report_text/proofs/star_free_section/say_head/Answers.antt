use Rattle.report_text.specs.StarFreeSection.{star_free_head}
use Rattle.report_buffer.proofs.Channels.{rendered-alone}
use Rattle.report_text.proofs.star_free_section.say_head.Goals as goal

pub returns : goal.returns
returns g c =
    c.say_rendered.ensures.says (star_free_head c.args.max_table c.args.max_nodes c.args.answer.now)
    (rendered-alone c.push_star_free_head-rendered.result c.new-line.result.items
    c.push_star_free_head-rendered.new.text.items _ c.new-line.ensures.items
    c.push_star_free_head-rendered.ensures)
