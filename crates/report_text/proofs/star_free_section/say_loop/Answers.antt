use Rattle.report_text.specs.StarFreeSection.{loop_text}
use Rattle.report_buffer.proofs.Channels.{rendered-alone}
use Rattle.report_text.proofs.star_free_section.say_loop.Goals as goal

pub returns : goal.returns
returns g c =
    c.say_rendered.ensures.says (loop_text c.args.alphabet.now c.args.found.now)
    (rendered-alone c.push_loop-rendered.result c.new-text.result.items
    c.push_loop-rendered.new.text.items _ c.new-text.ensures.items
    c.push_loop-rendered.ensures)
