use Rattle.report_text.specs.CommutativeSection.{commutative_text}
use Rattle.report_buffer.proofs.Channels.{rendered-alone}
use Rattle.report_text.proofs.commutative_section.say_commutative.Goals as goal

pub returns : goal.returns
returns g c =
    c.say_rendered.ensures.says (commutative_text c.args.alphabet.now c.args.answer.now)
    (rendered-alone c.push_commutative-rendered.result c.new-text.result.items
    c.push_commutative-rendered.new.text.items _ c.new-text.ensures.items
    c.push_commutative-rendered.ensures)
