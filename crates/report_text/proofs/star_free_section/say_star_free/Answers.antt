use Rattle.report_text.specs.StarFreeSection.{star_free_body}
use Rattle.report_buffer.proofs.Channels.{says-then, says-raised}
use Rattle.report_text.proofs.star_free_section.say_star_free.Goals as goal

pub returns-in_err-say_head : goal.returns-in_err-say_head
returns-in_err-say_head g c =
    says-raised c.from_residual.result (star_free_body c.args.alphabet.now c.args.answer.now)
    c.from_residual.ensures.1 c.in_err-say_head.ensures

pub returns : goal.returns
returns g c =
    says-then c.say_body.result c.in_ok-say_head.ensures.said c.in_ok-say_head.ensures.count
    c.say_body.ensures
