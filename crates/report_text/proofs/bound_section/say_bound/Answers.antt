use Rattle.report_text.specs.BoundSection.{level_text}
use Rattle.report_buffer.proofs.Channels.{says-then, says-raised}
use Rattle.report_text.proofs.bound_section.say_bound.Goals as goal

pub returns-in_err-say_chain : goal.returns-in_err-say_chain
returns-in_err-say_chain g c =
    says-raised c.from_residual.result (level_text c.args.chain.now c.args.trivial)
    c.from_residual.ensures.1 c.in_err-say_chain.ensures

pub returns : goal.returns
returns g c =
    says-then c.say_level.result c.in_ok-say_chain.ensures.said
    c.in_ok-say_chain.ensures.count c.say_level.ensures
