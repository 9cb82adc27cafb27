use Rattle.report_text.specs.MonoidSection.{rules_text}
use Rattle.report_buffer.proofs.Channels.{says-then, says-raised}
use Rattle.report_text.proofs.monoid_section.say_monoid.Goals as goal

pub returns-in_err-say_elements : goal.returns-in_err-say_elements
returns-in_err-say_elements g c =
    says-raised c.from_residual.result
    (rules_text c.args.alphabet.now c.args.monoid.now.graphs.words c.args.rules.now)
    c.from_residual.ensures.1 c.in_err-say_elements.ensures

pub returns : goal.returns
returns g c =
    says-then c.say_rules.result c.in_ok-say_elements.ensures.said
    c.in_ok-say_elements.ensures.count c.say_rules.ensures
