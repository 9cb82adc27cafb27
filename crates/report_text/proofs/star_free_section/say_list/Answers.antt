use Rattle.std.specs.Prelude.{codes}
use Rattle.report_buffer.specs.Texts.{number_line}
use Rattle.report_buffer.proofs.Channels.{says-then, says-raised}
use Rattle.report_text.proofs.star_free_section.say_list.Goals as goal

pub returns-in_err-say_nodes : goal.returns-in_err-say_nodes
returns-in_err-say_nodes g c =
    says-raised c.from_residual.result (number_line (codes "root") c.args.list.now.root)
    c.from_residual.ensures.1 c.in_err-say_nodes.ensures

pub returns : goal.returns
returns g c =
    rw (← c.root.ensures.root)
    (says-then c.say_number_line.result c.in_ok-say_nodes.ensures.said c.in_ok-say_nodes.ensures.count
    c.say_number_line.ensures)
