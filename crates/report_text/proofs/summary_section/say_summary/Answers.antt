use Rattle.report_text.specs.SummarySection.{summary_text}
use Rattle.report_buffer.proofs.Channels.{rendered-alone}
use Rattle.report_text.proofs.summary_section.say_summary.Goals as goal

pub returns : goal.returns
returns g c =
    c.say_rendered.ensures.says
    (summary_text c.args.counts.now c.args.max_table c.args.max_nodes c.args.answers.now)
    (rendered-alone c.push_summary-rendered.result c.new-text.result.items
    c.push_summary-rendered.new.text.items _ c.new-text.ensures.items
    c.push_summary-rendered.ensures)
