use Rattle.std.proofs.Common.{◌∙◌, ℕ, ap, subst, length}
use Rattle.report_text.specs.GreenSection.{idempotents_text, marks_below}
use Rattle.report_buffer.specs.Saying.{Says, channel}
use Rattle.report_buffer.proofs.Channels.{says-then, says-raised}
use Rattle.report_text.proofs.green_section.say_green.Goals as goal

pub returns-in_err-say_boxes : goal.returns-in_err-say_boxes
returns-in_err-say_boxes g c =
    says-raised c.from_residual.result
    (idempotents_text (marks_below c.args.green.now.idempotents (length c.args.cayley.now.words)))
    c.from_residual.ensures.1 c.in_err-say_boxes.ensures

pub returns : goal.returns
returns g c =
    let marks = c.args.green.now.idempotents in
    let P : ℕ → Type 0 = λ n.
    Says (channel (g.S.Sink.written c.say_boxes.new.sink) (g.S.Sink.faults c.say_boxes.new.sink)
    c.say_boxes.new.buffer) c.say_number_line.result
    (channel (g.S.Sink.written c.say_number_line.new.sink)
    (g.S.Sink.faults c.say_number_line.new.sink) c.say_number_line.new.buffer)
    (idempotents_text n) in
    says-then c.say_number_line.result c.in_ok-say_boxes.ensures.said
    c.in_ok-say_boxes.ensures.count
    (subst P (c.idempotents_of.ensures ∙ ap (marks_below marks) c.requires.boxes.size)
    c.say_number_line.ensures)
