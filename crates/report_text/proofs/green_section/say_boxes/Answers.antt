use Rattle.std.proofs.Common.{length, rules}
use Rattle.report_buffer.specs.Texts.{texts_below}
use Rattle.report_text.specs.GreenSection.{marked, boxes_head, box_text}
use Rattle.report_buffer.proofs.Channels.{says-raised, rendered-alone, lines-said, lines-raised}
use Rattle.report_text.proofs.green_section.say_boxes.Goals as goal

pub returns-in_err-say_rendered : goal.returns-in_err-say_rendered
returns-in_err-say_rendered g c =
    let m = marked c.args.cayley.now.words c.args.green.now.idempotents in
    says-raised {p = boxes_head c.args.boxes.now} c.from_residual.result
    (texts_below (box_text c.args.alphabet.now m c.args.boxes.now) (length c.args.boxes.now))
    c.from_residual.ensures.1
    (c.in_err-say_rendered.ensures.says (boxes_head c.args.boxes.now)
    (rendered-alone c.push_boxes_head-head.result c.new-line.result.items
    c.push_boxes_head-head.new.text.items _ c.new-line.ensures.items
    c.push_boxes_head-head.ensures))

pub returns-in_err-say_box : goal.returns-in_err-say_box
returns-in_err-say_box g c =
    let m = marked c.args.cayley.now.words c.args.green.now.idempotents in
    lines-raised {head = boxes_head c.args.boxes.now}
    {line = box_text c.args.alphabet.now m c.args.boxes.now}
    {size = length c.args.boxes.now} c.from_residual-in_err-say_box.result
    c.loop-index.invariant (search rules) c.from_residual-in_err-say_box.ensures.1
    c.in_err-say_box.ensures

pub loop-index-preserved : goal.loop-index-preserved
loop-index-preserved g c =
    let m = marked c.args.cayley.now.words c.args.green.now.idempotents in
    lines-said {head = boxes_head c.args.boxes.now}
    {line = box_text c.args.alphabet.now m c.args.boxes.now} _
    c.loop-index.invariant c.in_ok-say_box.ensures
