use Rattle.std.proofs.Common.{length, rules}
use Rattle.green_relations.specs.EggBoxes.{box_at, row_at}
use Rattle.report_buffer.specs.Texts.{texts_below}
use Rattle.report_text.specs.GreenSection.{marked, box_head, row_text}
use Rattle.report_buffer.proofs.Channels.{says-raised, rendered-alone, lines-said, lines-raised}
use Rattle.report_text.proofs.green_section.say_box.Goals as goal

pub returns-in_err-say_rendered : goal.returns-in_err-say_rendered
returns-in_err-say_rendered g c =
    let box = box_at c.args.boxes.now c.args.index in
    let m = marked c.args.cayley.now.words c.args.green.now.idempotents in
    says-raised {p = box_head c.args.index box} c.from_residual.result
    (texts_below (λ y. row_text c.args.alphabet.now m (row_at box y)) (length box))
    c.from_residual.ensures.1
    (c.in_err-say_rendered.ensures.says (box_head c.args.index box)
    (rendered-alone c.push_box_head-head.result c.new-line.result.items
    c.push_box_head-head.new.text.items _ c.new-line.ensures.items
    c.push_box_head-head.ensures))

pub returns-in_err-say_rendered-2 : goal.returns-in_err-say_rendered-2
returns-in_err-say_rendered-2 g c =
    let box = box_at c.args.boxes.now c.args.index in
    let m = marked c.args.cayley.now.words c.args.green.now.idempotents in
    lines-raised {head = box_head c.args.index box}
    {line = λ y. row_text c.args.alphabet.now m (row_at box y)} {size = length box}
    c.from_residual-in_err-say_rendered-2.result
    c.loop-row.invariant.lines (search rules) c.from_residual-in_err-say_rendered-2.ensures.1
    (c.in_err-say_rendered-2.ensures.says
    (row_text c.args.alphabet.now m (row_at box c.loop-row.row))
    (rendered-alone c.push_row-rendered.result c.loop-row.line.items
    c.push_row-rendered.new.text.items _ c.loop-row.invariant.empty
    c.push_row-rendered.ensures))

pub loop-row-preserved : goal.loop-row-preserved
loop-row-preserved g c =
    let box = box_at c.args.boxes.now c.args.index in
    let m = marked c.args.cayley.now.words c.args.green.now.idempotents in
    record {
      lines =
          lines-said {head = box_head c.args.index box}
          {line = λ y. row_text c.args.alphabet.now m (row_at box y)} _
          c.loop-row.invariant.lines
          (c.in_ok-say_rendered-2.ensures.says
          (row_text c.args.alphabet.now m (row_at box c.loop-row.row))
          (rendered-alone c.push_row-rendered.result c.loop-row.line.items
          c.push_row-rendered.new.text.items _ c.loop-row.invariant.empty
          c.push_row-rendered.ensures));
      empty = c.in_ok-say_rendered-2.ensures.empty;
    }
