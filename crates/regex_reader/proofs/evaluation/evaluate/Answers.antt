use Rattle.regex_reader.proofs.Nodes.{one_left, left_part, left_some}
use Rattle.regex_reader.proofs.evaluation.evaluate.Goals as goal

pub take_one-requires : goal.take_one-requires
take_one-requires c =
    let t = c.requires.tree.0 in
    left_some t c.read_all.new.parts.items c.read_all.new.marks
    (one_left c.args.nodes.now t c.read_all.new.parts.items c.read_all.new.marks
    c.requires.tree.1 c.in_ok-read_all.ensures.evaluated)

pub returns-clause-part : goal.returns-clause-part
returns-clause-part c = λ t e.
    left_part t c.read_all.new.parts.items c.take_one.new.parts.items c.take_one.result
    c.read_all.new.marks c.take_one.ensures
    (one_left c.args.nodes.now t c.read_all.new.parts.items c.read_all.new.marks e
    c.in_ok-read_all.ensures.evaluated)

pub returns-clause-marks : goal.returns-clause-marks
returns-clause-marks c = λ t e.
    let h = one_left c.args.nodes.now t c.read_all.new.parts.items c.read_all.new.marks e
    c.in_ok-read_all.ensures.evaluated in
    h.marks
