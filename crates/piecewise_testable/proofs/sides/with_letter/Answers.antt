use Rattle.piecewise_testable.proofs.Between.{right_place}
use Rattle.piecewise_testable.proofs.sides.with_letter.Goals as goal

pub returns-in-Right-clause-place : goal.returns-in-Right-clause-place
returns-in-Right-clause-place c =
    rw (c.in-Right.is, c.right.ensures.right)
    (right_place c.args.cayley.now c.len-len.ensures.graphs c.args.element c.args.letter
    c.requires.element c.requires.letter)
