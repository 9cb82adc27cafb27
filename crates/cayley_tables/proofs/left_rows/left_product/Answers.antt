use Rattle.std.proofs.Common.{◌<◌, ◌+◌, ◌*◌, length, arith}
use Rattle.std.specs.Prelude.{slice_index}
use Rattle.cayley_tables.proofs.LeftRows.{right_place}
use Rattle.cayley_tables.proofs.left_rows.left_product.Goals as goal
use Rattle.cayley_tables.proofs.left_rows.left_product.Goals.{After-last}

place : (c : After-last)
    → slice_index c.args.left.now
    (c.prefix.result * c.args.letters + c.args.letter) * c.args.letters + c.last.result
    < length c.args.right.now
place c =
    let h = c.requires.can in
    rw (c.prefix.ensures, c.last.ensures)
    (right_place c.args.letters h.number h.words c.args.right.now c.args.links.now
    (c.args.element + 1) c.args.left.now h.known h.numbers c.args.element c.args.letter
    (omega (arith, c.if-element-eq0.false)) (omega arith) c.requires.letter c.requires.here)

pub offset_bounds-right-left : goal.offset_bounds-right-left
offset_bounds-right-left c = let p = place c in omega arith

pub bounds-right-left : goal.bounds-right-left
bounds-right-left c = place (goal.at.bounds-right-left c).After-last
