use Rattle.std.proofs.Common.{slice_index, arith}
use Rattle.green_relations.proofs.Laying.{product_small}
use Rattle.green_relations.proofs.boxes.cells_of.Goals as goal

pub overflow_mul-before : goal.overflow_mul-before
overflow_mul-before c =
    let b = slice_index c.args.boxes.now c.loop-element.element in
    omega (
      arith,
      product_small _ _ (c.requires.row c.loop-element.element (omega arith))
          (c.requires.width b (c.requires.box c.loop-element.element (omega arith))),
    )

pub overflow_add-before : goal.overflow_add-before
overflow_add-before c =
    let b = slice_index c.args.boxes.now c.loop-element.element in
    omega (
      arith,
      product_small _ _ (c.requires.row c.loop-element.element (omega arith))
          (c.requires.width b (c.requires.box c.loop-element.element (omega arith))),
      c.requires.column c.loop-element.element (omega arith),
    )

pub overflow_add-corners : goal.overflow_add-corners
overflow_add-corners c =
    let b = slice_index c.args.boxes.now c.loop-element.element in
    let inside = c.requires.box c.loop-element.element (omega arith) in
    omega (
      arith,
      product_small _ _ (c.requires.row c.loop-element.element (omega arith))
          (c.requires.width b inside),
      c.requires.column c.loop-element.element (omega arith),
      c.requires.corner b (omega (arith, inside, c.requires.cornered)),
    )
