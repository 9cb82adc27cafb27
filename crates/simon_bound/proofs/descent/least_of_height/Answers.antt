use Rattle.std.proofs.Common.{length, slice_index, inl, inr, arith, refl}
use Rattle.std.proofs.lemmas.Grind.{common_steps}
use Rattle.simon_bound.proofs.LeastOfHeight.{least_next}
use Rattle.simon_bound.proofs.descent.least_of_height.Goals as goal
use Rattle.simon_bound.proofs.descent.least_of_height.Goals.{then-heights-class, else-heights-class}

pub loop-class-preserved : goal.loop-class-preserved
loop-class-preserved c =
    let x = slice_index c.args.row.now c.loop-class.class-index in
    least_next c.args.heights.now c.args.row.now (length c.args.heights.now) c.args.height
    c.loop-class.class-index c.loop-class.least c.if-heights-class.least x c.loop-class.invariant
    refl (elim c.if-heights-class.branch [
      | then-heights-class w ↦ inl (grind (arith, common_steps), grind (arith, common_steps))
      | else-heights-class w ↦ inr (grind (arith, common_steps), grind (arith, common_steps))
    ])
