use Rattle.std.proofs.Common.{ap, slice_index, ℕ}
use Rattle.refinement.proofs.Rounds.{target_classes_more}
use Rattle.refinement.proofs.coarsest.push_target_classes.Goals as goal

pub loop-letter-preserved : goal.loop-letter-preserved
loop-letter-preserved c =
    let i = c.loop-letter.invariant in (
      i.0,
      target_classes_more c.args.graph.now c.args.classes.now c.args.node c.loop-letter.letter _
          _ _ _ i.1 (ap (λ (t : ℕ). slice_index c.args.classes.now t) c.step.ensures.step)
          c.in_ok-push.ensures.items,
    )
