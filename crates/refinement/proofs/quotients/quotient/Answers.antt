use Rattle.std.proofs.Common.{◌++◌, ◌∙◌, List, ℕ, ap, slice_index, arith}
use Rattle.refinement.specs.Refinement.{target_classes}
use Rattle.refinement.proofs.Firsts.{targets_next}
use Rattle.refinement.proofs.quotients.quotient.Goals as goal

pub loop-first-preserved : goal.loop-first-preserved
loop-first-preserved c =
    let i = c.loop-first.invariant in
    let more = c.in_ok-push_target_classes.ensures
    ∙ ap (λ (classes : List ℕ). c.loop-first.targets.items ++ target_classes c.args.graph.now
    classes (slice_index c.args.firsts.now c.loop-first.first-index) c.args.graph.now.letters)
    c.classes.ensures in (
      i.0,
      targets_next _ _ _ _ c.loop-first.first-index _ _ i.0 c.requires.partition
          c.requires.firsts (omega arith) more i.1,
    )
