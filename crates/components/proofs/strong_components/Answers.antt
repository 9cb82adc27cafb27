use Rattle.std.proofs.Common.{arith}
use Rattle.components.proofs.strong_components.Goals as goal

pub loop-root-init : goal.loop-root-init
loop-root-init c = (
  c.in_ok-search.ensures.holds c.args.degree c.args.targets.now,
  c.in_ok-search.ensures.none,
  λ x h. absurd (omega arith),
)
