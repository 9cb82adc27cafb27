use Rattle.std.proofs.Common.{◌<◌, length}
use Rattle.std.specs.Prelude.{All}
use Rattle.refinement.specs.SplittingState.{IsState, IsSame}
use Rattle.refinement.proofs.splitting.Splitting.meet.Given as goal

abbrev pub invariant-loop-node : goal.invariant-loop-node
invariant-loop-node l = IsState l.size l.self × IsSame l.fn.self l.self
    × All (λ i. i < l.size) l.nodes × All (λ c. c < length l.self.members.items) l.touched.items
