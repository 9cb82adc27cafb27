use Rattle.std.proofs.Common.{◌<◌, length}
use Rattle.std.specs.Prelude.{All}
use Rattle.refinement.specs.Splitting.{AreGoals}
use Rattle.refinement.specs.SplittingState.{IsState}
use Rattle.refinement.proofs.splitting.Splitting.goals_of.Given as goal

abbrev pub invariant-loop-node : goal.invariant-loop-node
invariant-loop-node l = IsState l.size l.self × All (λ i. i < l.size) l.nodes
    × AreGoals l.self.goals.items l.self.class_of.items l.nodes l.node-index l.goals.items
    × All (λ c. c < length l.self.members.items) l.goals.items
