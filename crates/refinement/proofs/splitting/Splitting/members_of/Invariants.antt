use Rattle.std.proofs.Common.{◌<◌, length, take}
use Rattle.refinement.specs.Splitting.{ArePicked}
use Rattle.refinement.specs.SplittingState.{IsState}
use Rattle.refinement.proofs.splitting.Splitting.members_of.Given as goal

abbrev pub invariant-loop-node : goal.invariant-loop-node
invariant-loop-node l = IsState l.size l.self × (l.class < length l.self.members.items)
    × ArePicked l.size l.self.class_of.items l.class (take l.node-index l.node-items)
    l.members.items
