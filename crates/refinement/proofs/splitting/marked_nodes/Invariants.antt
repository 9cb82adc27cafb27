use Rattle.std.proofs.Common.{◌≡◌, length}
use Rattle.refinement.specs.Splitting.{AreMarked}
use Rattle.refinement.proofs.splitting.marked_nodes.Given as goal

abbrev pub invariant-loop-node : goal.invariant-loop-node
invariant-loop-node l = (l.node-end ≡ l.graph.size) × (length l.marks ≡ l.graph.size)
    × AreMarked l.marks l.node l.marked.items
