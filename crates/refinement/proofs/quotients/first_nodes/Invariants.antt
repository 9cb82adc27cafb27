use Rattle.std.proofs.Common.{◌≡◌}
use Rattle.refinement.proofs.Firsts.{AreFirstsOf}
use Rattle.refinement.proofs.quotients.first_nodes.Given as goal

abbrev pub invariant-loop-node : goal.invariant-loop-node
invariant-loop-node l = (l.node-end ≡ l.graph.size)
    × AreFirstsOf l.partition.classes l.node l.firsts.items
