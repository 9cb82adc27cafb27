use Rattle.std.proofs.Common.{◌≡◌, ◌*◌, ◌<◌, drop, All}
use Rattle.components.specs.Beside.{HasBoth}
use Rattle.components.proofs.rows.side_by_side.Given as goal

abbrev pub invariant-loop-node : goal.invariant-loop-node
invariant-loop-node l =
    HasBoth l.node l.degree l.degree_of_second l.first l.second l.both.items
    × (l.left ≡ drop (l.node * l.degree) l.first)
    × (l.right ≡ drop (l.node * l.degree_of_second) l.second)
    × All (λ t. t < l.nodes) l.both.items
