use Rattle.std.proofs.Common.{ℕ, ◌<◌, ◌≤◌, slice_index}
use Rattle.components.specs.Search.{IsIn}
use Rattle.components.proofs.least_of.Given as goal

abbrev pub invariant-loop-node : goal.invariant-loop-node
invariant-loop-node l = IsIn l.nodes l.least
    × ((k : ℕ) → k < l.node-index → l.least ≤ slice_index l.nodes k)
