use Rattle.std.proofs.Common.{ℕ, ◌≡◌, ◌<◌, ◌≤◌, slice_index, length}
use Rattle.components.specs.Components.{target}
use Rattle.components.specs.Search.{IsLinked}
use Rattle.components.proofs.join.Given as goal

abbrev pub invariant-loop-starts : goal.invariant-loop-starts
invariant-loop-starts l =
    IsLinked l.degree (target l.degree l.targets) l.opened l.starts.items
    × (length l.starts.items ≤ length l.fn.starts.items)
    × ((q : ℕ) → q < length l.starts.items
    → slice_index l.starts.items q ≡ slice_index l.fn.starts.items q)

abbrev pub decreases-loop-starts : goal.decreases-loop-starts
decreases-loop-starts l = length l.starts.items
