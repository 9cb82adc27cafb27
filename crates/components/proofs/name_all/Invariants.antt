use Rattle.std.proofs.Common.{ℕ, ◌≡◌, ◌<◌, ◌⊎◌, slice_index, length}
use Rattle.components.specs.Search.{IsIn}
use Rattle.components.proofs.name_all.Given as goal

abbrev pub invariant-loop-node : goal.invariant-loop-node
invariant-loop-node l =
    (length l.labels.items ≡ length l.fn.labels.items)
    × ((k : ℕ) → k < l.node-index → slice_index l.labels.items (slice_index l.nodes k) ≡ l.name)
    × ((x : ℕ) → (slice_index l.labels.items x ≡ slice_index l.fn.labels.items x)
    ⊎ ((slice_index l.labels.items x ≡ l.name) × IsIn l.nodes x))
