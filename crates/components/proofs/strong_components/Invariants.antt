use Rattle.std.proofs.Common.{ℕ, ◌≡◌, ◌<◌, slice_index, length}
use Rattle.components.specs.Steps.{Holds}
use Rattle.components.proofs.strong_components.Given as goal

abbrev pub invariant-loop-root : goal.invariant-loop-root
invariant-loop-root l =
    Holds l.nodes l.degree l.targets l.search × (length l.search.starts.items ≡ 0)
    × ((x : ℕ) → x < l.root → slice_index l.search.labels.items x < l.nodes)
