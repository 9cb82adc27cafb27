use Rattle.std.proofs.Common.{◌≡◌, Some, None, [], length, slice_index, slice_index_or}
use Rattle.star_free_theory.specs.Construction.{join_all}
use Rattle.local_divisors.specs.Building.{IsSoFar}
use Rattle.local_divisors.proofs.treating.join_groups.Given as goal

abbrev pub invariant-loop-element : goal.invariant-loop-element
invariant-loop-element l =
    (length l.table.items ≡ length l.starts)
    × IsSoFar (λ ys u. join_all (Some l.most) (slice_index l.first) (slice_index l.second)
    (slice_index_or l.starts u None) (slice_index_or l.groups u []) ys)
    l.elements l.element-index l.fn.list l.list l.table.items
