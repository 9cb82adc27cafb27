use Rattle.std.proofs.Common.{◌≡◌, length, slice_index, Some}
use Rattle.star_free_theory.specs.Construction.{join_pairs}
use Rattle.local_divisors.specs.Building.{ArePairsWithin}
use Rattle.local_divisors.proofs.building.Builder.join_pairs.Given as goal

-- what is left to join comes to what all comes to
abbrev pub invariant-loop-left : goal.invariant-loop-left
invariant-loop-left l =
    (join_pairs (Some l.most) (slice_index l.first) (slice_index l.second) l.joined l.rest l.self
    ≡ join_pairs (Some l.most) (slice_index l.first) (slice_index l.second) l.fn.start l.fn.pairs
    l.fn.self)
    × ArePairsWithin (length l.first) (length l.second) l.rest

abbrev pub decreases-loop-left : goal.decreases-loop-left
decreases-loop-left l = length l.rest
