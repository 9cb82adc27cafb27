use Rattle.std.proofs.Common.{◌≡◌, ◌++◌, [], drop, slice_index_or}
use Rattle.star_free_theory.specs.Construction.{keep, is_some_pair}
use Rattle.local_divisors.proofs.grouping.ends.Given as goal

abbrev pub invariant-loop-element : goal.invariant-loop-element
invariant-loop-element l = l.ends.items ++ keep
    (λ u. is_some_pair (slice_index_or l.groups u []))
    (drop l.element-index l.elements)
    ≡ keep (λ u. is_some_pair (slice_index_or l.groups u [])) l.elements
