use Rattle.std.proofs.Common.{◌≡◌, slice_index, drop, Some, None}
use Rattle.star_free_theory.specs.Construction.{join_finals}
use Rattle.local_divisors.proofs.building.Builder.join_elements.Given as goal

-- what is left to join comes to what all comes to
abbrev pub invariant-loop-element : goal.invariant-loop-element
invariant-loop-element l =
    join_finals (Some l.most) (slice_index l.nodes) (drop l.element-index l.elements) l.joined
    l.self
    ≡ join_finals (Some l.most) (slice_index l.nodes) l.elements None l.fn.self
