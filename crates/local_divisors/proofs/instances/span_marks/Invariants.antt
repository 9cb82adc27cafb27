use Rattle.std.proofs.Common.{◌<◌, ◌≤◌, ◌-◌, ℕ, length, slice_index}
use Rattle.star_free_theory.specs.Instance.{Among}
use Rattle.local_divisors.specs.Instances.{IsSearch, times}
use Rattle.local_divisors.proofs.instances.span_marks.Given as goal

abbrev pub invariant-loop-place : goal.invariant-loop-place
invariant-loop-place l =
    (l.place ≤ length l.found.items)
    × IsSearch l.product l.identity l.letters l.images l.found.items l.marks.items
    × ((j a : ℕ) → j < l.place → Among l.letters a → Among l.found.items
    (times l.product (slice_index l.images a) (slice_index l.found.items j)))

abbrev pub decreases-loop-place : goal.decreases-loop-place
decreases-loop-place l = l.product.table.side - l.place
