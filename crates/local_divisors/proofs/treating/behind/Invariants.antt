use Rattle.std.proofs.Common.{◌≡◌, Some, length, slice_index}
use Rattle.star_free_theory.specs.declared.nodes.SfNode.TheVariants as node
use Rattle.star_free_theory.specs.Construction.{take}
use Rattle.local_divisors.specs.Building.{IsSoFar}
use Rattle.local_divisors.proofs.treating.behind.Given as goal

abbrev pub invariant-loop-letter : goal.invariant-loop-letter
invariant-loop-letter l =
    (length l.table.items ≡ length l.nodes)
    × IsSoFar (λ ys t. take (Some l.most) ys (node.Cat l.before (slice_index l.nodes t))) l.letters
    l.letter-index l.fn.list l.list l.table.items
