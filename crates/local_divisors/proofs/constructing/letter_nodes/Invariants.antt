use Rattle.std.proofs.Common.{◌≡◌, Some, length}
use Rattle.star_free_theory.specs.declared.nodes.SfNode.TheVariants as node
use Rattle.star_free_theory.specs.Construction.{take}
use Rattle.local_divisors.specs.Building.{IsSoFar}
use Rattle.local_divisors.proofs.constructing.letter_nodes.Given as goal

abbrev pub invariant-loop-letter : goal.invariant-loop-letter
invariant-loop-letter l =
    (length l.table.items ≡ length l.letters)
    × IsSoFar (λ ys a. take (Some l.most) ys (node.Letter a)) l.letters l.letter-index l.fn.list
    l.list l.table.items
