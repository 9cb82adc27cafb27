use Rattle.std.proofs.Common.{◌≡◌, ℕ, length, take}
use Rattle.star_free_theory.specs.Instance.{Among}
use Rattle.local_divisors.specs.Instances.{IsSearch, GoesOn}
use Rattle.local_divisors.proofs.instances.multiply.Given as goal

abbrev pub invariant-loop-letter : goal.invariant-loop-letter
invariant-loop-letter l =
    (length l.marks.items ≡ l.product.table.side)
    × ((one : ℕ) → IsSearch l.product one l.letters l.images l.fn.found.items l.fn.marks.items
    → Among l.fn.found.items l.element
    → IsSearch l.product one l.letters l.images l.found.items l.marks.items
    × GoesOn l.product (take l.letter-index l.letters) l.images l.element l.fn.found.items
    l.found.items)
