use Rattle.std.proofs.Common.{◌≡◌, ◌*◌, length, take}
use Rattle.cayley_tables.specs.LeftRows.{GoesOn}
use Rattle.cayley_tables.proofs.left_rows.push_left_rows.Given as goal

abbrev pub invariant-loop-element : goal.invariant-loop-element
invariant-loop-element l =
    ((length l.left.items ≡ l.element * l.letters)
    × (take (length l.fn.left.items) l.left.items ≡ l.fn.left.items))
    × GoesOn l.letters l.right l.links l.to l.fn.left.items l.left.items
