use Rattle.std.proofs.Common.{◌≡◌, ◌+◌, ◌*◌, length, take}
use Rattle.cayley_tables.specs.LeftRows.{GoesOn}
use Rattle.cayley_tables.proofs.left_rows.push_left_row.Given as goal

abbrev pub invariant-loop-letter : goal.invariant-loop-letter
invariant-loop-letter l =
    ((length l.left.items ≡ l.element * l.letters + l.letter)
    × (take (length l.fn.left.items) l.left.items ≡ l.fn.left.items))
    × GoesOn l.letters l.right l.links (l.element + 1) l.fn.left.items l.left.items
