use Rattle.std.proofs.Common.{◌<◌, ◌+◌, ◌*◌, length}
use Rattle.cayley_tables.specs.Tables.{IsLinking, right_graph}
use Rattle.cayley_tables.proofs.making.link_row.Given as goal

abbrev pub invariant-loop-letter : goal.invariant-loop-letter
invariant-loop-letter l =
    (l.element < length l.links.prefix)
    × IsLinking (right_graph l.size l.letters l.right) (l.element * l.letters + l.letter) l.links
