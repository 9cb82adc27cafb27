use Rattle.std.proofs.Common.{◌*◌}
use Rattle.cayley_tables.specs.Tables.{IsLinking, right_graph}
use Rattle.cayley_tables.proofs.making.links_of.Given as goal

abbrev pub invariant-loop-element : goal.invariant-loop-element
invariant-loop-element l =
    IsLinking (right_graph l.size l.letters l.right) (l.element * l.letters) l.links
