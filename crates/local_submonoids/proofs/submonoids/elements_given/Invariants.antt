-- the elements that are written and those still to be written are all of them
use Rattle.std.proofs.Common.{◌≡◌, ◌<◌, ◌++◌, drop, map, All}
use Rattle.local_submonoids.specs.LocalTables.{local_element}
use Rattle.local_submonoids.proofs.submonoids.elements_given.Given as goal

abbrev pub invariant-loop-s : goal.invariant-loop-s
invariant-loop-s l =
    (l.elements.items ++ map (local_element l.table l.e) (drop l.s-index l.listed)
    ≡ map (local_element l.table l.e) l.listed)
    × All (λ m. m < l.table.side) l.elements.items
