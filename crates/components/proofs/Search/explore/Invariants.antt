use Rattle.std.proofs.Common.{◌<◌, slice_index}
use Rattle.components.specs.Steps.{Holds, IsLater, work}
use Rattle.components.proofs.Search.explore.Given as goal

abbrev pub invariant-loop-self : goal.invariant-loop-self
invariant-loop-self l =
    Holds l.nodes l.degree l.targets l.self × IsLater l.nodes l.fn.self l.self
    × (0 < slice_index l.self.places.items l.root)

abbrev pub decreases-loop-self : goal.decreases-loop-self
decreases-loop-self l = work l.nodes l.degree l.self
