use Rattle.std.proofs.Common.{◌≡◌, ◌<◌, ◌-◌, length, slice_index}
use Rattle.simon_bound.specs.Heights.{IsDescent}
use Rattle.simon_bound.proofs.descent.descend.Given as goal

abbrev pub invariant-loop-class : goal.invariant-loop-class
invariant-loop-class l =
    IsDescent l.nodes l.steps.starts.items l.steps.classes.items l.heights l.path.items
    × (slice_index l.path.items (length l.path.items - 1) ≡ l.class)
    × (0 < slice_index l.heights l.class)

abbrev pub decreases-loop-class : goal.decreases-loop-class
decreases-loop-class l = slice_index l.heights l.class
