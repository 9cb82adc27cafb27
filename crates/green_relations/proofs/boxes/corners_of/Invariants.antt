use Rattle.std.proofs.Common.{◌≡◌, ◌<◌, ◌*◌, ℕ, length, slice_index}
use Rattle.green_relations.proofs.boxes.corners_of.Given as goal

abbrev pub invariant-loop-index : goal.invariant-loop-index
invariant-loop-index l =
    (length l.areas.items ≡ l.index)
    × ((b : ℕ) → b < l.index
    → slice_index l.areas.items b ≡ slice_index l.rows b * slice_index l.columns b)
