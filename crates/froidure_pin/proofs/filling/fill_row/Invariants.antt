use Rattle.std.proofs.Common.{◌≡◌, ℕ, ◌<◌, length}
use Rattle.std.specs.Prelude.{slice_index}
use Rattle.froidure_pin.specs.Maps.{image}
use Rattle.froidure_pin.proofs.filling.fill_row.Given as goal

abbrev pub invariant-loop-point : goal.invariant-loop-point
invariant-loop-point l =
    (length l.row ≡ length l.fn.row)
    × ((p : ℕ) → p < l.point
    → slice_index l.row p ≡ image l.generators (slice_index l.source p) l.letter)
