use Rattle.std.proofs.Common.{◌≡◌, ◌*◌}
use Rattle.froidure_pin.specs.Batches.{AreMadeTo}
use Rattle.froidure_pin.proofs.filling.fill_rows.Given as goal

abbrev pub invariant-loop-job : goal.invariant-loop-job
invariant-loop-job l =
    (l.start ≡ l.job-index * l.generators.points)
    × AreMadeTo l.generators l.sources l.jobs l.job-index l.rows
