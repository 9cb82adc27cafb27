-- the sum of the squares so far, each of which is at most 8,000 squared
use Rattle.std.proofs.Common.{◌≡◌, ◌≤◌, ◌*◌}
use Rattle.local_submonoids.specs.LocalTables.{IsWorkBelow}
use Rattle.local_submonoids.proofs.work.local_work.Given as goal

abbrev pub invariant-loop-e : goal.invariant-loop-e
invariant-loop-e l =
    IsWorkBelow l.monoid l.table l.e l.work
    × (l.work ≤ l.e * 64000000)
    × (l.e-end ≡ l.table.side)
    × (l.table.side ≤ 8000)
    × (l.e ≤ l.e-end)
