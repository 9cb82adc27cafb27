use Rattle.std.proofs.Common.{ℕ, ◌<◌, ◌≡◌}
use Rattle.local_submonoids.specs.LocalTables.{IsIdempotentAt, HasNoFlaw}
use Rattle.local_submonoids.proofs.submonoids.first_flaw.Given as goal

abbrev pub invariant-loop-e : goal.invariant-loop-e
invariant-loop-e l = ((j : ℕ) → j < l.e → IsIdempotentAt l.monoid l.table j → HasNoFlaw l.table j)
    × (l.e-end ≡ l.table.side)
