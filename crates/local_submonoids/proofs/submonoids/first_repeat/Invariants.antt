use Rattle.std.proofs.Common.{ℕ, ◌<◌}
use Rattle.local_submonoids.specs.LocalTables.{IsIdempotentElement, local_element}
use Rattle.local_submonoids.proofs.submonoids.first_repeat.Given as goal

abbrev pub invariant-loop-s : goal.invariant-loop-s
invariant-loop-s l = (j : ℕ) → j < l.s → IsIdempotentElement l.table (local_element l.table l.e j)
