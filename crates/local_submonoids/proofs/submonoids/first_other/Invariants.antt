use Rattle.std.proofs.Common.{ℕ, ◌<◌, get_or}
use Rattle.local_submonoids.specs.LocalTables.{AreOneProduct}
use Rattle.local_submonoids.proofs.submonoids.first_other.Given as goal

abbrev pub invariant-loop-place : goal.invariant-loop-place
invariant-loop-place l = (i : ℕ) → i < l.place → AreOneProduct l.table l.one (get_or l.elements i 0)
