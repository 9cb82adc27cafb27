use Rattle.std.proofs.Common.{ℕ, ◌<◌, get_or, length}
use Rattle.local_submonoids.specs.LocalTables.{AreOneProduct}
use Rattle.local_submonoids.proofs.submonoids.first_pair.Given as goal

abbrev pub invariant-loop-place : goal.invariant-loop-place
invariant-loop-place l = (i j : ℕ) → i < l.place → j < length l.elements
    → AreOneProduct l.table (get_or l.elements i 0) (get_or l.elements j 0)
