use Rattle.std.proofs.Common.{◌≡◌, ◌<◌, ◌≤◌, length, ℕ}
use Rattle.std.specs.Prelude.{slice_index}
use Rattle.refinement.proofs.splitting.Splitting.new.Given as goal

abbrev pub invariant-loop-node : goal.invariant-loop-node
invariant-loop-node l = (l.node ≤ l.size) × (length l.all.items ≡ l.node)
    × ((i : ℕ) → i < l.node → slice_index l.all.items i ≡ i)
