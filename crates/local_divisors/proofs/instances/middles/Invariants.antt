use Rattle.std.proofs.Common.{◌≡◌, ◌<◌, ℕ, length, slice_index}
use Rattle.local_divisors.specs.Instances.{middle}
use Rattle.local_divisors.proofs.instances.middles.Given as goal

abbrev pub invariant-loop-x : goal.invariant-loop-x
invariant-loop-x l =
    (length l.middles.items ≡ l.x) × ((y : ℕ) → y < l.x → slice_index l.middles.items y
    ≡ middle l.product l.m y)
