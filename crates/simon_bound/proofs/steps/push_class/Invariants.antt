use Rattle.std.proofs.Common.{◌≤◌, ◌+◌, ◌≡◌, ℕ, length, slice_index}
use Rattle.simon_bound.specs.Steps.{Gains, IsStepDown}
use Rattle.simon_bound.proofs.steps.push_class.Given as goal

abbrev pub invariant-loop-rest : goal.invariant-loop-rest
invariant-loop-rest l =
    (l.rest ≤ length l.cayley.words)
    × ((x : ℕ) → x + 1 ≡ l.rest → slice_index l.green.j x ≡ l.class)
    × Gains (IsStepDown l.cayley l.green.j l.rest l.class) l.fn.classes.items l.classes.items

abbrev pub decreases-loop-rest : goal.decreases-loop-rest
decreases-loop-rest l = l.rest
