use Rattle.std.proofs.Common.{◌≤◌, ◌<◌, ℕ}
use Rattle.star_free_lists.specs.Accepting.{HasMark}
use Rattle.star_free_lists.proofs.accepting.is_cut.Given as goal

abbrev pub invariant-loop-middle : goal.invariant-loop-middle
invariant-loop-middle l = (m : ℕ) → l.start ≤ m → m < l.middle
    → HasMark l.word l.marks l.left l.start m → ¬ HasMark l.word l.marks l.right m l.end
