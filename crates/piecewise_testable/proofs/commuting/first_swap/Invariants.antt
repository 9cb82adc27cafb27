-- the letters so far commute with all letters
use Rattle.std.proofs.Common.{ℕ, ◌<◌}
use Rattle.language_theory.specs.ShortlexGraph.{SameNode}
use Rattle.piecewise_testable.specs.Commuting.{Commute}
use Rattle.piecewise_testable.proofs.commuting.first_swap.Given as goal

abbrev pub invariant-loop-a : goal.invariant-loop-a
invariant-loop-a l =
    (a b : ℕ) → a < l.a → b < l.cayley.right.letters → Commute (SameNode l.cayley.right) a b
