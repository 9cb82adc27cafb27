-- the letters so far commute with a
use Rattle.std.proofs.Common.{ℕ, ◌<◌}
use Rattle.language_theory.specs.ShortlexGraph.{SameNode}
use Rattle.piecewise_testable.specs.Commuting.{Commute}
use Rattle.piecewise_testable.proofs.commuting.first_partner.Given as goal

abbrev pub invariant-loop-b : goal.invariant-loop-b
invariant-loop-b l = (b : ℕ) → b < l.b → Commute (SameNode l.cayley.right) l.a b
