-- no element so far leads there
use Rattle.std.proofs.Common.{◌-◌, length}
use Rattle.language_theory.specs.Words.{word_at}
use Rattle.language_theory.specs.ShortlexGraph.{SameNode}
use Rattle.piecewise_testable.specs.Sides.{Leads}
use Rattle.piecewise_testable.proofs.Searches.{IsSought}
use Rattle.piecewise_testable.proofs.rounds.first_back.Given as goal

abbrev pub invariant-loop-side : goal.invariant-loop-side
invariant-loop-side l = IsSought (length l.cayley.words)
    (λ e. Leads l.side (SameNode l.cayley.right) (word_at l.cayley.words l.from)
    (word_at l.cayley.words l.to) (word_at l.cayley.words e)) l.element

abbrev pub decreases-loop-side : goal.decreases-loop-side
decreases-loop-side l = length l.cayley.words - l.element
