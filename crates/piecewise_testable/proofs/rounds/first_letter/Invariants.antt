-- no letter so far leads to another element
use Rattle.std.proofs.Common.{◌-◌}
use Rattle.language_theory.specs.Words.{word_at}
use Rattle.language_theory.specs.ShortlexGraph.{SameNode}
use Rattle.piecewise_testable.specs.Sides.{Moves}
use Rattle.piecewise_testable.proofs.Searches.{IsSought}
use Rattle.piecewise_testable.proofs.rounds.first_letter.Given as goal

abbrev pub invariant-loop-side : goal.invariant-loop-side
invariant-loop-side l = IsSought l.cayley.right.letters
    (Moves l.side l.cayley.right.letters (SameNode l.cayley.right)
    (word_at l.cayley.words l.element)) l.letter

abbrev pub decreases-loop-side : goal.decreases-loop-side
decreases-loop-side l = l.cayley.right.letters - l.letter
