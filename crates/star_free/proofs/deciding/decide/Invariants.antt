use Rattle.std.proofs.Common.{◌≡◌, ◌<◌, ℕ, length}
use Rattle.language_theory.specs.Words.{word_at}
use Rattle.language_theory.specs.ShortlexGraph.{SameNode}
use Rattle.monoid_theory.specs.Powers.{IsIndexAndPeriod}
use Rattle.star_free.proofs.deciding.decide.Given as goal

abbrev pub invariant-loop-element : goal.invariant-loop-element
invariant-loop-element l =
    (l.element-end ≡ length l.monoid.graphs.words)
    × ((j q r : ℕ) → j < l.element
    → IsIndexAndPeriod (SameNode l.monoid.graphs.right) (word_at l.monoid.graphs.words j) q r → r ≡ 1)
