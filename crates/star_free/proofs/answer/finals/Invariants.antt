use Rattle.std.proofs.Common.{◌≡◌, length}
use Rattle.language_theory.specs.Automaton.{is_marked}
use Rattle.star_free_theory.specs.Construction.{count_from, keep}
use Rattle.star_free.proofs.answer.finals.Given as goal

-- the accepted ones of the elements before this one
abbrev pub invariant-loop-element : goal.invariant-loop-element
invariant-loop-element l =
    (l.element-end ≡ length l.monoid.graphs.words)
    × (l.finals.items ≡ keep (is_marked l.monoid.accepted) (count_from 0 l.element))
