use Rattle.std.proofs.Common.{◌≡◌, map}
use Rattle.language_theory.specs.ShortlexGraph.{target}
use Rattle.star_free_theory.specs.Construction.{count_from}
use Rattle.star_free.proofs.answer.images.Given as goal

-- the elements of the letters before this one
abbrev pub invariant-loop-letter : goal.invariant-loop-letter
invariant-loop-letter l =
    (l.letter-end ≡ l.monoid.graphs.right.letters)
    × (l.images.items ≡ map (target l.monoid.graphs.right 0) (count_from 0 l.letter))
