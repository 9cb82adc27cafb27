use Rattle.std.proofs.Common.{◌≡◌, slice_index, drop}
use Rattle.star_free_theory.specs.Construction.{first_other}
use Rattle.local_divisors.proofs.instances.chosen.Given as goal

abbrev pub invariant-loop-letter : goal.invariant-loop-letter
invariant-loop-letter l = first_other (slice_index l.images) l.identity
    (drop l.letter-index l.letters) ≡ first_other (slice_index l.images) l.identity l.letters
