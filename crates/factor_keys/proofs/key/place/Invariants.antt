-- the letters that are left lead to the place of the word
use Rattle.std.proofs.Common.{◌≡◌, drop}
use Rattle.factor_keys.specs.FactorKeys.{place_from, place}
use Rattle.factor_keys.proofs.key.place.Given as goal

abbrev pub invariant-loop-letter : goal.invariant-loop-letter
invariant-loop-letter l = place_from l.letters l.place (drop l.letter-index l.word)
    ≡ place l.letters l.word
