use Rattle.std.proofs.Common.{◌≡◌, take}
use Rattle.factor_keys.proofs.key.last_letters.Given as goal

abbrev pub invariant-loop-letter : goal.invariant-loop-letter
invariant-loop-letter l = l.suffix ≡ take l.letter-index l.last
