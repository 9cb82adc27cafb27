-- what is written, with what is still to be written, is the new set
use Rattle.std.proofs.Common.{◌≡◌, ◌++◌, drop}
use Rattle.factor_keys.specs.FactorKeys.{with_place}
use Rattle.factor_keys.proofs.Places.{left_over}
use Rattle.factor_keys.proofs.factor_set.FactorSet.with.Given as goal

abbrev pub invariant-loop-old : goal.invariant-loop-old
invariant-loop-old l = l.places.items ++ left_over l.is_placed l.place (drop l.old-index l.self)
    ≡ with_place l.place l.self
