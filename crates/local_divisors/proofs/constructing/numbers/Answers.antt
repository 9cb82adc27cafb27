use Rattle.std.proofs.Common.{◌∙◌, ◌++◌, ◌∷◌, [], ℕ, List, sym, ap}
use Rattle.local_divisors.proofs.WholeMonoid.{count_more}
use Rattle.local_divisors.proofs.constructing.numbers.Goals as goal

pub loop-number-preserved : goal.loop-number-preserved
loop-number-preserved c =
    c.in_ok-push.ensures.items ∙ ap (λ (xs : List ℕ). xs ++ c.loop-number.number ∷ [])
    c.loop-number.invariant
    ∙ sym (count_more c.loop-number.number)
