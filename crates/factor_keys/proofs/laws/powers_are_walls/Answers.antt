use Rattle.factor_keys.proofs.Repeats.{repeat_alike, swap_alike}
use Rattle.factor_keys.proofs.laws.powers_are_walls.Goals as goal

pub returns-clause-repeat : goal.returns-clause-repeat
returns-clause-repeat c = repeat_alike

pub returns-clause-swap : goal.returns-clause-swap
returns-clause-swap c = swap_alike
