use Rattle.language_theory.proofs.Congruences.{maps_alike_congruence}
use Rattle.language_theory.proofs.equivalences.maps_give_a_congruence.Goals as goal

pub returns : goal.returns
returns c = maps_alike_congruence
