use Rattle.subword_theory.proofs.Pumping.{power_has}
use Rattle.subword_theory.proofs.laws.powers_have_all_short_subwords.Goals as goal

pub returns : goal.returns
returns c n w z l f = power_has n w z l (record { letter = f })
