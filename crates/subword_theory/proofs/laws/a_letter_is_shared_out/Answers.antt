use Rattle.subword_theory.proofs.Sharing.{shared_out}
use Rattle.subword_theory.proofs.laws.a_letter_is_shared_out.Goals as goal

pub returns : goal.returns
returns c = shared_out
