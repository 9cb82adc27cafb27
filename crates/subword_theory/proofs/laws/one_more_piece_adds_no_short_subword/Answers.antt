use Rattle.subword_theory.proofs.Pumping.{power_behind_in, power_before_in}
use Rattle.subword_theory.proofs.laws.one_more_piece_adds_no_short_subword.Goals as goal

pub returns-clause-behind : goal.returns-clause-behind
returns-clause-behind c = power_behind_in

pub returns-clause-before : goal.returns-clause-before
returns-clause-before c = power_before_in
