use Rattle.subword_theory.proofs.SameWords.{same_less, same_zero, same_short}
use Rattle.subword_theory.proofs.laws.longer_subwords_tell_more.Goals as goal

pub returns-clause-less : goal.returns-clause-less
returns-clause-less c m n u v l s = same_less m l s

pub returns-clause-zero : goal.returns-clause-zero
returns-clause-zero c = same_zero

pub returns-clause-all : goal.returns-clause-all
returns-clause-all c = same_short
