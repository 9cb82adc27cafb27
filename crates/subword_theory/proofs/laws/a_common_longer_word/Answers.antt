use Rattle.subword_theory.proofs.CommonWords.{common_longer}
use Rattle.subword_theory.proofs.laws.a_common_longer_word.Goals as goal

pub returns : goal.returns
returns c n u v s = let (w, h) = common_longer n u v s in (w, h.first, h.second, h.same, h.over)
