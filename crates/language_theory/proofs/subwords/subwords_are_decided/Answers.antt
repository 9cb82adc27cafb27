use Rattle.language_theory.proofs.Deleting.{subword_or_not}
use Rattle.language_theory.proofs.subwords.subwords_are_decided.Goals as goal

pub returns : goal.returns
returns c = subword_or_not
