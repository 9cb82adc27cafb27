use Rattle.star_free_theory.proofs.Settling.{denotes_settles}
use Rattle.star_free_theory.proofs.lists.star_free_languages_settle.Goals as goal

pub returns : goal.returns
returns c = denotes_settles
