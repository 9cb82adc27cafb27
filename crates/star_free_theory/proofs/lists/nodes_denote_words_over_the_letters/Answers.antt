use Rattle.star_free_theory.proofs.Meanings.{denotes_over}
use Rattle.star_free_theory.proofs.lists.nodes_denote_words_over_the_letters.Goals as goal

pub returns : goal.returns
returns c = denotes_over
