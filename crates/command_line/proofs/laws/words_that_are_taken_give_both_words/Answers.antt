use Rattle.command_line.proofs.Taken.{both_words}
use Rattle.command_line.proofs.laws.words_that_are_taken_give_both_words.Goals as goal

pub returns : goal.returns
returns c = both_words
