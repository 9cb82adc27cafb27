use Rattle.language_theory.proofs.Shortlex.{shortlex_before, shortlex_append_word, shortlex_append_letters, shortlex_append_last, shortlex_append_longer}
use Rattle.language_theory.proofs.words.shortlex_is_kept_by_concatenation.Goals as goal

pub returns-clause-before : goal.returns-clause-before
returns-clause-before c = shortlex_before

pub returns-clause-behind : goal.returns-clause-behind
returns-clause-behind c = shortlex_append_word

pub returns-clause-letters : goal.returns-clause-letters
returns-clause-letters c = shortlex_append_letters

pub returns-clause-last : goal.returns-clause-last
returns-clause-last c = shortlex_append_last

pub returns-clause-longer : goal.returns-clause-longer
returns-clause-longer c = shortlex_append_longer
