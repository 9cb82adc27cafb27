use Rattle.std.proofs.Common.{IsTrue}
use Rattle.language_theory.proofs.LeastWords.{least_word_of_test, least_words_equal}
use Rattle.language_theory.proofs.words.a_set_has_a_least_word.Goals as goal

pub returns-clause-least : goal.returns-clause-least
returns-clause-least c = least_word_of_test

pub returns-clause-one : goal.returns-clause-one
returns-clause-one c k test = least_words_equal k (λ w. IsTrue (test w))
