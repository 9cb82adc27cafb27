use Rattle.std.proofs.Common.{sym}
use Rattle.language_theory.proofs.Graphs.{root_word, node_word_prefix}
use Rattle.language_theory.proofs.shortlex_graphs.least_words_are_closed_under_prefixes.Goals as goal

pub returns-clause-root : goal.returns-clause-root
returns-clause-root c = root_word

pub returns-clause-prefix : goal.returns-clause-prefix
returns-clause-prefix c graph words s i u h (v, e) =
    node_word_prefix graph words s i u v h (sym e)
