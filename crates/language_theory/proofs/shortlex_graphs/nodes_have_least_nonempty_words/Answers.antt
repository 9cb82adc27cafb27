use Rattle.language_theory.proofs.Nonempty.{nonempty_at_node, nonempty_at_root, root_words_empty}
use Rattle.language_theory.proofs.shortlex_graphs.nodes_have_least_nonempty_words.Goals as goal

pub returns-clause-node : goal.returns-clause-node
returns-clause-node c = nonempty_at_node

pub returns-clause-root : goal.returns-clause-root
returns-clause-root c = nonempty_at_root

pub returns-clause-none : goal.returns-clause-none
returns-clause-none c = root_words_empty
