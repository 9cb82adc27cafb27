use Rattle.language_theory.proofs.Graphs.{walk_append, walk_within, same_node_right}
use Rattle.language_theory.proofs.shortlex_graphs.walks_follow_words.Goals as goal

pub returns-clause-joined : goal.returns-clause-joined
returns-clause-joined c = walk_append

pub returns-clause-within : goal.returns-clause-within
returns-clause-within c = walk_within

pub returns-clause-right : goal.returns-clause-right
returns-clause-right c = same_node_right
