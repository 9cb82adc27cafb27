use Rattle.language_theory.proofs.Quotients.{quotient_shortlex, quotient_node}
use Rattle.language_theory.proofs.shortlex_graphs.quotients_are_shortlex_graphs.Goals as goal

pub returns-clause-shortlex : goal.returns-clause-shortlex
returns-clause-shortlex c graph q words first count classes =
    quotient_shortlex graph words count classes q first

pub returns-clause-node : goal.returns-clause-node
returns-clause-node c graph q count classes = quotient_node graph count classes q
