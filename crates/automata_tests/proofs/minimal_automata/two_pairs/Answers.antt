use Rattle.automata_tests.proofs.minimal_automata.two_pairs.Goals as goal

pub returns-clause-shortlex : goal.returns-clause-shortlex
returns-clause-shortlex c = (c.in_ok-graph.ensures.graph.0, c.in_ok-graph.ensures.graph.1.shortlex)
