use Rattle.std.proofs.Common.{subst}
use Rattle.language_theory.specs.Automaton.{IsInOrder}
use Rattle.automata.proofs.Rows.{rows_ordered}
use Rattle.automata.proofs.nfa.Nfa.states.Goals as goal

pub returns-clause-ordered : goal.returns-clause-ordered
returns-clause-ordered c =
    let n = c.self.inside in
    subst IsInOrder c.self.view_is (rows_ordered n.letters n.initial.items n.finals.items
    n.rows.items n.moves.items)
