use Rattle.language_theory.proofs.Minimal.{one_minimal, agreeing_minimal}
use Rattle.language_theory.proofs.minimal_automata.one_minimal_automaton.Goals as goal

pub returns-clause-one : goal.returns-clause-one
returns-clause-one g c k = one_minimal k g.L.Language.has

pub returns-clause-agreeing : goal.returns-clause-agreeing
returns-clause-agreeing g c k = agreeing_minimal k g.L.Language.has g.M.Language.has
