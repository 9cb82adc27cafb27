use Rattle.language_theory.proofs.Congruences.{both_directions, other_direction}
use Rattle.language_theory.proofs.Automata.{taken_in_accepts}
use Rattle.automata.proofs.nfa.Nfa.accepts.Goals as goal

pub returns-then-has_moves : goal.returns-then-has_moves
returns-then-has_moves c =
    both_directions c.in_ok-accepted.ensures
    (other_direction (taken_in_accepts c.args.self.now c.in_ok-plain.plain c.in_ok-plain.ensures
    c.args.word.now))
