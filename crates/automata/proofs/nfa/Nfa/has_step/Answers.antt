use Rattle.std.proofs.Common.{sym, arith, inl, inr, ap}
use Rattle.language_theory.specs.Automaton.{Automaton}
use Rattle.automata.proofs.Rows.{no_step}
use Rattle.automata.proofs.nfa.Nfa.has_step.Goals as goal
use Rattle.automata.proofs.nfa.Nfa.has_step.Goals.{then-from-states-via-then-from-states, then-from-states-via-else-from-states+then-letter-self}

pub returns-then-from-states : goal.returns-then-from-states
returns-then-from-states c = elim c.then-from-states.branch [
  | then-from-states-via-then-from-states w ↦
      sym (no_step c.args.self.now c.args.from c.args.letter c.args.to c.states.ensures.sized.automaton
      (inl (omega (arith, w.if-from-states.true, c.states.ensures.states))))
  | then-from-states-via-else-from-states+then-letter-self w ↦
      sym (no_step c.args.self.now c.args.from c.args.letter c.args.to c.states.ensures.sized.automaton
      (inr (inl (omega (arith, w.if-letter-self.true, ap (λ (m : Automaton). m.letters) c.self.view_is)))))
]
