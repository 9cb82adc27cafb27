-- none of the states so far is both initial and marked
use Rattle.std.proofs.Common.{ℕ, ◌<◌, IsTrue}
use Rattle.language_theory.specs.Automaton.{is_initial, is_marked}
use Rattle.automata.proofs.accepting.has_initial.Given as goal

abbrev pub invariant-loop-state : goal.invariant-loop-state
invariant-loop-state l = (p : ℕ) → p < l.state → IsTrue (is_initial l.nfa p)
    → IsTrue (is_marked l.marks p) → ⊥
