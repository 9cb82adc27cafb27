use Rattle.std.proofs.Common.{ℕ, false, replicate, ap, ◌∙◌, sym, subst, arith}
use Rattle.automata.specs.StepsBack.{AreBefore}
use Rattle.automata.proofs.StepsBack.{nothing_before}
use Rattle.automata.proofs.accepting.step_back.Goals as goal

pub returns-then-letter-letters : goal.returns-then-letter-letters
returns-then-letter-letters c =
    subst (AreBefore c.args.nfa.now c.args.letter c.args.marks.now)
    (sym (c.in_ok-before.ensures ∙ ap (λ (n : ℕ). replicate n false) c.requires))
    (nothing_before c.args.nfa.now c.args.letter c.args.marks.now c.letters.ensures.sized.automaton
    (omega (arith, c.if-letter-letters.true, c.letters.ensures.letters)))
