use Rattle.std.proofs.Common.{sym, ◌∙◌, arith, ap, ℕ}
use Rattle.automaton_file.specs.LineText.{number_below}
use Rattle.automaton_file.proofs.Digits.{number_below_gives}
use Rattle.automaton_file.proofs.PartLines.{step_taken}
use Rattle.automaton_file.proofs.parts.read_step.Goals as goal

pub add_step-requires-clause-from : goal.add_step-requires-clause-from
add_step-requires-clause-from c =
    let below = number_below_gives _ _ _ (sym c.number_below.ensures ∙ c.in-Some-number_below.is) in
    omega (arith, below.0, c.states-states.ensures.states)

pub add_step-requires-clause-to : goal.add_step-requires-clause-to
add_step-requires-clause-to c =
    let below = number_below_gives _ _ _ (sym c.number_below-2.ensures
    ∙ c.in-Some-number_below-2.is) in
    omega (arith, below.0, c.states-states.ensures.states)

pub returns-clause-ok : goal.returns-clause-ok
returns-clause-ok c =
    step_taken c.args.alphabet.now c.args.nfa.now _ _ _ _ _ c.args.nfa.now.states _ _ _
    c.in-Some.ensures
    (ap (λ (k : ℕ). number_below k c.in-Some.from.now) (sym c.states-states.ensures.states)
    ∙ sym c.number_below.ensures ∙ c.in-Some-number_below.is)
    (sym c.read_letter.ensures ∙ c.in-Some-read_letter.is)
    (ap (λ (k : ℕ). number_below k c.in-Some.to.now) (sym c.states-states.ensures.states)
    ∙ sym c.number_below-2.ensures ∙ c.in-Some-number_below-2.is)
    c.in_ok-add_step.ensures.ok
