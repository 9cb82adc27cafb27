use Rattle.std.proofs.Common.{sym, ◌∙◌, arith, ap, ℕ}
use Rattle.automaton_file.specs.LineText.{number_below}
use Rattle.language_theory.specs.Automaton.{Automaton}
use Rattle.automaton_file.proofs.Digits.{number_below_gives}
use Rattle.automaton_file.proofs.PartLines.{marks_next, states_next, marking_keeps_states, marking_keeps_letters}
use Rattle.automaton_file.specs.Reading.{mark_state}
use Rattle.automaton_file.proofs.parts.mark_states.Goals as goal

pub mark_state-requires : goal.mark_state-requires
mark_state-requires c =
    let below = number_below_gives _ _ _ (sym c.number_below.ensures ∙ c.in-Some-number_below.is) in
    omega (arith, below.0, c.states-states.ensures.states, c.fields.invariant.states)

pub fields-preserved : goal.fields-preserved
fields-preserved c =
    let found = sym c.number_below.ensures ∙ c.in-Some-number_below.is in
    record {
      marks = marks_next (mark_state c.args.mark) c.fields.nfa c.mark_state.new.nfa _ _ _ _ _
          c.in-Some.ensures.cut found c.mark_state.ensures ∙ c.fields.invariant.marks;
      numbers = states_next _ _ _ _ _ c.in-Some.ensures.cut
          (ap (λ (k : ℕ). number_below k c.in-Some.field.bytes.now)
          (sym c.states-states.ensures.states) ∙ found) ∙ c.fields.invariant.numbers;
      states = ap (λ (m : Automaton). m.states) c.mark_state.ensures
          ∙ marking_keeps_states c.args.mark c.fields.nfa _ ∙ c.fields.invariant.states;
      letters = ap (λ (m : Automaton). m.letters) c.mark_state.ensures
          ∙ marking_keeps_letters c.args.mark c.fields.nfa _ ∙ c.fields.invariant.letters;
    }
