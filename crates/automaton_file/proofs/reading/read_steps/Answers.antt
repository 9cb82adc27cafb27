use Rattle.std.proofs.Common.{◌∙◌, sym, ap, subst, ℕ}
use Rattle.std.specs.Prelude.{Option}
use Rattle.std.proofs.lemmas.Result.{err_from_is_err_and}
use Rattle.automaton_file.specs.declared.sources.Wrong.{Wrong}
use Rattle.automaton_file.specs.LineText.{fields}
use Rattle.automaton_file.specs.FileText.{step_fault}
use Rattle.automaton_file.specs.Reading.{with_step_lines, IsAhead, IsReadFault, lines_from, steps_first_fault}
use Rattle.automaton_file.proofs.PartFaults.{step_faulty, step_behind, step_lines_behind, parts_at_end, steps_at_end}
use Rattle.automaton_file.proofs.reading.read_steps.Goals as goal

pub returns-in_err-take_step-clause-err : goal.returns-in_err-take_step-clause-err
returns-in_err-take_step-clause-err c =
    let part = subst (IsAhead c.lines.ahead) c.in-Part.is c.in_ok-part.ensures.ok in
    let start = ap (λ (k : ℕ). steps_first_fault c.args.alphabet.now k c.lines.ahead.number
    (lines_from c.lines.ahead)) c.lines.invariant.states ∙ c.lines.invariant.faults in
    let p = err_from_is_err_and c.from_residual-in_err-take_step.result
    c.from_residual-in_err-take_step.ensures.1 in
    rw (p.1, p.2) (subst (λ (o : Option (ℕ × Wrong)). IsReadFault o c.in_err-take_step.field-0.0)
    start (step_faulty _ _ _ _ _ part c.in_err-take_step.ensures.err))

pub lines-preserved : goal.lines-preserved
lines-preserved c =
    let part = subst (IsAhead c.lines.ahead) c.in-Part.is c.in_ok-part.ensures.ok in
    let none = ap (λ (k : ℕ). step_fault c.args.alphabet.now k (fields c.in-Part.part.text.now))
    (sym c.lines.invariant.states) ∙ c.in_ok-take_step.ensures.ok.0 in
    record {
      faults = step_behind c.args.alphabet.now c.args.nfa.now.states _ _ part none
          ∙ c.lines.invariant.faults;
      steps = step_lines_behind c.args.alphabet.now c.lines.nfa c.take_step.new.nfa _ _ part
          c.in_ok-take_step.ensures.ok.1 ∙ c.lines.invariant.steps;
      states = c.take_step.ensures.states ∙ c.lines.invariant.states;
      letters = c.take_step.ensures.same_letters ∙ c.lines.invariant.letters;
    }

pub returns-clause-ok : goal.returns-clause-ok
returns-clause-ok c =
    let end = subst (IsAhead c.lines.ahead) c.in_default.is c.in_ok-part.ensures.ok in (
      sym c.lines.invariant.faults ∙ steps_at_end _ _ c.lines.ahead _ end,
      sym (ap (with_step_lines c.args.alphabet.now c.lines.nfa) (parts_at_end c.lines.ahead _ end))
          ∙ c.lines.invariant.steps,
    )
