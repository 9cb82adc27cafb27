use Rattle.std.proofs.Common.{◌∙◌, sym, ap, subst, ℕ}
use Rattle.std.specs.Prelude.{Option}
use Rattle.std.proofs.lemmas.Result.{err_from_is_err_and}
use Rattle.language_theory.specs.Automaton.{Automaton}
use Rattle.automata.specs.Nfa.{bare}
use Rattle.automaton_file.specs.declared.sources.Wrong.{Wrong}
use Rattle.automaton_file.specs.LineText.{parts}
use Rattle.automaton_file.specs.Reading.{automaton_of, IsReadFault, lines_from, steps_first_fault}
use Rattle.automaton_file.proofs.PartFaults.{marks_then_steps, marks_then_step_lines}
use Rattle.automaton_file.proofs.reading.read_nfa.Goals as goal

pub returns-in_err-read_steps-clause-err : goal.returns-in_err-read_steps-clause-err
returns-in_err-read_steps-clause-err c =
    let count = ap (λ (m : Automaton). m.states) c.in_ok-nfa.ensures.bare in
    let last = c.take_marks-2.ensures.states ∙ c.take_marks.ensures.states ∙ count in
    let steps = marks_then_steps c.args.alphabet.now c.args.count _ _ _ _ _ _ count
    (c.take_marks.ensures.states ∙ count) c.in_ok-next.ensures.ok c.in_ok-next-2.ensures.ok in
    let start = ap (λ (k : ℕ). steps_first_fault c.args.alphabet.now k c.in_ok-next-2.next.number
    (lines_from c.in_ok-next-2.next)) last ∙ sym steps in
    let p = err_from_is_err_and c.from_residual-in_err-read_steps.result
    c.from_residual-in_err-read_steps.ensures.1 in
    rw (p.1, p.2) (subst (λ (o : Option (ℕ × Wrong)). IsReadFault o c.in_err-read_steps.field-0.0)
    start c.in_err-read_steps.ensures.err)

pub returns-clause-ok : goal.returns-clause-ok
returns-clause-ok c =
    let count = ap (λ (m : Automaton). m.states) c.in_ok-nfa.ensures.bare in
    let last = c.take_marks-2.ensures.states ∙ c.take_marks.ensures.states ∙ count in
    let steps = marks_then_steps c.args.alphabet.now c.args.count _ _ _ _ _ _ count
    (c.take_marks.ensures.states ∙ count) c.in_ok-next.ensures.ok c.in_ok-next-2.ensures.ok in (
      steps ∙ sym (ap (λ (k : ℕ). steps_first_fault c.args.alphabet.now k c.in_ok-next-2.next.number
          (lines_from c.in_ok-next-2.next)) last) ∙ c.in_ok-read_steps.ensures.ok.0,
      c.in_ok-read_steps.ensures.ok.1
          ∙ sym (marks_then_step_lines c.args.alphabet.now _ _ _ _ _ _ c.in_ok-next.ensures.ok
          c.in_ok-next-2.ensures.ok)
          ∙ ap (λ (m : Automaton). automaton_of c.args.alphabet.now m
          (parts (lines_from c.args.cursor))) (c.in_ok-nfa.ensures.bare
          ∙ ap (bare c.args.count) c.len.ensures.len),
    )
