use Rattle.std.proofs.Common.{◌∙◌, sym, subst, ℕ}
use Rattle.std.specs.Prelude.{Option}
use Rattle.std.proofs.lemmas.Result.{err_from_is_err_and}
use Rattle.automaton_file.specs.declared.sources.Wrong.{Wrong}
use Rattle.automaton_file.specs.Reading.{IsReadFault}
use Rattle.automaton_file.proofs.PartFaults.{head_faults, head_nothing}
use Rattle.automaton_file.proofs.reading.read_source.Goals as goal

pub returns-in_err-nfa-in-Nfa-clause-err : goal.returns-in_err-nfa-in-Nfa-clause-err
returns-in_err-nfa-in-Nfa-clause-err c =
    let start = sym (head_faults c.args.bytes.now c.in_ok-alphabet.field-0 _
    c.in_ok-alphabet.ensures.ok c.in-Nfa.is) in
    let p = err_from_is_err_and c.from_residual-in_err-nfa-in-Nfa.result
    c.from_residual-in_err-nfa-in-Nfa.ensures.1 in
    rw (p.1, p.2) (subst (λ (o : Option (ℕ × Wrong)). IsReadFault o c.in_err-nfa-in-Nfa.field-0.0)
    start c.in_err-nfa-in-Nfa.ensures.err)

pub returns-in_ok-nfa-in-Nfa-clause-spelled : goal.returns-in_ok-nfa-in-Nfa-clause-spelled
returns-in_ok-nfa-in-Nfa-clause-spelled c =
    head_faults c.args.bytes.now c.in_ok-alphabet.field-0 _ c.in_ok-alphabet.ensures.ok c.in-Nfa.is
    ∙ c.in_ok-nfa-in-Nfa.ensures.ok.0

pub returns-in_err-read_nothing-in-Expr-clause-err :
    goal.returns-in_err-read_nothing-in-Expr-clause-err
returns-in_err-read_nothing-in-Expr-clause-err c =
    let p = err_from_is_err_and c.from_residual-in_err-read_nothing-in-Expr.result
    c.from_residual-in_err-read_nothing-in-Expr.ensures.1 in
    rw (p.1, p.2) (head_nothing c.args.bytes.now c.in_ok-alphabet.field-0 _
    c.in_ok-alphabet.ensures.ok c.in-Expr.is ∙ c.in_err-read_nothing-in-Expr.ensures.err)

pub returns-in_ok-read_nothing-in-Expr-clause-spelled :
    goal.returns-in_ok-read_nothing-in-Expr-clause-spelled
returns-in_ok-read_nothing-in-Expr-clause-spelled c =
    head_nothing c.args.bytes.now c.in_ok-alphabet.field-0 _ c.in_ok-alphabet.ensures.ok
    c.in-Expr.is ∙ c.in_ok-read_nothing-in-Expr.ensures.ok
