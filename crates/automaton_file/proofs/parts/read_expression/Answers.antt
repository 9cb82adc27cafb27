use Rattle.std.proofs.lemmas.Result.{err_from_is_err_and}
use Rattle.automaton_file.proofs.Expressions.{accepted_test, fault_raised}
use Rattle.automaton_file.proofs.parts.read_expression.Goals as goal

pub returns-clause-accepted : goal.returns-clause-accepted
returns-clause-accepted c = accepted_test _ c.in_ok-expr.ensures.accepted

pub returns-in_err-expr-clause-err : goal.returns-in_err-expr-clause-err
returns-in_err-expr-clause-err c =
    let p = err_from_is_err_and c.from_residual.result c.from_residual.ensures.1 in
    rw p.1 (fault_raised _ _ _ c.in_err-expr.ensures.fault p.2)
