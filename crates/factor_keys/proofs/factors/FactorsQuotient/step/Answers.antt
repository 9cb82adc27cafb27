use Rattle.std.proofs.Common.{sym, ◌∙◌}
use Rattle.factor_keys.proofs.Numbering.{seen_keys, seen_keeps, seen_next, seen_counts, next_reached}
use Rattle.factor_keys.proofs.factors.FactorsQuotient.step.Goals as goal

pub returns-in_err-number-clause-kept : goal.returns-in_err-number-clause-kept
returns-in_err-number-clause-kept c =
    rw c.in_err-number.ensures.err (record { kept = λ w n o e. e })

pub returns-clause-sound : goal.returns-clause-sound
returns-clause-sound c =
    let r = next_reached c.args.self.now c.args.state c.args.letter c.requires.sound
    c.requires.state c.requires.letter in
    rw c.in_ok-number.ensures.seen
    (seen_keys c.args.self.now r.0 c.in_ok-next.next r.1 (r.2 ∙ sym c.in_ok-next.ensures)
    c.requires.sound)

pub returns-clause-kept : goal.returns-clause-kept
returns-clause-kept c = rw c.in_ok-number.ensures.seen
    (seen_keeps c.args.self.now c.in_ok-next.next)

pub returns-clause-next : goal.returns-clause-next
returns-clause-next c = rw (c.in_ok-number.ensures.seen, c.in_ok-number.ensures.number)
    (seen_next c.args.self.now c.args.state c.args.letter c.in_ok-next.next c.in_ok-next.ensures)

pub returns-clause-counted : goal.returns-clause-counted
returns-clause-counted c = rw (c.in_ok-number.ensures.seen, c.in_ok-number.ensures.number)
    (seen_counts c.args.self.now c.in_ok-next.next)
