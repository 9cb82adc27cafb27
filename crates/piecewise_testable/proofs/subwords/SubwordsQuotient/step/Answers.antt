use Rattle.piecewise_testable.proofs.SeenRows.{keys_seen, keys_keep, keys_next, keys_counted}
use Rattle.piecewise_testable.proofs.subwords.SubwordsQuotient.step.Goals as goal

pub returns-in_err-number-clause-kept : goal.returns-in_err-number-clause-kept
returns-in_err-number-clause-kept c =
    rw c.in_err-number.ensures.err (record { kept = λ w n o e. e })

pub returns-clause-sound : goal.returns-clause-sound
returns-clause-sound c = rw c.in_ok-number.ensures.seen
    (keys_seen c.args.self.now c.args.state c.args.letter c.in_ok-next.next c.requires.sound
    c.requires.state c.requires.letter c.in_ok-next.ensures)

pub returns-clause-kept : goal.returns-clause-kept
returns-clause-kept c =
    rw c.in_ok-number.ensures.seen (keys_keep c.args.self.now c.in_ok-next.next)

pub returns-clause-next : goal.returns-clause-next
returns-clause-next c = rw (c.in_ok-number.ensures.seen, c.in_ok-number.ensures.number)
    (keys_next c.args.self.now c.args.state c.args.letter c.in_ok-next.next c.in_ok-next.ensures)

pub returns-clause-counted : goal.returns-clause-counted
returns-clause-counted c = rw (c.in_ok-number.ensures.seen, c.in_ok-number.ensures.number)
    (keys_counted c.args.self.now c.in_ok-next.next)
