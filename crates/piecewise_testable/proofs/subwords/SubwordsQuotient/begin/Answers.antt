use Rattle.piecewise_testable.proofs.SeenRows.{begun_again, first_number_again}
use Rattle.piecewise_testable.proofs.subwords.SubwordsQuotient.begin.Goals as goal

pub returns-in-Ok-see-clause-sound : goal.returns-in-Ok-see-clause-sound
returns-in-Ok-see-clause-sound c =
    rw c.in-Ok-see.ensures.seen
    (begun_again c.restart.new.self c.args.letters c.args.level c.in-Some.width c.in-Ok.first
    c.restart.ensures c.in-Some.ensures c.in-Ok.ensures c.requires.some_letters
    c.requires.few_letters)

pub returns-in-Ok-see-clause-empty : goal.returns-in-Ok-see-clause-empty
returns-in-Ok-see-clause-empty c =
    rw (c.in-Ok-see.ensures.seen, c.in-Ok-see.ensures.number)
    (first_number_again c.restart.new.self c.args.letters c.args.level c.in-Some.width
    c.in-Ok.first c.restart.ensures c.in-Some.ensures c.in-Ok.ensures)
