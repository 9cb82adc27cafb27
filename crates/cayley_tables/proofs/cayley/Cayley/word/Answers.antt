use Rattle.std.proofs.Common.{arith}
use Rattle.cayley_tables.proofs.LookUps.{whole_word, whole_word_over}
use Rattle.cayley_tables.proofs.cayley.Cayley.word.Goals as goal

pub returns-clause-word : goal.returns-clause-word
returns-clause-word c =
    let l = c.loop-rest in
    whole_word c.args.self.now c.len-len.ensures.graphs l.word l.rest c.args.i
    (omega (arith, c.loop-rest-test.false)) l.invariant.1

pub returns-clause-over : goal.returns-clause-over
returns-clause-over c =
    let l = c.loop-rest in
    whole_word_over c.args.self.now c.len-len.ensures.graphs l.word l.rest c.args.i c.requires
    (omega (arith, c.loop-rest-test.false)) l.invariant.1
