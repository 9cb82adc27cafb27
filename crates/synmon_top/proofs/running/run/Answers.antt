use Rattle.std.proofs.Common.{sym, subst}
use Rattle.synmon_top.specs.Causes.{IsAnswered, IsOrNoMemory}
use Rattle.synmon_top.proofs.Statuses.{verdict_told, lacking_told}
use Rattle.synmon_top.proofs.Truths.{headline}
use Rattle.synmon_top.proofs.running.run.Goals as goal

pub returns-clause-decided : goal.returns-clause-decided
returns-clause-decided g c = λ verdict text known due calm steady.
    subst (λ n. IsAnswered verdict text n (g.O.Sink.written c.args.out.now)
    (g.O.Sink.written c.answer-ending.new.out)) (sym c.status.ensures)
    (verdict_told _ _ verdict text c.answer-ending.result _ _ _ _ c.answer-ending.ensures.ends
    c.answer-ending.ensures.cannot_read c.answer-ending.ensures.cannot_write known due calm steady)

pub returns-clause-lacking : goal.returns-clause-lacking
returns-clause-lacking g c = λ lacking.
    subst (IsOrNoMemory 3) (sym c.status.ensures)
    (lacking_told _ _ c.answer-ending.result _ _ c.answer-ending.ensures.ends lacking)

pub returns-clause-headline : goal.returns-clause-headline
returns-clause-headline g c =
    headline _ _ c.answer-ending.result _ _ _ c.status.ensures c.answer-ending.ensures.ends
