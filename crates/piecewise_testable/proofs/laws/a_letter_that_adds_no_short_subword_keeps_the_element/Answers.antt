use Rattle.std.proofs.Common.{length}
use Rattle.piecewise_testable.proofs.KeptLetters.{letter_before, letter_behind}
use Rattle.piecewise_testable.proofs.laws.a_letter_that_adds_no_short_subword_keeps_the_element.Goals as goal

pub returns-clause-behind : goal.returns-clause-behind
returns-clause-behind g c k words chain q l j h =
    letter_behind k g.R.Relation.same q words l j (length chain) h.most

pub returns-clause-before : goal.returns-clause-before
returns-clause-before g c k words chain q l j h =
    letter_before k g.R.Relation.same q words l j (length chain) h.most
