use Rattle.std.proofs.Common.{arith}
use Rattle.piecewise_testable.proofs.ToldApart.{no_level}
use Rattle.piecewise_testable.proofs.Answering.{no_level_suffices}
use Rattle.piecewise_testable.proofs.laws.yes_is_the_least_level_that_suffices.Goals as goal

pub returns-clause-yes : goal.returns-clause-yes
returns-clause-yes g c k most last n h = h.1.2

pub returns-clause-least : goal.returns-clause-least
returns-clause-least g c k most last n m h l = (h.1.0.before m (omega arith) l).fails

pub returns-clause-none : goal.returns-clause-none
returns-clause-none g c k most last n m h l =
    no_level_suffices k g.L.Language.has most last n h m l

pub returns-clause-no : goal.returns-clause-no
returns-clause-no g c k most last m w h = no_level k g.L.Language.has w h.witness m
