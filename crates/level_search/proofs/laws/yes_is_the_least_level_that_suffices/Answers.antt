use Rattle.level_search.proofs.Answering.{none_suffices}
use Rattle.level_search.proofs.laws.yes_is_the_least_level_that_suffices.Goals as goal

pub returns-clause-yes : goal.returns-clause-yes
returns-clause-yes g c k most first last n h = h.2

pub returns-clause-least : goal.returns-clause-least
returns-clause-least g c k most first last n h m l b = (h.0.before m l b).fails

pub returns-clause-none : goal.returns-clause-none
returns-clause-none g c k most first last n =
    none_suffices k g.L.Language.has (g.Q.Quotient.width k) (g.Q.Quotient.same k) most first last n
