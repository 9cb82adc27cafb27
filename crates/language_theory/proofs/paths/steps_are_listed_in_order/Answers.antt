use Rattle.language_theory.proofs.StepLists.{listed_where, listed_moves, in_order_alike}
use Rattle.language_theory.proofs.paths.steps_are_listed_in_order.Goals as goal

pub returns-clause-listed : goal.returns-clause-listed
returns-clause-listed c = listed_where

pub returns-clause-alike : goal.returns-clause-alike
returns-clause-alike c = in_order_alike

pub returns-clause-moves : goal.returns-clause-moves
returns-clause-moves c = listed_moves
