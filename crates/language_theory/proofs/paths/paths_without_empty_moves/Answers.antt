use Rattle.language_theory.proofs.Automata.{path_by_none, path_by_steps, accepts_none, accepts_letter}
use Rattle.language_theory.proofs.paths.paths_without_empty_moves.Goals as goal

pub returns-clause-no_letter : goal.returns-clause-no_letter
returns-clause-no_letter c = path_by_none

pub returns-clause-letters : goal.returns-clause-letters
returns-clause-letters c = path_by_steps

pub returns-clause-empty_word : goal.returns-clause-empty_word
returns-clause-empty_word c = accepts_none

pub returns-clause-word : goal.returns-clause-word
returns-clause-word c = accepts_letter
