use Rattle.language_theory.proofs.Minimal.{minimal_of_accepted}
use Rattle.language_theory.proofs.minimal_automata.minimal_automata_accept_their_languages.Goals as goal

pub returns-clause-words : goal.returns-clause-words
returns-clause-words g c k d h = record { both = λ w o. h.final w o }

pub returns-clause-minimal : goal.returns-clause-minimal
returns-clause-minimal g c k = minimal_of_accepted k g.L.Language.has
