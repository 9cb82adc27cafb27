use Rattle.language_theory.specs.Nerode.{Nerode}
use Rattle.language_theory.specs.ShortlexGraph.{SameNode}
use Rattle.language_theory.proofs.Congruences.{agree_turned}
use Rattle.language_theory.proofs.Minimal.{syntactic_by_walks}
use Rattle.language_theory.proofs.minimal_automata.minimal_nodes_tell_words_apart.Goals as goal

pub returns-clause-nerode : goal.returns-clause-nerode
returns-clause-nerode g c k d h =
    agree_turned k (SameNode d.graph) (Nerode k g.L.Language.has) h.classes.nodes

pub returns-clause-syntactic : goal.returns-clause-syntactic
returns-clause-syntactic g c k = syntactic_by_walks k g.L.Language.has
