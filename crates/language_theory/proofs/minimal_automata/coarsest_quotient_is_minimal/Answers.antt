use Rattle.language_theory.proofs.Minimal.{quotient_minimal}
use Rattle.language_theory.proofs.minimal_automata.coarsest_quotient_is_minimal.Goals as goal

pub returns : goal.returns
returns g c k graph q words first marks finals count classes s letters m =
    quotient_minimal k g.L.Language.has graph words marks s letters m count classes q first finals
