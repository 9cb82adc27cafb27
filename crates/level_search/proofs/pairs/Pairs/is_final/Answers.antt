use Rattle.std.proofs.Common.{ℕ, ◌<◌, sym, subst}
use Rattle.level_search.specs.Pairs.{Pairs}
use Rattle.level_search.proofs.Pairing.{pair_within}
use Rattle.level_search.proofs.pairs.Pairs.is_final.Goals as goal

pub is_final-requires : goal.is_final-requires
is_final-requires c =
    let within = pair_within c.args.self.now c.args.number c.requires.sound c.requires.number in
    let there : c.pair-state.result.0 < c.args.self.now.dfa.graph.size =
    subst (λ (s : ℕ × ℕ). s.0 < c.args.self.now.dfa.graph.size) (sym c.pair-state.ensures)
    within.0 in
    subst (λ (p : Pairs). c.pair-state.result.0 < p.dfa.graph.size) (sym c.self.view_is) there
