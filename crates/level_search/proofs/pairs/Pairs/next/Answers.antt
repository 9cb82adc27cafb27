use Rattle.std.proofs.Common.{ℕ, ◌<◌, sym, subst}
use Rattle.level_search.specs.Pairs.{Pairs}
use Rattle.level_search.proofs.Pairing.{pair_within}
use Rattle.level_search.proofs.pairs.Pairs.next.Goals as goal

pub step-requires-clause-state : goal.step-requires-clause-state
step-requires-clause-state c =
    let within = pair_within c.args.self.now c.args.number c.requires.sound c.requires.number in
    let there : c.pair-state.result.0 < c.args.self.now.dfa.graph.size =
    subst (λ (s : ℕ × ℕ). s.0 < c.args.self.now.dfa.graph.size) (sym c.pair-state.ensures)
    within.0 in
    subst (λ (p : Pairs). c.pair-state.result.0 < p.dfa.graph.size) (sym c.self.view_is) there

pub step-requires-2-clause-node : goal.step-requires-2-clause-node
step-requires-2-clause-node c =
    let within = pair_within c.args.self.now c.args.number c.requires.sound c.requires.number in
    let there : c.pair-state.result.1 < c.args.self.now.keys.size =
    subst (λ (s : ℕ × ℕ). s.1 < c.args.self.now.keys.size) (sym c.pair-state.ensures)
    within.1 in
    subst (λ (p : Pairs). c.pair-state.result.1 < p.keys.size) (sym c.self.view_is) there
