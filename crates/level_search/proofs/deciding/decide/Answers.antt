use Rattle.std.proofs.Common.{ℕ, ◌≡◌, subst}
use Rattle.std.proofs.lemmas.Result.{err_from_is_err_and}
use Rattle.language_theory.specs.ShortlexGraph.{IsGraphOf}
use Rattle.language_theory.proofs.Congruences.{both_directions}
use Rattle.exploration.specs.declared.exploring.ExploreFault.TheVariants as explore
use Rattle.level_search.specs.Levels.{IsWide}
use Rattle.level_search.specs.declared.deciding.Stop.TheVariants as stop
use Rattle.level_search.proofs.Decisions.{many_stop, many_pairs, few_pairs, explored_suffices}
use Rattle.level_search.proofs.deciding.decide.Goals as goal

pub returns-in_err-explore-clause-many : goal.returns-in_err-explore-clause-many
returns-in_err-explore-clause-many g c why =
    let k = c.letters.ensures.letters in
    let n = c.args.level in
    let keys = c.in_ok-keys.ensures in
    let graph =
    subst (λ (m : ℕ). IsGraphOf m (g.Q.Quotient.same m n) c.in_ok-keys.keys keys.graph.0) k
    keys.graph.1 in
    let p = err_from_is_err_and c.from_residual-in_err-explore.result
    c.from_residual-in_err-explore.ensures.1 in
    let pairs : p.0 ≡ stop.Pairs = cc (p.1, why) in
    let limit : c.in_err-explore.field-0.0 ≡ explore.Limit =
    many_stop c.in_err-explore.field-0.0 p.0 p.2 pairs in
    let many = c.in_err-explore.ensures.many (cc limit) in
    record {
      narrow = subst (λ (m : ℕ). ¬ IsWide (g.Q.Quotient.width m n)) k keys.narrow;
      many = many_pairs c.args.dfa.now (g.Q.Quotient.same c.args.dfa.now.graph.letters n)
          c.in_ok-keys.keys keys.graph.0 c.args.max_pairs c.new-pairs.result
          c.new-pairs.ensures.pairs c.len-states.ensures.minimal.minimal graph many;
    }

pub returns-clause-small : goal.returns-clause-small
returns-clause-small g c =
    let k = c.letters.ensures.letters in
    let n = c.args.level in
    let keys = c.in_ok-keys.ensures in
    let graph =
    subst (λ (m : ℕ). IsGraphOf m (g.Q.Quotient.same m n) c.in_ok-keys.keys keys.graph.0) k
    keys.graph.1 in
    record {
      narrow = subst (λ (m : ℕ). ¬ IsWide (g.Q.Quotient.width m n)) k keys.narrow;
      few = few_pairs c.args.dfa.now (g.Q.Quotient.same c.args.dfa.now.graph.letters n)
          c.in_ok-keys.keys keys.graph.0 c.args.max_pairs c.new-pairs.result
          c.new-pairs.ensures.pairs c.len-states.ensures.minimal.minimal graph
          c.in_ok-explore.ensures.few;
    }

pub returns-clause-suffices : goal.returns-clause-suffices
returns-clause-suffices g c =
    let k = c.letters.ensures.letters in
    let n = c.args.level in
    let keys = c.in_ok-keys.ensures in
    let graph =
    subst (λ (m : ℕ). IsGraphOf m (g.Q.Quotient.same m n) c.in_ok-keys.keys keys.graph.0) k
    keys.graph.1 in
    let found = c.in_ok-explore.ensures in
    both_directions c.in_ok-suffices.ensures
    (explored_suffices c.args.dfa.now (g.Q.Quotient.same c.args.dfa.now.graph.letters n)
    c.in_ok-keys.keys keys.graph.0 c.args.max_pairs c.new-pairs.result c.new-pairs.ensures.pairs
    c.len-states.ensures.minimal.minimal graph c.explore.new.states c.in_ok-explore.field-0
    found.later found.sound found.numbers)
