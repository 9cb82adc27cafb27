use Rattle.std.proofs.Common.{◌≡◌, ◌<◌, ◌∙◌, ◌-◌, refl, arith, sym, subst, ℕ, slice_index}
use Rattle.std.proofs.lemmas.Grind.{get_or_default_zero}
use Rattle.std.proofs.lemmas.List.Elements.{All-push, All-same}
use Rattle.refinement.proofs.Chains.{IsChain, chain_start, chain_next, chain_end}
use Rattle.refinement.proofs.inverse.Inverse.push_sources.Goals as goal

pub loop-rest-init : goal.loop-rest-init
loop-rest-init c =
    let r = c.requires.inverse.inverse in
    let heads = c.args.self.now.heads.items in
    let e : c.index-rest.result.now ≡ slice_index heads c.args.node = c.index-rest.ensures
    ∙ get_or_default_zero heads c.args.node _ (omega (arith, r.heads_long, c.requires.node)) in
    let start = chain_start c.args.graph.now c.args.self.now.letter c.args.node heads
    c.args.self.now.nexts.items c.args.into.now.items r c.requires.node in (
      c.requires.inverse,
      refl,
      c.requires.within,
      subst (λ (n : ℕ). IsChain c.args.graph.now c.args.self.now.letter c.args.node n
          c.args.into.now.items c.args.into.now.items) (sym e) start,
    )

pub loop-rest-preserved : goal.loop-rest-preserved
loop-rest-preserved c =
    let i = c.loop-rest.invariant in
    let r = i.0.inverse in
    let rest = c.loop-rest.rest in
    let nexts = c.args.self.now.nexts.items in
    let within : rest - 1 < c.args.graph.now.size =
    omega (arith, i.3.most, c.loop-rest-test.true) in
    let e : c.index-rest-in-loop-rest.result.now ≡ slice_index nexts (rest - 1) =
    c.index-rest-in-loop-rest.ensures
    ∙ get_or_default_zero nexts (rest - 1) _ (omega (arith, r.nexts_long, within)) in (
      i.0,
      i.1,
      All-same (λ n. n < c.args.graph.now.size) _ _ c.in_ok-push.ensures.items
          (All-push (λ n. n < c.args.graph.now.size) c.loop-rest.into.items (rest - 1) i.2 within),
      chain_next c.args.graph.now c.args.self.now.letter c.args.node rest _
          c.args.self.now.heads.items nexts _ _ _ r i.3 c.loop-rest-test.true e
          c.in_ok-push.ensures.items,
    )

pub returns-clause-adds : goal.returns-clause-adds
returns-clause-adds c =
    let i = c.loop-rest.invariant in
    let e : c.loop-rest.rest ≡ 0 = omega (arith, c.loop-rest-test.false) in
    chain_end c.args.graph.now c.args.self.now.letter c.args.node _ _
    (subst (λ (n : ℕ). IsChain c.args.graph.now c.args.self.now.letter c.args.node n
    c.args.into.now.items c.loop-rest.into.items) e i.3)
