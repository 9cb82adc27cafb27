use Rattle.std.proofs.Common.{rules, ◌≡◌, ℕ, length, arith, subst}
use Rattle.green_relations.specs.Pairs.{ArePairMates}
use Rattle.green_relations.proofs.Noting.{noted_none, noted_next, noted_all}
use Rattle.green_relations.proofs.pairs.pair_mates.Goals as goal

pub loop-place-init : goal.loop-place-init
loop-place-init c = (
  search rules,
  noted_none c.args.first.now c.args.second.now 0 _ _ c.new-seen.ensures.empty
      c.in_ok-labels.ensures.items,
)

pub loop-place-preserved : goal.loop-place-preserved
loop-place-preserved c =
    let i = c.loop-place.invariant in (
      i.0,
      noted_next c.args.first.now c.args.second.now c.loop-place.place _ _ _ _ _ i.1
          c.in_ok-label.ensures c.in_ok-push.ensures.items,
    )

pub returns : goal.returns
returns c =
    let i = c.loop-place.invariant in
    let all : c.loop-place.place ≡ length c.args.first.now = omega (arith, i.0, i.1.long) in
    subst (λ (n : ℕ). ArePairMates c.args.first.now c.args.second.now n c.loop-place.labels.items)
    all (noted_all c.args.first.now c.args.second.now c.loop-place.place _ _ i.1)
