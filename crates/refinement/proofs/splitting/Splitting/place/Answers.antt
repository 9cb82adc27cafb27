use Rattle.std.proofs.Common.{◌∙◌, ◌<◌, ap, sym, refl, arith, ℕ, length, slice_index}
use Rattle.std.proofs.lemmas.Grind.{get_or_default_zero}
use Rattle.refinement.proofs.ClosedSplits.{moved_next}
use Rattle.refinement.proofs.splitting.Splitting.place.Goals as goal

pub loop-at-preserved : goal.loop-at-preserved
loop-at-preserved c =
    let i = c.loop-at.invariant in
    let n = c.loop-at.at in
    let nodes = c.args.nodes.now in
    let l : n < length nodes = c.loop-at-test.true in
    let long : n < length c.args.goals.now = omega (arith, i.3.long, l) in
    let goals = c.args.self.now.goals.items in
    let old = c.args.self.now.class_of.items in (
      c.in_ok-put.ensures.state,
      refl,
      c.in_ok-put.ensures.same ∙ i.2,
      i.3,
      i.4,
      moved_next c.args.size goals nodes old c.loop-at.self.class_of.items
          c.put.new.self.class_of.items n _ _ i.5 l (get_or_default_zero nodes n _ l)
          (get_or_default_zero c.args.goals.now n _ long ∙ i.3.each n l
          ∙ ap (λ (k : ℕ). slice_index goals (slice_index old k))
          (sym (get_or_default_zero nodes n _ l))) c.in_ok-put.ensures.here
          c.in_ok-put.ensures.others,
    )
