use Rattle.std.proofs.Common.{◌≡◌, ◌<◌, sym, subst, arith, ℕ, slice_index}
use Rattle.refinement.specs.Splitting.{IsMoved}
use Rattle.refinement.specs.SplittingState.{IsState}
use Rattle.refinement.proofs.ClosedSplits.{one_respects, moved_respects}
use Rattle.refinement.proofs.splitting.split_all.Goals as goal

pub loop-round-init : goal.loop-round-init
loop-round-init c =
    let g = c.args.graph.now in
    let marks = c.args.marks.now in
    let marked = c.in_ok-marked.marked.items in
    let old = c.in_ok-splitting.splitting.class_of.items in
    let new = c.split.new.self.class_of.items in
    let size : c.size-size.result ≡ g.size = c.size-size.ensures.size in
    let state : IsState g.size c.split.new.self =
    subst (λ (n : ℕ). IsState n c.split.new.self) size c.in_ok-split.ensures.state in
    let moved : IsMoved g.size marked old new =
    rw (sym size, sym c.as_slice.ensures.value) c.in_ok-split.ensures.moved in
    let zeros : (i : ℕ) → i < g.size
    → slice_index old i ≡ 0 = λ i hi. c.in_ok-splitting.ensures.one i (omega (arith, size)) in (
      c.size-size.ensures.graph,
      state,
      c.in_ok-inverses.ensures,
      moved_respects g marks marked old new (one_respects g marks old zeros)
          c.in_ok-marked.ensures.closed moved,
    )
