use Rattle.std.proofs.Common.{◌≡◌, subst, ℕ, rules}
use Rattle.refinement.specs.Splitting.{IsMoved, IsInverseOf, AreSources, AreMembers}
use Rattle.refinement.specs.SplittingState.{IsState}
use Rattle.refinement.proofs.ClosedSplits.{together_start, together_next}
use Rattle.refinement.proofs.splitting.Splitting.split_by_class.Goals as goal

pub loop-inverse-init : goal.loop-inverse-init
loop-inverse-init c =
    let g = c.args.graph.now in
    let e : c.size-2.result ≡ g.size = c.size-2.ensures.size in
    let m = subst (λ (n : ℕ). AreMembers n c.forget.new.self.class_of.items c.args.class
    c.in_ok-splitter.splitter.items) e c.in_ok-splitter.ensures.members in
    let state : IsState g.size c.forget.new.self = search rules in (
      state,
      together_start g c.in_ok-splitter.splitter.items c.args.self.now.class_of.items
          c.forget.new.self.class_of.items c.args.class c.in_ok-forget.ensures.same.classes m,
      m.within,
    )

pub loop-inverse-preserved : goal.loop-inverse-preserved
loop-inverse-preserved c =
    let g = c.args.graph.now in
    let i = c.loop-inverse.invariant in
    let splitter = c.in_ok-splitter.splitter.items in
    let state : IsState g.size c.split.new.self = search rules in
    let moved : IsMoved g.size c.in_ok-sources.sources.items c.loop-inverse.self.class_of.items
    c.split.new.self.class_of.items = search rules in
    let inverse : IsInverseOf g c.inverse-item.result = search rules in
    let sources : AreSources g c.inverse-item.result.letter c.in_ok-splitter.splitter.items
    c.in_ok-sources.sources.items = search rules in (
      state,
      together_next g c.inverse-item.result.letter splitter c.in_ok-sources.sources.items
          c.args.self.now.class_of.items c.loop-inverse.self.class_of.items
          c.split.new.self.class_of.items c.requires.graph inverse.letter i.1 sources moved,
      i.2,
    )
