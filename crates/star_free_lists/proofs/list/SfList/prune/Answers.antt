use Rattle.std.proofs.Common.{ℕ, List, subst}
use Rattle.star_free_theory.specs.declared.nodes.SfNode.{SfNode}
use Rattle.star_free_theory.specs.Pruning.{IsPruning}
use Rattle.star_free_theory.proofs.Pruning.{pruned_denotes}
use Rattle.star_free_lists.proofs.OnePruning.{pruned_distinct}
use Rattle.star_free_lists.proofs.PrunedLetters.{letters_pruned}
use Rattle.star_free_lists.proofs.list.SfList.prune.Goals as goal

pub returns : goal.returns
returns c =
    let xs = c.args.self.now.nodes in
    let root = c.args.self.now.root in
    let ys = c.in_ok-list.list.nodes in
    let place = c.in_ok-list.list.root in
    let kept = c.in_ok-list.ensures.0 in
    let s = c.nodes.ensures.list.list in
    let h : IsPruning xs root kept ys place =
    subst (λ (n : ℕ). IsPruning xs n kept ys place) c.root-2.ensures.root
    (subst (λ (zs : List SfNode). IsPruning zs c.root-2.result kept ys place)
    c.nodes-2.ensures.nodes c.in_ok-list.ensures.1) in
    record {
      pruning = (kept, h);
      words = λ k w. pruned_denotes xs root kept ys place s h k w;
      distinct = pruned_distinct xs root kept ys place s h;
      letters = λ k below. letters_pruned k xs root kept ys place below h;
    }
