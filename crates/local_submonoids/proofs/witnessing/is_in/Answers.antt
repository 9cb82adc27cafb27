use Rattle.std.proofs.Common.{◌≡◌, ◌∙◌, ◌++◌, List, ℕ, ap, sym, subst}
use Rattle.language_theory.specs.Words.{Over}
use Rattle.language_theory.proofs.Shortlex.{over_append}
use Rattle.cayley_tables.specs.CayleyGraphs.{CayleyGraphs}
use Rattle.local_submonoids.proofs.witnessing.is_in.Goals as goal

pub find-requires : goal.find-requires
find-requires c =
    let k = c.args.monoid.now.graphs.right.letters in
    let u = c.args.context.now.u in
    let v = c.args.context.now.v in
    let w = c.args.word.now in
    let whole : c.in_ok-whole.whole ≡ u ++ (w ++ v) = c.in_ok-whole.ensures
    ∙ ap (λ (r : List ℕ). u ++ r) c.in_ok-inner.ensures in
    let over : Over k (u ++ (w ++ v)) = over_append k u (w ++ v) c.requires.before
    (over_append k w v c.requires.word c.requires.behind) in
    subst (λ (g : CayleyGraphs). Over g.right.letters c.in_ok-whole.whole)
    (sym c.cayley.ensures.graphs) (subst (Over k) (sym whole) over)
