use Rattle.std.proofs.Common.{◌≡◌, ◌∙◌, ◌++◌, ◌∷◌, [], ℕ, List, ap}
use Rattle.language_theory.specs.ShortlexGraph.{target}
use Rattle.cayley_tables.specs.CayleyGraphs.{CayleyGraphs}
use Rattle.star_free.proofs.Constructed.{images_more}
use Rattle.star_free.proofs.answer.images.Goals as goal

pub loop-letter-preserved : goal.loop-letter-preserved
loop-letter-preserved c =
    let m = c.args.monoid.now in
    let letter = c.loop-letter.letter in
    let is : c.right.result ≡ target m.graphs.right 0 letter =
    c.right.ensures.right ∙ ap (λ (x : CayleyGraphs). target x.right 0 letter) c.cayley-cayley.ensures.graphs in (
      c.loop-letter.invariant.0,
      c.in_ok-push.ensures.items
          ∙ ap (λ (xs : List ℕ). xs ++ c.right.result ∷ []) c.loop-letter.invariant.1
          ∙ images_more (target m.graphs.right 0) letter c.right.result is,
    )
