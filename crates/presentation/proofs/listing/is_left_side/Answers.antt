use Rattle.std.proofs.Common.{◌≡◌, ℕ, ◌++◌, ◌∷◌, [], refl, sym, subst}
use Rattle.language_theory.specs.Words.{word_at}
use Rattle.language_theory.specs.ShortlexGraph.{target}
use Rattle.presentation.proofs.LeftSides.{reduced_is_no_left_side, letter_is_left_side, left_side_by_suffix}
use Rattle.presentation.proofs.listing.is_left_side.Goals as goal

pub returns-then-is_reduced_product : goal.returns-then-is_reduced_product
returns-then-is_reduced_product c =
    let v = c.args.cayley.now in
    let i = c.args.element in
    let a = c.args.letter in
    let same : word_at v.words (target v.right i a) ≡ word_at v.words i ++ a ∷ [] =
    subst (λ (r : ℕ). word_at v.words r ≡ word_at v.words i ++ a ∷ []) c.right.ensures.right
    (c.is_reduced_product.ensures.0 c.if-is_reduced_product.true) in (
      λ f. cc,
      λ r. absurd
          (reduced_is_no_left_side v c.requires.graphs i a c.requires.element c.requires.letter
          same r),
    )

pub returns-then-element-eq0 : goal.returns-then-element-eq0
returns-then-element-eq0 c =
    let v = c.args.cayley.now in
    let i = c.args.element in
    let a = c.args.letter in
    let other : ¬ (word_at v.words (target v.right i a) ≡ word_at v.words i ++ a ∷ []) =
    λ e. let yes = c.is_reduced_product.ensures.1
    (subst (λ (r : ℕ). word_at v.words r ≡ word_at v.words i ++ a ∷ [])
    (sym c.right.ensures.right) e) in let no = c.if-is_reduced_product.false in cc in (
      λ t. letter_is_left_side v c.requires.graphs i a c.if-element-eq0.true c.requires.element
          c.requires.letter other,
      λ r. refl,
    )

pub returns : goal.returns
returns c =
    let v = c.args.cayley.now in
    let i = c.args.element in
    let a = c.args.letter in
    let s = c.suffix-suffix.result in
    let link = c.suffix-suffix.ensures.link in
    let other : ¬ (word_at v.words (target v.right i a) ≡ word_at v.words i ++ a ∷ []) =
    λ e. let yes = c.is_reduced_product.ensures.1
    (subst (λ (r : ℕ). word_at v.words r ≡ word_at v.words i ++ a ∷ [])
    (sym c.right.ensures.right) e) in let no = c.if-is_reduced_product.false in cc in
    let both = left_side_by_suffix v c.requires.graphs i a link.0 s c.requires.letter link.1
    other in (
      λ t. both.0
          (subst (λ (r : ℕ). word_at v.words r ≡ word_at v.words s ++ a ∷ [])
          c.right-2.ensures.right (c.is_reduced_product-2.ensures.0 t)),
      λ r. c.is_reduced_product-2.ensures.1
          (subst (λ (r : ℕ). word_at v.words r ≡ word_at v.words s ++ a ∷ [])
          (sym c.right-2.ensures.right) (both.1 r)),
    )
