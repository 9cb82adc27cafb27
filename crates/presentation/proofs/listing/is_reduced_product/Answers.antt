use Rattle.presentation.proofs.LeftSides.{empty_is_no_product}
use Rattle.presentation.proofs.listing.is_reduced_product.Goals as goal

pub returns-then-product-eq0 : goal.returns-then-product-eq0
returns-then-product-eq0 c = (
  λ f. cc,
  λ e. absurd (empty_is_no_product c.args.cayley.now c.requires.graphs c.args.element
      c.args.letter c.args.product c.if-product-eq0.true e),
)
