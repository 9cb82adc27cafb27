use Rattle.std.proofs.Common.{◌≡◌, ℕ, List, ◌+◌, [], ◌∷◌, length, length-append, ap, ◌∙◌, arith}
use Rattle.std.proofs.Math.Seq.{take-append_seam}
use Rattle.cayley_tables.specs.LeftRows.{left_target}
use Rattle.cayley_tables.proofs.LeftRows.{goes_on_push, kept_trans}
use Rattle.cayley_tables.proofs.left_rows.push_left_row.Goals as goal

pub loop-letter-preserved : goal.loop-letter-preserved
loop-letter-preserved c =
    let i = c.loop-letter.invariant in
    let left = c.loop-letter.left.items in
    let is : c.left_product-product.result
    ≡ left_target c.args.letters c.args.right.now c.args.links.now left c.args.element
    c.loop-letter.letter =
    c.left_product-product.ensures
    ∙ ap (λ (xs : List ℕ). left_target c.args.letters c.args.right.now c.args.links.now xs
    c.args.element c.loop-letter.letter) c.as_slice.ensures.value in
    let longer : length c.push.new.self.items ≡ length left + 1 =
    ap length c.in_ok-push.ensures.items ∙ simp length-append in (
      (
        omega (arith, i.0.0),
        kept_trans c.args.left.now.items left c.push.new.self.items i.0.1
            (rw c.in_ok-push.ensures.items (take-append_seam left (c.left_product-product.result ∷ []))),
      ),
      rw (c.in_ok-push.ensures.items, is)
          (goes_on_push c.args.letters c.args.right.now c.args.links.now
          (c.args.element + 1) c.args.element c.loop-letter.letter c.args.left.now.items left
          (omega arith) (omega arith) i.0.0 i.1),
    )
