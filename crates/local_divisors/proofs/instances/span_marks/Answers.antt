use Rattle.std.proofs.Common.{◌≡◌, ◌<◌, ◌∙◌, ◌+◌, ℕ, List, set, true, sym, ap, subst, arith, length}
use Rattle.std.proofs.Common.{slice_index}
use Rattle.std.proofs.lemmas.Grind.{common_steps}
use Rattle.std.proofs.lemmas.List.{length-append}
use Rattle.star_free_theory.specs.Instance.{Among}
use Rattle.local_divisors.specs.Instances.{GoesOn}
use Rattle.local_divisors.proofs.Tables.{search_first, search_done, steps_more, found_few}
use Rattle.local_divisors.proofs.Tables.{among_at}
use Rattle.local_divisors.proofs.instances.span_marks.Goals as goal

pub loop-place-init : goal.loop-place-init
loop-place-init c = (
  omega arith,
  search_first c.args.product.now c.args.identity c.args.letters.now c.args.images.now
      c.push.new.self.items (set c.in_ok-marks.marks.items c.args.identity true)
      (grind (arith, common_steps)) (grind (arith, common_steps)) c.requires.identity,
  λ j a l i. absurd (omega arith),
)

pub multiply-requires-clause-element : goal.multiply-requires-clause-element
multiply-requires-clause-element c =
    let e : c.len.result ≡ length c.loop-place.found.items = grind (arith, common_steps) in
    let l : c.loop-place.place < length c.loop-place.found.items =
    omega (arith, c.loop-place-test.true) in
    let x : slice_index c.loop-place.found.items c.loop-place.place ≡ c.index-element.result.now =
    grind (arith, common_steps) in
    subst (λ (z : ℕ). z < c.args.product.now.table.side) x (c.loop-place.invariant.1.within
    (slice_index c.loop-place.found.items c.loop-place.place) (among_at c.loop-place.found.items
    c.loop-place.place l))

pub loop-place-preserved : goal.loop-place-preserved
loop-place-preserved c =
    let p = c.args.product.now in
    let ls = c.args.letters.now in
    let images = c.args.images.now in
    let found = c.loop-place.found.items in
    let n = c.loop-place.place in
    let d : c.len.result ≡ length c.loop-place.found.items = grind (arith, common_steps) in
    let l : n < length found = omega (arith, c.loop-place-test.true) in
    let x : slice_index found n ≡ c.index-element.result.now = grind (arith, common_steps) in
    let r = c.in_ok-multiply.ensures.search c.args.identity c.loop-place.invariant.1
    (subst (Among found) x (among_at found n l)) in
    let g : GoesOn p ls images (slice_index found n) found c.multiply.new.found.items =
    subst (λ (z : ℕ). GoesOn p ls images z found c.multiply.new.found.items) (sym x) r.1 in
    let e : length c.multiply.new.found.items ≡ length found + length r.1.keeps.0 =
    ap (λ (zs : List ℕ). length zs) r.1.keeps.1 ∙ length-append found r.1.keeps.0 in (
      omega (arith, l),
      r.0,
      steps_more p ls images found c.multiply.new.found.items n l
          c.loop-place.invariant.2 g,
    )

pub loop-place-smaller : goal.loop-place-smaller
loop-place-smaller c = let e : c.len.result ≡ length c.loop-place.found.items =
    grind (arith, common_steps) in let f = found_few c.args.product.now c.args.identity
    c.args.letters.now c.args.images.now c.loop-place.found.items c.loop-place.marks.items
    c.loop-place.invariant.1 in omega (arith, c.loop-place-test.true)

pub returns : goal.returns
returns c = let e : c.len.result ≡ length c.loop-place.found.items = grind (arith, common_steps) in
    search_done c.args.product.now c.args.identity c.args.letters.now c.args.images.now
    c.loop-place.found.items c.loop-place.marks.items c.loop-place.place
    (omega (arith, c.loop-place-test.false)) c.loop-place.invariant.1 c.loop-place.invariant.2
