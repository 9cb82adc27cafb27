use Rattle.std.proofs.Common.{◌≡◌, ◌<◌, ◌∙◌, ℕ, List, Bool, length, slice_index, sym, ap, subst}
use Rattle.std.proofs.Common.{All}
use Rattle.language_theory.specs.Automaton.{is_marked}
use Rattle.star_free_theory.specs.Construction.{without, keep, span, local_elements}
use Rattle.local_divisors.specs.Instances.{times, AreSpanMarks}
use Rattle.local_divisors.proofs.Choosing.{letter, letter_within, image_within, identity_within}
use Rattle.local_divisors.proofs.Choosing.{others_within, submonoid_marked, letter_chosen}
use Rattle.local_divisors.proofs.Choosing.{others_chosen}
use Rattle.local_divisors.proofs.choice.choose.Goals as goal

pub span_marks-requires-clause-identity : goal.span_marks-requires-clause-identity
span_marks-requires-clause-identity c =
    let p = c.args.product.now in
    let t = c.args.task.now in
    let h = c.requires.ready in
    let many = c.requires.many in
    subst (λ (z : ℕ). z < p.table.side) (sym c.identity-identity.ensures)
    (identity_within p t h many)

pub span_marks-requires-clause-letters : goal.span_marks-requires-clause-letters
span_marks-requires-clause-letters c =
    let p = c.args.product.now in
    let t = c.args.task.now in
    let h = c.requires.ready in
    let many = c.requires.many in
    let l = letter_chosen p t h many c.images-images.result.now c.letters-letters.result.now
    c.identity-identity.result c.chosen-letter.result c.images-images.ensures
    c.letters-letters.ensures c.identity-identity.ensures c.chosen-letter.ensures in
    let o = others_chosen p t h many c.letters-letters.result.now c.as_slice.result.now
    c.chosen-letter.result c.letters-letters.ensures l
    (c.as_slice.ensures.value ∙ c.in_ok-others.ensures) in
    subst (λ (xs : List ℕ). All (λ a. a < length xs) c.as_slice.result.now)
    (sym c.images-images.ensures)
    (subst (λ (os : List ℕ). All (λ a. a < length t.images) os) (sym o)
    (others_within p t h many))

pub bounds-images-letter : goal.bounds-images-letter
bounds-images-letter c =
    let p = c.args.product.now in
    let t = c.args.task.now in
    let h = c.requires.ready in
    let many = c.requires.many in
    let l = letter_chosen p t h many c.images-images.result.now c.letters-letters.result.now
    c.identity-identity.result c.chosen-letter.result c.images-images.ensures
    c.letters-letters.ensures c.identity-identity.ensures c.chosen-letter.ensures in
    subst (λ (xs : List ℕ). c.chosen-letter.result < length xs) (sym c.images-images.ensures)
    (subst (λ (z : ℕ). z < length t.images) (sym l) (letter_within p t h many))

pub divisor-requires-clause-m : goal.divisor-requires-clause-m
divisor-requires-clause-m c =
    let p = c.args.product.now in
    let t = c.args.task.now in
    let h = c.requires.ready in
    let many = c.requires.many in
    let l = letter_chosen p t h many c.images-images.result.now c.letters-letters.result.now
    c.identity-identity.result c.chosen-letter.result c.images-images.ensures
    c.letters-letters.ensures c.identity-identity.ensures c.chosen-letter.ensures in
    subst (λ (xs : List ℕ). slice_index xs c.chosen-letter.result < p.table.side)
    (sym c.images-images.ensures)
    (subst (λ (z : ℕ). slice_index t.images z < p.table.side) (sym l)
    (image_within p t h many))

pub returns : goal.returns
returns c =
    let p = c.args.product.now in
    let t = c.args.task.now in
    let h = c.requires.ready in
    let many = c.requires.many in
    let l = letter_chosen p t h many c.images-images.result.now c.letters-letters.result.now
    c.identity-identity.result c.chosen-letter.result c.images-images.ensures
    c.letters-letters.ensures c.identity-identity.ensures c.chosen-letter.ensures in
    let o = others_chosen p t h many c.letters-letters.result.now c.as_slice.result.now
    c.chosen-letter.result c.letters-letters.ensures l
    (c.as_slice.ensures.value ∙ c.in_ok-others.ensures) in
    let m : AreSpanMarks p t.identity (without (letter p t h many) t.letters) t.images
    c.in_ok-marks.marks.items =
    subst (λ (i : ℕ). AreSpanMarks p i (without (letter p t h many) t.letters) t.images
    c.in_ok-marks.marks.items) c.identity-identity.ensures
    (subst (λ (os : List ℕ). AreSpanMarks p c.identity-identity.result os t.images
    c.in_ok-marks.marks.items) o
    (subst (λ (xs : List ℕ). AreSpanMarks p c.identity-identity.result c.as_slice.result.now xs
    c.in_ok-marks.marks.items) c.images-images.ensures c.in_ok-marks.ensures)) in
    let oe = others_chosen p t h many c.letters-letters.result.now c.in_ok-others.others.items
    c.chosen-letter.result c.letters-letters.ensures l c.in_ok-others.ensures in
    record {
      letter_is = l;
      others_are = c.in_ok-others.ensures
          ∙ ap (without c.chosen-letter.result) c.letters-letters.ensures;
      submonoid_is =
          c.in_ok-submonoid.ensures
          ∙ ap (λ (ms : List Bool). keep (is_marked ms) c.elements-elements.result.now)
          c.as_slice-2.ensures.value
          ∙ ap (keep (is_marked c.in_ok-marks.marks.items)) c.elements-elements.ensures
          ∙ submonoid_marked p t h many c.in_ok-marks.marks.items m
          ∙ ap (λ (os : List ℕ). span (times p) t.identity (slice_index t.images) os t.elements)
          (sym oe);
      divisor_is =
          c.in_ok-divisor.ensures
          ∙ ap (λ (xs : List ℕ). local_elements (times p) (slice_index xs c.chosen-letter.result)
          c.elements-elements.result.now) c.images-images.ensures
          ∙ ap (local_elements (times p) (slice_index t.images c.chosen-letter.result))
          c.elements-elements.ensures;
    }
