use Rattle.std.proofs.Common.{◌≡◌, ◌<◌, ◌+◌, ◌*◌, length, sym, ap, ◌∙◌, arith}
use Rattle.std.specs.Prelude.{slice_index}
use Rattle.std.proofs.lemmas.List.{get_or_default}
use Rattle.froidure_pin.specs.Search.{rest_of, first_times}
use Rattle.froidure_pin.proofs.Shortcut.{first_times_later}
use Rattle.froidure_pin.proofs.Ready.{reads_first, reads_prefix, reads_product}
use Rattle.froidure_pin.proofs.elements.Elements.read_target.Goals as goal
use Rattle.froidure_pin.proofs.elements.Elements.read_target.Goals.{After-last}

pub index-requires : goal.index-requires
index-requires c =
    let s = c.args.self.now in
    let q = c.requires in
    let there : c.first-first.result < length s.progress.left.items =
    rw c.first-first.ensures
    (reads_first s.generators.now s.rows s.progress c.args.targets.now q.ready q.seen
    c.args.job.element c.args.job.letter q.job.from q.job.to q.job.letter q.here q.known) in
    let all = s.progress.left.ok in
    omega arith

pub returns-then-rest-eq0 : goal.returns-then-rest-eq0
returns-then-rest-eq0 c =
    let s = c.args.self.now in
    let q = c.requires in
    let left = s.progress.left.items in
    let b = slice_index s.progress.links.first c.args.job.element in
    let none : 0
    ≡ rest_of s.generators.now.letters c.args.targets.now s.progress.links c.args.job.element
    c.args.job.letter = sym (sym c.rest-rest.ensures.rest ∙ c.if-rest-eq0.true) in
    let there : c.first-first.result < length left =
    rw c.first-first.ensures
    (reads_first s.generators.now s.rows s.progress c.args.targets.now q.ready q.seen
    c.args.job.element c.args.job.letter q.job.from q.job.to q.job.letter q.here q.known) in
    c.index.ensures ∙ get_or_default left c.first-first.result c.index.result.now 0 there
    ∙ ap (slice_index left) c.first-first.ensures
    ∙ ap (first_times s.generators.now.letters c.args.targets.now s.progress.links left b) none

pub index-product-requires : goal.index-product-requires
index-product-requires c =
    let s = c.args.self.now in
    let q = c.requires in
    let some : 0
    < rest_of s.generators.now.letters c.args.targets.now s.progress.links c.args.job.element
    c.args.job.letter = omega (arith, c.if-rest-eq0.false, c.rest-rest.ensures.rest) in
    let there : c.prefix.result * c.letters-letters.result + c.first-first.result
    < length s.progress.left.items =
    rw (
      c.prefix.ensures,
      c.rest-rest.ensures.rest,
      c.letters-letters.ensures.letters,
      c.first-first.ensures,
    )
    (reads_prefix s.generators.now s.rows s.progress c.args.targets.now q.ready q.seen
    c.args.job.element c.args.job.letter q.job.from q.job.to q.job.letter q.here q.known some) in
    let all = s.progress.left.ok in
    omega arith

-- what was read from the left rows, and that its right target is there
product_is : (c : After-last)
    → c.index-product.result.now
    ≡ slice_index c.args.self.now.progress.left.items
    (c.prefix.result * c.letters-letters.result + c.first-first.result)
product_is c =
    let s = c.args.self.now in
    let q = c.requires in
    let some : 0
    < rest_of s.generators.now.letters c.args.targets.now s.progress.links c.args.job.element
    c.args.job.letter = omega (arith, c.if-rest-eq0.false, c.rest-rest.ensures.rest) in
    let there : c.prefix.result * c.letters-letters.result + c.first-first.result
    < length s.progress.left.items =
    rw (
      c.prefix.ensures,
      c.rest-rest.ensures.rest,
      c.letters-letters.ensures.letters,
      c.first-first.ensures,
    )
    (reads_prefix s.generators.now s.rows s.progress c.args.targets.now q.ready q.seen
    c.args.job.element c.args.job.letter q.job.from q.job.to q.job.letter q.here q.known some) in
    c.index-product.ensures
    ∙ get_or_default s.progress.left.items
    (c.prefix.result * c.letters-letters.result + c.first-first.result)
    c.index-product.result.now 0 there

product_there : (c : After-last)
    → c.index-product.result.now * c.letters-letters.result + c.last.result
    < length c.args.targets.now
product_there c =
    let s = c.args.self.now in
    let q = c.requires in
    let some : 0
    < rest_of s.generators.now.letters c.args.targets.now s.progress.links c.args.job.element
    c.args.job.letter = omega (arith, c.if-rest-eq0.false, c.rest-rest.ensures.rest) in
    rw (
      product_is c,
      c.prefix.ensures,
      c.last.ensures,
      c.rest-rest.ensures.rest,
      c.letters-letters.ensures.letters,
      c.first-first.ensures,
    )
    (reads_product s.generators.now s.rows s.progress c.args.targets.now q.ready q.seen
    c.args.job.element c.args.job.letter q.job.from q.job.to q.job.letter q.here q.known some)

pub offset_bounds-targets-product : goal.offset_bounds-targets-product
offset_bounds-targets-product c = let p = product_there c in omega arith

pub bounds-targets-product : goal.bounds-targets-product
bounds-targets-product c = product_there (goal.at.bounds-targets-product c).After-last

pub returns : goal.returns
returns c =
    let s = c.args.self.now in
    let k = s.generators.now.letters in
    let l = s.progress.links in
    let left = s.progress.left.items in
    let some : 0 < rest_of k c.args.targets.now l c.args.job.element c.args.job.letter =
    omega (arith, c.if-rest-eq0.false, c.rest-rest.ensures.rest) in
    rw (
      product_is (goal.at.returns c).After-last,
      c.prefix.ensures,
      c.last.ensures,
      c.rest-rest.ensures.rest,
      c.letters-letters.ensures.letters,
      c.first-first.ensures,
    )
    (sym (first_times_later k c.args.targets.now l left (slice_index l.first c.args.job.element)
    (rest_of k c.args.targets.now l c.args.job.element c.args.job.letter) some))
