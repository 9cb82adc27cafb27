use Rattle.std.proofs.Common.{◌≡◌, ◌∙◌, ℕ, List, get_or, take, sym, subst, slice_index}
use Rattle.std.proofs.lemmas.List.{take_more, take_all}
use Rattle.star_free_theory.specs.Instance.{Among}
use Rattle.local_divisors.specs.Instances.{GoesOn, times}
use Rattle.local_divisors.proofs.Tables.{noted_long, noted_search, noted_goes, goes_none, among_at}
use Rattle.local_divisors.proofs.Tables.{append_among}
use Rattle.local_divisors.proofs.instances.multiply.Goals as goal

pub loop-letter-init : goal.loop-letter-init
loop-letter-init c = (
  c.requires.long,
  λ one h i. (
    h,
    goes_none c.args.product.now c.args.images.now
        c.args.element c.args.found.now.items,
  ),
)

pub loop-letter-preserved : goal.loop-letter-preserved
loop-letter-preserved c =
    let p = c.args.product.now in
    let ls = c.args.letters.now in
    let images = c.args.images.now in
    let i = c.loop-letter.letter-index in
    let a : ℕ = get_or ls i 0 in
    let x = c.args.element in
    let old = c.args.found.now.items in
    let found = c.loop-letter.found.items in
    let marks = c.loop-letter.marks.items in
    let y = c.times-next.result in
    let is : y ≡ times p (slice_index images a) x = c.times-next.ensures.times in
    let l = c.times-next.ensures.within in
    let n = c.in_ok-note.ensures in (
      noted_long p 0 ls images x a i y is old found marks c.note.new.found.items
          c.note.new.marks.items n ∙ c.loop-letter.invariant.0,
      λ one h j.
          let r = c.loop-letter.invariant.1 one h j in
          let k : Among found x = subst (λ (zs : List ℕ). Among zs x) (sym r.1.keeps.1)
          (append_among old r.1.keeps.0 x j) in (
            noted_search p one ls images x a i y is old found marks c.note.new.found.items
                c.note.new.marks.items n l k (among_at ls i c.loop-letter-test.true) r.0,
            subst (λ (zs : List ℕ). GoesOn p zs images x old c.note.new.found.items)
                (sym (take_more ls i 0 c.loop-letter-test.true))
                (noted_goes p one ls images x a i y is old found marks c.note.new.found.items
                c.note.new.marks.items n (take i ls) l r.0 r.1),
          ),
    )

pub returns : goal.returns
returns c = record {
  long = c.loop-letter.invariant.0;
  search = λ one h j.
      let r = c.loop-letter.invariant.1 one h j in (
        r.0,
        subst (λ (zs : List ℕ). GoesOn c.args.product.now zs c.args.images.now c.args.element
            c.args.found.now.items c.loop-letter.found.items) (take_all c.loop-letter.letter-index
            c.args.letters.now c.loop-letter-test.false) r.1,
      );
}
