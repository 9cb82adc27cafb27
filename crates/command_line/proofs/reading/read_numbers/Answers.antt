use Rattle.std.proofs.Common.{◌<◌, ◌≢◌, length, get_or, arith, refl, subst, ◌∙◌, below_more, length-set, get_or-set_other, get_or-set_same}
use Rattle.clap.specs.Words.{found_of, rows_of}
use Rattle.command_line.specs.Tables.{NumberOption}
use Rattle.command_line.specs.Line.{IsNumberIn}
use Rattle.command_line.proofs.reading.read_numbers.Goals as goal

pub returns-in-None-clause-number : goal.returns-in-None-clause-number
returns-in-None-clause-number c = (
  c.loop-place.place,
  refl,
  record {
    within = c.loop-place-test.true;
    before = λ i h. (get_or c.loop-place.numbers i 0, c.loop-place.invariant.1 i h);
    bad = λ n.
        let P : NumberOption
        → Type 0 = λ option. ¬ IsNumberIn (rows_of (found_of c.args.matches.now)) option n in
        subst P c.option_at.ensures.row (c.in-None.ensures.none refl n);
  },
)

pub loop-place-preserved : goal.loop-place-preserved
loop-place-preserved c = (
  length-set c.loop-place.numbers c.loop-place.place c.in-Some.number ∙ c.loop-place.invariant.0,
  below_more _ _
      (λ i h. let other : i ≢ c.loop-place.place = omega arith in
      rw get_or-set_other (c.loop-place.invariant.1 i h))
      (
      let within : c.loop-place.place < length c.loop-place.numbers =
      omega (arith, c.loop-place.invariant.0, c.loop-place-test.true) in
      let P : NumberOption → Type 0 = λ option. IsNumberIn (rows_of (found_of c.args.matches.now))
      option c.in-Some.number in
      rw get_or-set_same (subst P c.option_at.ensures.row c.in-Some.ensures.some)
      ),
)
