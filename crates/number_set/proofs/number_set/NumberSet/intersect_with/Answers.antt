use Rattle.std.proofs.Common.{◌<◌, length, arith, refl, bit_and}
use Rattle.std.specs.Int.Bits.{and_zero_l}
use Rattle.std.proofs.lemmas.List.{get_or_read}
use Rattle.number_set.proofs.Packing.{Holds, holds, held_words, held_marks}
use Rattle.number_set.proofs.Combining.{lessened_within, both, combined, as_many_words, combined_holds, combined_intersection, none_combined, one_combined, and_alike}
use Rattle.number_set.proofs.number_set.NumberSet.intersect_with.Goals as goal

pub loop-place-init : goal.loop-place-init
loop-place-init c = (refl, refl, refl, none_combined _ _ _)

pub index-requires : goal.index-requires
index-requires c =
    let s = c.self.inside in
    let t = c.other.inside in
    let h : Holds s.size s.words.items c.args.self.now =
    holds s.size s.words.items c.args.self.now c.self.invariant.same c.self.view_is in
    let k : Holds t.size t.words.items c.args.other.now =
    holds t.size t.words.items c.args.other.now c.other.invariant.same c.other.view_is in
    let now = c.loop-place.self-inside in
    let i = c.loop-place.invariant.3 in
    let many = as_many_words s.size t.size s.words.items t.words.items c.args.self.now c.args.other.now h k c.requires in
    omega (arith, many, i.long, now.words.ok.0, c.loop-place-test.true, c.len-place-end.ensures, s.words.ok.0, t.words.ok.0)

pub index-requires-in-loop-place : goal.index-requires-in-loop-place
index-requires-in-loop-place c =
    let s = c.self.inside in
    let t = c.other.inside in
    let h : Holds s.size s.words.items c.args.self.now =
    holds s.size s.words.items c.args.self.now c.self.invariant.same c.self.view_is in
    let k : Holds t.size t.words.items c.args.other.now =
    holds t.size t.words.items c.args.other.now c.other.invariant.same c.other.view_is in
    let many = as_many_words s.size t.size s.words.items t.words.items c.args.self.now c.args.other.now h k c.requires in
    omega (arith, many, c.loop-place-test.true, c.len-place-end.ensures, s.words.ok.0, t.words.ok.0)

pub index_mut-requires : goal.index_mut-requires
index_mut-requires c =
    let s = c.self.inside in
    let t = c.other.inside in
    let h : Holds s.size s.words.items c.args.self.now =
    holds s.size s.words.items c.args.self.now c.self.invariant.same c.self.view_is in
    let k : Holds t.size t.words.items c.args.other.now =
    holds t.size t.words.items c.args.other.now c.other.invariant.same c.other.view_is in
    let now = c.loop-place.self-inside in
    let i = c.loop-place.invariant.3 in
    let many = as_many_words s.size t.size s.words.items t.words.items c.args.self.now c.args.other.now h k c.requires in
    omega (arith, many, i.long, now.words.ok.0, c.loop-place-test.true, c.len-place-end.ensures, s.words.ok.0, t.words.ok.0)

pub loop-place-preserved : goal.loop-place-preserved
loop-place-preserved c =
    let s = c.self.inside in
    let t = c.other.inside in
    let h : Holds s.size s.words.items c.args.self.now =
    holds s.size s.words.items c.args.self.now c.self.invariant.same c.self.view_is in
    let k : Holds t.size t.words.items c.args.other.now =
    holds t.size t.words.items c.args.other.now c.other.invariant.same c.other.view_is in
    let now = c.loop-place.self-inside in
    let i = c.loop-place.invariant.3 in
    let many = as_many_words s.size t.size s.words.items t.words.items c.args.self.now c.args.other.now h k c.requires in
    let first : c.loop-place.place < length now.words.items =
    omega (arith, many, i.long, c.loop-place-test.true, c.len-place-end.ensures, s.words.ok.0, t.words.ok.0) in
    let second : c.loop-place.place < length t.words.items =
    omega (arith, many, c.loop-place-test.true, c.len-place-end.ensures, s.words.ok.0, t.words.ok.0) in (
      c.loop-place.invariant.0,
      c.loop-place.invariant.1,
      c.loop-place.invariant.2,
      one_combined bit_and s.words.items t.words.items now.words.items c.loop-place.place c.index.result.now
          c.index-in-loop-place.result.now first
          (get_or_read now.words.items _ _ first c.index.ensures 0)
          (get_or_read t.words.items _ _ second c.index-in-loop-place.ensures 0) i,
    )

pub invariant_of-self : goal.invariant_of-self
invariant_of-self c =
    let s = c.self.inside in
    let t = c.other.inside in
    let h : Holds s.size s.words.items c.args.self.now =
    holds s.size s.words.items c.args.self.now c.self.invariant.same c.self.view_is in
    let k : Holds t.size t.words.items c.args.other.now =
    holds t.size t.words.items c.args.other.now c.other.invariant.same c.other.view_is in
    let now = c.loop-place.self-inside in
    let many = as_many_words s.size t.size s.words.items t.words.items c.args.self.now c.args.other.now h k c.requires in
    let made : Holds s.size now.words.items (combined both c.args.self.now c.args.other.now) =
    combined_holds both bit_and s.size t.size s.words.items t.words.items now.words.items
    c.args.self.now c.args.other.now c.loop-place.place and_alike h k (omega (arith, c.requires))
    (omega (arith, many, c.loop-place-test.false, c.len-place-end.ensures, s.words.ok.0, t.words.ok.0))
    (omega (arith, many, c.loop-place.auto.place-end, c.len-place-end.ensures, s.words.ok.0, t.words.ok.0))
    c.loop-place.invariant.3 (λ x l. absurd (omega (arith, l, many))) in
    record {
      same = rw c.loop-place.invariant.0 (held_words s.size now.words.items _ made);
      within = rw (c.loop-place.invariant.1, c.loop-place.invariant.2) (lessened_within bit_and
          s.words.items t.words.items now.words.items s.first s.last c.loop-place.place and_zero_l
          c.self.invariant.within c.loop-place.invariant.3);
    }

pub returns : goal.returns
returns c =
    let s = c.self.inside in
    let t = c.other.inside in
    let h : Holds s.size s.words.items c.args.self.now =
    holds s.size s.words.items c.args.self.now c.self.invariant.same c.self.view_is in
    let k : Holds t.size t.words.items c.args.other.now =
    holds t.size t.words.items c.args.other.now c.other.invariant.same c.other.view_is in
    let now = c.loop-place.self-inside in
    let many = as_many_words s.size t.size s.words.items t.words.items c.args.self.now c.args.other.now h k c.requires in
    let made : Holds s.size now.words.items (combined both c.args.self.now c.args.other.now) =
    combined_holds both bit_and s.size t.size s.words.items t.words.items now.words.items
    c.args.self.now c.args.other.now c.loop-place.place and_alike h k (omega (arith, c.requires))
    (omega (arith, many, c.loop-place-test.false, c.len-place-end.ensures, s.words.ok.0, t.words.ok.0))
    (omega (arith, many, c.loop-place.auto.place-end, c.len-place-end.ensures, s.words.ok.0, t.words.ok.0))
    c.loop-place.invariant.3 (λ x l. absurd (omega (arith, l, many))) in
    rw (c.loop-place.invariant.0, held_marks s.size now.words.items _ made)
    (combined_intersection c.args.self.now c.args.other.now (omega (arith, c.requires)))
