use Rattle.std.proofs.Common.{◌<◌, false, length, arith, refl}
use Rattle.std.proofs.lemmas.List.{get_or_read}
use Rattle.std.proofs.lemmas.Bool.{both_ways}
use Rattle.number_set.proofs.Packing.{Holds, holds}
use Rattle.number_set.proofs.Combining.{none_apart_before, none_apart_behind, fewer_words, one_apart, meet_here, meet_nowhere}
use Rattle.number_set.proofs.number_set.NumberSet.meets.Goals as goal

pub loop-place-init : goal.loop-place-init
loop-place-init c = none_apart_before _ _ _ _ c.other.invariant.within

pub index-requires : goal.index-requires
index-requires c =
    let s = c.self.inside in
    let t = c.other.inside in
    let h : Holds s.size s.words.items c.args.self.now =
    holds s.size s.words.items c.args.self.now c.self.invariant.same c.self.view_is in
    let k : Holds t.size t.words.items c.args.other.now =
    holds t.size t.words.items c.args.other.now c.other.invariant.same c.other.view_is in
    let many = fewer_words s.size t.size s.words.items t.words.items c.args.self.now c.args.other.now h k c.requires in
    omega (arith, many, c.other.invariant.within.within, c.loop-place-test.true, s.words.ok.0, t.words.ok.0)

pub index-requires-in-loop-place : goal.index-requires-in-loop-place
index-requires-in-loop-place c =
    let t = c.other.inside in
    omega (arith, c.other.invariant.within.within, c.loop-place-test.true, t.words.ok.0)

pub returns-then-index-ne0 : goal.returns-then-index-ne0
returns-then-index-ne0 c =
    let s = c.self.inside in
    let t = c.other.inside in
    let h : Holds s.size s.words.items c.args.self.now =
    holds s.size s.words.items c.args.self.now c.self.invariant.same c.self.view_is in
    let k : Holds t.size t.words.items c.args.other.now =
    holds t.size t.words.items c.args.other.now c.other.invariant.same c.other.view_is in
    let many = fewer_words s.size t.size s.words.items t.words.items c.args.self.now c.args.other.now h k c.requires in
    let second : c.loop-place.place < length t.words.items = omega (arith, c.other.invariant.within.within, c.loop-place-test.true, t.words.ok.0) in
    let first : c.loop-place.place < length s.words.items = omega (arith, many, second) in
    let x = get_or_read s.words.items _ _ first c.index.ensures 0 in
    let y = get_or_read t.words.items _ _ second c.index-in-loop-place.ensures 0 in (
      λ _. meet_here s.size t.size s.words.items t.words.items c.args.self.now c.args.other.now h k
          c.requires c.loop-place.place c.index.result.now c.index-in-loop-place.result.now second x
          y (omega (arith, c.if-index-ne0.true)),
      λ _. refl,
    )

pub loop-place-preserved : goal.loop-place-preserved
loop-place-preserved c =
    let s = c.self.inside in
    let t = c.other.inside in
    let h : Holds s.size s.words.items c.args.self.now =
    holds s.size s.words.items c.args.self.now c.self.invariant.same c.self.view_is in
    let k : Holds t.size t.words.items c.args.other.now =
    holds t.size t.words.items c.args.other.now c.other.invariant.same c.other.view_is in
    let many = fewer_words s.size t.size s.words.items t.words.items c.args.self.now c.args.other.now h k c.requires in
    let second : c.loop-place.place < length t.words.items = omega (arith, c.other.invariant.within.within, c.loop-place-test.true, t.words.ok.0) in
    let first : c.loop-place.place < length s.words.items = omega (arith, many, second) in
    let x = get_or_read s.words.items _ _ first c.index.ensures 0 in
    let y = get_or_read t.words.items _ _ second c.index-in-loop-place.ensures 0 in
    one_apart s.words.items t.words.items c.loop-place.place c.index.result.now
    c.index-in-loop-place.result.now x y c.if-index-ne0.false c.loop-place.invariant

pub returns : goal.returns
returns c =
    let s = c.self.inside in
    let t = c.other.inside in
    let h : Holds s.size s.words.items c.args.self.now =
    holds s.size s.words.items c.args.self.now c.self.invariant.same c.self.view_is in
    let k : Holds t.size t.words.items c.args.other.now =
    holds t.size t.words.items c.args.other.now c.other.invariant.same c.other.view_is in (
      λ e. absurd (both_ways false refl e),
      λ m. absurd (meet_nowhere s.size t.size s.words.items t.words.items c.args.self.now
          c.args.other.now h k c.requires
          (none_apart_behind s.words.items t.words.items t.first t.last c.loop-place.place
          c.other.invariant.within (omega (arith, c.loop-place-test.false)) c.loop-place.invariant) m),
    )
