use Rattle.std.proofs.Common.{◌<◌, length, arith, refl, bit_or}
use Rattle.std.specs.Int.Bits.{or_zero_r}
use Rattle.std.proofs.lemmas.List.{get_or_read}
use Rattle.number_set.proofs.Packing.{Holds, holds, held_words, held_marks}
use Rattle.number_set.proofs.Combining.{AreCombinedBelow, either, combined, fewer_words, combined_holds, combined_union, combined_within, none_combined_before, none_combined_behind, one_combined, or_alike}
use Rattle.number_set.proofs.number_set.NumberSet.union_with.Goals as goal

pub loop-place-init : goal.loop-place-init
loop-place-init c = (refl, refl, refl, none_combined_before _ _ _ _ _ or_zero_r c.other.invariant.within)

pub index-requires : goal.index-requires
index-requires c =
    let s = c.self.inside in
    let t = c.other.inside in
    let h : Holds s.size s.words.items c.args.self.now =
    holds s.size s.words.items c.args.self.now c.self.invariant.same c.self.view_is in
    let k : Holds t.size t.words.items c.args.other.now =
    holds t.size t.words.items c.args.other.now c.other.invariant.same c.other.view_is in
    let now = c.loop-place.self-inside in
    let many = fewer_words s.size t.size s.words.items t.words.items c.args.self.now c.args.other.now h k c.requires in
    let i = c.loop-place.invariant.3 in
    omega (arith, many, c.other.invariant.within.within, i.long, now.words.ok.0, c.loop-place-test.true, s.words.ok.0, t.words.ok.0)

pub index_mut-requires : goal.index_mut-requires
index_mut-requires c =
    let s = c.self.inside in
    let t = c.other.inside in
    let h : Holds s.size s.words.items c.args.self.now =
    holds s.size s.words.items c.args.self.now c.self.invariant.same c.self.view_is in
    let k : Holds t.size t.words.items c.args.other.now =
    holds t.size t.words.items c.args.other.now c.other.invariant.same c.other.view_is in
    let now = c.loop-place.self-inside in
    let many = fewer_words s.size t.size s.words.items t.words.items c.args.self.now c.args.other.now h k c.requires in
    let i = c.loop-place.invariant.3 in
    omega (arith, many, c.other.invariant.within.within, i.long, now.words.ok.0, c.loop-place-test.true, s.words.ok.0, t.words.ok.0)

pub loop-place-preserved : goal.loop-place-preserved
loop-place-preserved c =
    let s = c.self.inside in
    let t = c.other.inside in
    let h : Holds s.size s.words.items c.args.self.now =
    holds s.size s.words.items c.args.self.now c.self.invariant.same c.self.view_is in
    let k : Holds t.size t.words.items c.args.other.now =
    holds t.size t.words.items c.args.other.now c.other.invariant.same c.other.view_is in
    let now = c.loop-place.self-inside in
    let many = fewer_words s.size t.size s.words.items t.words.items c.args.self.now c.args.other.now h k c.requires in
    let i = c.loop-place.invariant.3 in
    let first : c.loop-place.place < length now.words.items =
    omega (arith, many, c.other.invariant.within.within, i.long, now.words.ok.0, c.loop-place-test.true, s.words.ok.0, t.words.ok.0) in
    let second : c.loop-place.place < length t.words.items =
    omega (arith, many, c.other.invariant.within.within, i.long, now.words.ok.0, c.loop-place-test.true, s.words.ok.0, t.words.ok.0) in (
      c.loop-place.invariant.0,
      c.loop-place.invariant.1,
      c.loop-place.invariant.2,
      one_combined bit_or s.words.items t.words.items now.words.items c.loop-place.place c.index.result.now
          c.index-in-loop-place.result.now first
          (get_or_read now.words.items _ _ first c.index.ensures 0)
          (get_or_read t.words.items _ _ second c.index-in-loop-place.ensures 0) i,
    )

pub invariant_of-self : goal.invariant_of-self
invariant_of-self c =
    let s = c.self.inside in
    let t = c.other.inside in
    let h : Holds s.size s.words.items c.args.self.now =
    holds s.size s.words.items c.args.self.now c.self.invariant.same c.self.view_is in
    let k : Holds t.size t.words.items c.args.other.now =
    holds t.size t.words.items c.args.other.now c.other.invariant.same c.other.view_is in
    let now = c.loop-place.self-inside in
    let many = fewer_words s.size t.size s.words.items t.words.items c.args.self.now c.args.other.now h k c.requires in
    let whole : AreCombinedBelow bit_or s.words.items t.words.items now.words.items (length t.words.items) =
    none_combined_behind bit_or s.words.items t.words.items now.words.items t.first t.last c.loop-place.place
    or_zero_r c.other.invariant.within (omega (arith, c.loop-place-test.false)) c.loop-place.invariant.3 in
    let made : Holds s.size now.words.items (combined either c.args.self.now c.args.other.now) =
    combined_holds either bit_or s.size t.size s.words.items t.words.items now.words.items
    c.args.self.now c.args.other.now (length t.words.items) or_alike h k (omega (arith, c.requires))
    (omega arith) (omega arith) whole (λ x l. or_zero_r x) in
    record {
      same = rw c.loop-place.invariant.0 (held_words s.size now.words.items _ made);
      within = combined_within bit_or s.words.items t.words.items now.words.items s.first s.last
          t.first t.last c.window_of-first.result (or_zero_r 0) many c.self.invariant.within
          c.other.invariant.within
          (rw (← c.loop-place.invariant.1, ← c.loop-place.invariant.2) c.window_of-first.ensures) whole;
    }

pub returns : goal.returns
returns c =
    let s = c.self.inside in
    let t = c.other.inside in
    let h : Holds s.size s.words.items c.args.self.now =
    holds s.size s.words.items c.args.self.now c.self.invariant.same c.self.view_is in
    let k : Holds t.size t.words.items c.args.other.now =
    holds t.size t.words.items c.args.other.now c.other.invariant.same c.other.view_is in
    let now = c.loop-place.self-inside in
    let many = fewer_words s.size t.size s.words.items t.words.items c.args.self.now c.args.other.now h k c.requires in
    let whole : AreCombinedBelow bit_or s.words.items t.words.items now.words.items (length t.words.items) =
    none_combined_behind bit_or s.words.items t.words.items now.words.items t.first t.last c.loop-place.place
    or_zero_r c.other.invariant.within (omega (arith, c.loop-place-test.false)) c.loop-place.invariant.3 in
    let made : Holds s.size now.words.items (combined either c.args.self.now c.args.other.now) =
    combined_holds either bit_or s.size t.size s.words.items t.words.items now.words.items
    c.args.self.now c.args.other.now (length t.words.items) or_alike h k (omega (arith, c.requires))
    (omega arith) (omega arith) whole (λ x l. or_zero_r x) in
    rw (c.loop-place.invariant.0, held_marks s.size now.words.items _ made)
    (combined_union c.args.self.now c.args.other.now (omega (arith, c.requires)))
