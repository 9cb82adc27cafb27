use Rattle.std.proofs.Common.{◌≡◌, refl, replicate, false, length, arith}
use Rattle.number_set.proofs.Packing.{Holds, holds, held_long, empty_holds, held_words, held_marks}
use Rattle.number_set.proofs.Combining.{all_cleared, none_within}
use Rattle.number_set.proofs.number_set.NumberSet.clear.Goals as goal

zeros : (c : goal.After-self-3-1)
    → c.loop-place.self-inside.words.items ≡ replicate (length c.self.inside.words.items) 0
zeros c = all_cleared c.self.inside.first c.self.inside.last c.loop-place.place
    c.self.inside.words.items c.loop-place.self-inside.words.items
    c.self.invariant.within (omega (arith, c.loop-place-test.false)) c.loop-place.invariant.1

made : (c : goal.After-self-3-1)
    → Holds c.self.inside.size c.loop-place.self-inside.words.items (replicate c.self.inside.size false)
made c =
    let s = c.self.inside in
    let h : Holds s.size s.words.items c.args.self.now =
    holds s.size s.words.items c.args.self.now c.self.invariant.same c.self.view_is in
    rw (zeros c, held_long s.size s.words.items c.args.self.now h) (empty_holds s.size)

pub invariant_of-self : goal.invariant_of-self
invariant_of-self c = record {
  same = rw c.loop-place.invariant.0 (held_words _ _ _ (made c));
  within = rw (zeros c) (none_within _);
}

pub returns : goal.returns
returns c =
    let s = c.self.inside in
    let h : Holds s.size s.words.items c.args.self.now =
    holds s.size s.words.items c.args.self.now c.self.invariant.same c.self.view_is in
    rw (c.loop-place.invariant.0, held_marks _ _ _ (made c), h.long) refl
