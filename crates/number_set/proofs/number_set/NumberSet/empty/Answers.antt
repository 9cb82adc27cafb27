use Rattle.std.proofs.Common.{◌≡◌, ◌+◌, ◌/◌, arith, rules, false, replicate}
use Rattle.number_set.proofs.Packing.{Holds, empty_holds, held_words, held_marks}
use Rattle.number_set.specs.Marks.{AreWithin}
use Rattle.number_set.proofs.Combining.{none_within}
use Rattle.number_set.proofs.number_set.NumberSet.empty.Goals as goal

made : (c : goal.In_ok-words)
    → Holds c.args.size c.in_ok-words.words.items (replicate c.args.size false)
made c =
    let many : c.div_ceil.result ≡ (c.args.size + 63) / 64 = omega (arith, c.div_ceil.ensures) in
    let zeros : c.in_ok-words.words.items ≡ replicate c.div_ceil.result 0 = search rules in
    rw (zeros, many) (empty_holds c.args.size)

zeros_within : (c : goal.In_ok-words) → AreWithin 0 0 c.in_ok-words.words.items
zeros_within c =
    let zeros : c.in_ok-words.words.items ≡ replicate c.div_ceil.result 0 = search rules in
    rw zeros (none_within c.div_ceil.result)

pub invariant_of-result : goal.invariant_of-result
invariant_of-result c = record { same = held_words _ _ _ (made c); within = zeros_within c }

pub returns : goal.returns
returns c = held_marks _ _ _ (made c)
