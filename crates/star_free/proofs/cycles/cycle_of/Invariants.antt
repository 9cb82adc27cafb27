use Rattle.std.proofs.Common.{◌≡◌, ◌<◌, ◌-◌, length}
use Rattle.language_theory.specs.Words.{power, word_at}
use Rattle.language_theory.specs.ShortlexGraph.{node}
use Rattle.star_free.proofs.PowerNodes.{AreFirstPowers}
use Rattle.star_free.proofs.cycles.cycle_of.Given as goal

abbrev pub invariant-loop-powers : goal.invariant-loop-powers
invariant-loop-powers l =
    let x = word_at l.cayley.words l.element in
    record {
      powers : AreFirstPowers l.cayley x l.powers.keys;
      last : l.last ≡ node l.cayley.right (power (length l.powers.keys) x);
      within : l.last < length l.cayley.words;
    }

abbrev pub decreases-loop-powers : goal.decreases-loop-powers
decreases-loop-powers l = length l.cayley.words - length l.powers.keys
