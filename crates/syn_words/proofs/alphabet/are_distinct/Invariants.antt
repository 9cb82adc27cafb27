-- the bytes at any two places before this one differ
use Rattle.std.proofs.Common.{ℕ, ◌<◌, ◌≢◌, get_or}
use Rattle.syn_words.proofs.alphabet.are_distinct.Given as goal

abbrev pub invariant-loop-i : goal.invariant-loop-i
invariant-loop-i l = (i j : ℕ) → i < j → j < l.i → get_or l.text i 0 ≢ get_or l.text j 0
