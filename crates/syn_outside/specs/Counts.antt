-- Counts that are kept in 64 bits.
use Rattle.std.specs.Prelude.{ℕ, ◌+◌, ◌-◌, ◌^◌, ◌≤◌, min}

-- one more, or the end of the range, where a count stays
abbrev pub one_more : ℕ → ℕ
one_more count = min (count + 1) (2 ^ 64 - 1)

-- a count rose: it is greater than before, or at the end of its range
abbrev pub Rose : ℕ → ℕ → Type 0
Rose before now = one_more before ≤ now
