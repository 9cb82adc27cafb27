-- Bytes that were read from what a file had left.
use Rattle.std.specs.Prelude.{◌≡◌, ℕ, ◌≤◌, List, length, take, None, Some, Option}

-- these are the first bytes of what was left, where that is told, and at most `most` of them
abbrev pub IsRead : Option (List ℕ) → ℕ → List ℕ → Type 0
IsRead None most bytes = length bytes ≤ most
IsRead (Some left) most bytes = bytes ≡ take most left
