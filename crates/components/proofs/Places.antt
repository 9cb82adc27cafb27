-- Places of a list that grew by one, and cases on numbers.
use Rattle.std.proofs.Common.{◌≡◌, ℕ, ◌+◌, ◌<◌, ◌⊎◌, List, [], ◌∷◌, ◌++◌, length, slice_index, sym}
use Rattle.std.proofs.Common.{arith}
use Rattle.std.proofs.lemmas.List.{get_or_append_left, get_or_push}

pub at_left : (xs : List ℕ) (y k : ℕ) → k < length xs
    → slice_index (xs ++ y ∷ []) k ≡ slice_index xs k
at_left xs y k h = get_or_append_left xs (y ∷ []) 0 k h

pub at_end : (xs : List ℕ) (y k : ℕ) → k ≡ length xs → slice_index (xs ++ y ∷ []) k ≡ y
at_end xs y k e = get_or_push xs y 0 k (sym e)

pub last_or_below : (k n : ℕ) → k < n + 1 → (k < n) ⊎ (k ≡ n)
last_or_below k n h = grind arith
