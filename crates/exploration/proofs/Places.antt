-- Places in a flat table with k columns: row p and column a stand at p * k + a.
use Rattle.std.proofs.Common.{◌≡◌, ℕ, ◌+◌, ◌*◌, ◌<◌, ◌≤◌, ◌⊎◌, inl, inr, List, [], ◌∷◌, ◌++◌, length, arith, length-append}
use Rattle.std.proofs.Math.Nat.{mul-le-mul_right}
use Rattle.std.proofs.lemmas.Bool.{cases_lt}
use Rattle.std.proofs.lemmas.Nat.{same_from_place}

-- of two places the earlier one is in an earlier row, or earlier in the same row
pub place_order : (q b p a k : ℕ) → a < k → q * k + b < p * k + a → (q < p) ⊎ ((q ≡ p) × (b < a))
place_order q b p a k ha h = by (cases_lt q p) (cases_lt p q)
  where
    by : (q < p) ⊎ (p ≤ q) → (p < q) ⊎ (q ≤ p) → (q < p) ⊎ ((q ≡ p) × (b < a))
    by (inl l) _ = inl l
    by (inr l) (inl m) =
        absurd (omega (arith, mul-le-mul_right {m = p + 1} {n = q} k (omega arith)))
    by (inr l) (inr m) = let e : q ≡ p = omega arith in inr (e, rest e)
      where
        rest : q ≡ p → b < a
        rest e = omega
            (arith, mul-le-mul_right {m = q} {n = p} k m, mul-le-mul_right {m = p} {n = q} k l)

-- the row of a place in a table of n rows is below n
pub row_within : (p a k n : ℕ) → p * k + a < n * k → p < n
row_within p a k n h = by (cases_lt p n)
  where
    by : (p < n) ⊎ (n ≤ p) → p < n
    by (inl l) = l
    by (inr l) = absurd (omega (arith, mul-le-mul_right {m = n} {n = p} k l))

-- a place in a list that grew by one, which was p * k + a long, is a place of the list before, or
-- the row p and the column a
pub place_before_or_last : (q b p a k : ℕ) (xs : List ℕ) (x : ℕ) → b < k → a < k
    → length xs ≡ p * k + a → q * k + b < length (xs ++ x ∷ [])
    → (q * k + b < length xs) ⊎ ((q ≡ p) × (b ≡ a))
place_before_or_last q b p a k xs x hb ha e h = by (cases_lt (q * k + b) (length xs))
  where
    by : (q * k + b < length xs) ⊎ (length xs ≤ q * k + b)
        → (q * k + b < length xs) ⊎ ((q ≡ p) × (b ≡ a))
    by (inl l) = inl l
    by (inr l) =
        let g : length (xs ++ x ∷ []) ≡ length xs + 1 = simp length-append in
        inr (same_from_place q b p a k hb ha (omega arith))
