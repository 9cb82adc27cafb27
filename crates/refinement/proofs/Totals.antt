-- Sums of lists that are compared place by place.
use Rattle.std.proofs.Common.{◌≡◌, ◌≢◌, ℕ, zero, suc, ◌+◌, ◌*◌, ◌<◌, ◌≤◌, ◌⊎◌, inl, inr, List, [], ◌∷◌, length, refl, arith, get_or}
use Rattle.std.proofs.lemmas.Bool.{cases_lt}

abbrev pub total : List ℕ → ℕ
total [] = 0
total (x ∷ xs) = x + total xs

pub total_le : (xs ys : List ℕ) → length xs ≡ length ys
    → ((i : ℕ) → i < length xs → get_or xs i 0 ≤ get_or ys i 0) → total xs ≤ total ys
total_le [] ys e h = omega arith
total_le (x ∷ xs) [] e h = absurd (omega arith)
total_le (x ∷ xs) (y ∷ ys) e h = omega (
  arith,
  h zero (omega arith),
  total_le xs ys (omega arith) (λ i hi. h (suc i) (omega arith)),
)

-- lists of one length that differ, and of which one is nowhere greater, have different sums
pub total_lt : (xs ys : List ℕ) → length xs ≡ length ys
    → ((i : ℕ) → i < length xs → get_or xs i 0 ≤ get_or ys i 0) → xs ≢ ys → total xs < total ys
total_lt [] [] e h n = absurd (n refl)
total_lt [] (y ∷ ys) e h n = absurd (omega arith)
total_lt (x ∷ xs) [] e h n = absurd (omega arith)
total_lt (x ∷ xs) (y ∷ ys) e h n =
    by (cases_lt x y) (total_le xs ys (omega arith) rest) (total_lt xs ys (omega arith) rest)
  where
    rest : (i : ℕ) → i < length xs → get_or xs i 0 ≤ get_or ys i 0
    rest i hi = h (suc i) (omega arith)

    by : (x < y) ⊎ (y ≤ x) → total xs ≤ total ys → (xs ≢ ys → total xs < total ys)
        → x + total xs < y + total ys
    by (inl l) m _ = omega arith
    by (inr l) _ m =
        let here : x ≤ y = h zero (omega arith) in
        let same : x ≡ y = omega arith in
        omega (arith, m (λ tails. n (cc (same, tails))))

pub total_bound : (xs : List ℕ) (m : ℕ) → ((i : ℕ) → i < length xs → get_or xs i 0 ≤ m)
    → total xs ≤ length xs * m
total_bound [] m h = omega arith
total_bound (x ∷ xs) m h =
    omega (arith, h zero (omega arith), total_bound xs m (λ i hi. h (suc i) (omega arith)))
