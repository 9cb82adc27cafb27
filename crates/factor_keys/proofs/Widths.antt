-- Widths of levels.
use Rattle.std.proofs.Common.{◌≡◌, inl, inr, ℕ, suc, ◌+◌, ◌*◌, ◌^◌, ◌<◌, ◌≤◌, ap, sym, ◌∙◌, arith}
use Rattle.std.proofs.lemmas.Bool.{cases_lt}
use Rattle.level_search.specs.Levels.{IsWide}
use Rattle.std.proofs.Math.Nat.{pow-suc, pow-le-pow_right, mul-le-mul_right}

pub power_next : (k n : ℕ) → k ^ (n + 1) ≡ k ^ n * k
power_next k n = let one : n + 1 ≡ suc n = omega arith in ap (λ (i : ℕ). k ^ i) one ∙ pow-suc k n

pub small_product : (w k : ℕ) → w ≤ 32768 → k ≤ 60 → w * k ≤ 1966080
small_product w k h g =
    let a : w * k ≤ 32768 * k = mul-le-mul_right {m = w} {n = 32768} k h in
    omega arith

-- a shorter length that is too wide makes a longer one too wide
pub wide_from : (k i n w : ℕ) → 1 ≤ k → w ≡ k ^ i → i < n → 32768 < w * k → 32768 < k ^ n
wide_from k i n w pos e l h =
    let up : k ^ (i + 1) ≤ k ^ n =
    pow-le-pow_right {n = k} (omega arith) {i = i + 1} {j = n} (omega arith) in
    let same : w * k ≡ k ^ (i + 1) = ap (λ (v : ℕ). v * k) e ∙ sym (power_next k i) in
    omega arith

pub not_wide : (w : ℕ) → ¬ IsWide w → w ≤ 32768
not_wide w n = elim (cases_lt 32768 w) [ inl l ↦ absurd (n l) | inr l ↦ l ]
