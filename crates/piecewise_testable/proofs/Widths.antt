-- Widths of levels.
use Rattle.std.proofs.Common.{◌≡◌, ℕ, zero, suc, ◌+◌, ◌-◌, ◌*◌, ◌≤◌, ap, arith}
use Rattle.std.proofs.Math.Nat.{le-mul_of_pos_right, mul-le-mul_right}
use Rattle.subword_theory.specs.SubwordRows.{width}

pub width_more : (k n : ℕ) → width k (n + 1) ≡ width k n * k + 1
width_more k n = ap (width k) (let e : n + 1 ≡ suc n = omega arith in e)

width_rises : (k n m : ℕ) → 1 ≤ k → width k n ≤ width k (m + n)
width_rises k n zero h =
    let e : width k n ≡ width k (0 + n) =
    ap (width k) (let f : n ≡ 0 + n = omega arith in f) in
    omega arith
width_rises k n (suc m) h =
    let i = width_rises k n m h in
    let j : width k (m + n) ≤ width k (m + n) * k =
    le-mul_of_pos_right {m = k} (width k (m + n)) (omega arith) in
    let e : width k (suc m + n) ≡ width k (m + n) * k + 1 =
    ap (width k) (let f : suc m + n ≡ suc (m + n) = omega arith in f) in
    omega arith

-- a level with more letters is not narrower
pub width_above : (k n m : ℕ) → 1 ≤ k → n ≤ m → width k n ≤ width k m
width_above k n m h l =
    let i = width_rises k n (m - n) h in
    let e : width k ((m - n) + n) ≡ width k m =
    ap (width k) (let f : (m - n) + n ≡ m = omega arith in f) in
    omega arith

pub small_product : (w k : ℕ) → w ≤ 32768 → k ≤ 60 → w * k ≤ 1966080
small_product w k h g =
    let a : w * k ≤ 32768 * k = mul-le-mul_right {m = w} {n = 32768} k h in
    omega arith
