-- Monoids of numbers, and their local divisors (Diekert and Kufleitner: the local divisor at an
-- element). The elements are the numbers for which `In` holds.
use Rattle.std.specs.Prelude.{◌≡◌, ◌⊎◌, ℕ, zero, suc}

pub record IsMonoid (In : ℕ → Type 0) (mul : ℕ → ℕ → ℕ) (one : ℕ) : Type 0 where
  pub one_in : In one
  pub mul_in : (x y : ℕ) → In x → In y → In (mul x y)
  pub assoc : (x y z : ℕ) → In x → In y → In z → mul (mul x y) z ≡ mul x (mul y z)
  pub left : (x : ℕ) → In x → mul one x ≡ x
  pub right : (x : ℕ) → In x → mul x one ≡ x

-- x multiplied n times
abbrev pub power_of : (ℕ → ℕ → ℕ) → ℕ → ℕ → ℕ → ℕ
power_of mul one x zero = one
power_of mul one x (suc n) = mul x (power_of mul one x n)

-- the powers of each element settle
pub record HasSettlingPowers (In : ℕ → Type 0) (mul : ℕ → ℕ → ℕ) (one : ℕ) : Type 0 where
  pub settles : (x : ℕ) → In x
      → (n : ℕ) × (power_of mul one x (suc n) ≡ power_of mul one x n)

-- the elements of the local divisor at m: m itself, and all m s m
abbrev pub InLocal : (ℕ → Type 0) → (ℕ → ℕ → ℕ) → ℕ → ℕ → Type 0
InLocal In mul m a = (a ≡ m) ⊎ ((s : ℕ) × In s × (a ≡ mul (mul m s) m))

-- the local product of x m and m y is x m y
pub record IsLocal (In : ℕ → Type 0) (mul : ℕ → ℕ → ℕ) (m : ℕ) (loc : ℕ → ℕ → ℕ) : Type 0 where
  pub joins : (x y : ℕ) → In x → In y → loc (mul x m) (mul m y) ≡ mul (mul x m) y
