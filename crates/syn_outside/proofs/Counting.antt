-- How many numbers of a list are below a bound.
use Rattle.std.proofs.Common.{◌≡◌, ℕ, ◌+◌, ◌<◌, ◌≤◌, ◌==◌, nat_lt, true, cond, List, [], ◌∷◌, count_by, arith, ◌⊎◌, inl, inr, refl}
use Rattle.std.specs.List.{list_any, All}
use Rattle.std.proofs.lemmas.List.Sums.{sum_by-cons}
use Rattle.std.proofs.lemmas.List.Elements.{All-head, All-tail}
use Rattle.std.proofs.lemmas.Bool.Decides.{nat_tests}
use Rattle.std.proofs.lemmas.Bool.{eqb-true}

-- how many of the numbers are below the bound
abbrev pub below : ℕ → List ℕ → ℕ
below n xs = count_by (λ k. nat_lt k n) xs

-- the first number counts where it is below the bound
pub below-cons : (n x : ℕ) (xs : List ℕ) → below n (x ∷ xs) ≡ cond (nat_lt x n) 1 0 + below n xs
below-cons n x xs = sum_by-cons (λ k. cond (nat_lt k n) 1 0) x xs

-- one number counts no less below a greater bound
pub one_below_le : (n m x : ℕ) → n ≤ m → cond (nat_lt x n) 1 0 ≤ cond (nat_lt x m) 1 0
one_below_le n m x h = grind (arith, nat_tests)

-- the bound itself counts below a greater bound alone
pub one_below_more : (n m x : ℕ) → n < m → (x == n) ≡ true
    → cond (nat_lt x n) 1 0 + 1 ≤ cond (nat_lt x m) 1 0
one_below_more n m x h e = grind (arith, nat_tests)

-- no fewer numbers are below a greater bound
pub below_le : (n m : ℕ) (xs : List ℕ) → n ≤ m → below n xs ≤ below m xs
below_le n m [] h = omega arith
below_le n m (x ∷ xs) h =
    omega (arith, below-cons n x xs, below-cons m x xs, one_below_le n m x h, below_le n m xs h)

-- either the first number is the one that was sought, or another is
any_cases : (n x : ℕ) (xs : List ℕ) → list_any (λ k. k == n) (x ∷ xs) ≡ true → ((x == n) ≡ true)
    ⊎ (list_any (λ k. k == n) xs ≡ true)
any_cases n x xs h = grind arith

-- more numbers are below a greater bound, where the bound itself is among them
pub below_more : (n m : ℕ) (xs : List ℕ) → n < m → list_any (λ k. k == n) xs ≡ true
    → below n xs + 1 ≤ below m xs
below_more n m [] h any = cc
below_more n m (x ∷ xs) h any =
    elim (any_cases n x xs any) [
      | inl here ↦ let rest : below n xs ≤ below m xs = below_le n m xs (omega arith) in
          omega (arith, below-cons n x xs, below-cons m x xs, one_below_more n m x h here, rest)
      | inr there ↦ omega (
        arith,
        below-cons n x xs,
        below-cons m x xs,
        one_below_le n m x (omega arith),
        below_more n m xs h there,
      )
    ]

-- a number that is among numbers below a bound is below it
pub any_within : (n m : ℕ) (xs : List ℕ) → All (λ k. k < m) xs → list_any (λ k. k == n) xs ≡ true
    → n < m
any_within n m [] all any = cc
any_within n m (x ∷ xs) all any =
    elim (any_cases n x xs any) [
      | inl here ↦ let first : x < m = All-head (λ k. k < m) x xs all in let same : x ≡ n =
          eqb-true x n here in omega arith
      | inr there ↦ any_within n m xs (All-tail (λ k. k < m) x xs all) there
    ]

-- a number is not below 0
pub none_below_zero : (x : ℕ) → cond (nat_lt x 0) 1 0 ≤ 0
none_below_zero x = grind (arith, nat_tests)

-- no number is below 0
pub below_zero : (xs : List ℕ) → below 0 xs ≡ 0
below_zero [] = refl
below_zero (x ∷ xs) = omega (arith, below-cons 0 x xs, none_below_zero x, below_zero xs)
