-- Searches for the first number with a property.
use Rattle.std.proofs.Common.{◌≡◌, ◌⊎◌, inl, inr, ℕ, ◌+◌, ◌<◌, ◌≤◌, subst, arith}
use Rattle.std.proofs.lemmas.Bool.{cases_lt}
use Rattle.piecewise_testable.specs.Sides.{IsLeastLetter}

-- no number below c has the property
pub record HasNone (P : ℕ → Type 0) (c : ℕ) : Type 0 where
  pub none : (a : ℕ) → a < c → ¬ P a

pub none_at_first : (P : ℕ → Type 0) → HasNone P 0
none_at_first P = record { none = λ a l. absurd (omega arith) }

pub none_so_far : (P : ℕ → Type 0) (c : ℕ) → HasNone P c → ¬ P c → HasNone P (c + 1)
none_so_far P c h n = record { none = λ a l. by a l (cases_lt a c) }
  where
    by : (a : ℕ) → a < c + 1 → (a < c) ⊎ (c ≤ a) → ¬ P a
    by a l (inl m) = h.none a m
    by a l (inr m) = subst (λ (b : ℕ). ¬ P b) (let e : c ≡ a = omega arith in e) n

-- no number below c has the property, and c is below n
pub record IsSought (n : ℕ) (P : ℕ → Type 0) (c : ℕ) : Type 0 where
  pub within : c < n
  pub before : HasNone P c

-- where some number below n has the property
module _ (n : ℕ) (P : ℕ → Type 0) (some : (a : ℕ) × (a < n) × P a) where
  sought : (c : ℕ) → HasNone P c → IsSought n P c
  sought c h = record {
    within = elim (cases_lt some.0 c) [
      | inl l ↦ absurd (h.none some.0 l some.2)
      | inr l ↦ (let m = some.1 in omega arith)
    ];
    before = h;
  }

  pub sought_at_first : IsSought n P 0
  sought_at_first = sought 0 (none_at_first P)

  pub sought_further : (c : ℕ) → IsSought n P c → ¬ P c → IsSought n P (c + 1)
  sought_further c h f = sought (c + 1) (none_so_far P c h.before f)

pub least_letter : (k : ℕ) (P : ℕ → Type 0) (a : ℕ) → a < k → P a → HasNone P a
    → IsLeastLetter k P a
least_letter k P a l p h = record { within = l; holds = p; first = h.none }
