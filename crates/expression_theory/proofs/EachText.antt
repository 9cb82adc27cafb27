-- Each text is accepted or has a first fault.
use Rattle.std.proofs.Common.{◌≡◌, ℕ, zero, suc, ◌<◌, ◌≤◌, Bool, true, false, ◌⊎◌, inl, inr, Option, Some, None, List, length, refl, sym, subst, ◌∙◌, arith}
use Rattle.std.proofs.lemmas.Bool.{cases_lt}
use Rattle.expression_theory.specs.Scan.{Class, FaultKind, Unexpected, due_from, depth, failing_at, EndsWell, IsAccepted, IsFault}

-- no test fails before n
abbrev Passes : List Class → ℕ → Type 0
Passes cs n = (i : ℕ) → i < n → failing_at cs i ≡ None

-- the first test that fails before n
abbrev FailsBefore : List Class → ℕ → Type 0
FailsBefore cs n = (kind : FaultKind) × (at : ℕ) × (at < n) × Passes cs at
    × (failing_at cs at ≡ Some kind)

one_more : (cs : List Class) (n : ℕ) → Passes cs n → failing_at cs n ≡ None → Passes cs (suc n)
one_more cs n h e i l = by (cases_lt i n)
  where
    by : (i < n) ⊎ (n ≤ i) → failing_at cs i ≡ None
    by (inl k) = h i k
    by (inr k) = let f : n ≡ i = omega arith in subst (λ i. failing_at cs i ≡ None) f e

first_before : (cs : List Class) (n : ℕ) → Passes cs n ⊎ FailsBefore cs n
first_before cs zero = inl (λ i h. absurd (omega arith))
first_before cs (suc n) = by (first_before cs n) (failing_at cs n) refl
  where
    by : Passes cs n ⊎ FailsBefore cs n → (o : Option FaultKind) → failing_at cs n ≡ o
        → Passes cs (suc n) ⊎ FailsBefore cs (suc n)
    by (inr (kind, at, l, h, e)) o f = inr (kind, at, omega arith, h, e)
    by (inl h) None f = inl (one_more cs n h f)
    by (inl h) (Some kind) f = inr (kind, n, omega arith, h, f)

ends_or_not : (cs : List Class) → EndsWell cs ⊎ (EndsWell cs → ⊥)
ends_or_not cs = by (due_from true cs) refl (depth cs) refl
  where
    by : (d : Bool) → due_from true cs ≡ d → (o : ℕ) → depth cs ≡ o → EndsWell cs
        ⊎ (EndsWell cs → ⊥)
    by false e zero f = inl (e, f)
    by false e (suc o) f = inr (λ h. let g = h.1 in absurd (omega arith))
    by true e o f = inr (λ h. absurd (let g : true ≡ false = sym e ∙ h.0 in cc))

-- accepted, or a first fault
pub accepted_or_fault : (cs : List Class) → IsAccepted cs
    ⊎ ((kind : FaultKind) × (at : ℕ) × IsFault cs kind at)
accepted_or_fault cs = by (first_before cs (length cs)) (ends_or_not cs)
  where
    by : Passes cs (length cs) ⊎ FailsBefore cs (length cs) → EndsWell cs ⊎ (EndsWell cs → ⊥)
        → IsAccepted cs ⊎ ((kind : FaultKind) × (at : ℕ) × IsFault cs kind at)
    by (inr (kind, at, l, h, e)) k = inr (kind, at, record { before = h; here = inl (l, e) })
    by (inl h) (inl k) = inl (record { clear = h; ends = k })
    by (inl h) (inr k) =
        inr (Unexpected, length cs, record { before = h; here = inr (refl, refl, k) })
