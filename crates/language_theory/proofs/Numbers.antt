-- Facts on numbers and tests: the pigeonhole principle, and the least number with a property that
-- can be tested.
use Rattle.std.proofs.Common.{◌≡◌, ◌≢◌, ℕ, zero, suc, ◌<◌, ◌≤◌, ◌⊎◌, inl, inr, cond, eqb, refl, sym, subst, ◌∙◌, arith, Bool, true, false, IsTrue}
use Rattle.std.proofs.lemmas.Bool.Decides.{eqb_tells}
use Rattle.std.proofs.lemmas.Bool.{cases_lt, both_ways}

pub true_or_not : (b : Bool) → IsTrue b ⊎ ¬ IsTrue b
true_or_not true = inl refl
true_or_not false = inr (λ e. both_ways false refl e)

pub equal_or_not : (a b : ℕ) → (a ≡ b) ⊎ (a ≢ b)
equal_or_not a b = elim (eqb_tells a b) [ inl h ↦ inl h.1 | inr h ↦ inr h.1 ]

-- f, but where it gives m it gives its value at `last`
abbrev avoiding : (ℕ → ℕ) → ℕ → ℕ → ℕ → ℕ
avoiding f m last i = cond (eqb (f i) m) (f last) (f i)

avoids : (f : ℕ → ℕ) (m last i : ℕ) → ((f i ≡ m) × (avoiding f m last i ≡ f last))
    ⊎ ((f i ≢ m) × (avoiding f m last i ≡ f i))
avoids f m last i = elim (eqb_tells (f i) m) [
  | inl h ↦ inl (h.1, rw h.0 refl)
  | inr h ↦ inr (h.1, rw h.0 refl)
]

-- n numbers below m, no two of them equal: n is at most m
pub pigeonhole : (n m : ℕ) (f : ℕ → ℕ) → ((i : ℕ) → i < n → f i < m)
    → ((i j : ℕ) → i < j → j < n → f i ≢ f j) → n ≤ m
pigeonhole zero m f into apart = omega arith
pigeonhole (suc n) zero f into apart = absurd (omega (arith, into n (omega arith)))
pigeonhole (suc n) (suc m) f into apart = omega (arith, pigeonhole n m (avoiding f m n) below other)
  where
    below : (i : ℕ) → i < n → avoiding f m n i < m
    below i h =
        let a = into i (omega arith) in
        let b = into n (omega arith) in
        let c : f i ≢ f n = apart i n h (omega arith) in
        elim (avoids f m n i) [ inl w ↦ omega (arith, w.0, w.1) | inr w ↦ omega (arith, w.0, w.1) ]

    other : (i j : ℕ) → i < j → j < n → avoiding f m n i ≢ avoiding f m n j
    other i j h g e = elim (avoids f m n i) [
      | inl v ↦ elim (avoids f m n j) [
        | inl w ↦ apart i j h (omega arith) (v.0 ∙ sym w.0)
        | inr w ↦ apart j n g (omega arith) (sym w.1 ∙ (sym e ∙ v.1))
      ]
      | inr v ↦ elim (avoids f m n j) [
        | inl w ↦ apart i n (omega arith) (omega arith) (sym v.1 ∙ (e ∙ w.1))
        | inr w ↦ apart i j h (omega arith) (sym v.1 ∙ (e ∙ w.1))
      ]
    ]

-- below n, none has the property or there is a least one
pub least_or_none : (P : ℕ → Type 0) → ((i : ℕ) → P i ⊎ ¬ P i) → (n : ℕ)
    → ((i : ℕ) × (i < n) × P i × ((j : ℕ) → j < i → ¬ P j)) ⊎ ((i : ℕ) → i < n → ¬ P i)
least_or_none P tell zero = inr (λ i h. absurd (omega arith))
least_or_none P tell (suc n) = elim (least_or_none P tell n) [
  | inl (i, h, p, f) ↦ inl (i, omega arith, p, f)
  | inr none ↦ elim (tell n) [
    | inl p ↦ inl (n, omega arith, p, none)
    | inr q ↦ inr (λ i h. elim (cases_lt i n) [
      | inl l ↦ none i l
      | inr l ↦ (let e : n ≡ i = omega arith in
          subst (λ (x : ℕ). ¬ P x) e q)
    ])
  ]
]

-- a number with a property that can be tested: there is a least one
pub least_number : (P : ℕ → Type 0) → ((i : ℕ) → P i ⊎ ¬ P i) → (n : ℕ) → P n → (i : ℕ) × (i ≤ n)
    × P i × ((j : ℕ) → j < i → ¬ P j)
least_number P tell n p = elim (least_or_none P tell n) [
  | inl (i, h, q, f) ↦ (i, omega arith, q, f)
  | inr none ↦ (n, omega arith, p, none)
]
