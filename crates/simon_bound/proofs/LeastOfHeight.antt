-- The least node of a height in a row.
use Rattle.std.proofs.Common.{◌≡◌, ◌≢◌, ℕ, ◌+◌, ◌<◌, ◌≤◌, ◌⊎◌, inl, inr, List, slice_index, min}
use Rattle.std.proofs.Common.{sym, ap, arith, ◌∙◌}
use Rattle.std.proofs.lemmas.Bool.{cases_lt, cases_eq}

-- the least of the first i nodes of a row that have the height h, or `size` where none has
pub record IsLeastSoFar (heights row : List ℕ) (size h i least : ℕ) : Type 0 where
  pub low : (k : ℕ) → k < i → slice_index heights (slice_index row k) ≡ h
      → least ≤ slice_index row k
  pub among : (least ≡ size)
      ⊎ ((k : ℕ) × (k < i) × (slice_index row k ≡ least) × (slice_index heights least ≡ h))

pub least_next : (heights row : List ℕ) (size h i least after x : ℕ)
    → IsLeastSoFar heights row size h i least → x ≡ slice_index row i
    → ((slice_index heights x ≡ h) × (after ≡ min least x))
    ⊎ ((slice_index heights x ≢ h) × (after ≡ least))
    → IsLeastSoFar heights row size h (i + 1) after
least_next heights row size h i least after x m e (inr (o, f)) = record {
  low = λ k b g. low k g (cases_eq k i) b;
  among = among m.among;
}
  where
    low : (k : ℕ) → slice_index heights (slice_index row k) ≡ h → (k ≡ i) ⊎ (k ≢ i) → k < i + 1
        → after ≤ slice_index row k
    low k g (inl d) b =
        absurd (o (ap (λ (z : ℕ). slice_index heights z)
        (e ∙ sym (ap (λ (z : ℕ). slice_index row z) d)) ∙ g))
    low k g (inr d) b = omega (arith, f, m.low k (omega arith) g)

    among : (least ≡ size)
        ⊎ ((k : ℕ) × (k < i) × (slice_index row k ≡ least) × (slice_index heights least ≡ h))
        → (after ≡ size)
        ⊎ ((k : ℕ) × (k < i + 1) × (slice_index row k ≡ after) × (slice_index heights after ≡ h))
    among (inl d) = inl (f ∙ d)
    among (inr (k, b, d, g)) = inr (
      k,
      omega arith,
      d ∙ sym f,
      ap (λ (z : ℕ). slice_index heights z) f ∙ g,
    )
least_next heights row size h i least after x m e (inl (g, f)) = record {
  low = λ k b d. low k d (cases_eq k i) b;
  among = among (cases_lt least x) m.among;
}
  where
    low : (k : ℕ) → slice_index heights (slice_index row k) ≡ h → (k ≡ i) ⊎ (k ≢ i) → k < i + 1
        → after ≤ slice_index row k
    low k d (inl s) b = omega (arith, f, e, ap (λ (z : ℕ). slice_index row z) s)
    low k d (inr s) b = omega (arith, f, m.low k (omega arith) d)

    among : (least < x) ⊎ (x ≤ least)
        → (least ≡ size)
        ⊎ ((k : ℕ) × (k < i) × (slice_index row k ≡ least) × (slice_index heights least ≡ h))
        → (after ≡ size)
        ⊎ ((k : ℕ) × (k < i + 1) × (slice_index row k ≡ after) × (slice_index heights after ≡ h))
    among (inl l) (inl d) = inl (omega arith)
    among (inl l) (inr (k, b, d, q)) =
        let same : after ≡ least = omega arith in
        inr (k, omega arith, d ∙ sym same, ap (λ (z : ℕ). slice_index heights z) same ∙ q)
    among (inr l) d =
        let same : after ≡ x = omega arith in
        inr (i, omega arith, sym e ∙ sym same, ap (λ (z : ℕ). slice_index heights z) same ∙ g)
