-- Lists of just the numbers that have a property.
use Rattle.std.proofs.Common.{◌≡◌, ◌↔◌, ℕ, ◌+◌, ◌<◌, ◌⊎◌, inl, inr, List, [], ◌∷◌, ◌++◌, length}
use Rattle.std.proofs.Common.{slice_index, refl, sym, subst, arith, ◌∙◌, length-append}
use Rattle.std.proofs.lemmas.Bool.{cases_lt}
use Rattle.std.proofs.lemmas.List.{get_or_append_left, get_or_push}
use Rattle.green_relations.specs.EggBoxes.{AreJust}

pub below_or_last : (i n : ℕ) → i < n + 1 → (i < n) ⊎ (n ≡ i)
below_or_last i n h = elim (cases_lt i n) [ inl l ↦ inl l | inr l ↦ inr (omega arith) ]

-- places of a rising list are one where their numbers are
pub just_one : {n : ℕ} {has : ℕ → Type 0} {xs : List ℕ} (k m : ℕ) → AreJust n has xs
    → k < length xs → m < length xs → slice_index xs k ≡ slice_index xs m → k ≡ m
just_one k m h hk hm e = elim (cases_lt k m) [
  | inl l ↦ (absurd (omega (arith, h.rise k m l hm, e)))
  | inr l ↦ (elim (cases_lt m k) [
    | inl g ↦ (absurd (omega (arith, h.rise m k g hk, e)))
    | inr g ↦ omega arith
  ])
]

-- the same list has just the numbers with an equivalent property
pub just_same : {has also : ℕ → Type 0} (n : ℕ) (xs : List ℕ)
    → ((i : ℕ) → i < n → has i ↔ also i) → AreJust n has xs → AreJust n also xs
just_same n xs same h = record {
  within = h.within;
  rise = h.rise;
  each = λ k hk. (same (slice_index xs k) (h.within k hk)).0 (h.each k hk);
  all = λ i hi a. h.all i hi ((same i hi).1 a);
}

-- one number more, which has the property
pub just_more : (has : ℕ → Type 0) (n : ℕ) (xs : List ℕ) → has n → AreJust n has xs
    → AreJust (n + 1) has (xs ++ n ∷ [])
just_more has n xs a h = record {
  within = λ k hk. within k (split k hk);
  rise = λ k m l hm. rise k m l (split m hm);
  each = λ k hk. each k (split k hk);
  all = λ i hi b. all i b (below_or_last i n hi);
}
  where
    longer : length (xs ++ n ∷ []) ≡ length xs + 1
    longer = simp length-append

    split : (k : ℕ) → k < length (xs ++ n ∷ []) → (k < length xs) ⊎ (length xs ≡ k)
    split k hk = below_or_last k (length xs) (omega (arith, longer, hk))

    old : (k : ℕ) → k < length xs → slice_index (xs ++ n ∷ []) k ≡ slice_index xs k
    old k hk = get_or_append_left xs (n ∷ []) 0 k hk

    new : (k : ℕ) → length xs ≡ k → slice_index (xs ++ n ∷ []) k ≡ n
    new k e = get_or_push xs n 0 k e

    within : (k : ℕ) → (k < length xs) ⊎ (length xs ≡ k) → slice_index (xs ++ n ∷ []) k < n + 1
    within k (inl l) = omega (arith, old k l, h.within k l)
    within k (inr e) = omega (arith, new k e)

    rise : (k m : ℕ) → k < m → (m < length xs) ⊎ (length xs ≡ m)
        → slice_index (xs ++ n ∷ []) k < slice_index (xs ++ n ∷ []) m
    rise k m l (inl g) =
        let hk : k < length xs = omega arith in omega (arith, old k hk, old m g, h.rise k m l g)
    rise k m l (inr e) =
        let hk : k < length xs = omega arith in omega (arith, old k hk, new m e, h.within k hk)

    each : (k : ℕ) → (k < length xs) ⊎ (length xs ≡ k) → has (slice_index (xs ++ n ∷ []) k)
    each k (inl l) = subst has (sym (old k l)) (h.each k l)
    each k (inr e) = subst has (sym (new k e)) a

    all : (i : ℕ) → has i → (i < n) ⊎ (n ≡ i)
        → (k : ℕ) × (k < length (xs ++ n ∷ [])) × (slice_index (xs ++ n ∷ []) k ≡ i)
    all i b (inl l) = let (k, hk, e) = h.all i l b in (k, omega (arith, longer), old k hk ∙ e)
    all i b (inr e) = (length xs, omega (arith, longer), new (length xs) refl ∙ e)

-- one number more, which has it not
pub just_not_more : (has : ℕ → Type 0) (n : ℕ) (xs : List ℕ) → ¬ has n → AreJust n has xs
    → AreJust (n + 1) has xs
just_not_more has n xs a h = record {
  within = λ k hk. omega (arith, h.within k hk);
  rise = h.rise;
  each = h.each;
  all = λ i hi b. all i b (below_or_last i n hi);
}
  where
    all : (i : ℕ) → has i → (i < n) ⊎ (n ≡ i)
        → (k : ℕ) × (k < length xs) × (slice_index xs k ≡ i)
    all i b (inl l) = h.all i l b
    all i b (inr e) = absurd (a (subst has (sym e) b))
