-- The way down, one class more.
use Rattle.std.proofs.Common.{◌≡◌, ℕ, ◌+◌, ◌-◌, ◌<◌, ◌≤◌, ◌⊎◌, inl, inr}
use Rattle.std.proofs.Common.{List, [], ◌∷◌, ◌++◌, length}
use Rattle.std.proofs.Common.{slice_index, sym, ap, subst, arith, ◌∙◌}
use Rattle.std.proofs.lemmas.List.{get_or_append_left, length-append, get_or_push}
use Rattle.std.proofs.lemmas.Bool.{cases_lt}
use Rattle.simon_bound.specs.Steps.{row_at}
use Rattle.simon_bound.specs.Heights.{Leads, IsAcyclic, AreHeights, IsDescent, IsLeastOf}
use Rattle.simon_bound.proofs.Finishing.{row_leads, row_within, leads_in_row}

module _ (n : ℕ) (starts nodes heights : List ℕ) (a : IsAcyclic n starts nodes)
    (h : AreHeights n starts nodes heights) where
  -- a node whose height is not 1 has one of the next height below it in its row
  pub next_in_row : (c g : ℕ) → c < n → 1 < slice_index heights c
      → slice_index heights c ≡ g + 1 → (k : ℕ) × (k < length (row_at starts nodes c))
      × (slice_index heights (slice_index (row_at starts nodes c) k) ≡ g)
  next_in_row c g b p e =
      let (t, l, f) = h.next c b p in
      let (k, i, q) = leads_in_row n starts nodes a c b t l in
      (k, i, omega (arith, e, f, ap (λ (z : ℕ). slice_index heights z) q))

  pub descent_next : (path : List ℕ) (c g t : ℕ) → IsDescent n starts nodes heights path
      → slice_index path (length path - 1) ≡ c → slice_index heights c ≡ g + 1
      → IsLeastOf heights (row_at starts nodes c) (length (row_at starts nodes c)) g t
      → IsDescent n starts nodes heights (path ++ t ∷ [])
  descent_next path c g t d e f m = record {
    some = omega (arith, long);
    first = old 0 d.some ∙ d.first;
    within = λ i b. elim (cases_lt i (length path)) [
      | inl l ↦ omega (arith, old i l, d.within i l)
      | inr q ↦ omega (arith, new i (omega (arith, long)), t_within)
    ];
    height = λ i b. elim (cases_lt i (length path)) [
      | inl l ↦ omega (arith, d.height i l, ap (λ (z : ℕ). slice_index heights z) (old i l))
      | inr q ↦ let same : i ≡ length path - 1 + 1 = omega (arith, long, d.some) in
          omega (
            arith,
            same,
            ap (λ (z : ℕ). slice_index heights z) (new i (omega (arith, long))),
            m.height,
            f,
            ap (λ (z : ℕ). slice_index heights z) e,
            d.height (length path - 1) last,
          )
    ];
    leads = λ i b. leads i b (cases_lt (i + 1) (length path));
    least = λ i u b l q. least i u b l q (cases_lt (i + 1) (length path));
  }
    where
      last : length path - 1 < length path
      last = omega (arith, d.some)

      c_within : c < n
      c_within = subst (λ (z : ℕ). z < n) e (d.within (length path - 1) last)

      long : length (path ++ t ∷ []) ≡ length path + 1
      long = length-append path (t ∷ [])

      old : (i : ℕ) → i < length path → slice_index (path ++ t ∷ []) i ≡ slice_index path i
      old i b = get_or_append_left path (t ∷ []) 0 i b

      new : (i : ℕ) → length path ≡ i → slice_index (path ++ t ∷ []) i ≡ t
      new i q = get_or_push path t 0 i q

      t_within : t < n
      t_within = subst (λ (z : ℕ). z < n) m.at
          (row_within n starts nodes a c c_within m.place m.within)

      t_below : Leads starts nodes c t
      t_below = subst (λ (z : ℕ). Leads starts nodes c z) m.at
          (row_leads n starts nodes a c c_within m.place m.within)

      -- the last node but one is c
      under : (i : ℕ) → i + 1 < length (path ++ t ∷ []) → length path ≤ i + 1
          → slice_index (path ++ t ∷ []) i ≡ c
      under i b q =
          let same : i ≡ length path - 1 = omega (arith, long) in
          old i (omega (arith, long)) ∙ (ap (λ (z : ℕ). slice_index path z) same ∙ e)

      leads : (i : ℕ) → i + 1 < length (path ++ t ∷ [])
          → (i + 1 < length path) ⊎ (length path ≤ i + 1)
          → Leads starts nodes (slice_index (path ++ t ∷ []) i)
          (slice_index (path ++ t ∷ []) (i + 1))
      leads i b (inl l) =
          subst (λ (z : ℕ). Leads starts nodes z (slice_index (path ++ t ∷ []) (i + 1)))
          (sym (old i (omega arith)))
          (subst (λ (z : ℕ). Leads starts nodes (slice_index path i) z) (sym (old (i + 1) l))
          (d.leads i l))
      leads i b (inr q) =
          subst (λ (z : ℕ). Leads starts nodes z (slice_index (path ++ t ∷ []) (i + 1)))
          (sym (under i b q)) (subst (λ (z : ℕ). Leads starts nodes c z)
          (sym (new (i + 1) (omega (arith, long)))) t_below)

      least : (i u : ℕ) → i + 1 < length (path ++ t ∷ [])
          → Leads starts nodes (slice_index (path ++ t ∷ []) i) u
          → slice_index heights u + (i + 1) ≡ slice_index heights 0
          → (i + 1 < length path) ⊎ (length path ≤ i + 1)
          → slice_index (path ++ t ∷ []) (i + 1) ≤ u
      least i u b l q (inl s) =
          omega (
            arith,
            old (i + 1) s,
            d.least i u s
                (subst (λ (z : ℕ). Leads starts nodes z u) (old i (omega arith)) l) q,
          )
      least i u b l q (inr s) =
          let low : Leads starts nodes c u =
          subst (λ (z : ℕ). Leads starts nodes z u) (under i b s) l in
          let (k, r, y) = leads_in_row n starts nodes a c c_within u low in
          let same : i ≡ length path - 1 = omega (arith, long) in
          let tall : slice_index heights u ≡ g =
          omega (
            arith,
            q,
            same,
            f,
            ap (λ (z : ℕ). slice_index heights z) e,
            d.height (length path - 1) last,
          ) in
          omega (
            arith,
            new (i + 1) (omega (arith, long)),
            y,
            m.least k r (ap (λ (z : ℕ). slice_index heights z) y ∙ tall),
          )
