-- The pairs of elements with a product.
use Rattle.std.proofs.Common.{◌≡◌, ℕ, List, [], ◌∷◌, ◌++◌, ◌↔◌, sym, subst, ◌∙◌, ap, refl, ◌⊎◌, inl}
use Rattle.std.proofs.Common.{inr}
use Rattle.std.proofs.lemmas.Bool.Decides.{eqb_tells}
use Rattle.star_free_theory.specs.Construction.{pairs, row}
use Rattle.star_free_theory.specs.Instance.{Among}
use Rattle.star_free_theory.specs.StarFree.{Concat}

abbrev pub AmongPairs : List (ℕ × ℕ) → ℕ → ℕ → Type 0
AmongPairs [] r t = ⊥
AmongPairs (p ∷ ps) r t = ((r ≡ p.0) × (t ≡ p.1)) ⊎ AmongPairs ps r t

pairs_append : (ps qs : List (ℕ × ℕ)) (r t : ℕ) → AmongPairs (ps ++ qs) r t ↔ AmongPairs ps r t
    ⊎ AmongPairs qs r t
pairs_append [] qs r t = (λ i. inr i, elim [ inl i ↦ absurd i | inr i ↦ i ])
pairs_append (p ∷ ps) qs r t =
    let f = pairs_append ps qs r t in (
      elim [ inl e ↦ inl (inl e) | inr i ↦ elim (f.0 i) [ inl j ↦ inl (inr j) | inr j ↦ inr j ] ],
      elim [
        | inl i ↦ elim i [ inl e ↦ inl e | inr j ↦ inr (f.1 (inl j)) ]
        | inr j ↦ inr
            (f.1 (inr j))
      ],
    )

row_pairs : (mul : ℕ → ℕ → ℕ) (r : ℕ) (ts : List ℕ) (u s t : ℕ) → AmongPairs (row mul r ts u) s t
    → (s ≡ r) × Among ts t × (mul s t ≡ u)
row_pairs mul r [] u s t i = elim i [ ]
row_pairs mul r (z ∷ ts) u s t i = elim (eqb_tells (mul r z) u) [
  | inl k ↦ elim (rw k.0 at i) [
    | inl e ↦ (e.0, inl e.1, ap (λ x. mul x t) e.0 ∙ ap (mul r) e.1 ∙ k.1)
    | inr j ↦ let q = row_pairs mul r ts u s t j in (q.0, inr q.1, q.2)
  ]
  | inr k ↦ let q = row_pairs mul r ts u s t (rw k.0 at i) in (q.0, inr q.1, q.2)
]

pairs_row : (mul : ℕ → ℕ → ℕ) (r : ℕ) (ts : List ℕ) (u t : ℕ) → Among ts t → mul r t ≡ u
    → AmongPairs (row mul r ts u) r t
pairs_row mul r [] u t i e = elim i [ ]
pairs_row mul r (z ∷ ts) u t i e = elim (eqb_tells (mul r z) u) [
  | inl k ↦ rw k.0 (elim i [ inl f ↦ inl (refl, f) | inr j ↦ inr (pairs_row mul r ts u t j e) ])
  | inr k ↦ rw k.0 (elim i
      [ inl f ↦ absurd (k.1 (ap (mul r) (sym f) ∙ e)) | inr j ↦ pairs_row mul r ts u t j e ])
]

pub pairs_among : (mul : ℕ → ℕ → ℕ) (rs ts : List ℕ) (u r t : ℕ)
    → AmongPairs (pairs mul rs ts u) r t ↔ Among rs r × Among ts t × (mul r t ≡ u)
pairs_among mul [] ts u r t = (λ i. absurd i, λ i. absurd i.0)
pairs_among mul (z ∷ rs) ts u r t =
    let f = pairs_append (row mul z ts u) (pairs mul rs ts u) r t in
    let g = pairs_among mul rs ts u r t in (
      λ i. elim (f.0 i) [
        | inl j ↦ let q = row_pairs mul z ts u r t j in
            (inl q.0, q.1, q.2)
        | inr j ↦ let q = g.0 j in (inr q.0, q.1, q.2)
      ],
      λ (i, j, e). elim i [
        | inl d ↦ f.1
            (inl (subst (λ x. AmongPairs (row mul z ts u) x t) (sym d)
            (pairs_row mul z ts u t j (ap (λ x. mul x t) (sym d) ∙ e))))
        | inr l ↦ f.1
            (inr (g.1 (l, j, e)))
      ],
    )

-- a word of some pair's two languages
abbrev pub AnyPair : (F G : ℕ → List ℕ → Type 0) → List (ℕ × ℕ) → List ℕ → Type 0
AnyPair F G ps w = (r t : ℕ) × AmongPairs ps r t × Concat (F r) (G t) w
