-- An instance with one letter needs no new universe.
use Rattle.std.proofs.Common.{◌≡◌, ℕ, List, [], ◌∷◌, ◌++◌, ◌↔◌, sym, subst, ◌∙◌, ap, refl, inl, inr}
use Rattle.std.proofs.lemmas.Bool.Decides.{eqb_tells}
use Rattle.star_free_theory.specs.Construction.{without}
use Rattle.star_free_theory.specs.Instance.{Among, Instance, IsFit, Piece, Writes, joined}
use Rattle.star_free_theory.proofs.FiniteLists.{among_without}
use Rattle.star_free_theory.proofs.Fits.{first_fits}
use Rattle.star_free_theory.proofs.Parts.{Free, IsSpan, Opened, first}

module _ (I : Instance) (h : IsFit I) (c : ℕ) (c_in : Among I.letters c)
    (lone : without c I.letters ≡ []) where
  is_c : (a : ℕ) → Among I.letters a → a ≡ c
  is_c a i = elim (eqb_tells a c) [
    | inl k ↦ k.1
    | inr k ↦ absurd
        (subst (λ z. Among z a) lone (among_without c I.letters a i k.1))
  ]

  pub lone_free : (els : List ℕ) → IsSpan I.product I.identity I.image (without c I.letters) els
      → (w : List ℕ) → Free I.universe (I.language c) w ↔ (w ≡ [])
  lone_free els s w = (
    λ f. let r = ((first_fits I h c c_in els s).universe.covers w).0 f in
        sym r.2 ∙ none r.0 r.1,
    λ e. ((first_fits I h c c_in els s).universe.covers w).1
        ([], tt, sym e),
  )
    where
      none : (ps : List (ℕ × List ℕ)) → Writes (Piece (first I c els)) ps → joined ps ≡ []
      none [] i = refl
      none (p ∷ ps) i = absurd (subst (λ z. Among z p.0) lone i.0.0)

  pub lone_opened : (w : List ℕ) → Opened I.universe (I.language c) w ↔ I.universe w
  lone_opened w = (
    elim [
      | inl (x, u, i, j, e) ↦ let r = (h.universe.covers u).0 j in
          (h.universe.covers w).1 ((c, x) ∷ r.0, ((c_in, i), r.1), ap (λ z. x ++ z) r.2 ∙ e)
      | inr e ↦ (h.universe.covers w).1 ([], tt, sym e)
    ],
    λ u. let r = (h.universe.covers w).0 u in open_at r.0 r.1 r.2,
  )
    where
      open_at : (ps : List (ℕ × List ℕ)) → Writes (Piece I) ps → joined ps ≡ w
          → Opened I.universe (I.language c) w
      open_at [] i e = inr (sym e)
      open_at (p ∷ ps) i e
          = inl (
            p.1,
            joined ps,
            subst (λ z. I.language z p.1) (is_c p.0 i.0.0) i.0.1,
            (h.universe.covers (joined ps)).1 (ps, i.1, refl),
            e,
          )
