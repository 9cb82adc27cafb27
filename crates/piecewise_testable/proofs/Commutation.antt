-- Elements commute where letters do.
use Rattle.std.proofs.Common.{◌↔◌, ℕ, ◌<◌, List, [], ◌∷◌, ◌++◌, sym, subst, append_assoc, append-nil}
use Rattle.language_theory.specs.Words.{Over}
use Rattle.language_theory.specs.Congruence.{IsCongruence}
use Rattle.language_theory.proofs.Shortlex.{over_append}
use Rattle.piecewise_testable.specs.Commuting.{IsCommutative, Commute}

-- letters below k commute with all letters below k
pub record DoLettersCommute (k : ℕ) (same : List ℕ → List ℕ → Type 0) : Type 0 where
  pub each : (a b : ℕ) → a < k → b < k → Commute same a b

module _ (k : ℕ) (same : List ℕ → List ℕ → Type 0) (q : IsCongruence k same) where
  -- a letter that commutes with each letter commutes with each word
  letter_commutes : DoLettersCommute k same → (a : ℕ) (t : List ℕ) → a < k → Over k t
      → same (a ∷ t) (t ++ a ∷ [])
  letter_commutes h a [] la ot = q.equivalence.refl (a ∷ []) (la, tt)
  letter_commutes h a (b ∷ t) la ot =
      let ota = over_append k t (a ∷ []) ot.1 (la, tt) in
      q.equivalence.trans (a ∷ b ∷ t) (b ∷ a ∷ t) (b ∷ (t ++ a ∷ [])) (la, ot) (ot.0, (la, ot.1))
      (ot.0, ota)
      (q.right (a ∷ b ∷ []) (b ∷ a ∷ []) t (la, (ot.0, tt)) (ot.0, (la, tt)) ot.1
      (h.each a b la ot.0))
      (q.left (a ∷ t) (t ++ a ∷ []) (b ∷ []) (la, ot.1) ota (ot.0, tt)
      (letter_commutes h a t la ot.1))

  words_commute : DoLettersCommute k same → (s t : List ℕ) → Over k s → Over k t
      → same (s ++ t) (t ++ s)
  words_commute h [] t os ot =
      subst (same t) (sym (append-nil t)) (q.equivalence.refl t ot)
  words_commute h (a ∷ s) t os ot =
      let ost = over_append k s t os.1 ot in
      let ots = over_append k t s ot os.1 in
      let ota = over_append k t (a ∷ []) ot (os.0, tt) in
      let inner : same (a ∷ (s ++ t)) (a ∷ (t ++ s)) =
      q.left (s ++ t) (t ++ s) (a ∷ []) ost ots (os.0, tt) (words_commute h s t os.1 ot) in
      let outer : same (a ∷ (t ++ s)) (t ++ a ∷ s) =
      subst (same (a ∷ (t ++ s))) (append_assoc t (a ∷ []) s)
      (q.right (a ∷ t) (t ++ a ∷ []) s (os.0, ot) ota os.1 (letter_commutes h a t os.0 ot)) in
      q.equivalence.trans (a ∷ (s ++ t)) (a ∷ (t ++ s)) (t ++ a ∷ s) (os.0, ost) (os.0, ots)
      (over_append k t (a ∷ s) ot os) inner outer

  pub commutative_by_letters : IsCommutative k same
      ↔ ((a b : ℕ) → a < k → b < k → Commute same a b)
  commutative_by_letters = (
    λ h a b la lb. h.commute (a ∷ []) (b ∷ []) (la, tt) (lb, tt),
    λ f. record { commute = words_commute (record { each = f }) },
  )
