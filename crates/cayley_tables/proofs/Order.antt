-- Words that are not smaller than others, and what stays so.
use Rattle.std.proofs.Common.{ℕ, ◌≤◌, inl, inr, List, [], ◌∷◌, ◌++◌, length, sym, subst, ◌∙◌}
use Rattle.std.proofs.lemmas.Bool.{cases_lt}
use Rattle.language_theory.specs.Words.{◌⊏◌}
use Rattle.language_theory.proofs.Shortlex.{shortlex_trichotomy, shortlex_trans, shortlex_irrefl, shortlex_asymm, shortlex_append_letters, shortlex_shorter, shortlex_before}

-- a letter behind both words changes nothing
pub not_smaller_with_letters : (u v : List ℕ) (c : ℕ) → ¬ (u ⊏ v)
    → ¬ ((u ++ c ∷ []) ⊏ (v ++ c ∷ []))
not_smaller_with_letters u v c n h = elim (shortlex_trichotomy u v) [
  | inl l ↦ n l
  | inr (inl e) ↦ shortlex_irrefl (v ++ c ∷ [])
      (subst (λ (w : List ℕ). (w ++ c ∷ []) ⊏ (v ++ c ∷ [])) e h)
  | inr (inr l) ↦ shortlex_asymm (v ++ c ∷ []) (u ++ c ∷ []) (shortlex_append_letters v u c c l) h
]

-- a word that is not smaller is not shorter
pub not_longer : (u v : List ℕ) → ¬ (u ⊏ v) → length v ≤ length u
not_longer u v n =
    elim (cases_lt (length u) (length v))
    [ inl l ↦ absurd (n (shortlex_shorter u v l)) | inr l ↦ l ]

-- a letter before both words changes nothing
pub smaller_with_first : (u v : List ℕ) (b : ℕ) → u ⊏ v → (b ∷ u) ⊏ (b ∷ v)
smaller_with_first u v b h = shortlex_before (b ∷ []) u v ∙ h

-- a word that is not greater, and then a smaller one
pub not_greater_then_smaller : (u v w : List ℕ) → ¬ (v ⊏ u) → v ⊏ w → u ⊏ w
not_greater_then_smaller u v w n h = elim (shortlex_trichotomy u v) [
  | inl g ↦ shortlex_trans u v w g h
  | inr (inl e) ↦ subst (λ (x : List ℕ). x ⊏ w) (sym e) h
  | inr (inr g) ↦ absurd (n g)
]
