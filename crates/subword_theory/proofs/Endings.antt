-- The subwords of a word with a letter behind it.
use Rattle.std.proofs.Common.{◌≡◌, ◌⊎◌, inl, inr, ℕ, List, [], ◌∷◌, ◌++◌, refl, ap, sym, subst}
use Rattle.language_theory.specs.Words.{IsSubword, done, keep, skip}
use Rattle.language_theory.proofs.Deleting.{subword_trans, subword_append, subword_itself}
use Rattle.subword_theory.proofs.Pumping.{subword_front}

-- z is a subword of u, or one of u and then the letter a
abbrev pub EndsIn : List ℕ → ℕ → List ℕ → Type 0
EndsIn u a z = IsSubword z u ⊎ ((x : List ℕ) × IsSubword x u × (z ≡ x ++ a ∷ []))

ends_further : {b a : ℕ} {u z : List ℕ} → EndsIn u a z → EndsIn (b ∷ u) a (b ∷ z)
ends_further (inl h) = inl (keep h)
ends_further {b} (inr (x, h, e)) = inr (b ∷ x, keep h, ap (λ (w : List ℕ). b ∷ w) e)

ends_later : {b a : ℕ} {u z : List ℕ} → EndsIn u a z → EndsIn (b ∷ u) a z
ends_later (inl h) = inl (skip h)
ends_later (inr (x, h, e)) = inr (x, skip h, e)

pub ends_in : (u : List ℕ) (a : ℕ) (z : List ℕ) → IsSubword z (u ++ a ∷ []) → EndsIn u a z
ends_in [] a z (keep done) = inr ([], done, refl)
ends_in [] a z (skip h) = inl h
ends_in (b ∷ u) a z (keep {u = w} h) = ends_further (ends_in u a w h)
ends_in (b ∷ u) a z (skip h) = ends_later (ends_in u a z h)

pub in_ended : (u : List ℕ) (a : ℕ) (z : List ℕ) → EndsIn u a z → IsSubword z (u ++ a ∷ [])
in_ended u a z (inl h) = subword_trans h (subword_front u (a ∷ []))
in_ended u a z (inr (x, h, e)) =
    subst (λ (w : List ℕ). IsSubword w (u ++ a ∷ [])) (sym e)
    (subword_append h (subword_itself (a ∷ [])))
