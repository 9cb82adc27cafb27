-- Rows of a flat list of targets, copied one target after another.
use Rattle.std.proofs.Common.{◌≡◌, ℕ, ◌+◌, ◌*◌, ◌<◌, ◌≤◌, List, [], ◌∷◌, ◌++◌, length, slice_index}
use Rattle.std.proofs.Common.{take, sym, ap, arith, ◌∙◌}
use Rattle.std.proofs.Math.Nat.{mul-le-mul_right}
use Rattle.std.proofs.lemmas.List.{take_more}

pub row_goes_on : (xs ys targets : List ℕ) (n k i a t : ℕ) → i < n → a < k
    → length targets ≡ n * k → xs ≡ take (i * k + a) targets → ys ≡ xs ++ t ∷ []
    → t ≡ slice_index targets (i * k + a) → ys ≡ take (i * k + (a + 1)) targets
row_goes_on xs ys targets n k i a t hi ha long e f g =
    f ∙ (ap (λ (zs : List ℕ). zs ++ t ∷ []) e
    ∙ (ap (λ (z : ℕ). take (i * k + a) targets ++ z ∷ []) g
    ∙ (sym (take_more targets (i * k + a) 0 inside)
    ∙ ap (λ (m : ℕ). take m targets) (omega arith))))
  where
    inside : i * k + a < length targets
    inside = let h : i + 1 ≤ n = omega arith in omega (arith, long, mul-le-mul_right k h)
