-- Words of some expressions.
use Rattle.std.proofs.Common.{◌≡◌, ◌↔◌, ◌⊎◌, inl, inr, ℕ, zero, suc, List, [], ◌∷◌, ◌++◌, refl, ap, ◌∙◌, sym, subst}
use Rattle.language_theory.specs.Words.{power}
use Rattle.language_theory.specs.Examples.{IsAbStar}
use Rattle.expression_theory.specs.Expression.{Tree, Zero, Letter, Or, Cat, Star, Plus, Means, KleeneStar, nothing, piece}
use Rattle.expression_theory.specs.Positions.{PositionWord, Follows}
use Rattle.expression_theory.proofs.Words.{not_empty, once_or_none, from_once}

-- ab is the word of the concatenation of a and b
ab : Means (Cat (Letter 0) (Letter 1)) (0 ∷ 1 ∷ [])
ab = (0 ∷ [], 1 ∷ [], refl, refl, refl)

pub abab : Means (Star (Cat (Letter 0) (Letter 1))) (0 ∷ 1 ∷ 0 ∷ 1 ∷ [])
abab = piece {u = 1 ∷ []} {v = 0 ∷ 1 ∷ []} ab (piece {u = 1 ∷ []} {v = []} ab nothing)

-- the words of (ab)* are the powers of ab
repeated : (w : List ℕ) → Means (Star (Cat (Letter 0) (Letter 1))) w → IsAbStar w
repeated w nothing = (0, refl)
repeated w (piece {a = a} {u = x} {v = y} (p, q, d, e, f) s) =
    let (n, g) = repeated y s in
    let h : 0 ∷ 1 ∷ [] ≡ a ∷ x = sym (ap (λ z. z ++ q) d ∙ ap (λ z. 0 ∷ z) e) ∙ f in
    (suc n, ap (λ (z : List ℕ). 0 ∷ 1 ∷ z) g ∙ ap (λ z. z ++ y) h)

power_star : (n : ℕ) → Means (Star (Cat (Letter 0) (Letter 1))) (power n (0 ∷ 1 ∷ []))
power_star zero = nothing
power_star (suc n) = piece {u = 1 ∷ []} {v = power n (0 ∷ 1 ∷ [])} ab (power_star n)

pub ab_star_words : (w : List ℕ) → Means (Star (Cat (Letter 0) (Letter 1))) w ↔ IsAbStar w
ab_star_words w = (
  repeated w,
  λ (n, e). subst (Means (Star (Cat (Letter 0) (Letter 1)))) e
      (power_star n),
)

pub a_once : Means (Plus (Letter 0)) (0 ∷ [])
a_once = (0 ∷ [], [], refl, nothing, refl)

-- any number of times is no time, or once or more
pub star_cases : (t : Tree) (w : List ℕ) → Means (Star t) w ↔ ((w ≡ []) ⊎ Means (Plus t) w)
star_cases t w = (once_or_none (Means t) w, from)
  where
    from : (w ≡ []) ⊎ Means (Plus t) w → Means (Star t) w
    from (inl e) = subst (KleeneStar (Means t)) (sym e) nothing
    from (inr h) = from_once (Means t) w h

-- b alone is the language of a0|b
only_b : (w : List ℕ) → PositionWord (Or (Cat (Letter 0) Zero) (Letter 1)) w → w ≡ 2 ∷ []
only_b w (inl (u, v, h, k, e)) = absurd k
only_b w (inr e) = e

-- and it has one letter
one_letter : (p q : ℕ) (u v : List ℕ) → u ++ p ∷ (q ∷ v) ≡ 2 ∷ [] → ⊥
one_letter p q [] v e = not_empty q [] v (cc)
one_letter p q (a ∷ u) v e = not_empty p u (q ∷ v) (cc)

-- no position of a0|b follows another
pub none_follows : (p q : ℕ) → ¬ Follows (PositionWord (Or (Cat (Letter 0) Zero) (Letter 1))) p q
none_follows p q (u, v, h) = one_letter p q u v (only_b (u ++ p ∷ (q ∷ v)) h)
