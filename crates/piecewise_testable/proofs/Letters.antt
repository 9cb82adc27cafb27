-- Where an element has another one in its class, some letter leads to another one, and some word
-- leads back.
use Rattle.std.proofs.Common.{◌≡◌, ℕ, ◌<◌, ◌⊎◌, inl, inr, List, [], ◌∷◌, ◌++◌, sym, subst, append_assoc, append-nil}
use Rattle.language_theory.specs.Words.{Over}
use Rattle.language_theory.specs.Congruence.{IsCongruence}
use Rattle.language_theory.specs.Representatives.{AreRepresentatives}
use Rattle.language_theory.proofs.Shortlex.{over_append}
use Rattle.language_theory.proofs.Representatives.{related_or_not}
use Rattle.answers.specs.declared.subwords.Side.{Side}
use Rattle.answers.specs.declared.subwords.Side.TheVariants.{Right, Left}
use Rattle.piecewise_testable.specs.Sides.{beside, IsMate, HasOther, Moves, Leads}
use Rattle.piecewise_testable.proofs.BothSides.{over_beside, beside_related}

module _ (k : ℕ) (same : List ℕ → List ℕ → Type 0) (q : IsCongruence k same)
    (words : List (List ℕ)) (l : AreRepresentatives k same words) where
  equal : (u v : List ℕ) → Over k u → u ≡ v → same u v
  equal u v o e = subst (λ (w : List ℕ). same u w) e (q.equivalence.refl u o)

  decided : (u v : List ℕ) → Over k u → Over k v → same u v ⊎ ¬ same u v
  decided = related_or_not k same words l q.equivalence

  -- a letter that moves an element on a side
  abbrev IsMoved : Side → List ℕ → Type 0
  IsMoved side s = (a : ℕ) × (a < k) × Moves side k same s a

  -- x behind s leads to another element, and y behind that leads back
  behind : (s x y : List ℕ) → Over k s → Over k x → Over k y → ¬ same s (s ++ x)
      → same s ((s ++ x) ++ y) → IsMoved Right s
  behind s [] y os ox oy n h = absurd (n (equal s (s ++ []) os (sym (append-nil s))))
  behind s (b ∷ x) y os ox oy n h =
      by (decided s (s ++ b ∷ []) os (over_append k s (b ∷ []) os (ox.0, tt)))
      (behind s x y os ox.1 oy)
    where
      ob : Over k (s ++ b ∷ [])
      ob = over_append k s (b ∷ []) os (ox.0, tt)

      -- where b does not move s, the rest does
      still : same s (s ++ b ∷ []) → (w : List ℕ) → Over k w → same (s ++ w) (s ++ b ∷ w)
      still e w o =
          subst (λ (v : List ℕ). same (s ++ w) v) (append_assoc s (b ∷ []) w)
          (q.right s (s ++ b ∷ []) w os ob o e)

      by : same s (s ++ b ∷ []) ⊎ ¬ same s (s ++ b ∷ [])
          → (¬ same s (s ++ x) → same s ((s ++ x) ++ y) → IsMoved Right s) → IsMoved Right s
      by (inl e) f =
          let oxy = over_append k x y ox.1 oy in
          f (λ g. n (q.equivalence.trans s (s ++ x) (s ++ b ∷ x) os (over_append k s x os ox.1)
          (over_append k s (b ∷ x) os ox) g (still e x ox.1)))
          (subst (same s) (sym (append_assoc s x y))
          (q.equivalence.trans s (s ++ b ∷ (x ++ y)) (s ++ (x ++ y)) os
          (over_append k s (b ∷ (x ++ y)) os (ox.0, oxy)) (over_append k s (x ++ y) os oxy)
          (subst (same s) (append_assoc s (b ∷ x) y) h)
          (q.equivalence.symm (s ++ (x ++ y)) (s ++ b ∷ (x ++ y)) (over_append k s (x ++ y) os oxy)
          (over_append k s (b ∷ (x ++ y)) os (ox.0, oxy)) (still e (x ++ y) oxy))))
      by (inr m) f = (
        b,
        ox.0,
        (
          (
            (
              x ++ y,
              over_append k x y ox.1 oy,
              subst (same s) (sym (append_assoc s (b ∷ []) (x ++ y)))
                  (subst (same s) (append_assoc s (b ∷ x) y) h),
            ),
            (b ∷ [], (ox.0, tt), q.equivalence.refl (s ++ b ∷ []) ob),
          ),
          m,
        ),
      )

  -- x before s leads to another element, and y before that leads back
  before : (s x y : List ℕ) → Over k s → Over k x → Over k y → ¬ same s (x ++ s)
      → same s (y ++ (x ++ s)) → IsMoved Left s
  before s [] y os ox oy n h = absurd (n (q.equivalence.refl s os))
  before s (b ∷ x) y os ox oy n h =
      by (decided s (x ++ s) os (over_append k x s ox.1 os))
      (before s x (y ++ b ∷ []) os ox.1 (over_append k y (b ∷ []) oy (ox.0, tt)))
    where
      oxs : Over k (x ++ s)
      oxs = over_append k x s ox.1 os

      ob : Over k (b ∷ s)
      ob = (ox.0, os)

      by : same s (x ++ s) ⊎ ¬ same s (x ++ s)
          → (¬ same s (x ++ s) → same s ((y ++ b ∷ []) ++ (x ++ s)) → IsMoved Left s)
          → IsMoved Left s
      by (inl e) f =
          let one : same (b ∷ s) (b ∷ (x ++ s)) = q.left s (x ++ s) (b ∷ []) os oxs (ox.0, tt) e in
          let back : same (b ∷ (x ++ s)) (b ∷ s) =
          q.equivalence.symm (b ∷ s) (b ∷ (x ++ s)) ob (ox.0, oxs) one in
          let round : same s (y ++ b ∷ s) =
          q.equivalence.trans s (y ++ b ∷ (x ++ s)) (y ++ b ∷ s) os
          (over_append k y (b ∷ (x ++ s)) oy (ox.0, oxs)) (over_append k y (b ∷ s) oy ob) h
          (q.left (b ∷ (x ++ s)) (b ∷ s) y (ox.0, oxs) ob oy back) in (
            b,
            ox.0,
            (
              (
                (y, oy, round),
                (b ∷ [], (ox.0, tt), q.equivalence.refl (b ∷ s) ob),
              ),
              λ g. n (q.equivalence.trans s (b ∷ s) (b ∷ (x ++ s)) os ob (ox.0, oxs) g one),
            ),
          )
      by (inr m) f = f m (subst (same s) (sym (append_assoc y (b ∷ []) (x ++ s))) h)

  -- an element with another one in its class is moved by some letter
  pub some_letter : (side : Side) (s : List ℕ) → Over k s → HasOther side k same s
      → IsMoved side s
  some_letter Right s os (t, ot, (((y, oy, h), (x, ox, g)), n)) =
      let ogo = over_append k s x os ox in
      behind s x y os ox oy
      (λ f. n (q.equivalence.trans s (s ++ x) t os ogo ot f
      (q.equivalence.symm t (s ++ x) ot ogo g)))
      (q.equivalence.trans s (t ++ y) ((s ++ x) ++ y) os (over_append k t y ot oy)
      (over_append k (s ++ x) y ogo oy) h (q.right t (s ++ x) y ot ogo oy g))
  some_letter Left s os (t, ot, (((y, oy, h), (x, ox, g)), n)) =
      let ogo = over_append k x s ox os in
      before s x y os ox oy
      (λ f. n (q.equivalence.trans s (x ++ s) t os ogo ot f
      (q.equivalence.symm t (x ++ s) ot ogo g)))
      (q.equivalence.trans s (y ++ t) (y ++ (x ++ s)) os (over_append k y t oy ot)
      (over_append k y (x ++ s) oy ogo) h (q.left t (x ++ s) y ot ogo oy g))

  -- a word leads back from another element of the class
  pub some_back : (side : Side) (s t : List ℕ) → IsMate side k same s t
      → (x : List ℕ) × Over k x × Leads side same t s x
  some_back Right s t m = m.0
  some_back Left s t m = m.0

  -- what leads from a word leads from each related one
  pub leads_from_related : (side : Side) (u v s x : List ℕ) → Over k u → Over k v → Over k s
      → Over k x → same u v → Leads side same u s x → Leads side same v s x
  leads_from_related side u v s x ou ov os ox e h =
      q.equivalence.trans s (beside side u x) (beside side v x) os (over_beside side k u x ou ox)
      (over_beside side k v x ov ox) h (beside_related k same q side u v x ou ov ox e)
