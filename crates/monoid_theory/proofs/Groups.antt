-- The class of H of an idempotent is a group, and has no other idempotent.
use Rattle.std.proofs.Common.{◌≡◌, ℕ, List, ◌++◌, sym, subst, append_assoc}
use Rattle.language_theory.specs.Words.{Over}
use Rattle.language_theory.specs.Congruence.{IsEquivalence, IsCongruence}
use Rattle.monoid_theory.specs.Green.{IsInRightIdeal, IsInLeftIdeal, IsR, IsL, IsH, IsIdempotent}
use Rattle.language_theory.proofs.Shortlex.{over_append}
use Rattle.language_theory.proofs.Congruences.{right_congruence}
use Rattle.monoid_theory.proofs.Ideals.{r_equivalence, l_equivalence, h_of_related, r_before, l_behind}

module _ (k : ℕ) (same : List ℕ → List ℕ → Type 0) (c : IsCongruence k same) where
  over : (u v : List ℕ) → Over k u → Over k v → Over k (u ++ v)
  over = over_append k

  through : (u v w : List ℕ) → Over k u → Over k v → Over k w → same u v → same v w → same u w
  through = c.equivalence.trans

  back : (u v : List ℕ) → Over k u → Over k v → same u v → same v u
  back = c.equivalence.symm

  module _ (e : List ℕ) (oe : Over k e) (idempotent : IsIdempotent same e) where
    -- an idempotent is an identity on the left of its right ideal
    pub identity_before : (s : List ℕ) → Over k s → IsInRightIdeal k same s e → same (e ++ s) s
    identity_before s os (x, ox, h) =
        through (e ++ s) (e ++ (e ++ x)) s (over e s oe os) (over e (e ++ x) oe (over e x oe ox)) os
        (c.left s (e ++ x) e os (over e x oe ox) oe h)
        (through (e ++ (e ++ x)) (e ++ x) s (over e (e ++ x) oe (over e x oe ox)) (over e x oe ox) os
        (subst (λ (w : List ℕ). same w (e ++ x)) (append_assoc e e x)
        (c.right (e ++ e) e x (over e e oe oe) oe ox idempotent))
        (back s (e ++ x) os (over e x oe ox) h))

    -- and on the right of its left ideal
    pub identity_behind : (s : List ℕ) → Over k s → IsInLeftIdeal k same s e → same (s ++ e) s
    identity_behind s os (x, ox, h) =
        through (s ++ e) ((x ++ e) ++ e) s (over s e os oe) (over (x ++ e) e (over x e ox oe) oe) os
        (c.right s (x ++ e) e os (over x e ox oe) oe h)
        (through ((x ++ e) ++ e) (x ++ e) s (over (x ++ e) e (over x e ox oe) oe) (over x e ox oe) os
        (subst (λ (w : List ℕ). same w (x ++ e)) (sym (append_assoc x e e))
        (c.left (e ++ e) e x (over e e oe oe) oe ox idempotent))
        (back s (x ++ e) os (over x e ox oe) h))

    -- products stay in its class of H
    pub product_stays : (s t : List ℕ) → Over k s → Over k t → IsH k same s e → IsH k same t e
        → IsH k same (s ++ t) e
    product_stays s t os ot hs ht = (
      rows.trans (s ++ t) (s ++ e) e (over s t os ot) (over s e os oe) oe
          (r_before k same c s t e os ot oe ht.0)
          (rows.trans (s ++ e) s e (over s e os oe) os oe
          (h_of_related k same c.equivalence (s ++ e) s (over s e os oe) os
          (identity_behind s os hs.1.0)).0 hs.0),
      columns.trans (s ++ t) (e ++ t) e (over s t os ot) (over e t oe ot) oe
          (l_behind k same c t s e ot os oe hs.1)
          (columns.trans (e ++ t) t e (over e t oe ot) ot oe
          (h_of_related k same c.equivalence (e ++ t) t (over e t oe ot) ot
          (identity_before t ot ht.0.0)).1 ht.1),
    )
      where
        rows : IsEquivalence k (IsR k same)
        rows = r_equivalence k same (right_congruence k same c)

        columns : IsEquivalence k (IsL k same)
        columns = l_equivalence k same c

    -- where s x is e, the inverse of s is e x e
    module _ (s x y : List ℕ) (os : Over k s) (ox : Over k x) (oy : Over k y)
        (h : IsH k same s e) (right : same e (s ++ x)) (left : same e (y ++ s)) where
      abbrev inverse : List ℕ → List ℕ
      inverse z = e ++ (z ++ e)

      over_inverse : (z : List ℕ) → Over k z → Over k (inverse z)
      over_inverse z oz = over e (z ++ e) oe (over z e oz oe)

      times_inverse : same (s ++ inverse x) e
      times_inverse =
          let xe = over x e ox oe in
          let first : same ((s ++ e) ++ (x ++ e)) (s ++ (x ++ e)) =
          c.right (s ++ e) s (x ++ e) (over s e os oe) os xe (identity_behind s os h.1.0) in
          let second : same ((s ++ x) ++ e) (e ++ e) =
          c.right (s ++ x) e e (over s x os ox) oe oe (back e (s ++ x) oe (over s x os ox) right) in
          through (s ++ inverse x) (s ++ (x ++ e)) e (over s (inverse x) os (over_inverse x ox))
          (over s (x ++ e) os xe) oe
          (subst (λ (w : List ℕ). same w (s ++ (x ++ e))) (append_assoc s e (x ++ e)) first)
          (through (s ++ (x ++ e)) (e ++ e) e (over s (x ++ e) os xe) (over e e oe oe) oe
          (subst (λ (w : List ℕ). same w (e ++ e)) (append_assoc s x e) second) idempotent)

      inverse_times : same (inverse y ++ s) e
      inverse_times =
          let ey = over e y oe oy in
          let first : same ((e ++ y) ++ (e ++ s)) ((e ++ y) ++ s) =
          c.left (e ++ s) s (e ++ y) (over e s oe os) os ey (identity_before s os h.0.0) in
          let second : same (e ++ (y ++ s)) (e ++ e) =
          c.left (y ++ s) e e (over y s oy os) oe oe (back e (y ++ s) oe (over y s oy os) left) in
          through (inverse y ++ s) ((e ++ y) ++ s) e (over (inverse y) s (over_inverse y oy) os)
          (over (e ++ y) s ey os) oe
          (subst (λ (w : List ℕ). same w ((e ++ y) ++ s)) grouped first)
          (through ((e ++ y) ++ s) (e ++ e) e (over (e ++ y) s ey os) (over e e oe oe) oe
          (subst (λ (w : List ℕ). same w (e ++ e)) (sym (append_assoc e y s)) second) idempotent)
        where
          grouped : (e ++ y) ++ (e ++ s) ≡ (e ++ (y ++ e)) ++ s
          grouped = simp append_assoc

      one_inverse : same (inverse x) (inverse y)
      one_inverse =
          let ix = over_inverse x ox in
          let iy = over_inverse y oy in
          let alone : same (e ++ inverse x) (inverse x) =
          identity_before (inverse x) ix (x ++ e, over x e ox oe, c.equivalence.refl (inverse x) ix) in
          let behind : same (inverse y ++ e) (inverse y) =
          identity_behind (inverse y) iy (
            e ++ y,
            over e y oe oy,
            subst (same (inverse y)) (sym (append_assoc e y e)) (c.equivalence.refl (inverse y) iy),
          ) in
          let both : same ((inverse y ++ s) ++ inverse x) (e ++ inverse x) =
          c.right (inverse y ++ s) e (inverse x) (over (inverse y) s iy os) oe ix inverse_times in
          let there : same (inverse y ++ (s ++ inverse x)) (inverse y ++ e) =
          c.left (s ++ inverse x) e (inverse y) (over s (inverse x) os ix) oe iy times_inverse in
          let whole = over (inverse y ++ s) (inverse x) (over (inverse y) s iy os) ix in
          through (inverse x) ((inverse y ++ s) ++ inverse x) (inverse y) ix whole iy
          (back ((inverse y ++ s) ++ inverse x) (inverse x) whole ix
          (through ((inverse y ++ s) ++ inverse x) (e ++ inverse x) (inverse x) whole
          (over e (inverse x) oe ix) ix both alone))
          (through ((inverse y ++ s) ++ inverse x) (inverse y ++ e) (inverse y) whole
          (over (inverse y) e iy oe) iy
          (subst (λ (w : List ℕ). same w (inverse y ++ e))
          (sym (append_assoc (inverse y) s (inverse x))) there) behind)

      undone : same (inverse x ++ s) e
      undone =
          let ix = over_inverse x ox in
          let iy = over_inverse y oy in
          through (inverse x ++ s) (inverse y ++ s) e (over (inverse x) s ix os)
          (over (inverse y) s iy os) oe (c.right (inverse x) (inverse y) s ix iy os one_inverse)
          inverse_times

      inverse_in_class : IsH k same (inverse x) e
      inverse_in_class =
          let ix = over_inverse x ox in (
            (
              (x ++ e, over x e ox oe, c.equivalence.refl (inverse x) ix),
              (s, os, back (inverse x ++ s) e (over (inverse x) s ix os) oe undone),
            ),
            (
              (
                e ++ x,
                over e x oe ox,
                subst (same (inverse x)) (sym (append_assoc e x e))
                    (c.equivalence.refl (inverse x) ix),
              ),
              (s, os, back (s ++ inverse x) e (over s (inverse x) os ix) oe times_inverse),
            ),
          )

    -- each element of the class has an inverse in it
    pub has_inverse : (s : List ℕ) → Over k s → IsH k same s e
        → (t : List ℕ) × Over k t × IsH k same t e × same (s ++ t) e × same (t ++ s) e
    has_inverse s os h =
        let x = h.0.1.0 in
        let ox = h.0.1.1 in
        let right = h.0.1.2 in
        let y = h.1.1.0 in
        let oy = h.1.1.1 in
        let left = h.1.1.2 in (
          inverse s x y os ox oy h right left x,
          over_inverse s x y os ox oy h right left x ox,
          inverse_in_class s x y os ox oy h right left,
          times_inverse s x y os ox oy h right left,
          undone s x y os ox oy h right left,
        )

  -- a class of H has at most one idempotent
  pub one_idempotent : (e f : List ℕ) → Over k e → Over k f → IsIdempotent same e
      → IsIdempotent same f → IsH k same e f → same e f
  one_idempotent e f oe of idempotent other h =
      through e (e ++ f) f oe (over e f oe of) of
      (back (e ++ f) e (over e f oe of) oe (identity_behind f of other e oe h.1.0))
      (identity_before e oe idempotent f of h.0.1)
