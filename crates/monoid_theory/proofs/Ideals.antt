-- Laws on Green's relations.
use Rattle.std.proofs.Common.{◌≡◌, ◌↔◌, ℕ, List, [], ◌++◌, refl, ◌∙◌, sym, subst, append_assoc, append-nil}
use Rattle.language_theory.specs.Words.{Over}
use Rattle.language_theory.specs.Congruence.{IsEquivalence, IsRightCongruence, IsCongruence}
use Rattle.monoid_theory.specs.Green.{IsInRightIdeal, IsInLeftIdeal, IsInIdeal, IsR, IsL, IsJ, IsH}
use Rattle.language_theory.proofs.Shortlex.{over_append}
use Rattle.language_theory.proofs.Congruences.{right_congruence}

-- for a relation that says that each of two words is in an ideal of the other
both_ways : (k : ℕ) (In : List ℕ → List ℕ → Type 0) → ((s : List ℕ) → Over k s → In s s)
    → ((r s t : List ℕ) → Over k r → Over k s → Over k t → In r s → In s t → In r t)
    → IsEquivalence k (λ s t. In s t × In t s)
both_ways k In itself through = record {
  refl = λ s o. (itself s o, itself s o);
  symm = λ s t os ot h. (h.1, h.0);
  trans = λ r s t or os ot h g. (through r s t or os ot h.0 g.0, through t s r ot os or g.1 h.1);
}

module _ (k : ℕ) (same : List ℕ → List ℕ → Type 0) where
  pub right_in_ideal : (s t : List ℕ) → IsInRightIdeal k same s t → IsInIdeal k same s t
  right_in_ideal s t (x, o, h) = ([], x, tt, o, h)

  pub left_in_ideal : (s t : List ℕ) → IsInLeftIdeal k same s t → IsInIdeal k same s t
  left_in_ideal s t (x, o, h) =
      (x, [], o, tt, subst (λ (w : List ℕ). same s (x ++ w)) (sym (append-nil t)) h)

  pub r_in_j : (s t : List ℕ) → IsR k same s t → IsJ k same s t
  r_in_j s t h = (right_in_ideal s t h.0, right_in_ideal t s h.1)

  pub l_in_j : (s t : List ℕ) → IsL k same s t → IsJ k same s t
  l_in_j s t h = (left_in_ideal s t h.0, left_in_ideal t s h.1)

module _ (k : ℕ) (same : List ℕ → List ℕ → Type 0) (e : IsEquivalence k same) where
  pub related_equal : (u v : List ℕ) → Over k u → u ≡ v → same u v
  related_equal u v o d = subst (λ (w : List ℕ). same u w) d (e.refl u o)

  pub in_right_itself : (s : List ℕ) → Over k s → IsInRightIdeal k same s s
  in_right_itself s o = ([], tt, related_equal s (s ++ []) o (sym (append-nil s)))

  pub in_left_itself : (s : List ℕ) → Over k s → IsInLeftIdeal k same s s
  in_left_itself s o = ([], tt, e.refl s o)

  pub in_ideal_itself : (s : List ℕ) → Over k s → IsInIdeal k same s s
  in_ideal_itself s o = ([], [], tt, tt, related_equal s (s ++ []) o (sym (append-nil s)))

  -- related words are in one class of H, and so of R, L and J
  pub h_of_related : (s t : List ℕ) → Over k s → Over k t → same s t → IsH k same s t
  h_of_related s t os ot h = (
    (
      ([], tt, subst (λ (w : List ℕ). same s w) (sym (append-nil t)) h),
      ([], tt, subst (λ (w : List ℕ). same t w) (sym (append-nil s)) (e.symm s t os ot h)),
    ),
    (([], tt, h), ([], tt, e.symm s t os ot h)),
  )

module _ (k : ℕ) (same : List ℕ → List ℕ → Type 0) (c : IsRightCongruence k same) where
  -- an ideal of a member of an ideal is inside it
  pub in_right_through : (r s t : List ℕ) → Over k r → Over k s → Over k t
      → IsInRightIdeal k same r s → IsInRightIdeal k same s t → IsInRightIdeal k same r t
  in_right_through r s t or os ot (x, ox, h) (y, oy, g) = (
    y ++ x,
    over_append k y x oy ox,
    c.equivalence.trans r (s ++ x) (t ++ (y ++ x)) or (over_append k s x os ox)
        (over_append k t (y ++ x) ot (over_append k y x oy ox)) h
        (rw (← append_assoc t y x) (c.right s (t ++ y) x os (over_append k t y ot oy) ox g)),
  )

  pub r_equivalence : IsEquivalence k (IsR k same)
  r_equivalence =
      both_ways k (IsInRightIdeal k same) (in_right_itself k same c.equivalence) in_right_through

module _ (k : ℕ) (same : List ℕ → List ℕ → Type 0) (c : IsCongruence k same) where
  -- and so it is for left and two-sided ideals
  pub in_left_through : (r s t : List ℕ) → Over k r → Over k s → Over k t → IsInLeftIdeal k same r s
      → IsInLeftIdeal k same s t → IsInLeftIdeal k same r t
  in_left_through r s t or os ot (x, ox, h) (y, oy, g) = (
    x ++ y,
    over_append k x y ox oy,
    c.equivalence.trans r (x ++ s) ((x ++ y) ++ t) or (over_append k x s ox os)
        (over_append k (x ++ y) t (over_append k x y ox oy) ot) h
        (rw append_assoc (c.left s (y ++ t) x os (over_append k y t oy ot) ox g)),
  )

  -- related words stay related between any two words
  pub related_between : (u v x y : List ℕ) → Over k u → Over k v → Over k x → Over k y → same u v
      → same (x ++ (u ++ y)) (x ++ (v ++ y))
  related_between u v x y ou ov ox oy h =
      c.left (u ++ y) (v ++ y) x (over_append k u y ou oy) (over_append k v y ov oy) ox
      (c.right u v y ou ov oy h)

  pub over_between : (x u y : List ℕ) → Over k x → Over k u → Over k y → Over k (x ++ (u ++ y))
  over_between x u y ox ou oy = over_append k x (u ++ y) ox (over_append k u y ou oy)

  pub in_ideal_through : (r s t : List ℕ) → Over k r → Over k s → Over k t → IsInIdeal k same r s
      → IsInIdeal k same s t → IsInIdeal k same r t
  in_ideal_through r s t or os ot (x, y, ox, oy, h) (p, q, op, oq, g) = (
    x ++ p,
    q ++ y,
    over_append k x p ox op,
    over_append k q y oq oy,
    c.equivalence.trans r (x ++ (s ++ y)) ((x ++ p) ++ (t ++ (q ++ y))) or
        (over_between x s y ox os oy) (over_between (x ++ p) t (q ++ y) (over_append k x p ox op) ot
        (over_append k q y oq oy)) h (subst (λ (w : List ℕ). same (x ++ (s ++ y)) w) grouped
        (related_between s (p ++ (t ++ q)) x y os (over_between p t q op ot oq) ox oy g)),
  )
    where
      grouped : x ++ ((p ++ (t ++ q)) ++ y) ≡ (x ++ p) ++ (t ++ (q ++ y))
      grouped = simp append_assoc

  pub l_equivalence : IsEquivalence k (IsL k same)
  l_equivalence =
      both_ways k (IsInLeftIdeal k same) (in_left_itself k same c.equivalence) in_left_through

  pub j_equivalence : IsEquivalence k (IsJ k same)
  j_equivalence =
      both_ways k (IsInIdeal k same) (in_ideal_itself k same c.equivalence) in_ideal_through

  pub h_equivalence : IsEquivalence k (IsH k same)
  h_equivalence = record {
    refl = λ s o. (right.refl s o, l_equivalence.refl s o);
    symm = λ s t os ot h. (right.symm s t os ot h.0, l_equivalence.symm s t os ot h.1);
    trans = λ r s t or os ot h g. (
      right.trans r s t or os ot h.0 g.0,
      l_equivalence.trans r s t or os ot h.1 g.1,
    );
  }
    where
      right : IsEquivalence k (IsR k same)
      right = r_equivalence k same (right_congruence k same c)

  in_right_before : (w s t : List ℕ) → Over k w → Over k s → Over k t → IsInRightIdeal k same s t
      → IsInRightIdeal k same (w ++ s) (w ++ t)
  in_right_before w s t ow os ot (x, ox, h) =
      (x, ox, rw append_assoc (c.left s (t ++ x) w os (over_append k t x ot ox) ow h))

  in_left_behind : (w s t : List ℕ) → Over k w → Over k s → Over k t → IsInLeftIdeal k same s t
      → IsInLeftIdeal k same (s ++ w) (t ++ w)
  in_left_behind w s t ow os ot (x, ox, h) =
      (x, ox, rw (← append_assoc x t w) (c.right s (x ++ t) w os (over_append k x t ox ot) ow h))

  -- R is kept by multiplication on the left, and L by multiplication on the right
  pub r_before : (w s t : List ℕ) → Over k w → Over k s → Over k t → IsR k same s t
      → IsR k same (w ++ s) (w ++ t)
  r_before w s t ow os ot h =
      (in_right_before w s t ow os ot h.0, in_right_before w t s ow ot os h.1)

  pub l_behind : (w s t : List ℕ) → Over k w → Over k s → Over k t → IsL k same s t
      → IsL k same (s ++ w) (t ++ w)
  l_behind w s t ow os ot h = (in_left_behind w s t ow os ot h.0, in_left_behind w t s ow ot os h.1)

-- where the elements are the values of words, an ideal is that of the values
module _ (k : ℕ) (value : List ℕ → ℕ) (c : IsRightCongruence k (λ u v. value u ≡ value v)) where
  pub right_ideal_of_values : (s t : List ℕ) → Over k s
      → IsInRightIdeal k (λ u v. value u ≡ value v) t s
      ↔ ((w y : List ℕ) × Over k w × Over k y × (value w ≡ value s) × (value (w ++ y) ≡ value t))
  right_ideal_of_values s t os = (
    λ h. (s, h.0, os, h.1, refl, sym h.2),
    λ h. (h.1, h.3, sym h.5 ∙ c.right h.0 s h.1 h.2 os h.3 h.4),
  )

module _ (k : ℕ) (value : List ℕ → ℕ) (c : IsCongruence k (λ u v. value u ≡ value v)) where
  pub left_ideal_of_values : (s t : List ℕ) → Over k s
      → IsInLeftIdeal k (λ u v. value u ≡ value v) t s
      ↔ ((w x : List ℕ) × Over k w × Over k x × (value w ≡ value s) × (value (x ++ w) ≡ value t))
  left_ideal_of_values s t os = (
    λ h. (s, h.0, os, h.1, refl, sym h.2),
    λ h. (h.1, h.3, sym h.5 ∙ c.left h.0 s h.1 h.2 os h.3 h.4),
  )

  pub ideal_of_values : (s t : List ℕ) → Over k s → IsInIdeal k (λ u v. value u ≡ value v) t s
      ↔ ((w x y : List ℕ) × Over k w × Over k x × Over k y × (value w ≡ value s)
      × (value (x ++ (w ++ y)) ≡ value t))
  ideal_of_values s t os = (
    λ h. (s, h.0, h.1, os, h.2, h.3, refl, sym h.4),
    λ h. (
      h.1,
      h.2,
      h.4,
      h.5,
      sym h.7 ∙ related_between k (λ u v. value u ≡ value v) c h.0 s h.1 h.2
          h.3 os h.4 h.5 h.6,
    ),
  )
