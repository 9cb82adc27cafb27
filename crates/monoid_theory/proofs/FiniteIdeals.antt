-- In a monoid with finitely many elements the relations J and D are one.
use Rattle.std.proofs.Common.{◌≡◌, ◌↔◌, ℕ, zero, suc, ◌+◌, List, [], ◌++◌, sym, ap, subst, ◌∙◌, arith, append_assoc, append-nil}
use Rattle.language_theory.specs.Words.{Over, power}
use Rattle.language_theory.specs.Congruence.{IsCongruence}
use Rattle.language_theory.specs.Representatives.{AreRepresentatives}
use Rattle.monoid_theory.specs.Powers.{IsIndexAndPeriod}
use Rattle.monoid_theory.specs.Green.{IsInRightIdeal, IsInLeftIdeal, IsInIdeal, IsR, IsL, IsJ, IsD, IsRTrivial, IsLTrivial, IsJTrivial}
use Rattle.language_theory.proofs.Shortlex.{over_append}
use Rattle.language_theory.proofs.Congruences.{right_congruence}
use Rattle.monoid_theory.proofs.Ideals.{related_between, related_equal, over_between, j_equivalence, r_in_j, l_in_j}
use Rattle.monoid_theory.proofs.Exponents.{power_add, over_power}
use Rattle.monoid_theory.proofs.Returns.{index_exists}

-- one power more, put behind
power_behind : (n : ℕ) (x : List ℕ) → power n x ++ x ≡ power (suc n) x
power_behind n x =
    let e : n + 1 ≡ suc n = omega arith in
    ap (λ (w : List ℕ). power n x ++ w) (sym (append-nil x))
    ∙ (sym (power_add n 1 x) ∙ ap (λ (m : ℕ). power m x) e)

module _ (k : ℕ) (same : List ℕ → List ℕ → Type 0) (words : List (List ℕ)) (c : IsCongruence k same)
    (l : AreRepresentatives k same words) where
  through : (u v w : List ℕ) → Over k u → Over k v → Over k w → same u v → same v w → same u w
  through = c.equivalence.trans

  module _ (s a b : List ℕ) (os : Over k s) (oa : Over k a) (ob : Over k b)
      (round : same s (a ++ (s ++ b))) where
    -- s is a s b, and so a^n s b^n
    rounds : (n : ℕ) → same s (power n a ++ (s ++ power n b))
    rounds zero = related_equal k same c.equivalence s (s ++ []) os (sym (append-nil s))
    rounds (suc n) =
        through s (a ++ (s ++ b)) (power (suc n) a ++ (s ++ power (suc n) b)) os
        (over_between k same c a s b oa os ob)
        (over_between k same c (power (suc n) a) s (power (suc n) b) (over_power k (suc n) a oa)
        os (over_power k (suc n) b ob)) round
        (subst (λ (w : List ℕ). same (a ++ (s ++ b)) w) grouped
        (related_between k same c s inner a b os
        (over_between k same c (power n a) s (power n b) (over_power k n a oa) os
        (over_power k n b ob)) oa ob (rounds n)))
      where
        inner : List ℕ
        inner = power n a ++ (s ++ power n b)

        grouped : a ++ ((power n a ++ (s ++ power n b)) ++ b)
            ≡ power (suc n) a ++ (s ++ power (suc n) b)
        grouped = rw (← power_behind n b) (simp append_assoc)

    -- and so s is a^p s for some p that is not 0
    pub comes_back_before : (n : ℕ) × same s (power (suc n) a ++ s)
    comes_back_before = by (index_exists k same words (right_congruence k same c) l a oa)
      where
        by : (i p : ℕ) × IsIndexAndPeriod same a i p → (n : ℕ) × same s (power (suc n) a ++ s)
        by (i, zero, h) = absurd (let one = h.positive in omega arith)
        by (i, suc p, h) = (
          p,
          through s there (power (suc p) a ++ s) os there_over
              (over_append k (power (suc p) a) s op os) (rounds i)
              (c.equivalence.symm (power (suc p) a ++ s) there
              (over_append k (power (suc p) a) s op os) there_over
              (through (power (suc p) a ++ s) (power (suc p) a ++ there) there
              (over_append k (power (suc p) a) s op os)
              (over_append k (power (suc p) a) there op there_over) there_over
              (c.left s there (power (suc p) a) os there_over op (rounds i)) repeated)),
        )
          where
            there : List ℕ
            there = power i a ++ (s ++ power i b)

            op : Over k (power (suc p) a)
            op = over_power k (suc p) a oa

            there_over : Over k there
            there_over =
                over_between k same c (power i a) s (power i b) (over_power k i a oa) os
                (over_power k i b ob)

            e : i + suc p ≡ suc p + i
            e = omega arith

            joined : power (i + suc p) a ≡ power (suc p) a ++ power i a
            joined = ap (λ (m : ℕ). power m a) e ∙ power_add (suc p) i a

            repeated : same (power (suc p) a ++ there) there
            repeated =
                rw (← append_assoc (power (suc p) a) (power i a) (s ++ power i b), ← joined)
                (c.right (power (i + suc p) a) (power i a) (s ++ power i b)
                (over_power k (i + suc p) a oa) (over_power k i a oa)
                (over_append k s (power i b) os (over_power k i b ob))
                (c.equivalence.symm (power i a) (power (i + suc p) a) (over_power k i a oa)
                (over_power k (i + suc p) a oa) h.repeats))

    -- and s is s b^q for some q that is not 0
    pub comes_back_behind : (n : ℕ) × same s (s ++ power (suc n) b)
    comes_back_behind = by (index_exists k same words (right_congruence k same c) l b ob)
      where
        by : (i p : ℕ) × IsIndexAndPeriod same b i p → (n : ℕ) × same s (s ++ power (suc n) b)
        by (i, zero, h) = absurd (let one = h.positive in omega arith)
        by (i, suc p, h) = (
          p,
          through s there (s ++ power (suc p) b) os there_over
              (over_append k s (power (suc p) b) os op) (rounds i)
              (c.equivalence.symm (s ++ power (suc p) b) there
              (over_append k s (power (suc p) b) os op) there_over
              (through (s ++ power (suc p) b) (there ++ power (suc p) b) there
              (over_append k s (power (suc p) b) os op)
              (over_append k there (power (suc p) b) there_over op) there_over
              (c.right s there (power (suc p) b) os there_over op (rounds i)) repeated)),
        )
          where
            there : List ℕ
            there = power i a ++ (s ++ power i b)

            op : Over k (power (suc p) b)
            op = over_power k (suc p) b ob

            there_over : Over k there
            there_over =
                over_between k same c (power i a) s (power i b) (over_power k i a oa) os
                (over_power k i b ob)

            grouped : power i a ++ (s ++ (power i b ++ power (suc p) b))
                ≡ (power i a ++ (s ++ power i b)) ++ power (suc p) b
            grouped = simp append_assoc

            repeated : same (there ++ power (suc p) b) there
            repeated =
                subst (λ (w : List ℕ). same w there)
                (ap (λ (w : List ℕ). power i a ++ (s ++ w)) (power_add i (suc p) b) ∙ grouped)
                (c.left (s ++ power (i + suc p) b) (s ++ power i b) (power i a)
                (over_append k s (power (i + suc p) b) os (over_power k (i + suc p) b ob))
                (over_append k s (power i b) os (over_power k i b ob)) (over_power k i a oa)
                (c.left (power (i + suc p) b) (power i b) s (over_power k (i + suc p) b ob)
                (over_power k i b ob) os (c.equivalence.symm (power i b) (power (i + suc p) b)
                (over_power k i b ob) (over_power k (i + suc p) b ob) h.repeats)))

  -- where s is in the ideal of s x, it is in the right ideal of s x
  pub r_of_ideal : (s x : List ℕ) → Over k s → Over k x → IsInIdeal k same s (s ++ x)
      → IsR k same s (s ++ x)
  r_of_ideal s x os ox (a, b, oa, ob, h) = (
    by (comes_back_behind s a (x ++ b) os oa (over_append k x b ox ob)
        (subst (λ (w : List ℕ). same s (a ++ w)) (append_assoc s x b) h)),
    (x, ox, c.equivalence.refl (s ++ x) (over_append k s x os ox)),
  )
    where
      by : (n : ℕ) × same s (s ++ power (suc n) (x ++ b)) → IsInRightIdeal k same s (s ++ x)
      by (n, g) = (
        b ++ power n (x ++ b),
        over_append k b (power n (x ++ b)) ob
            (over_power k n (x ++ b) (over_append k x b ox ob)),
        subst (same s) grouped g,
      )
        where
          grouped : s ++ ((x ++ b) ++ power n (x ++ b)) ≡ (s ++ x) ++ (b ++ power n (x ++ b))
          grouped = simp append_assoc

  -- where s is in the ideal of x s, it is in the left ideal of x s
  pub l_of_ideal : (s x : List ℕ) → Over k s → Over k x → IsInIdeal k same s (x ++ s)
      → IsL k same s (x ++ s)
  l_of_ideal s x os ox (a, b, oa, ob, h) = (
    by (comes_back_before s (a ++ x) b os (over_append k a x oa ox) ob
        (subst (same s) regrouped h)),
    (x, ox, c.equivalence.refl (x ++ s) (over_append k x s ox os)),
  )
    where
      regrouped : a ++ ((x ++ s) ++ b) ≡ (a ++ x) ++ (s ++ b)
      regrouped = simp append_assoc

      by : (n : ℕ) × same s (power (suc n) (a ++ x) ++ s) → IsInLeftIdeal k same s (x ++ s)
      by (n, g) = (
        power n (a ++ x) ++ a,
        over_append k (power n (a ++ x)) a
            (over_power k n (a ++ x) (over_append k a x oa ox)) oa,
        subst (same s) (ap (λ (w : List ℕ). w ++ s) (sym (power_behind n (a ++ x))) ∙ grouped)
            g,
      )
        where
          grouped : (power n (a ++ x) ++ (a ++ x)) ++ s ≡ (power n (a ++ x) ++ a) ++ (x ++ s)
          grouped = simp append_assoc

  -- J is D
  pub j_in_d : (s t : List ℕ) → Over k s → Over k t → IsJ k same s t → IsD k same s t
  j_in_d s t os ot ((x, y, ox, oy, h), (p, q, op, oq, g)) =
      (s ++ q, over_append k s q os oq, r_of_ideal s q os oq right_ideal, left)
    where
      z : List ℕ
      z = s ++ q

      oz : Over k z
      oz = over_append k s q os oq

      -- s is x t y, and t is p z
      around : same s (x ++ ((p ++ z) ++ y))
      around =
          through s (x ++ (t ++ y)) (x ++ ((p ++ z) ++ y)) os (over_between k same c x t y ox ot oy)
          (over_between k same c x (p ++ z) y ox (over_append k p z op oz) oy) h
          (related_between k same c t (p ++ z) x y ot (over_append k p z op oz) ox oy g)

      grouped : x ++ ((p ++ z) ++ y) ≡ (x ++ p) ++ (z ++ y)
      grouped = simp append_assoc

      right_ideal : IsInIdeal k same s z
      right_ideal = (x ++ p, y, over_append k x p ox op, oy, subst (same s) grouped around)

      back : IsInIdeal k same z (p ++ z)
      back = (
        x,
        y ++ q,
        ox,
        over_append k y q oy oq,
        subst (same z) regrouped
            (c.right s (x ++ ((p ++ z) ++ y)) q os
            (over_between k same c x (p ++ z) y ox (over_append k p z op oz) oy) oq around),
      )
        where
          regrouped : (x ++ ((p ++ z) ++ y)) ++ q ≡ x ++ ((p ++ z) ++ (y ++ q))
          regrouped = simp append_assoc

      left : IsL k same z t
      left = by (l_of_ideal z p oz op back)
        where
          opz : Over k (p ++ z)
          opz = over_append k p z op oz

          by : IsL k same z (p ++ z) → IsL k same z t
          by ((u, ou, d), e) = (
            (
              u,
              ou,
              through z (u ++ (p ++ z)) (u ++ t) oz (over_append k u (p ++ z) ou opz)
                  (over_append k u t ou ot) d
                  (c.left (p ++ z) t u opz ot ou (c.equivalence.symm t (p ++ z) ot opz g)),
            ),
            (p, op, g),
          )

  pub d_in_j : (s t : List ℕ) → Over k s → Over k t → IsD k same s t → IsJ k same s t
  d_in_j s t os ot (z, oz, r, m) =
      (j_equivalence k same c).trans s z t os oz ot (r_in_j k same s z r) (l_in_j k same z t m)

  pub j_is_d : (s t : List ℕ) → Over k s → Over k t → IsJ k same s t ↔ IsD k same s t
  j_is_d s t os ot = (j_in_d s t os ot, d_in_j s t os ot)

  -- one element in each class of R and of L: one element in each class of J
  pub j_trivial_by_sides : IsRTrivial k same → IsLTrivial k same → IsJTrivial k same
  j_trivial_by_sides r m = record { one = λ s t os ot h. by s t os ot (j_in_d s t os ot h) }
    where
      by : (s t : List ℕ) → Over k s → Over k t → IsD k same s t → same s t
      by s t os ot (z, oz, g, f) = through s z t os oz ot (r.one s z os oz g) (m.one z t oz ot f)

module _ (k : ℕ) (same : List ℕ → List ℕ → Type 0) where
  pub r_trivial_by_j : IsJTrivial k same → IsRTrivial k same
  r_trivial_by_j j = record { one = λ s t os ot h. j.one s t os ot (r_in_j k same s t h) }

  pub l_trivial_by_j : IsJTrivial k same → IsLTrivial k same
  l_trivial_by_j j = record { one = λ s t os ot h. j.one s t os ot (l_in_j k same s t h) }
