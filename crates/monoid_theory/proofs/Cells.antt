-- Green's lemma: multiplication by a letter's word that leads from s to an element of its R-class
-- maps the L-class of s one to one, and keeps R-classes. So the classes of H in one class of J have
-- one number of elements.
use Rattle.std.proofs.Common.{◌≡◌, ◌⊎◌, inl, inr, ℕ, ◌<◌, ◌≤◌, List, ◌++◌, length, slice_index, sym, subst, arith, append_assoc}
use Rattle.std.proofs.lemmas.Bool.{cases_lt}
use Rattle.language_theory.specs.Words.{Over, word_at}
use Rattle.language_theory.specs.Congruence.{IsCongruence}
use Rattle.language_theory.specs.Representatives.{AreRepresentatives, IsPlaceOf}
use Rattle.monoid_theory.specs.Green.{IsR, IsL, IsJ, IsH, AreMembers}
use Rattle.language_theory.proofs.Numbers.{pigeonhole}
use Rattle.language_theory.proofs.Shortlex.{over_append}
use Rattle.language_theory.proofs.Congruences.{right_congruence}
use Rattle.language_theory.proofs.Representatives.{listed_apart, same_place_related}
use Rattle.monoid_theory.proofs.Ideals.{r_equivalence, l_equivalence, h_equivalence, h_of_related, r_before, l_behind}
use Rattle.monoid_theory.proofs.FiniteIdeals.{j_in_d}

module _ (k : ℕ) (same : List ℕ → List ℕ → Type 0) (c : IsCongruence k same) where
  through : (u v w : List ℕ) → Over k u → Over k v → Over k w → same u v → same v w → same u w
  through = c.equivalence.trans

  -- the word is mapped to a word of the class of t, and no two classes to one
  record Injects (s t : List ℕ) : Type 0 where
    image : List ℕ → List ℕ
    over : (u : List ℕ) → Over k u → Over k (image u)
    into : (u : List ℕ) → Over k u → IsH k same u s → IsH k same (image u) t
    one : (u v : List ℕ) → Over k u → Over k v → IsH k same u s → IsH k same v s
        → same (image u) (image v) → same u v

  -- x takes s to t, and y takes t back to s, on the right
  module _ (s t x y : List ℕ) (os : Over k s) (ot : Over k t) (ox : Over k x) (oy : Over k y)
      (there : same t (s ++ x)) (back : same s (t ++ y)) where
    round_right : same ((s ++ x) ++ y) s
    round_right =
        through ((s ++ x) ++ y) (t ++ y) s (over_append k (s ++ x) y (over_append k s x os ox) oy)
        (over_append k t y ot oy) os
        (c.right (s ++ x) t y (over_append k s x os ox) ot oy
        (c.equivalence.symm t (s ++ x) ot (over_append k s x os ox) there))
        (c.equivalence.symm s (t ++ y) os (over_append k t y ot oy) back)

    -- and so it is for each element of the L-class of s
    pub comes_back_right : (u : List ℕ) → Over k u → IsL k same u s → same ((u ++ x) ++ y) u
    comes_back_right u ou ((z, oz, h), g) =
        through ((u ++ x) ++ y) (z ++ ((s ++ x) ++ y)) u uxy
        (over_append k z ((s ++ x) ++ y) oz sxy) ou
        (subst (same ((u ++ x) ++ y)) grouped
        (c.right (u ++ x) ((z ++ s) ++ x) y (over_append k u x ou ox)
        (over_append k (z ++ s) x zs ox) oy (c.right u (z ++ s) x ou zs ox h)))
        (through (z ++ ((s ++ x) ++ y)) (z ++ s) u (over_append k z ((s ++ x) ++ y) oz sxy) zs ou
        (c.left ((s ++ x) ++ y) s z sxy os oz round_right)
        (c.equivalence.symm u (z ++ s) ou zs h))
      where
        zs : Over k (z ++ s)
        zs = over_append k z s oz os

        sxy : Over k ((s ++ x) ++ y)
        sxy = over_append k (s ++ x) y (over_append k s x os ox) oy

        uxy : Over k ((u ++ x) ++ y)
        uxy = over_append k (u ++ x) y (over_append k u x ou ox) oy

        grouped : ((z ++ s) ++ x) ++ y ≡ z ++ ((s ++ x) ++ y)
        grouped = simp append_assoc

    pub stays_in_row : (u : List ℕ) → Over k u → IsL k same u s → IsR k same u (u ++ x)
    stays_in_row u ou l = (
      (
        y,
        oy,
        c.equivalence.symm ((u ++ x) ++ y) u
            (over_append k (u ++ x) y (over_append k u x ou ox) oy) ou (comes_back_right u ou l),
      ),
      (x, ox, c.equivalence.refl (u ++ x) (over_append k u x ou ox)),
    )

    pub comes_to_column : (u : List ℕ) → Over k u → IsL k same u s → IsL k same (u ++ x) t
    comes_to_column u ou l =
        (l_equivalence k same c).trans (u ++ x) (s ++ x) t (over_append k u x ou ox)
        (over_append k s x os ox) ot
        (l_behind k same c x u s ox ou os l)
        ((h_of_related k same c.equivalence (s ++ x) t (over_append k s x os ox) ot
        (c.equivalence.symm t (s ++ x) ot (over_append k s x os ox) there)).1)

    injects_right : Injects s t
    injects_right =
        record {
          image = λ u. u ++ x;
          over = λ u ou. over_append k u x ou ox;
          into = into;
          one =
              one;
        }
      where
        into : (u : List ℕ) → Over k u → IsH k same u s → IsH k same (u ++ x) t
        into u ou (r, l) =
            let e = r_equivalence k same (right_congruence k same c) in
            let oux = over_append k u x ou ox in
            let s_t : IsR k same s t = ((y, oy, back), (x, ox, there)) in (
              e.trans (u ++ x) u t oux ou ot (e.symm u (u ++ x) ou oux (stays_in_row u ou l))
                  (e.trans u s t ou os ot r s_t),
              comes_to_column u ou l,
            )

        one : (u v : List ℕ) → Over k u → Over k v → IsH k same u s → IsH k same v s
            → same (u ++ x) (v ++ x) → same u v
        one u v ou ov h g e =
            let ux = over_append k u x ou ox in
            let vx = over_append k v x ov ox in
            through u ((u ++ x) ++ y) v ou (over_append k (u ++ x) y ux oy) ov
            (c.equivalence.symm ((u ++ x) ++ y) u (over_append k (u ++ x) y ux oy) ou
            (comes_back_right u ou h.1))
            (through ((u ++ x) ++ y) ((v ++ x) ++ y) v (over_append k (u ++ x) y ux oy)
            (over_append k (v ++ x) y vx oy) ov (c.right (u ++ x) (v ++ x) y ux vx oy e)
            (comes_back_right v ov g.1))

  -- x takes s to t, and y takes t back to s, on the left
  module _ (s t x y : List ℕ) (os : Over k s) (ot : Over k t) (ox : Over k x) (oy : Over k y)
      (there : same t (x ++ s)) (back : same s (y ++ t)) where
    round_left : same (y ++ (x ++ s)) s
    round_left =
        through (y ++ (x ++ s)) (y ++ t) s (over_append k y (x ++ s) oy (over_append k x s ox os))
        (over_append k y t oy ot) os
        (c.left (x ++ s) t y (over_append k x s ox os) ot oy
        (c.equivalence.symm t (x ++ s) ot (over_append k x s ox os) there))
        (c.equivalence.symm s (y ++ t) os (over_append k y t oy ot) back)

    comes_back_left : (u : List ℕ) → Over k u → IsR k same u s → same (y ++ (x ++ u)) u
    comes_back_left u ou ((z, oz, h), g) =
        through (y ++ (x ++ u)) ((y ++ (x ++ s)) ++ z) u yxu
        (over_append k (y ++ (x ++ s)) z yxs oz) ou
        (subst (same (y ++ (x ++ u))) grouped
        (c.left (x ++ u) (x ++ (s ++ z)) y (over_append k x u ox ou)
        (over_append k x (s ++ z) ox sz) oy (c.left u (s ++ z) x ou sz ox h)))
        (through ((y ++ (x ++ s)) ++ z) (s ++ z) u (over_append k (y ++ (x ++ s)) z yxs oz) sz ou
        (c.right (y ++ (x ++ s)) s z yxs os oz round_left)
        (c.equivalence.symm u (s ++ z) ou sz h))
      where
        sz : Over k (s ++ z)
        sz = over_append k s z os oz

        yxs : Over k (y ++ (x ++ s))
        yxs = over_append k y (x ++ s) oy (over_append k x s ox os)

        yxu : Over k (y ++ (x ++ u))
        yxu = over_append k y (x ++ u) oy (over_append k x u ox ou)

        grouped : y ++ (x ++ (s ++ z)) ≡ (y ++ (x ++ s)) ++ z
        grouped = simp append_assoc

    injects_left : Injects s t
    injects_left =
        record {
          image = λ u. x ++ u;
          over = λ u ou. over_append k x u ox ou;
          into = into;
          one =
              one;
        }
      where
        into : (u : List ℕ) → Over k u → IsH k same u s → IsH k same (x ++ u) t
        into u ou (r, l) =
            let e = l_equivalence k same c in
            let f = r_equivalence k same (right_congruence k same c) in
            let oxu = over_append k x u ox ou in
            let oxs = over_append k x s ox os in
            let s_t : IsL k same s t = ((y, oy, back), (x, ox, there)) in
            let u_xu : IsL k same u (x ++ u) = (
              (
                y,
                oy,
                c.equivalence.symm (y ++ (x ++ u)) u (over_append k y (x ++ u) oy oxu) ou
                    (comes_back_left u ou r),
              ),
              (x, ox, c.equivalence.refl (x ++ u) oxu),
            ) in (
              f.trans (x ++ u) (x ++ s) t oxu oxs ot (r_before k same c x u s ox ou os r)
                  ((h_of_related k same c.equivalence (x ++ s) t oxs ot
                  (c.equivalence.symm t (x ++ s) ot oxs there)).0),
              e.trans (x ++ u) u t oxu ou ot (e.symm u (x ++ u) ou oxu u_xu)
                  (e.trans u s t ou os ot l s_t),
            )

        one : (u v : List ℕ) → Over k u → Over k v → IsH k same u s → IsH k same v s
            → same (x ++ u) (x ++ v) → same u v
        one u v ou ov h g e =
            let xu = over_append k x u ox ou in
            let xv = over_append k x v ox ov in
            through u (y ++ (x ++ u)) v ou (over_append k y (x ++ u) oy xu) ov
            (c.equivalence.symm (y ++ (x ++ u)) u (over_append k y (x ++ u) oy xu) ou
            (comes_back_left u ou h.0))
            (through (y ++ (x ++ u)) (y ++ (x ++ v)) v (over_append k y (x ++ u) oy xu)
            (over_append k y (x ++ v) oy xv) ov (c.left (x ++ u) (x ++ v) y xu xv oy e)
            (comes_back_left v ov g.0))

  injects_r : (s t : List ℕ) → Over k s → Over k t → IsR k same s t → Injects s t
  injects_r s t os ot ((y, oy, back), (x, ox, there)) = injects_right s t x y os ot ox oy there back

  injects_l : (s t : List ℕ) → Over k s → Over k t → IsL k same s t → Injects s t
  injects_l s t os ot ((y, oy, back), (x, ox, there)) = injects_left s t x y os ot ox oy there back

  injects_through : (s z t : List ℕ) → Injects s z → Injects z t → Injects s t
  injects_through s z t f g = record {
    image = λ u. g.image (f.image u);
    over = λ u ou. g.over (f.image u) (f.over u ou);
    into = λ u ou h. g.into (f.image u) (f.over u ou) (f.into u ou h);
    one = λ u v ou ov h d e. f.one u v ou ov h d
        (g.one (f.image u) (f.image v) (f.over u ou) (f.over v ov) (f.into u ou h)
        (f.into v ov d) e);
  }

-- a choice for each number below N, as a function
module _ (N : ℕ) (Q : ℕ → ℕ → Type 0) (some : (n : ℕ) → n < N → (m : ℕ) × Q n m) where
  abbrev chosen : (n : ℕ) → (n < N) ⊎ (N ≤ n) → ℕ
  chosen n (inl h) = (some n h).0
  chosen n (inr h) = 0

  chosen_is : (n : ℕ) (d : (n < N) ⊎ (N ≤ n)) → n < N → Q n (chosen n d)
  chosen_is n (inl h) l = (some n h).1
  chosen_is n (inr h) l = absurd (omega arith)

  abbrev choice : ℕ → ℕ
  choice n = chosen n (cases_lt n N)

  choice_is : (n : ℕ) → n < N → Q n (choice n)
  choice_is n = chosen_is n (cases_lt n N)

module _ (k : ℕ) (same : List ℕ → List ℕ → Type 0) (words : List (List ℕ)) (c : IsCongruence k same)
    (l : AreRepresentatives k same words) where
  -- the n-th member is mapped to the m-th
  abbrev IsMapped : (List ℕ → List ℕ) → List ℕ → List ℕ → ℕ → ℕ → Type 0
  IsMapped image xs ys n m =
      (m < length ys) × IsPlaceOf same words (image (word_at words (slice_index xs n)))
      (slice_index ys m)

  not_longer : (s t : List ℕ) → Over k s → Over k t → Injects k same c s t → (xs ys : List ℕ)
      → AreMembers (IsH k same) words s xs → AreMembers (IsH k same) words t ys
      → length xs ≤ length ys
  not_longer s t os ot f xs ys a b =
      pigeonhole (length xs) (length ys) (choice (length xs) (IsMapped f.image xs ys) some)
      (λ n h. (choice_is (length xs) (IsMapped f.image xs ys) some n h).0) apart
    where
      at_over : (n : ℕ) → n < length xs → Over k (word_at words (slice_index xs n))
      at_over n h = l.over (slice_index xs n) (a.within n h)

      some : (n : ℕ) → n < length xs → (m : ℕ) × IsMapped f.image xs ys n m
      some n h =
          let o = at_over n h in
          let oi = f.over (word_at words (slice_index xs n)) o in
          let (j, p) = l.place (f.image (word_at words (slice_index xs n))) oi in
          let oj = l.over j p.within in
          let into : IsH k same (f.image (word_at words (slice_index xs n))) t =
          f.into (word_at words (slice_index xs n)) o (a.each n h) in
          let listed : IsH k same (word_at words j) t =
          (h_equivalence k same c).trans (word_at words j)
          (f.image (word_at words (slice_index xs n))) t oj oi ot
          (h_of_related k same c.equivalence (word_at words j)
          (f.image (word_at words (slice_index xs n))) oj oi p.related) into in
          let (m, g, e) = b.all j p.within listed in (
            m,
            (
              g,
              subst (IsPlaceOf same words (f.image (word_at words (slice_index xs n))))
                  (sym e) p,
            ),
          )

      apart : (m n : ℕ) → m < n → n < length xs
          → ¬ (choice (length xs) (IsMapped f.image xs ys) some m
          ≡ choice (length xs) (IsMapped f.image xs ys) some n)
      apart m n h g e =
          let hm : m < length xs = omega arith in
          let p = (choice_is (length xs) (IsMapped f.image xs ys) some m hm).1 in
          let q = (choice_is (length xs) (IsMapped f.image xs ys) some n g).1 in
          let om = at_over m hm in
          let on = at_over n g in
          let images : same (f.image (word_at words (slice_index xs m)))
          (f.image (word_at words (slice_index xs n))) =
          same_place_related k same words l c.equivalence
          (f.image (word_at words (slice_index xs m)))
          (f.image (word_at words (slice_index xs n)))
          (slice_index ys (choice (length xs) (IsMapped f.image xs ys) some n))
          (f.over (word_at words (slice_index xs m)) om)
          (f.over (word_at words (slice_index xs n)) on)
          (subst (λ (i : ℕ). IsPlaceOf same words (f.image (word_at words (slice_index xs m)))
          (slice_index ys i)) e p) q in
          let equal = listed_apart k same words l c.equivalence (slice_index xs m)
          (slice_index xs n) (a.within m hm) (a.within n g)
          (f.one (word_at words (slice_index xs m)) (word_at words (slice_index xs n)) om on
          (a.each m hm) (a.each n g) images) in
          let less = a.rise m n h g in
          omega arith

  injects_j : (s t : List ℕ) → Over k s → Over k t → IsJ k same s t → Injects k same c s t
  injects_j s t os ot h =
      let (z, oz, r, m) = j_in_d k same words c l s t os ot h in
      injects_through k same c s z t (injects_r k same c s z os oz r)
      (injects_l k same c z t oz ot m)

  -- the cells of one box have one number of elements
  pub cells_have_one_size : (s t : List ℕ) → Over k s → Over k t → IsJ k same s t → (xs ys : List ℕ)
      → AreMembers (IsH k same) words s xs → AreMembers (IsH k same) words t ys
      → length xs ≡ length ys
  cells_have_one_size s t os ot h xs ys a b =
      let there = not_longer s t os ot (injects_j s t os ot h) xs ys a b in
      let back = not_longer t s ot os (injects_j t s ot os (h.1, h.0)) ys xs b a in
      omega arith
