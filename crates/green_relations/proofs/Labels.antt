-- The labels of Green's classes.
use Rattle.std.proofs.Common.{◌↔◌, ℕ, ◌<◌, ◌≤◌, List, length, sym, subst, arith, ◌∙◌}
use Rattle.language_theory.specs.Words.{word_at}
use Rattle.language_theory.specs.Congruence.{IsEquivalence, IsCongruence}
use Rattle.language_theory.specs.Representatives.{AreRepresentatives}
use Rattle.language_theory.proofs.Congruences.{right_congruence}
use Rattle.monoid_theory.specs.Green.{IsR, IsL, IsJ}
use Rattle.monoid_theory.proofs.Ideals.{r_equivalence, l_equivalence, j_equivalence, h_of_related}
use Rattle.monoid_theory.proofs.Ideals.{r_in_j, l_in_j}
use Rattle.monoid_theory.proofs.FiniteIdeals.{j_is_d}
use Rattle.green_relations.specs.GreenClasses.{GreenClasses, AreGreens}
use Rattle.green_relations.specs.EggBoxes.{Share, RelatesAt}
use Rattle.green_relations.specs.Classes.{NameFirsts, AreClasses}
use Rattle.green_relations.proofs.Mates.{share_related, mates_name_firsts}

module _ (k : ℕ) (same : List ℕ → List ℕ → Type 0) (words : List (List ℕ)) (q : IsCongruence k same)
    (l : AreRepresentatives k same words) (g : GreenClasses) (a : AreGreens k same words g) where
  r_equiv : IsEquivalence k (IsR k same)
  r_equiv = r_equivalence k same (right_congruence k same q)

  l_equiv : IsEquivalence k (IsL k same)
  l_equiv = l_equivalence k same q

  j_equiv : IsEquivalence k (IsJ k same)
  j_equiv = j_equivalence k same q

  -- two elements share a label exactly where they are in one class
  pub r_shared : (x y : ℕ) → x < length words → y < length words
      → Share g.r x y ↔ RelatesAt (IsR k same) words x y
  r_shared = share_related k (IsR k same) words g.r r_equiv l.over a.r

  pub l_shared : (x y : ℕ) → x < length words → y < length words
      → Share g.l x y ↔ RelatesAt (IsL k same) words x y
  l_shared = share_related k (IsL k same) words g.l l_equiv l.over a.l

  pub j_shared : (x y : ℕ) → x < length words → y < length words
      → Share g.j x y ↔ RelatesAt (IsJ k same) words x y
  j_shared = share_related k (IsJ k same) words g.j j_equiv l.over a.j

  -- a class of R and one of L that are in one class of J have an element in common
  classes_meet : (x y : ℕ) → x < length words → y < length words → Share g.j x y
      → (z : ℕ) × (z < length words) × Share g.r z x × Share g.l z y
  classes_meet x y hx hy s =
      let w = word_at words in
      let (v, ov, d, e) = (j_is_d k same words q l (w x) (w y) (l.over x hx) (l.over y hy)).0
      ((j_shared x y hx hy).0 s) in
      let (z, place) = l.place v ov in
      let hz = place.within in
      let oz = l.over z hz in
      let both = h_of_related k same q.equivalence (w z) v oz ov place.related in (
        z,
        hz,
        (r_shared z x hz hx).1 (r_equiv.trans (w z) v (w x) oz ov (l.over x hx) both.0
            (r_equiv.symm (w x) v (l.over x hx) ov d)),
        (l_shared z y hz hy).1 (l_equiv.trans (w z) v (w y) oz ov (l.over y hy) both.1 e),
      )

  pub greens_are_classes : length words ≤ 50000 → AreClasses g
  greens_are_classes few = record {
    few = omega (arith, a.r.long, few);
    r = subst (λ n. NameFirsts n g.r) (sym a.r.long)
        (mates_name_firsts k (IsR k same) words g.r r_equiv l.over a.r);
    l = subst (λ n. NameFirsts n g.l) (sym a.r.long)
        (mates_name_firsts k (IsL k same) words g.l l_equiv l.over a.l);
    j = subst (λ n. NameFirsts n g.j) (sym a.r.long)
        (mates_name_firsts k (IsJ k same) words g.j j_equiv l.over a.j);
    h = a.h.long ∙ sym a.r.long;
    marks = a.marks ∙ sym a.r.long;
    rows = λ x y hx hy s. rows x y (inside x hx) (inside y hy) s;
    columns = λ x y hx hy s. columns x y (inside x hx) (inside y hy) s;
    meet = λ x y hx hy s. meet x y (classes_meet x y (inside x hx) (inside y hy) s);
  }
    where
      inside : (x : ℕ) → x < length g.r → x < length words
      inside x hx = omega (arith, a.r.long, hx)

      rows : (x y : ℕ) → x < length words → y < length words → Share g.r x y → Share g.j x y
      rows x y hx hy s = (j_shared x y hx hy).1
          (r_in_j k same (word_at words x) (word_at words y) ((r_shared x y hx hy).0 s))

      columns : (x y : ℕ) → x < length words → y < length words → Share g.l x y → Share g.j x y
      columns x y hx hy s = (j_shared x y hx hy).1
          (l_in_j k same (word_at words x) (word_at words y) ((l_shared x y hx hy).0 s))

      meet : (x y : ℕ) → (z : ℕ) × (z < length words) × Share g.r z x × Share g.l z y
          → (z : ℕ) × (z < length g.r) × Share g.r z x × Share g.l z y
      meet x y (z, hz, s, t) = (z, omega (arith, a.r.long, hz), s, t)
