-- The monoid of an aperiodic congruence, given by the places of its classes, is one for the
-- construction.
use Rattle.std.proofs.Common.{◌≡◌, ℕ, zero, suc, ◌+◌, ◌<◌, List, [], ◌∷◌, ◌++◌, append_assoc, sym}
use Rattle.std.proofs.Common.{subst, ◌∙◌, ap, refl, arith, length}
use Rattle.std.proofs.lemmas.List.{append-nil}
use Rattle.language_theory.specs.Words.{Over, power, word_at}
use Rattle.language_theory.specs.Congruence.{IsCongruence}
use Rattle.language_theory.specs.Representatives.{IsPlaceOf, AreRepresentatives}
use Rattle.language_theory.proofs.Representatives.{place_is_one, place_of_listed, place_of_empty}
use Rattle.language_theory.proofs.Representatives.{place_of_related}
use Rattle.language_theory.proofs.Shortlex.{over_append}
use Rattle.monoid_theory.specs.Products.{IsProduct}
use Rattle.monoid_theory.specs.Powers.{IsAperiodic, Repeats}
use Rattle.monoid_theory.proofs.Places.{product_of_words}
use Rattle.monoid_theory.proofs.Exponents.{over_power}
use Rattle.monoid_theory.proofs.Returns.{index_exists}
use Rattle.star_free_theory.specs.Construction.{Algebra, IsAlgebra, count_from}
use Rattle.star_free_theory.specs.Instance.{Among, value}
use Rattle.star_free_theory.specs.LocalDivisor.{HasSettlingPowers, IsMonoid, power_of}
use Rattle.star_free_theory.proofs.Whole.{Over_all, among_count, count_among, count_distinct}

module _ (k : ℕ) (same : List ℕ → List ℕ → Type 0) (words : List (List ℕ)) (c : IsCongruence k same)
    (l : AreRepresentatives k same words) (product : ℕ → ℕ → ℕ)
    (pr : (i j : ℕ) → i < length words → j < length words → IsProduct same words i j (product i j))
    (img : ℕ → ℕ) (im : (a : ℕ) → a < k → IsPlaceOf same words (a ∷ []) (img a)) where
  abbrev pub by_places : Algebra
  by_places = record {
    elements = count_from 0 (length words);
    product = product;
    identity
        = 0;
    image = img;
  }

  abbrev val : List ℕ → ℕ
  val = value product 0 img

  -- the value of a word is its place
  pub value_place : (w : List ℕ) → Over k w → IsPlaceOf same words w (val w)
  value_place [] o = place_of_empty k same words l c.equivalence
  value_place (a ∷ w) o =
      let p = im a o.0 in
      let q = value_place w o.1 in
      (product_of_words k same words c l (a ∷ []) w (img a) (val w) (product (img a) (val w))
      (o.0, tt) o.1 p q).1 (pr (img a) (val w) p.within q.within)

  own_value : (i : ℕ) → i < length words → val (word_at words i) ≡ i
  own_value i h = place_is_one same words (word_at words i) (val (word_at words i)) i
      (value_place (word_at words i) (l.over i h))
      (place_of_listed k same words l c.equivalence i h)

  value_joined : (u v : List ℕ) → Over k u → Over k v → val (u ++ v) ≡ product (val u) (val v)
  value_joined u v ou ov =
      let p = value_place u ou in
      let q = value_place v ov in
      place_is_one same words (u ++ v) (val (u ++ v)) (product (val u) (val v))
      (value_place (u ++ v) (over_append k u v ou ov))
      ((product_of_words k same words c l u v (val u) (val v) (product (val u) (val v)) ou ov p q).1
      (pr (val u) (val v) p.within q.within))

  value_power : (w : List ℕ) → Over k w → (n : ℕ) → val (power n w) ≡ power_of product 0 (val w) n
  value_power w o zero = refl
  value_power w o (suc n) = value_joined w (power n w) o (over_power k n w o)
      ∙ ap (product (val w)) (value_power w o n)

  below : (x : ℕ) → Among (count_from 0 (length words)) x → x < length words
  below x i = let r = among_count 0 (length words) x i in omega (arith, r.1)

  within : (x : ℕ) → x < length words → Among (count_from 0 (length words)) x
  within x h = count_among 0 (length words) x (omega arith) (omega arith)

  is_monoid : IsMonoid (Among (count_from 0 (length words))) product 0
  is_monoid = record {
    one_in = within 0 (value_place [] tt).within;
    mul_in = λ x y i j. within (product x y) (pr x y (below x i) (below y j)).place.within;
    assoc = λ x y z i j h. assoc_at x y z (below x i) (below y j) (below z h);
    left = λ x i. left_at x (below x i);
    right = λ x i. right_at x (below x i);
  }
    where
      assoc_at : (x y z : ℕ) → x < length words → y < length words → z < length words
          → product (product x y) z ≡ product x (product y z)
      assoc_at x y z i j h =
          let u = word_at words x in
          let v = word_at words y in
          let w = word_at words z in
          let ou = l.over x i in
          let ov = l.over y j in
          let ow = l.over z h in
          let eu : val u ≡ x = own_value x i in
          let ev : val v ≡ y = own_value y j in
          let ew : val w ≡ z = own_value z h in
          let a : val ((u ++ v) ++ w) ≡ product (val (u ++ v)) (val w) = value_joined (u ++ v) w
          (over_append k u v ou ov) ow in
          let b : val (u ++ v) ≡ product (val u) (val v) = value_joined u v ou ov in
          let d : val (u ++ (v ++ w)) ≡ product (val u) (val (v ++ w)) = value_joined u (v ++ w) ou
          (over_append k v w ov ow) in
          let e : val (v ++ w) ≡ product (val v) (val w) = value_joined v w ov ow in
          let f : val ((u ++ v) ++ w) ≡ val (u ++ (v ++ w)) = ap val (append_assoc u v w) in
          cc

      left_at : (x : ℕ) → x < length words → product 0 x ≡ x
      left_at x i =
          let u = word_at words x in
          let e : val u ≡ x = own_value x i in
          ap (product 0) (sym e) ∙ sym (value_joined [] u tt (l.over x i)) ∙ e

      right_at : (x : ℕ) → x < length words → product x 0 ≡ x
      right_at x i =
          let u = word_at words x in
          let e : val u ≡ x = own_value x i in
          ap (λ (z : ℕ). product z 0) (sym e) ∙ sym (value_joined u [] (l.over x i) tt)
          ∙ ap val (append-nil u) ∙ e

  pub are_powers_settling : IsAperiodic k same
      → HasSettlingPowers (Among (count_from 0 (length words))) product 0
  are_powers_settling a = record { settles = λ x i. by x (below x i) }
    where
      by : (x : ℕ) → x < length words → (n : ℕ)
          × (power_of product 0 x (suc n) ≡ power_of product 0 x n)
      by x h =
          let w = word_at words x in
          let o = l.over x h in
          let e : val w ≡ x = own_value x h in
          let (i, p, f) = index_exists k same words
          (record { equivalence = c.equivalence; right = c.right }) l w o in
          let g : Repeats same w i 1 = subst (Repeats same w i) (a.one w i p o f) f.repeats in
          let s : i + 1 ≡ suc i = omega arith in
          let r : same (power i w) (power (suc i) w)
          = subst (λ (m : ℕ). same (power i w) (power m w)) s g in
          let o1 = over_power k i w o in
          let o2 = over_power k (suc i) w o in
          let q : val (power i w) ≡ val (power (suc i) w) = place_is_one same words
          (power (suc i) w) (val (power i w)) (val (power (suc i) w))
          (place_of_related k same words l c.equivalence (power i w) (power (suc i) w)
          (val (power i w)) o1 o2 r (value_place (power i w) o1))
          (value_place (power (suc i) w) o2) in (
            i,
            subst (λ (z : ℕ). power_of product 0 z (suc i) ≡ power_of product 0 z i) e
                (sym (value_power w o (suc i)) ∙ sym q ∙ value_power w o i),
          )

  pub are_algebras : IsAperiodic k same → IsAlgebra k by_places
  are_algebras a = record {
    generated = record {
      monoid = is_monoid;
      distinct = count_distinct 0 (length words);
      once = count_distinct 0 k;
      images = λ a i. within (img a)
          (im a (let r = among_count 0 k a i in omega (arith, r.1))).within;
      spelled = λ x i. (
        word_at words x,
        Over_all k (word_at words x) (l.over x (below x i)),
        own_value x (below x i),
      );
    };
    aperiodic = are_powers_settling a;
  }
