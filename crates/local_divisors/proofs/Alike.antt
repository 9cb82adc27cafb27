-- Two products and images that agree on the elements and letters give the same instances.
use Rattle.std.proofs.Common.{◌≡◌, ◌∙◌, ℕ, zero, suc, Bool, true, false, cond, eqb, List, [], ◌∷◌}
use Rattle.std.proofs.Common.{length, map, refl, sym, ap, subst, inl, inr}
use Rattle.star_free_theory.specs.Instance.{Among, AllAmong, value, IsGenerated}
use Rattle.star_free_theory.specs.Construction.{has, keep, local_elements, span, reach, first_other}
use Rattle.star_free_theory.specs.Construction.{pairs, row}
use Rattle.star_free_theory.proofs.FiniteLists.{among_keep, keep_among}
use Rattle.star_free_theory.proofs.Parts.{IsSpan}
use Rattle.local_divisors.proofs.Tables.{keep_same}

-- the same on the elements and letters
pub record Agree (els letters : List ℕ) (mul nul : ℕ → ℕ → ℕ) (img jmg : ℕ → ℕ) : Type 0 where
  pub product : (x y : ℕ) → Among els x → Among els y → mul x y ≡ nul x y
  pub image : (a : ℕ) → Among letters a → img a ≡ jmg a

pub first_other_same : (img jmg : ℕ → ℕ) (one : ℕ) (ls : List ℕ)
    → ((a : ℕ) → Among ls a → img a ≡ jmg a) → first_other img one ls ≡ first_other jmg one ls
first_other_same img jmg one [] h = refl
first_other_same img jmg one (a ∷ ls) h = rw (
  h a (inl refl),
  first_other_same img jmg one ls
      (λ b i. h b (inr i)),
) refl

row_same : (mul nul : ℕ → ℕ → ℕ) (r : ℕ) (ts : List ℕ) (u : ℕ)
    → ((t : ℕ) → Among ts t → mul r t ≡ nul r t) → row mul r ts u ≡ row nul r ts u
row_same mul nul r [] u h = refl
row_same mul nul r (t ∷ ts) u h = rw (h t (inl refl), row_same mul nul r ts u (λ s i. h s (inr i)))
    refl

pub pairs_same : (mul nul : ℕ → ℕ → ℕ) (rs ts : List ℕ) (u : ℕ)
    → ((r t : ℕ) → Among rs r → Among ts t → mul r t ≡ nul r t)
    → pairs mul rs ts u ≡ pairs nul rs ts u
pairs_same mul nul [] ts u h = refl
pairs_same mul nul (r ∷ rs) ts u h = rw (
  row_same mul nul r ts u (λ t i. h r t (inl refl) i),
  pairs_same mul nul rs ts u (λ s t i j. h s t (inr i) j),
) refl

has_map_same : (f g : ℕ → ℕ) (xs : List ℕ) (x : ℕ) → ((s : ℕ) → Among xs s → f s ≡ g s)
    → has (map f xs) x ≡ has (map g xs) x
has_map_same f g [] x h = refl
has_map_same f g (s ∷ xs) x h = rw (h s (inl refl), has_map_same f g xs x (λ t i. h t (inr i))) refl

module _ (els letters : List ℕ) (mul nul : ℕ → ℕ → ℕ) (one : ℕ) (img jmg : ℕ → ℕ)
    (g : IsGenerated els letters mul one img) (h : Agree els letters mul nul img jmg) where
  pub value_same : (ls : List ℕ) → AllAmong letters ls
      → (value mul one img ls ≡ value nul one jmg ls) × Among els (value mul one img ls)
  value_same [] i = (refl, g.monoid.one_in)
  value_same (a ∷ ls) i =
      let r = value_same ls i.1 in
      let ia = g.images a i.0 in (
        h.product (img a) (value mul one img ls) ia r.1
            ∙ ap (λ (z : ℕ). nul z (value mul one img ls)) (h.image a i.0)
            ∙ ap (nul (jmg a)) r.0,
        g.monoid.mul_in (img a) (value mul one img ls) ia r.1,
      )

  pub generated_same : IsGenerated els letters nul one jmg
  generated_same = record {
    monoid = record {
      one_in = g.monoid.one_in;
      mul_in = λ x y i j. subst (Among els) (h.product x y i j) (g.monoid.mul_in x y i j);
      assoc = λ x y z i j k.
          let a : mul x y ≡ nul x y = h.product x y i j in
          let b : mul (mul x y) z ≡ nul (mul x y) z = h.product (mul x y) z (g.monoid.mul_in x y i
          j) k in
          let c : mul y z ≡ nul y z = h.product y z j k in
          let d : mul x (mul y z) ≡ nul x (mul y z) = h.product x (mul y z) i (g.monoid.mul_in y z j
          k) in
          let e : mul (mul x y) z ≡ mul x (mul y z) = g.monoid.assoc x y z i j k in
          cc;
      left = λ x i. sym (h.product one x g.monoid.one_in i) ∙ g.monoid.left x i;
      right = λ x i. sym (h.product x one i g.monoid.one_in) ∙ g.monoid.right x i;
    };
    distinct = g.distinct;
    once = g.once;
    images = λ a i. subst (Among els) (h.image a i) (g.images a i);
    spelled = λ x i. let r = g.spelled x i in (r.0, r.1, sym (value_same r.0 r.1).0 ∙ r.2);
  }

  pub local_elements_same : (m : ℕ) → Among els m → local_elements mul m els ≡ local_elements nul m
      els
  local_elements_same m im = keep_same (has (m ∷ map (λ s. mul (mul m s) m) els))
      (has (m ∷ map (λ s. nul (nul m s) m) els)) els (λ x i. ap (λ (b : Bool). cond (eqb x m) true
      b) (has_map_same (λ s. mul (mul m s) m) (λ s. nul (nul m s) m) els x
      (λ s j. h.product (mul m s) m (g.monoid.mul_in m s im j) im ∙ ap (λ (z : ℕ). nul z m)
      (h.product m s im j))))

-- marks that tell the products of images keep the submonoid
pub span_keeps : (mul : ℕ → ℕ → ℕ) (one : ℕ) (img : ℕ → ℕ) (letters els : List ℕ) (n : ℕ)
    → (q : ℕ → Bool) × (reach mul one img letters els n ≡ keep q els)
unfolding reach
span_keeps mul one img letters els zero = (has (one ∷ []), refl)
span_keeps mul one img letters els (suc n) = (_, refl)

bools_same : (b c : Bool) → (b ≡ true → c ≡ true) → (c ≡ true → b ≡ true) → b ≡ c
bools_same true c f g = sym (f refl)
bools_same false true f g = g refl
bools_same false false f g = refl

pub marks_span : (mul : ℕ → ℕ → ℕ) (one : ℕ) (img : ℕ → ℕ) (letters els : List ℕ) (p : ℕ → Bool)
    → IsSpan mul one img letters (span mul one img letters els)
    → ((x : ℕ) → Among els x → p x ≡ true → (ls : List ℕ) × AllAmong letters ls ×
    (value mul one img ls ≡ x))
    → ((ls : List ℕ) → AllAmong letters ls → p (value mul one img ls) ≡ true)
    → keep p els ≡ span mul one img letters els
unfolding span
marks_span mul one img letters els p s sound all =
    let k = span_keeps mul one img letters els (length els) in
    keep_same p k.0 els (λ x i. bools_same (p x) (k.0 x)
    (λ e. let r = sound x i e in
    (keep_among k.0 els x (subst (λ zs. Among zs x) k.1
    (subst (Among (reach mul one img letters els (length els))) r.2 (s.holds r.0 r.1)))).1)
    (λ e. let r = s.spelled x (subst (λ zs. Among zs x) (sym k.1) (among_keep k.0 els x i e)) in
    subst (λ (z : ℕ). p z ≡ true) r.2 (all r.0 r.1)))
    ∙ sym k.1
