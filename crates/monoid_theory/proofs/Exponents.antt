-- Powers of a word: they come back, and from the index on exactly with the period.
use Rattle.std.proofs.Common.{◌≡◌, ◌↔◌, inl, inr, ℕ, zero, suc, ◌+◌, ◌-◌, ◌*◌, ◌/◌, ◌%◌, ◌<◌, ◌≤◌, List, ◌++◌, refl, sym, ap, subst, subst₂, ◌∙◌, arith, append_assoc}
use Rattle.std.proofs.Math.Nat.{add-mul-mod_self_right, div-add-mod, mul-le-mul_left}
use Rattle.std.proofs.lemmas.Nat.{mod_below}
use Rattle.std.proofs.lemmas.Bool.{cases_lt}
use Rattle.language_theory.specs.Words.{Over, power}
use Rattle.language_theory.specs.Congruence.{IsRightCongruence}
use Rattle.monoid_theory.specs.Powers.{Repeats, IsIndexAndPeriod}
use Rattle.language_theory.proofs.Shortlex.{over_append}

pub power_add : (i j : ℕ) (x : List ℕ) → power (i + j) x ≡ power i x ++ power j x
power_add zero j x = ap (λ (n : ℕ). power n x) (omega arith)
power_add (suc i) j x =
    let e : suc i + j ≡ suc (i + j) = omega arith in
    ap (λ (n : ℕ). power n x) e ∙ (ap (λ (w : List ℕ). x ++ w) (power_add i j x)
    ∙ sym (append_assoc x (power i x) (power j x)))

pub over_power : (k n : ℕ) (x : List ℕ) → Over k x → Over k (power n x)
over_power k zero x o = tt
over_power k (suc n) x o = over_append k x (power n x) o (over_power k n x o)

-- the index is one, and so is the period
pub index_is_one : (same : List ℕ → List ℕ → Type 0) (x : List ℕ) (i p j q : ℕ)
    → IsIndexAndPeriod same x i p → IsIndexAndPeriod same x j q → i ≡ j
index_is_one same x i p j q a b =
    let l = a.index j q b.positive b.repeats in let m = b.index i p a.positive a.repeats in
    omega arith

pub period_is_one : (same : List ℕ → List ℕ → Type 0) (x : List ℕ) (i p j q : ℕ)
    → IsIndexAndPeriod same x i p → IsIndexAndPeriod same x j q → p ≡ q
period_is_one same x i p j q a b =
    let e : i ≡ j = index_is_one same x i p j q a b in
    let l : p ≤ q = a.period q b.positive
    (subst (λ (n : ℕ). Repeats same x n q) (sym e) b.repeats) in
    let m : q ≤ p = b.period p a.positive (subst (λ (n : ℕ). Repeats same x n p) e a.repeats) in
    omega arith

-- a number is a remainder below p, and some number of times p
pub remainder : (n p : ℕ) → 1 ≤ p → (n % p < p) × (n ≡ n % p + n / p * p)
remainder n p h =
    let e : p * (n / p) + n % p ≡ n = div-add-mod n p in
    (mod_below n p (omega arith), omega arith)

module _ (k : ℕ) (same : List ℕ → List ℕ → Type 0) (c : IsRightCongruence k same) (x : List ℕ)
    (o : Over k x) where
  pub powers_refl : (a b : ℕ) → a ≡ b → same (power a x) (power b x)
  powers_refl a b e =
      subst (λ (n : ℕ). same (power a x) (power n x)) e
      (c.equivalence.refl (power a x) (over_power k a x o))

  pub powers_symm : (a b : ℕ) → same (power a x) (power b x) → same (power b x) (power a x)
  powers_symm a b h =
      c.equivalence.symm (power a x) (power b x) (over_power k a x o) (over_power k b x o) h

  pub powers_trans : (a b d : ℕ) → same (power a x) (power b x) → same (power b x) (power d x)
      → same (power a x) (power d x)
  powers_trans a b d h g =
      c.equivalence.trans (power a x) (power b x) (power d x) (over_power k a x o)
      (over_power k b x o) (over_power k d x o) h g

  -- two related powers are related as many steps further on
  pub powers_shift : (a b d : ℕ) → same (power a x) (power b x)
      → same (power (a + d) x) (power (b + d) x)
  powers_shift a b d h =
      rw (power_add a d x, power_add b d x)
      (c.right (power a x) (power b x) (power d x) (over_power k a x o) (over_power k b x o)
      (over_power k d x o) h)

  -- a power that comes back does so from each later one on, after any number of rounds
  pub repeats_later : (i p n : ℕ) → Repeats same x i p → i ≤ n → same (power n x) (power (n + p) x)
  repeats_later i p n h l =
      let e : i + (n - i) ≡ n = omega arith in
      let f : (i + p) + (n - i) ≡ n + p = omega arith in
      subst (λ (m : ℕ). same (power n x) (power m x)) f
      (subst (λ (m : ℕ). same (power m x) (power ((i + p) + (n - i)) x)) e
      (powers_shift i (i + p) (n - i) h))

  pub repeats_often : (i p n d : ℕ) → Repeats same x i p → i ≤ n
      → same (power n x) (power (n + d * p) x)
  repeats_often i p n zero h l = powers_refl n (n + 0 * p) (omega arith)
  repeats_often i p n (suc d) h l =
      let e : (n + d * p) + p ≡ n + suc d * p = omega arith in
      powers_trans n (n + d * p) (n + suc d * p) (repeats_often i p n d h l)
      (subst (λ (m : ℕ). same (power (n + d * p) x) (power m x)) e
      (repeats_later i p (n + d * p) h (omega arith)))

  -- a power from i on is related to one of the p powers from i on
  pub repeats_within : (i p n : ℕ) → 1 ≤ p → Repeats same x i p → i ≤ n
      → same (power (i + (n - i) % p) x) (power n x)
  repeats_within i p n h r l =
      let e = (remainder (n - i) p h).1 in
      let f : (i + (n - i) % p) + (n - i) / p * p ≡ n = omega arith in
      subst (λ (m : ℕ). same (power (i + (n - i) % p) x) (power m x)) f
      (repeats_often i p (i + (n - i) % p) ((n - i) / p) r (omega arith))

  -- where two powers are related, the power at the index comes back after as many steps as they are
  -- apart
  pub repeats_at_index : (i p n q : ℕ) → IsIndexAndPeriod same x i p
      → same (power n x) (power (n + q) x) → Repeats same x i q
  repeats_at_index i p n q h s = by (i + n * p - n) further
    where
      further : n + (i + n * p - n) ≡ i + n * p
      further = let one = h.positive in let l : n * 1 ≤ n * p = mul-le-mul_left n one in omega arith

      by : (d : ℕ) → n + d ≡ i + n * p → Repeats same x i q
      by d e =
          let f : (n + q) + d ≡ (i + q) + n * p = omega arith in
          let moved : same (power (n + d) x) (power ((n + q) + d) x) = powers_shift n (n + q) d s in
          let there : same (power (i + n * p) x) (power ((i + q) + n * p) x) =
          subst₂ (λ (a b : ℕ). same (power a x) (power b x)) e f moved in
          powers_trans i (i + n * p) (i + q) (repeats_often i p i n h.repeats (omega arith))
          (powers_trans (i + n * p) ((i + q) + n * p) (i + q) there
          (powers_symm (i + q) ((i + q) + n * p)
          (repeats_often i p (i + q) n h.repeats (omega arith))))

  -- and so they are apart by a number of periods
  pub apart_by_periods : (i p n q : ℕ) → IsIndexAndPeriod same x i p
      → same (power n x) (power (n + q) x) → q % p ≡ 0
  apart_by_periods i p n q h s = by (q % p) (q / p) (remainder q p h.positive)
    where
      by : (r d : ℕ) → (r < p) × (q ≡ r + d * p) → r ≡ 0
      by zero d e = refl
      by (suc r) d (l, e) =
          let f : (i + suc r) + d * p ≡ i + q = omega arith in
          let there : same (power (i + suc r) x) (power (i + q) x) =
          subst (λ (m : ℕ). same (power (i + suc r) x) (power m x)) f
          (repeats_often i p (i + suc r) d h.repeats (omega arith)) in
          let short : p ≤ suc r = h.period (suc r) (omega arith)
          (powers_trans i (i + q) (i + suc r) (repeats_at_index i p n q h s)
          (powers_symm (i + suc r) (i + q) there)) in
          absurd (omega arith)

  related_remainder : (i p n q : ℕ) → IsIndexAndPeriod same x i p
      → same (power n x) (power (n + q) x) → (n + q) % p ≡ n % p
  related_remainder i p n q h s =
      let e = (remainder q p h.positive).1 in
      let z : q % p ≡ 0 = apart_by_periods i p n q h s in
      let f : n + q ≡ n + q / p * p = omega arith in
      ap (λ (m : ℕ). m % p) f ∙ add-mul-mod_self_right n (q / p) p

  equal_remainder : (i p n q : ℕ) → IsIndexAndPeriod same x i p → i ≤ n → (n + q) % p ≡ n % p
      → same (power n x) (power (n + q) x)
  equal_remainder i p n q h l e =
      by ((n + q) / p) (n / p) (remainder (n + q) p h.positive).1 (remainder n p h.positive).1
    where
      round : (a b d : ℕ) → a ≡ b + d → n + q ≡ (n + q) % p + a * p → n ≡ n % p + b * p
          → same (power n x) (power (n + q) x)
      round a b d t f g =
          let u : a * p ≡ b * p + d * p = rw t (omega arith) in
          let v : n + d * p ≡ n + q = omega arith in
          subst (λ (m : ℕ). same (power n x) (power m x)) v (repeats_often i p n d h.repeats l)

      by : (a b : ℕ) → n + q ≡ (n + q) % p + a * p → n ≡ n % p + b * p
          → same (power n x) (power (n + q) x)
      by a b f g = elim (cases_lt a b) [
        | inl s ↦ let t : p * a ≤ p * b = mul-le-mul_left p (omega arith) in
            powers_refl n (n + q) (omega arith)
        | inr s ↦ round a b (a - b) (omega arith) f g
      ]

  -- from the index on, powers are related exactly where their exponents differ by a number of
  -- periods
  pub related_powers : (i p n m : ℕ) → IsIndexAndPeriod same x i p → i ≤ n → i ≤ m
      → same (power n x) (power m x) ↔ (n % p ≡ m % p)
  related_powers i p n m h hn hm = elim (cases_lt n m) [
    | inl l ↦ ordered n m (m - n) hn (omega arith)
    | inr l ↦ (
      λ s. sym ((ordered m n (n - m) hm (omega arith)).0 (powers_symm n m s)),
      λ e. powers_symm m n ((ordered m n (n - m) hm (omega arith)).1 (sym e)),
    )
  ]
    where
      ordered : (a b q : ℕ) → i ≤ a → b ≡ a + q → same (power a x) (power b x) ↔ (a % p ≡ b % p)
      ordered a b q l e =
          rw e (λ s. sym (related_remainder i p a q h s), λ f. equal_remainder i p a q h l (sym f))
