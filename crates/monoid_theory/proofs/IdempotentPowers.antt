-- Index and period together are at most the number of classes, and some power is idempotent.
use Rattle.std.proofs.Common.{◌≡◌, ◌↔◌, ℕ, suc, ◌+◌, ◌-◌, ◌*◌, ◌/◌, ◌%◌, ◌<◌, ◌≤◌, List, length, sym, subst, arith}
use Rattle.language_theory.specs.Words.{Over, power}
use Rattle.language_theory.specs.Congruence.{IsRightCongruence}
use Rattle.language_theory.specs.Representatives.{AreRepresentatives, IsPlaceOf}
use Rattle.monoid_theory.specs.Powers.{Repeats, IsIndexAndPeriod}
use Rattle.monoid_theory.specs.Green.{IsIdempotent}
use Rattle.language_theory.proofs.Numbers.{pigeonhole}
use Rattle.language_theory.proofs.Representatives.{word_place, word_place_is, same_place_related}
use Rattle.monoid_theory.proofs.Exponents.{over_power, power_add, powers_symm, remainder, repeats_often, repeats_at_index, apart_by_periods}
use Rattle.monoid_theory.proofs.Returns.{index_exists}

module _ (k : ℕ) (same : List ℕ → List ℕ → Type 0) (c : IsRightCongruence k same) (x : List ℕ)
    (o : Over k x) where
  -- of the powers below index plus period no two are related
  powers_apart : (i p a b : ℕ) → IsIndexAndPeriod same x i p → a < b → b < i + p
      → ¬ same (power a x) (power b x)
  powers_apart i p a b h l m s =
      let e : a + (b - a) ≡ b = omega arith in
      let r : Repeats same x a (b - a) = subst (λ (n : ℕ). same (power a x) (power n x))
      (sym e) s in
      let first : i ≤ a = h.index a (b - a) (omega arith) r in
      let long : p ≤ b - a = h.period (b - a) (omega arith)
      (repeats_at_index k same c x o i p a (b - a) h r) in
      omega arith

  idempotent_square : (n : ℕ) → same (power n x) (power (n + n) x) ↔ IsIdempotent same (power n x)
  idempotent_square n = (
    λ s. subst (λ (w : List ℕ). same w (power n x)) (power_add n n x)
        (powers_symm k same c x o n (n + n) s),
    λ s. powers_symm k same c x o (n + n) n
        (subst (λ (w : List ℕ). same w (power n x)) (sym (power_add n n x)) s),
  )

  -- a power, not the empty word, is idempotent exactly at the multiples of the period from the
  -- index on
  pub power_idempotent : (i p n : ℕ) → IsIndexAndPeriod same x i p → 1 ≤ n
      → IsIdempotent same (power n x) ↔ ((i ≤ n) × (n % p ≡ 0))
  power_idempotent i p n h l = (to, from)
    where
      to : IsIdempotent same (power n x) → (i ≤ n) × (n % p ≡ 0)
      to s =
          let r = (idempotent_square n).1 s in
          (h.index n n l r, apart_by_periods k same c x o i p n n h r)

      from : (i ≤ n) × (n % p ≡ 0) → IsIdempotent same (power n x)
      from (m, e) =
          let split : n ≡ n % p + n / p * p = (remainder n p h.positive).1 in
          let rounds : n / p * p ≡ n = omega arith in
          (idempotent_square n).0 (subst (λ (d : ℕ). same (power n x) (power (n + d) x)) rounds
          (repeats_often k same c x o i p n (n / p) h.repeats m))

  -- and there is such a power, which is not greater than index and period together
  some_multiple : (i p : ℕ) → IsIndexAndPeriod same x i p → (n : ℕ) × (1 ≤ n) × (n ≤ i + p)
      × IsIdempotent same (power n x)
  some_multiple i p h = (
    suc (i / p) * p,
    positive,
    few,
    (idempotent_square (suc (i / p) * p)).0
        (repeats_often k same c x o i p (suc (i / p) * p) (suc (i / p)) h.repeats far),
  )
    where
      split : i ≡ i % p + i / p * p
      split = (remainder i p h.positive).1

      small : i % p < p
      small = (remainder i p h.positive).0

      positive : 1 ≤ suc (i / p) * p
      positive = let s = h.positive in omega arith

      few : suc (i / p) * p ≤ i + p
      few = let s = split in omega arith

      far : i ≤ suc (i / p) * p
      far = let s = split in let t = small in omega arith

module _ (k : ℕ) (same : List ℕ → List ℕ → Type 0) (words : List (List ℕ))
    (c : IsRightCongruence k same) (l : AreRepresentatives k same words) (x : List ℕ)
    (o : Over k x) where
  pub index_and_period_bound : (i p : ℕ) → IsIndexAndPeriod same x i p → i + p ≤ length words
  index_and_period_bound i p h =
      pigeonhole (i + p) (length words) place (λ n _. (placed n).within) apart
    where
      place : ℕ → ℕ
      place n = word_place k same words l (power n x)

      placed : (n : ℕ) → IsPlaceOf same words (power n x) (place n)
      placed n = word_place_is k same words l (power n x) (over_power k n x o)

      apart : (a b : ℕ) → a < b → b < i + p → ¬ (place a ≡ place b)
      apart a b g m e = powers_apart k same c x o i p a b h g m
          (same_place_related k same words l c.equivalence (power a x) (power b x) (place b)
          (over_power k a x o) (over_power k b x o)
          (subst (IsPlaceOf same words (power a x)) e (placed a)) (placed b))

  pub idempotent_power : (n : ℕ) × (1 ≤ n) × (n ≤ length words) × IsIdempotent same (power n x)
  idempotent_power =
      let (i, p, h) = index_exists k same words c l x o in
      let (n, a, b, e) = some_multiple k same c x o i p h in
      let few = index_and_period_bound i p h in
      (n, a, omega arith, e)
