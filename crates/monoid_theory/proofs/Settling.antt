-- Words with a separating context of two neighbouring powers never settle; where neighbouring
-- powers are related, all later ones settle.
use Rattle.std.proofs.Common.{◌≡◌, ◌↔◌, inl, inr, ℕ, ◌+◌, ◌-◌, ◌*◌, ◌≤◌, List, ◌++◌, subst, arith}
use Rattle.std.proofs.Math.Nat.{mul-le-mul_left}
use Rattle.language_theory.specs.Words.{Over, power}
use Rattle.language_theory.specs.Languages.{ExactlyOne}
use Rattle.language_theory.specs.Congruence.{Syntactic}
use Rattle.language_theory.specs.Representatives.{AreRepresentatives}
use Rattle.monoid_theory.specs.Separation.{Separates}
use Rattle.monoid_theory.specs.Powers.{Repeats, IsIndexAndPeriod, IsAperiodic, NeverSettle}
use Rattle.language_theory.proofs.Congruences.{syntactic_right}
use Rattle.monoid_theory.proofs.Exponents.{repeats_often}
use Rattle.monoid_theory.proofs.Returns.{index_exists}

module _ (k : ℕ) (L : List ℕ → Type 0) (u x v : List ℕ) (ou : Over k u) (ox : Over k x)
    (ov : Over k v) where
  -- what separates x^i and x^(i+1), where x^i comes back, separates ever later powers
  pub never_settles : (i p : ℕ) → 1 ≤ p → Repeats (Syntactic k L) x i p
      → Separates L (power i x) (power (i + 1) x) u v → NeverSettle L u x v
  never_settles i p one h s n = by s
    where
      far : n ≤ n * p
      far = let l : n * 1 ≤ n * p = mul-le-mul_left n one in omega arith

      at : (m : ℕ) → i ≤ m → L (u ++ (power m x ++ v)) ↔ L (u ++ (power (m + n * p) x ++ v))
      at m l = repeats_often k (Syntactic k L) (syntactic_right k L) x ox i p m n h l u v ou ov

      first : L (u ++ (power i x ++ v)) ↔ L (u ++ (power (i + n * p) x ++ v))
      first = at i (omega arith)

      second : L (u ++ (power (i + 1) x ++ v)) ↔ L (u ++ (power ((i + 1) + n * p) x ++ v))
      second = at (i + 1) (omega arith)

      by : ExactlyOne (L (u ++ (power i x ++ v))) (L (u ++ (power (i + 1) x ++ v)))
          → (a b : ℕ) × (n ≤ a) × (n ≤ b) × L (u ++ (power a x ++ v)) × ¬ L (u ++ (power b x ++ v))
      by (inl (y, z)) = (
        i + n * p,
        (i + 1) + n * p,
        (let l = far in omega arith),
        (let l = far in omega arith),
        first.0 y,
        λ w. z (second.1 w),
      )
      by (inr (y, z)) = (
        (i + 1) + n * p,
        i + n * p,
        (let l = far in omega arith),
        (let l = far in omega arith),
        second.0 z,
        λ w. y (first.1 w),
      )

  -- where x^i and x^(i+1) are related, all powers from x^i on are alike between u and v
  pub settles : (i : ℕ) → Repeats (Syntactic k L) x i 1 → ¬ NeverSettle L u x v
  settles i h f = by (f i)
    where
      at : (m : ℕ) → i ≤ m → L (u ++ (power i x ++ v)) ↔ L (u ++ (power m x ++ v))
      at m l =
          let e : i + (m - i) * 1 ≡ m = omega arith in
          subst (λ (n : ℕ). Syntactic k L (power i x) (power n x)) e
          (repeats_often k (Syntactic k L) (syntactic_right k L) x ox i 1 i (m - i) h
          (omega arith)) u v ou ov

      by : (a b : ℕ) × (i ≤ a) × (i ≤ b) × L (u ++ (power a x ++ v)) × ¬ L (u ++ (power b x ++ v))
          → ⊥
      by (a, b, la, lb, y, n) = n ((at b lb).0 ((at a la).1 y))

  -- in an aperiodic congruence with finitely many classes no words never settle
  pub aperiodic_settles : (words : List (List ℕ)) → AreRepresentatives k (Syntactic k L) words
      → IsAperiodic k (Syntactic k L) → ¬ NeverSettle L u x v
  aperiodic_settles words l a =
      by (index_exists k (Syntactic k L) words (syntactic_right k L) l x ox)
    where
      by : (i p : ℕ) × IsIndexAndPeriod (Syntactic k L) x i p → ¬ NeverSettle L u x v
      by (i, p, h) = settles i (subst (Repeats (Syntactic k L) x i) (a.one x i p ox h) h.repeats)
