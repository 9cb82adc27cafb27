-- Aperiodicity is told by the listed words, and where it fails there are words that never settle.
use Rattle.std.proofs.Common.{◌≡◌, ◌⊎◌, inl, inr, ℕ, zero, suc, ◌+◌, ◌<◌, ◌≤◌, List, ◌++◌, length, subst, arith}
use Rattle.std.proofs.lemmas.Bool.{cases_lt}
use Rattle.language_theory.specs.Words.{Over, power, word_at}
use Rattle.language_theory.specs.Congruence.{IsCongruence, Syntactic}
use Rattle.language_theory.specs.Representatives.{AreRepresentatives}
use Rattle.language_theory.specs.Nerode.{MinimalAutomaton, IsMinimal}
use Rattle.monoid_theory.specs.Separation.{IsSeparation}
use Rattle.monoid_theory.specs.Powers.{Repeats, IsIndexAndPeriod, IsAperiodic, IsFirstLoop, NeverSettle}
use Rattle.language_theory.proofs.Numbers.{least_or_none}
use Rattle.language_theory.proofs.Shortlex.{over_append}
use Rattle.language_theory.proofs.Congruences.{right_congruence, syntactic_congruence}
use Rattle.monoid_theory.proofs.Exponents.{over_power, index_is_one, period_is_one}
use Rattle.monoid_theory.proofs.Returns.{index_exists}
use Rattle.monoid_theory.proofs.Settling.{never_settles}
use Rattle.monoid_theory.proofs.Contexts.{separation_exists}

module _ (k : ℕ) (same : List ℕ → List ℕ → Type 0) (c : IsCongruence k same) where
  -- powers of related words are related
  pub related_power : (n : ℕ) (x y : List ℕ) → Over k x → Over k y → same x y
      → same (power n x) (power n y)
  related_power zero x y ox oy s = c.equivalence.refl (power zero x) tt
  related_power (suc n) x y ox oy s =
      c.equivalence.trans (x ++ power n x) (y ++ power n x) (y ++ power n y)
      (over_power k (suc n) x ox) (over_append k y (power n x) oy (over_power k n x ox))
      (over_power k (suc n) y oy) (c.right x y (power n x) ox oy (over_power k n x ox) s)
      (c.left (power n x) (power n y) y (over_power k n x ox) (over_power k n y oy) oy
      (related_power n x y ox oy s))

  repeats_of_related : (x y : List ℕ) (i q : ℕ) → Over k x → Over k y → same x y
      → Repeats same x i q → Repeats same y i q
  repeats_of_related x y i q ox oy s r =
      c.equivalence.trans (power i y) (power i x) (power (i + q) y) (over_power k i y oy)
      (over_power k i x ox) (over_power k (i + q) y oy)
      (c.equivalence.symm (power i x) (power i y) (over_power k i x ox) (over_power k i y oy)
      (related_power i x y ox oy s)) (c.equivalence.trans (power i x) (power (i + q) x)
      (power (i + q) y) (over_power k i x ox) (over_power k (i + q) x ox)
      (over_power k (i + q) y oy) r (related_power (i + q) x y ox oy s))

  -- related words have the same index and period
  pub index_of_related : (x y : List ℕ) (i p : ℕ) → Over k x → Over k y → same x y
      → IsIndexAndPeriod same x i p → IsIndexAndPeriod same y i p
  index_of_related x y i p ox oy s h = record {
    positive = h.positive;
    repeats = repeats_of_related x y i p ox oy s h.repeats;
    index = λ j q l r. h.index j q l (repeats_of_related y x j q oy ox back r);
    period = λ q l r. h.period q l (repeats_of_related y x i q oy ox back r);
  }
    where
      back : same y x
      back = c.equivalence.symm x y ox oy s

  -- two neighbouring powers from the index on are related where the period is 1 alone
  pub neighbours_apart : (x : List ℕ) (i p : ℕ) → IsIndexAndPeriod same x i p → 1 < p
      → ¬ same (power i x) (power (i + 1) x)
  neighbours_apart x i p h l s = let m : p ≤ 1 = h.period 1 (omega arith) s in omega arith

  module _ (words : List (List ℕ)) (l : AreRepresentatives k same words) where
    -- some period of the listed word at e is greater than 1
    Loops : ℕ → Type 0
    Loops e =
        (e < length words) × ((i p : ℕ) × IsIndexAndPeriod same (word_at words e) i p × (1 < p))

    loops_or_not : (e : ℕ) → Loops e ⊎ ¬ Loops e
    unfolding Loops
    loops_or_not e = by (cases_lt e (length words))
      where
        by : (e < length words) ⊎ (length words ≤ e) → Loops e ⊎ ¬ Loops e
        by (inr m) = inr (λ f. let h = f.0 in omega arith)
        by (inl h) =
            of (index_exists k same words (right_congruence k same c) l (word_at words e)
            (l.over e h))
          where
            of : (i p : ℕ) × IsIndexAndPeriod same (word_at words e) i p → Loops e ⊎ ¬ Loops e
            of (i, p, a) = elim (cases_lt 1 p) [
              | inl m ↦ inl (h, (i, p, a, m))
              | inr m ↦ inr (λ f. let (j, q, b, g) = f.1 in let one = a.positive in let e =
                  period_is_one same (word_at words e) i p j q a b in omega arith)
            ]

    period_one : (e i p : ℕ) → e < length words → ¬ Loops e
        → IsIndexAndPeriod same (word_at words e) i p → p ≡ 1
    unfolding Loops
    period_one e i p h n a =
        elim (cases_lt 1 p) [
          | inl m ↦ absurd (n (h, (i, p, a, m)))
          | inr m ↦
              (let one = a.positive in omega arith)
        ]

    -- where each listed word has the period 1, each word has
    pub aperiodic_by_listed : ((e i p : ℕ) → e < length words
        → IsIndexAndPeriod same (word_at words e) i p → p ≡ 1) → IsAperiodic k same
    aperiodic_by_listed f =
        record {
          one = λ x i p o h. let (e, at) = l.place x o in
              f e i p at.within (index_of_related x (word_at words e) i p o (l.over e at.within)
              (c.equivalence.symm (word_at words e) x (l.over e at.within) o at.related) h);
        }

    -- the monoid is aperiodic, or there is a first listed word with a period greater than 1
    pub aperiodic_or_loops : IsAperiodic k same ⊎ ((e i p : ℕ) × IsFirstLoop same words e i p)
    unfolding Loops
    aperiodic_or_loops = elim (least_or_none Loops loops_or_not (length words)) [
      | inl (e, h, (g, (i, p, a, m)), before) ↦
          inr (
            e,
            i,
            p,
            record {
              within = g;
              powers = a;
              more = m;
              first =
                  λ j q r s b. period_one j q r (omega arith) (before j s) b;
            },
          )
      | inr none ↦ inl (aperiodic_by_listed (λ e i p h a. period_one e i p h (none e h) a))
    ]

-- a listed word with a period greater than 1 refutes aperiodicity
pub loop_not_aperiodic : (k : ℕ) (same : List ℕ → List ℕ → Type 0) (words : List (List ℕ))
    → AreRepresentatives k same words → (e i p : ℕ) → IsFirstLoop same words e i p
    → ¬ IsAperiodic k same
loop_not_aperiodic k same words l e i p f a =
    let one = a.one (word_at words e) i p (l.over e f.within) f.powers in let m = f.more in
    omega arith

-- a word with a period greater than 1, and the least context that separates the power at its index
-- from the next one, never settle
pub loop_never_settles : (k : ℕ) (L : List ℕ → Type 0) (d : MinimalAutomaton) → IsMinimal k L d
    → (x : List ℕ) (i p : ℕ) → Over k x → IsIndexAndPeriod (Syntactic k L) x i p → 1 < p
    → (u v : List ℕ) × IsSeparation k L (power i x) (power (i + 1) x) u v × NeverSettle L u x v
loop_never_settles k L d h x i p o a m =
    by (separation_exists k L d h (power i x) (power (i + 1) x) (over_power k i x o)
    (over_power k (i + 1) x o) (neighbours_apart k (Syntactic k L) (syntactic_congruence k L) x
    i p a m))
  where
    by : (u v : List ℕ) × IsSeparation k L (power i x) (power (i + 1) x) u v
        → (u v : List ℕ) × IsSeparation k L (power i x) (power (i + 1) x) u v × NeverSettle L u x v
    by (u, v, s) = (
      u,
      v,
      s,
      never_settles k L u x v s.before.over o s.behind.over i p a.positive a.repeats
          s.behind.holds,
    )

-- there is one first loop
pub first_loop_is_one : (same : List ℕ → List ℕ → Type 0) (words : List (List ℕ)) (e i p d j q : ℕ)
    → IsFirstLoop same words e i p → IsFirstLoop same words d j q → (e ≡ d) × (i ≡ j) × (p ≡ q)
first_loop_is_one same words e i p d j q a b = (
  place,
  index_is_one same (word_at words d) i p j q moved b.powers,
  period_is_one same (word_at words d) i p j q moved b.powers,
)
  where
    place : e ≡ d
    place = elim (cases_lt e d) [
      | inl l ↦ absurd (let one = b.first e i p l a.powers in let m = a.more in omega arith)
      | inr l ↦ elim (cases_lt d e) [
        | inl m ↦ absurd (let one = a.first d j q m b.powers in let n =
            b.more in omega arith)
        | inr m ↦ omega arith
      ]
    ]

    moved : IsIndexAndPeriod same (word_at words d) i p
    moved = subst (λ (n : ℕ). IsIndexAndPeriod same (word_at words n) i p) place a.powers
