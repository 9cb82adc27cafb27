-- Tests of all numbers below a small one, for worked examples.
use Rattle.std.proofs.Common.{◌≡◌, ℕ, zero, suc, ◌<◌, inl, inr, Bool, true, false, cond, refl, subst, arith}
use Rattle.std.specs.declared.cmp.Ordering.{Ordering}
use Rattle.std.specs.declared.cmp.Ordering.TheVariants.{Less, Equal, Greater}
use Rattle.std.proofs.lemmas.Bool.{cases_lt}

abbrev pub every_below : ℕ → (ℕ → Bool) → Bool
every_below zero test = true
every_below (suc n) test = cond (test n) (every_below n test) false

first_holds : (a b : Bool) → cond a b false ≡ true → a ≡ true
first_holds true b e = refl
first_holds false b e = e

rest_holds : (a b : Bool) → cond a b false ≡ true → b ≡ true
rest_holds true b e = e
rest_holds false b e = cc

pub at_every : (n : ℕ) (test : ℕ → Bool) → every_below n test ≡ true → (i : ℕ) → i < n
    → test i ≡ true
at_every zero test e i h = absurd (omega arith)
at_every (suc n) test e i h = elim (cases_lt i n) [
  | inl l ↦ at_every n test (rest_holds (test n) (every_below n test) e) i l
  | inr l ↦ subst (λ (j : ℕ). test j ≡ true) (let f : n ≡ i = omega arith in f)
      (first_holds (test n) (every_below n test) e)
]

pub at_every_two : (n m : ℕ) (test : ℕ → ℕ → Bool) → every_below n (λ i. every_below m (test i))
    ≡ true → (i j : ℕ) → i < n → j < m → test i j ≡ true
at_every_two n m test e i j h g =
    at_every m (test i) (at_every n (λ i. every_below m (test i)) e i h) j g

-- what a test says under a premise
pub under : (a b : Bool) → cond a b true ≡ true → a ≡ true → b ≡ true
under true b e f = e
under false b e f = cc

abbrev pub is_less : Ordering → Bool
is_less Less = true
is_less Equal = false
is_less Greater = false

abbrev pub is_not_less : Ordering → Bool
is_not_less Less = false
is_not_less Equal = true
is_not_less Greater = true

pub less_if : (o : Ordering) → is_less o ≡ true → o ≡ Less
less_if Less e = refl
less_if Equal e = cc
less_if Greater e = cc

pub not_less_if : (o : Ordering) → is_not_less o ≡ true → ¬ (o ≡ Less)
not_less_if Less e f = cc
not_less_if Equal e f = cc
not_less_if Greater e f = cc
