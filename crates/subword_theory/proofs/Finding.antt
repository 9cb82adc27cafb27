-- Short subwords that one word has and another one lacks: there is one, or there is none.
use Rattle.std.proofs.Common.{◌⊎◌, inl, inr, ℕ, ◌≤◌, List, [], ◌∷◌, ◌++◌, length, arith}
use Rattle.std.proofs.lemmas.Bool.{cases_lt}
use Rattle.language_theory.specs.Words.{IsSubword, done, keep, skip}
use Rattle.language_theory.proofs.Deleting.{subword_nil, subword_tail, subword_or_not}

-- every subword of w has the property
abbrev AllHave : List ℕ → (List ℕ → Type 0) → Type 0
AllHave w P = (x : List ℕ) → IsSubword x w → P x

-- some subword of w does not have it
abbrev OneLacks : List ℕ → (List ℕ → Type 0) → Type 0
OneLacks w P = (x : List ℕ) × IsSubword x w × ¬ P x

-- a test of all subwords of a word finds one that fails, or none
all_or_one : (w : List ℕ) (P : List ℕ → Type 0) → ((x : List ℕ) → P x ⊎ ¬ P x)
    → AllHave w P ⊎ OneLacks w P
all_or_one [] P test = by (test [])
  where
    all : P [] → AllHave [] P
    all p x done = p

    by : P [] ⊎ ¬ P [] → AllHave [] P ⊎ OneLacks [] P
    by (inl p) = inl (all p)
    by (inr n) = inr ([], done, n)
all_or_one (a ∷ w) P test =
    by (all_or_one w P test) (all_or_one w (λ x. P (a ∷ x)) (λ x. test (a ∷ x)))
  where
    all : AllHave w P → AllHave w (λ x. P (a ∷ x)) → AllHave (a ∷ w) P
    all f g x (keep h) = g _ h
    all f g x (skip h) = f x h

    by : AllHave w P ⊎ OneLacks w P → AllHave w (λ x. P (a ∷ x)) ⊎ OneLacks w (λ x. P (a ∷ x))
        → AllHave (a ∷ w) P ⊎ OneLacks (a ∷ w) P
    by (inl f) (inl g) = inl (all f g)
    by (inr (x, h, n)) y = inr (x, skip h, n)
    by (inl f) (inr (x, h, n)) = inr (a ∷ x, keep h, n)

-- u has all subwords of w of length at most n
abbrev pub HasShort : ℕ → List ℕ → List ℕ → Type 0
HasShort n w u = (x : List ℕ) → length x ≤ n → IsSubword x w → IsSubword x u

-- u lacks a subword of w of length at most n
abbrev pub LacksShort : ℕ → List ℕ → List ℕ → Type 0
LacksShort n w u = (x : List ℕ) × (length x ≤ n) × IsSubword x w × ¬ IsSubword x u

-- x is longer than n letters, or a subword of u
abbrev IsLongOrIn : ℕ → List ℕ → List ℕ → Type 0
IsLongOrIn n u x = length x ≤ n → IsSubword x u

long_or_in : (n : ℕ) (u x : List ℕ) → IsLongOrIn n u x ⊎ ¬ IsLongOrIn n u x
long_or_in n u x = elim (subword_or_not x u) [
  | inl h ↦ inl (λ _. h)
  | inr m ↦ elim (cases_lt n (length x)) [
    | inl l ↦ inl (λ s. absurd (omega arith))
    | inr l ↦ inr (λ f. m (f l))
  ]
]

pub has_or_lacks : (n : ℕ) (w u : List ℕ) → HasShort n w u ⊎ LacksShort n w u
has_or_lacks n w u = by (all_or_one w (IsLongOrIn n u) (long_or_in n u))
  where
    found : (x : List ℕ) → IsSubword x w → ¬ IsLongOrIn n u x → LacksShort n w u
    found x h m = elim (cases_lt n (length x)) [
      | inl l ↦ absurd (m (λ s. absurd (omega arith)))
      | inr l ↦ (x, l, h, λ g. m (λ _. g))
    ]

    by : AllHave w (IsLongOrIn n u) ⊎ OneLacks w (IsLongOrIn n u)
        → HasShort n w u ⊎ LacksShort n w u
    by (inl f) = inl (λ x l h. f x h l)
    by (inr (x, h, m)) = inr (found x h m)

-- ---- subwords that go through a letter

pub subword_suffix : (r t v : List ℕ) → IsSubword (r ++ t) v → IsSubword t v
subword_suffix [] t v h = h
subword_suffix (b ∷ r) t v h = subword_suffix r t v (subword_tail h)

either : {A B C : Type 0} → (A → B) → A ⊎ C → B ⊎ C
either f (inl a) = inl (f a)
either f (inr c) = inr c

-- r a t is in x z: either r a is in x, or a t is in z
pub passes : (r x : List ℕ) (a : ℕ) (t z : List ℕ) → IsSubword (r ++ a ∷ t) (x ++ z)
    → IsSubword (r ++ a ∷ []) x ⊎ IsSubword (a ∷ t) z
passes r [] a t z h = inr (subword_suffix r (a ∷ t) z h)
passes [] (c ∷ x) a t z (keep h) = inl (keep (subword_nil x))
passes [] (c ∷ x) a t z (skip h) = either skip (passes [] x a t z h)
passes (b ∷ r) (c ∷ x) a t z (keep h) = either keep (passes r x a t z h)
passes (b ∷ r) (c ∷ x) a t z (skip h) = either skip (passes (b ∷ r) x a t z h)
