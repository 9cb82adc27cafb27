-- The local submonoids of a finite monoid, stated on words: equality in the monoid is the
-- congruence `same` (Eilenberg: local submonoids; Brzozowski and Simon 1973, McNaughton 1974). The
-- local work is this project's own.
use Rattle.std.specs.Prelude.{◌≡◌, ◌<◌, ◌++◌, ◌*◌, ◌+◌, ◌⊎◌, ℕ, List, [], ◌∷◌, length, slice_index}
use Rattle.language_theory.specs.Words.{Over, word_at}
use Rattle.language_theory.specs.Representatives.{AreRepresentatives}
use Rattle.monoid_theory.specs.Green.{IsIdempotent}

-- e s e, an element of the local submonoid of e
abbrev pub local : List ℕ → List ℕ → List ℕ
local e s = e ++ (s ++ e)

-- some e s e is not idempotent
abbrev pub FailsByRepeat : ℕ → (List ℕ → List ℕ → Type 0) → List ℕ → Type 0
FailsByRepeat k same e = (s : List ℕ) × Over k s × ¬ IsIdempotent same (local e s)

-- e s e and e t e commute
abbrev pub Commute : (List ℕ → List ℕ → Type 0) → List ℕ → List ℕ → List ℕ → Type 0
Commute same e s t = same (local e s ++ local e t) (local e t ++ local e s)

-- some e s e and e t e do not commute
abbrev pub FailsBySwap : ℕ → (List ℕ → List ℕ → Type 0) → List ℕ → Type 0
FailsBySwap k same e = (s t : List ℕ) × Over k s × Over k t × ¬ Commute same e s t

-- the local submonoid of e is not idempotent and commutative
abbrev pub Fails : ℕ → (List ℕ → List ℕ → Type 0) → List ℕ → Type 0
Fails k same e = FailsByRepeat k same e ⊎ FailsBySwap k same e

-- a nonempty word of an idempotent class
pub record IsIdempotentWord (k : ℕ) (same : List ℕ → List ℕ → Type 0) (e : List ℕ) : Type 0 where
  pub over : Over k e
  pub some : 0 < length e
  pub idempotent : IsIdempotent same e

-- for each nonempty word e of an idempotent class, the elements e s e are idempotent and commute
pub record IsLocallyIdempotentAndCommutative (k : ℕ)
    (same : List ℕ → List ℕ → Type 0) : Type 0 where
  pub idempotent : (e : List ℕ) → IsIdempotentWord k same e → (s : List ℕ) → Over k s
      → IsIdempotent same (local e s)
  pub commute : (e : List ℕ) → IsIdempotentWord k same e → (s t : List ℕ) → Over k s → Over k t
      → Commute same e s t

-- the listed word at e is idempotent, and some word of its class is not empty
pub record IsIdempotentPlace (k : ℕ) (same : List ℕ → List ℕ → Type 0) (words : List (List ℕ))
    (e : ℕ) : Type 0 where
  pub within : e < length words
  pub idempotent : IsIdempotent same (word_at words e)
  pub some : (w : List ℕ) × Over k w × (0 < length w) × same (word_at words e) w

-- s and t give one element of the local submonoid of e: the classes of this relation are the
-- elements of that submonoid
abbrev pub GiveOne : (List ℕ → List ℕ → Type 0) → List ℕ → List ℕ → List ℕ → Type 0
GiveOne same e s t = same (local e s) (local e t)

-- the local submonoid of e has n elements
pub record IsLocalSize (k : ℕ) (same : List ℕ → List ℕ → Type 0) (e : List ℕ)
    (n : ℕ) : Type 0 where
  pub elements : List (List ℕ)
  pub representatives : AreRepresentatives k (GiveOne same e) elements
  pub long : length elements ≡ n

-- the size of the local submonoid of the listed word at e, if that is idempotent and has a nonempty
-- word in its class, and else 0
abbrev pub IsSizeAt : ℕ → (List ℕ → List ℕ → Type 0) → List (List ℕ) → ℕ → ℕ → Type 0
IsSizeAt k same words e n =
    (IsIdempotentPlace k same words e × IsLocalSize k same (word_at words e) n)
    ⊎ (¬ IsIdempotentPlace k same words e × (n ≡ 0))

abbrev pub sum_of_squares : List ℕ → ℕ
sum_of_squares [] = 0
sum_of_squares (n ∷ ns) = n * n + sum_of_squares ns

-- the local work: the sum of the squares of the sizes of the local submonoids of all idempotents
-- that are classes of nonempty words
pub record IsLocalWork (k : ℕ) (same : List ℕ → List ℕ → Type 0) (words : List (List ℕ))
    (work : ℕ) : Type 0 where
  pub sizes : List ℕ
  pub long : length sizes ≡ length words
  pub each : (e : ℕ) → e < length words → IsSizeAt k same words e (slice_index sizes e)
  pub sum : sum_of_squares sizes ≡ work
