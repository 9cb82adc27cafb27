-- The words that show that a local submonoid is not idempotent and commutative (after Brzozowski and
-- Simon 1973, McNaughton 1974). Which words stand for all, the least ones by the places of a list of
-- representatives, is this project's choice.
use Rattle.std.specs.Prelude.{◌≡◌, ◌<◌, ◌++◌, ◌↔◌, ℕ, IsTrue, List, [], length}
use Rattle.language_theory.specs.Words.{Over, word_at}
use Rattle.language_theory.specs.Languages.{IsLeastWord}
use Rattle.language_theory.specs.Congruence.{Syntactic}
use Rattle.monoid_theory.specs.Green.{IsIdempotent}
use Rattle.monoid_theory.specs.Separation.{Separates, IsSeparation}
use Rattle.answers.specs.declared.factors.LtKind.{LtKind}
use Rattle.answers.specs.declared.factors.LtKind.TheVariants as kind
use Rattle.answers.specs.declared.factors.LtWitness.{LtWitness}
use Rattle.local_submonoids.specs.LocalSubmonoids.{local, Commute, FailsByRepeat, Fails, IsIdempotentWord, IsIdempotentPlace}

-- x is a nonempty word of an idempotent class, and the context (u, v) separates x y x from its
-- square
pub record IsRepeat (k : ℕ) (L : List ℕ → Type 0) (u x y v : List ℕ) : Type 0 where
  pub idempotent : IsIdempotentWord k (Syntactic k L) x
  pub inner : Over k y
  pub before : Over k u
  pub behind : Over k v
  pub separates : Separates L (local x y) (local x y ++ local x y) u v

-- x is a nonempty word of an idempotent class, and the context (u, v) separates the two products of
-- x y x and x z x
pub record IsSwap (k : ℕ) (L : List ℕ → Type 0) (u x y z v : List ℕ) : Type 0 where
  pub idempotent : IsIdempotentWord k (Syntactic k L) x
  pub first : Over k y
  pub second : Over k z
  pub before : Over k u
  pub behind : Over k v
  pub separates : Separates L (local x y ++ local x z) (local x z ++ local x y) u v

-- ---- the least of them

-- x is the least nonempty word of the class of the listed word at e
abbrev pub IsLeastNonempty : ℕ → (List ℕ → List ℕ → Type 0) → List (List ℕ) → ℕ → List ℕ → Type 0
IsLeastNonempty k same words e x =
    IsLeastWord k (λ w. (0 < length w) × same (word_at words e) w) x

-- e is the first place of an idempotent class of a nonempty word whose local submonoid fails
pub record IsFirstFailing (k : ℕ) (same : List ℕ → List ℕ → Type 0) (words : List (List ℕ))
    (e : ℕ) : Type 0 where
  pub idempotent : IsIdempotentPlace k same words e
  pub fails : Fails k same (word_at words e)
  pub first : (j : ℕ) → j < e → IsIdempotentPlace k same words j → ¬ Fails k same (word_at words j)

-- s is the first place whose word gives an element of the local submonoid of x that is not
-- idempotent
pub record IsFirstRepeat (same : List ℕ → List ℕ → Type 0) (words : List (List ℕ)) (x : List ℕ)
    (s : ℕ) : Type 0 where
  pub within : s < length words
  pub fails : ¬ IsIdempotent same (local x (word_at words s))
  pub first : (j : ℕ) → j < s → IsIdempotent same (local x (word_at words j))

-- s is the first place whose word gives an element that does not commute with another, and t the
-- first place of such another
pub record IsFirstSwap (same : List ℕ → List ℕ → Type 0) (words : List (List ℕ)) (x : List ℕ)
    (s t : ℕ) : Type 0 where
  pub within : s < length words
  pub other_within : t < length words
  pub fails : ¬ Commute same x (word_at words s) (word_at words t)
  pub first : (i j : ℕ) → i < s → j < length words
      → Commute same x (word_at words i) (word_at words j)
  pub second : (j : ℕ) → j < t → Commute same x (word_at words s) (word_at words j)

-- what all witnesses have: x is the least nonempty word of the first class that fails
pub record IsOfFirstFailing (k : ℕ) (L : List ℕ → Type 0) (words : List (List ℕ))
    (x : List ℕ) : Type 0 where
  pub e : ℕ
  pub failing : IsFirstFailing k (Syntactic k L) words e
  pub least : IsLeastNonempty k (Syntactic k L) words e x

-- the words of a repeat: y is the first that repeats, and the context is the least one that
-- separates x y x from its square
pub record IsRepeatWitness (k : ℕ) (L : List ℕ → Type 0) (words : List (List ℕ))
    (w : LtWitness) : Type 0 where
  pub failing : IsOfFirstFailing k L words w.x
  pub s : ℕ
  pub repeat : IsFirstRepeat (Syntactic k L) words w.x s
  pub y : w.y ≡ word_at words s
  pub z : w.z ≡ []
  pub context : IsSeparation k L (local w.x w.y) (local w.x w.y ++ local w.x w.y) w.u w.v
  pub first_in : IsTrue w.first_in ↔ L (w.u ++ (local w.x w.y ++ w.v))

-- the words of a swap, where there is no repeat: y and z are the first that do not commute, and the
-- context is the least one that separates their two products
pub record IsSwapWitness (k : ℕ) (L : List ℕ → Type 0) (words : List (List ℕ))
    (w : LtWitness) : Type 0 where
  pub failing : IsOfFirstFailing k L words w.x
  pub no_repeat : ¬ FailsByRepeat k (Syntactic k L) w.x
  pub s : ℕ
  pub t : ℕ
  pub swap : IsFirstSwap (Syntactic k L) words w.x s t
  pub y : w.y ≡ word_at words s
  pub z : w.z ≡ word_at words t
  pub context : IsSeparation k L (local w.x w.y ++ local w.x w.z)
      (local w.x w.z ++ local w.x w.y) w.u w.v
  pub first_in : IsTrue w.first_in ↔ L (w.u ++ ((local w.x w.y ++ local w.x w.z) ++ w.v))

abbrev pub IsWitnessOf : LtKind → ℕ → (List ℕ → Type 0) → List (List ℕ) → LtWitness → Type 0
IsWitnessOf kind.Repeat k L words w = IsRepeatWitness k L words w
IsWitnessOf kind.Swap k L words w = IsSwapWitness k L words w

-- the witness that a language is not locally testable
abbrev pub IsWitness : ℕ → (List ℕ → Type 0) → List (List ℕ) → LtWitness → Type 0
IsWitness k L words w = IsWitnessOf w.kind k L words w
