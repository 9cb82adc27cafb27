-- Instances of the local-divisor construction: a finite monoid, letters with images in it and with
-- languages, and a universe (after the proof of Schützenberger's theorem by local divisors).
use Rattle.std.specs.Prelude.{◌≡◌, ◌⊎◌, ◌↔◌, ◌++◌, ◌+◌, ℕ, zero, suc, List, [], ◌∷◌}
use Rattle.star_free_theory.specs.LocalDivisor.{IsMonoid, HasSettlingPowers}

-- x stands in the list
abbrev pub Among : List ℕ → ℕ → Type 0
Among [] x = ⊥
Among (y ∷ ys) x = (x ≡ y) ⊎ Among ys x

-- no number stands twice in the list
abbrev pub Distinct : List ℕ → Type 0
Distinct [] = Unit {0}
Distinct (x ∷ xs) = ¬ Among xs x × Distinct xs

-- each of the second list stands in the first
abbrev pub AllAmong : List ℕ → List ℕ → Type 0
AllAmong xs [] = Unit {0}
AllAmong xs (a ∷ ls) = Among xs a × AllAmong xs ls

-- the product of the images of letters, in order
abbrev pub value : (ℕ → ℕ → ℕ) → ℕ → (ℕ → ℕ) → List ℕ → ℕ
value mul one img [] = one
value mul one img (a ∷ ls) = mul (img a) (value mul one img ls)

-- a finite monoid that the images of letters generate
pub record IsGenerated (elements letters : List ℕ) (mul : ℕ → ℕ → ℕ) (one : ℕ)
    (img : ℕ → ℕ) : Type 0 where
  pub monoid : IsMonoid (Among elements) mul one
  pub distinct : Distinct elements
  pub once : Distinct letters
  pub images : (a : ℕ) → Among letters a → Among elements (img a)
  pub spelled : (x : ℕ) → Among elements x
      → (ls : List ℕ) × AllAmong letters ls × (value mul one img ls ≡ x)

-- Words written as pieces: a piece is a letter and a word of it. `P a x` tells that a is a letter
-- and x a word of it.

-- the words of the pieces, one after another
abbrev pub joined : List (ℕ × List ℕ) → List ℕ
joined [] = []
joined (p ∷ ps) = p.1 ++ joined ps

abbrev pub Writes : (ℕ → List ℕ → Type 0) → List (ℕ × List ℕ) → Type 0
Writes P [] = Unit {0}
Writes P (p ∷ ps) = P p.0 p.1 × Writes P ps

-- the product of the images of the pieces' letters, in order
abbrev pub image : (ℕ → ℕ → ℕ) → ℕ → (ℕ → ℕ) → List (ℕ × List ℕ) → ℕ
image mul one img [] = one
image mul one img (p ∷ ps) = mul (img p.0) (image mul one img ps)

-- w is written in pieces
abbrev pub IsWritten : (ℕ → List ℕ → Type 0) → List ℕ → Type 0
IsWritten P w = (ps : List (ℕ × List ℕ)) × Writes P ps × (joined ps ≡ w)

-- w is written in pieces, with the image p
abbrev pub Has : (ℕ → List ℕ → Type 0) → (ℕ → ℕ → ℕ) → ℕ → (ℕ → ℕ) → ℕ → List ℕ → Type 0
Has P mul one img p w =
    (ps : List (ℕ × List ℕ)) × Writes P ps × (joined ps ≡ w) × (image mul one img ps ≡ p)

-- U is the words that are written in pieces, each in exactly one way
pub record IsUniverse (P : ℕ → List ℕ → Type 0) (U : List ℕ → Type 0) : Type 0 where
  pub covers : (w : List ℕ) → U w ↔ IsWritten P w
  pub once : (ps qs : List (ℕ × List ℕ)) → Writes P ps → Writes P qs → joined ps ≡ joined qs
      → ps ≡ qs

pub record Instance : Type 1 where
  pub elements : List ℕ
  pub product : ℕ → ℕ → ℕ
  pub identity : ℕ
  pub letters : List ℕ
  pub image : ℕ → ℕ
  pub language : ℕ → List ℕ → Type 0
  pub universe : List ℕ → Type 0

-- x is a word of the letter a
abbrev pub Piece : Instance → ℕ → List ℕ → Type 0
Piece I a x = Among I.letters a × I.language a x

-- an aperiodic finite monoid that the letters generate, and a universe of their words
pub record IsFit (I : Instance) : Type 0 where
  pub generated : IsGenerated I.elements I.letters I.product I.identity I.image
  pub aperiodic : HasSettlingPowers (Among I.elements) I.product I.identity
  pub universe : IsUniverse (Piece I) I.universe

-- a depth that is enough for so many elements
abbrev pub room : ℕ → ℕ
room zero = 0
room (suc e) = suc (suc e) + room e
