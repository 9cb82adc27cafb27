-- Products on the two sides of an element, and the elements that they can be undone from: Green's
-- relation R on the right, L on the left (Green 1951).
use Rattle.std.specs.Prelude.{◌<◌, ◌++◌, ℕ, List, [], ◌∷◌}
use Rattle.language_theory.specs.Words.{Over}
use Rattle.language_theory.specs.Languages.{IsLeastWord}
use Rattle.monoid_theory.specs.Green.{IsR, IsL, IsTrivial}
use Rattle.answers.specs.declared.subwords.Side.{Side}
use Rattle.answers.specs.declared.subwords.Side.TheVariants.{Right, Left}

-- the word s with the word x behind it, or before it
abbrev pub beside : Side → List ℕ → List ℕ → List ℕ
beside Right s x = s ++ x
beside Left s x = x ++ s

-- each of s and t is a product of the other one on this side
abbrev pub IsMate : Side → ℕ → (List ℕ → List ℕ → Type 0) → List ℕ → List ℕ → Type 0
IsMate Right k same = IsR k same
IsMate Left k same = IsL k same

-- R-trivial or L-trivial
abbrev pub IsTrivialOn : Side → ℕ → (List ℕ → List ℕ → Type 0) → Type 0
IsTrivialOn side k same = IsTrivial k same (IsMate side k same)

-- t is another element of the class of s
abbrev pub IsOther : Side → ℕ → (List ℕ → List ℕ → Type 0) → List ℕ → List ℕ → Type 0
IsOther side k same s t = IsMate side k same s t × ¬ same s t

-- there is another element in the class of s
abbrev pub HasOther : Side → ℕ → (List ℕ → List ℕ → Type 0) → List ℕ → Type 0
HasOther side k same s = (t : List ℕ) × Over k t × IsOther side k same s t

-- a letter beside s makes another element of its class
abbrev pub Moves : Side → ℕ → (List ℕ → List ℕ → Type 0) → List ℕ → ℕ → Type 0
Moves side k same s a = IsOther side k same s (beside side s (a ∷ []))

-- x beside s makes t
abbrev pub Leads : Side → (List ℕ → List ℕ → Type 0) → List ℕ → List ℕ → List ℕ → Type 0
Leads side same s t x = same t (beside side s x)

-- a is the least letter for which P holds
pub record IsLeastLetter (k : ℕ) (P : ℕ → Type 0) (a : ℕ) : Type 0 where
  pub within : a < k
  pub holds : P a
  pub first : (b : ℕ) → b < a → ¬ P b

-- s is the least element with another one in its class, a the least letter that leads from s to
-- another one, and y the least word that leads back
pub record IsRound (side : Side) (k : ℕ) (same : List ℕ → List ℕ → Type 0) (s : List ℕ) (a : ℕ)
    (y : List ℕ) : Type 0 where
  pub element : IsLeastWord k (HasOther side k same) s
  pub letter : IsLeastLetter k (Moves side k same s) a
  pub back : IsLeastWord k (Leads side same (beside side s (a ∷ [])) s) y
