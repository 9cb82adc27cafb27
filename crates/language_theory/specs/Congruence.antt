-- Equivalences of words: Nerode's and the syntactic one are instances (Pin: right congruences,
-- congruences, the syntactic congruence).
use Rattle.std.specs.Prelude.{◌≡◌, ◌++◌, ◌↔◌, ◌<◌, ℕ, List, [], ◌∷◌}
use Rattle.language_theory.specs.Words.{Over}

-- u and v have the same contexts in L: the syntactic congruence of L
abbrev pub Syntactic : ℕ → (List ℕ → Type 0) → List ℕ → List ℕ → Type 0
Syntactic k L u v = (p q : List ℕ) → Over k p → Over k q → L (p ++ (u ++ q)) ↔ L (p ++ (v ++ q))

-- an equivalence of words over k letters
pub record IsEquivalence (k : ℕ) (same : List ℕ → List ℕ → Type 0) : Type 0 where
  pub refl : (u : List ℕ) → Over k u → same u u
  pub symm : (u v : List ℕ) → Over k u → Over k v → same u v → same v u
  pub trans : (u v w : List ℕ) → Over k u → Over k v → Over k w → same u v → same v w → same u w

-- an equivalence that is kept when a word is put behind both sides
pub record IsRightCongruence (k : ℕ) (same : List ℕ → List ℕ → Type 0) : Type 0 where
  pub equivalence : IsEquivalence k same
  pub right : (u v w : List ℕ) → Over k u → Over k v → Over k w → same u v → same (u ++ w) (v ++ w)

-- an equivalence that is kept when a word is put behind or before both sides
pub record IsCongruence (k : ℕ) (same : List ℕ → List ℕ → Type 0) : Type 0 where
  pub equivalence : IsEquivalence k same
  pub right : (u v w : List ℕ) → Over k u → Over k v → Over k w → same u v → same (u ++ w) (v ++ w)
  pub left : (u v w : List ℕ) → Over k u → Over k v → Over k w → same u v → same (w ++ u) (w ++ v)

-- two relations of words over k letters agree
pub record Agree (k : ℕ) (same other : List ℕ → List ℕ → Type 0) : Type 0 where
  pub both : (u v : List ℕ) → Over k u → Over k v → same u v ↔ other u v

-- where a word takes a point, one letter after the other; `image p a` is where the letter a takes
-- the point p
abbrev pub moved : {X : Type 0} → (X → ℕ → X) → X → List ℕ → X
moved image p [] = p
moved image p (a ∷ w) = moved image (image p a) w

-- both words take each of the points below n to the same point
abbrev pub MapsAlike : ℕ → (ℕ → ℕ → ℕ) → List ℕ → List ℕ → Type 0
MapsAlike n image u v = (p : ℕ) → p < n → moved image p u ≡ moved image p v
