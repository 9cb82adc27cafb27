-- Maps of finitely many points into themselves, one for each letter.
use Rattle.std.specs.Prelude.{◌≡◌, ◌<◌, ◌≤◌, ◌≢◌, ◌+◌, ◌*◌, ◌⊎◌, ℕ, List, length, slice_index, map, All}
use Rattle.std.specs.List.{range_with_len}
use Rattle.language_theory.specs.Congruence.{moved, MapsAlike}
use Rattle.froidure_pin.specs.declared.generators.TheConstants.{MOST_POINTS}
use Rattle.syn_words.specs.Alphabet.{most_letters}

-- the images of all points by letter 0, then those by letter 1, and so on
pub record Maps : Type 0 where
  pub points : ℕ
  pub letters : ℕ
  pub images : List ℕ

-- where the letter a takes the point p
abbrev pub image : Maps → ℕ → ℕ → ℕ
image m p a = slice_index m.images (a * m.points + p)

-- each letter takes each point to a point
pub record AreMaps (m : Maps) : Type 0 where
  pub some : 1 ≤ m.points
  pub points : m.points ≤ MOST_POINTS
  pub letter : 1 ≤ m.letters
  pub letters : m.letters ≤ most_letters
  pub long : length m.images ≡ m.letters * m.points
  pub within : All (λ p. p < m.points) m.images

-- both words take all points alike
abbrev pub SameMap : Maps → List ℕ → List ℕ → Type 0
SameMap m = MapsAlike m.points (image m)

-- the images of n points by k letters are the points themselves
pub record AreOwn (n k : ℕ) (images : List ℕ) : Type 0 where
  pub long : length images ≡ k * n
  pub within : All (λ p. p < n) images
  pub each : (p a : ℕ) → p < n → a < k → slice_index images (a * n + p) ≡ p

-- each letter takes each point to itself
pub record IsIdentity (n k : ℕ) (m : Maps) : Type 0 where
  pub points : m.points ≡ n
  pub letters : m.letters ≡ k
  pub each : (p a : ℕ) → p < n → a < k → image m p a ≡ p

-- the letter a takes the point p to q, and the other images are as they were
pub record IsSetAt (old new : Maps) (a p q : ℕ) : Type 0 where
  pub points : new.points ≡ old.points
  pub letters : new.letters ≡ old.letters
  pub set : image new p a ≡ q
  pub others : (r b : ℕ) → r < old.points → b < old.letters → (r ≢ p) ⊎ (b ≢ a)
      → image new r b ≡ image old r b

-- where a word takes each point, in order
abbrev pub row_of : Maps → List ℕ → List ℕ
row_of m w = map (λ p. moved (image m) p w) (range_with_len 0 m.points)

-- where the letter a takes each point of a row
abbrev pub next_row : Maps → List ℕ → ℕ → List ℕ
next_row m row a = map (λ p. image m p a) row
