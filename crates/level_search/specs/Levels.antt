-- When a level of keys suffices for a language, and what a search through the levels answers. Keys
-- of words, one right congruence for each level, stand for Simon's congruences and for those of
-- Brzozowski and Simon; to limit the search is this project's choice.
use Rattle.std.specs.Prelude.{◌≡◌, ◌<◌, ◌≤◌, ◌+◌, ◌↔◌, ℕ, List}
use Rattle.language_theory.specs.Words.{Over}
use Rattle.language_theory.specs.Representatives.{HasMoreClasses}
use Rattle.language_theory.specs.Nerode.{Nerode}
use Rattle.level_search.specs.declared.quotient.TheConstants.{MOST_WIDTH}
use Rattle.level_search.specs.declared.level.Level.{Level}
use Rattle.level_search.specs.declared.level.Level.TheVariants as level

-- words with the same key are both words of L or both not
pub record Suffices (k : ℕ) (L : List ℕ → Type 0)
    (same : List ℕ → List ℕ → Type 0) : Type 0 where
  pub alike : (u v : List ℕ) → Over k u → Over k v → same u v → L u ↔ L v

-- both words are in one Nerode class of L and have the same key: the classes of this relation are
-- the pairs of the level
abbrev pub SamePair : ℕ → (List ℕ → Type 0) → (List ℕ → List ℕ → Type 0)
    → List ℕ → List ℕ → Type 0
SamePair k L same u v = Nerode k L u v × same u v

-- a width with which no level is begun
abbrev pub IsWide : ℕ → Type 0
IsWide width = MOST_WIDTH < width

-- Of the levels of L over k letters: `width n` is the width of level n, `same n` holds of words
-- with the same key at level n, and a level may have `most` pairs.
module _ (k : ℕ) (L : List ℕ → Type 0) (width : ℕ → ℕ) (same : ℕ → List ℕ → List ℕ → Type 0)
    (most : ℕ) where
  -- the level is not too wide, and has too many pairs
  pub record HasManyPairs (n : ℕ) : Type 0 where
    pub narrow : ¬ IsWide (width n)
    pub many : HasMoreClasses k (SamePair k L (same n)) most

  -- the level is not too wide, and has not too many pairs
  pub record IsSmall (n : ℕ) : Type 0 where
    pub narrow : ¬ IsWide (width n)
    pub few : ¬ HasMoreClasses k (SamePair k L (same n)) most

  -- the level has no answer: it is small, and does not suffice
  pub record IsSilent (n : ℕ) : Type 0 where
    pub small : IsSmall n
    pub fails : ¬ Suffices k L (same n)

  -- the levels from the first to n, without n, have no answer
  abbrev pub AreSilent : ℕ → ℕ → Type 0
  AreSilent first n = (m : ℕ) → first ≤ m → m < n → IsSilent m

  -- n is the first level with an answer, of those from the first to the last
  pub record IsFirst (first last n : ℕ) : Type 0 where
    pub from : first ≤ n
    pub to : n ≤ last
    pub before : AreSilent first n

  -- the answer of the first level that answers, or that none up to the last does
  abbrev pub IsAnswer : ℕ → ℕ → Level → Type 0
  IsAnswer first last (level.Wide n) = IsFirst first last n × IsWide (width n)
  IsAnswer first last (level.Pairs n) = IsFirst first last n × HasManyPairs n
  IsAnswer first last (level.Yes n) = IsFirst first last n × IsSmall n × Suffices k L (same n)
  IsAnswer first last (level.NoneTo n) = (n ≡ last) × AreSilent first (last + 1)
