-- The keys of the locally testable languages: what windows of n letters see of a word (McNaughton
-- and Papert; Brzozowski and Simon). That a word shorter than n is its own key is this project's
-- choice.
use Rattle.std.specs.Prelude.{◌≡◌, ◌<◌, ◌≤◌, ◌-◌, ◌^◌, ◌↔◌, ◌⊎◌, ℕ, List, length, take, drop}
use Rattle.language_theory.specs.Words.{IsFactor}

-- the first n letters of a word; the whole of a word that has fewer
abbrev pub prefix : ℕ → List ℕ → List ℕ
prefix n w = take n w

-- the last n letters of a word; the whole of a word that has fewer
abbrev pub suffix : ℕ → List ℕ → List ℕ
suffix n w = drop (length w - n) w

-- the prefix and the suffix of n - 1 letters, and the factors of n letters, are the same
pub record SameParts (n : ℕ) (u v : List ℕ) : Type 0 where
  pub prefix : prefix (n - 1) u ≡ prefix (n - 1) v
  pub suffix : suffix (n - 1) u ≡ suffix (n - 1) v
  pub factors : (x : List ℕ) → length x ≡ n → IsFactor x u ↔ IsFactor x v

-- Both words have the same key at level n. The key of a word shorter than n is the word itself. The
-- key of another word is its prefix and its suffix of n - 1 letters and its set of factors of n
-- letters. A key of the one form is none of the other.
abbrev pub SameKey : ℕ → List ℕ → List ℕ → Type 0
SameKey n u v = ((length u < n) × (length v < n) × (u ≡ v))
    ⊎ ((n ≤ length u) × (n ≤ length v) × SameParts n u v)

-- the number of words of n letters, of k letters that there are
abbrev pub width : ℕ → ℕ → ℕ
width k n = k ^ n
