-- The links from each listed word to the words that are left without its last and without its first
-- letter.
use Rattle.std.specs.Prelude.{◌≡◌, ◌<◌, ◌++◌, ℕ, List, [], ◌∷◌, length, take, slice_index}
use Rattle.language_theory.specs.Words.{word_at}
use Rattle.language_theory.specs.Links.{IsPrefixLink, IsSuffixLink}

-- for each word the place of the word without its last letter, and that letter; the place of the
-- word without its first letter, and that letter
pub record LinkLists : Type 0 where
  pub prefix : List ℕ
  pub last : List ℕ
  pub suffix : List ℕ
  pub first : List ℕ

-- the links with those of one more word
abbrev pub with_link : LinkLists → ℕ → ℕ → ℕ → ℕ → LinkLists
with_link l p a s b =
    record {
      prefix = l.prefix ++ p ∷ [];
      last = l.last ++ a ∷ [];
      suffix = l.suffix ++ s ∷ [];
      first = l.first ++ b ∷ [];
    }

-- the new lists begin with the old ones
pub record BeginsWith (old new : LinkLists) : Type 0 where
  pub prefix : take (length old.prefix) new.prefix ≡ old.prefix
  pub last : take (length old.last) new.last ≡ old.last
  pub suffix : take (length old.suffix) new.suffix ≡ old.suffix
  pub first : take (length old.first) new.first ≡ old.first

-- The links of the first m words of a list, which begins with the empty word; the links of the
-- empty word say nothing.
pub record AreLinks (k : ℕ) (words : List (List ℕ)) (m : ℕ) (l : LinkLists) : Type 0 where
  pub some : 0 < m
  pub root : word_at words 0 ≡ []
  pub prefixes : length l.prefix ≡ m
  pub lasts : length l.last ≡ m
  pub suffixes : length l.suffix ≡ m
  pub firsts : length l.first ≡ m
  pub prefix : (i : ℕ) → 0 < i → i < m
      → IsPrefixLink words i (slice_index l.prefix i) (slice_index l.last i)
  pub earlier : (i : ℕ) → 0 < i → i < m → slice_index l.prefix i < i
  pub last : (i : ℕ) → 0 < i → i < m → slice_index l.last i < k
  pub suffix : (i : ℕ) → 0 < i → i < m
      → IsSuffixLink words i (slice_index l.first i) (slice_index l.suffix i)
  pub shorter : (i : ℕ) → 0 < i → i < m → slice_index l.suffix i < i
  pub first : (i : ℕ) → 0 < i → i < m → slice_index l.first i < k

-- the words that prefixes and last letters spell, behind those that are there
abbrev pub spelled_behind : List (List ℕ) → List ℕ → List ℕ → List (List ℕ)
spelled_behind words [] last = words
spelled_behind words (p ∷ prefix) [] = words
spelled_behind words (p ∷ prefix) (a ∷ last) =
    spelled_behind (words ++ (word_at words p ++ a ∷ []) ∷ []) prefix last

-- the words that links spell: the empty one, and then each is an earlier one with a last letter
-- behind it
abbrev pub spelled : List ℕ → List ℕ → List (List ℕ)
spelled [] last = [] ∷ []
spelled (p ∷ prefix) [] = [] ∷ []
spelled (p ∷ prefix) (a ∷ last) = spelled_behind ([] ∷ []) prefix last
