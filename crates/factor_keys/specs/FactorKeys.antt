-- Keys as they are computed letter by letter, and their numbers.
use Rattle.std.specs.Prelude.{◌≡◌, ◌<◌, ◌≤◌, ◌+◌, ◌-◌, ◌*◌, ◌&&◌, ◌==◌, ℕ, Bool, List, [], ◌∷◌, ◌++◌, Option, length, position, slice_index_or, nat_eq, nat_lt, if◌then◌else◌}
use Rattle.std.specs.Cmp.Lexicographic.{pointwise}
use Rattle.exploration.specs.States.{AreNumbered}
use Rattle.level_search.specs.declared.quotient.TheConstants.{MOST_WIDTH}
use Rattle.level_search.specs.Levels.{IsWide}
use Rattle.factor_keys.specs.Keys.{prefix, suffix, width, SameKey}
use Rattle.factor_keys.specs.declared.key.Key.{Key}

-- the rising list with one place more
abbrev pub with_place : ℕ → List ℕ → List ℕ
with_place p [] = p ∷ []
with_place p (q ∷ qs) = if nat_lt p q then p ∷ q ∷ qs else
    (if p == q then q ∷ qs else q ∷ with_place p qs)

-- the place of a word among those of its length over k letters, counted on from p
abbrev pub place_from : ℕ → ℕ → List ℕ → ℕ
place_from k p [] = p
place_from k p (a ∷ w) = place_from k (p * k + a) w

abbrev pub place : ℕ → List ℕ → ℕ
place k w = place_from k 0 w

-- the places of the factors of n letters, after a letter: the last letters that were seen are a
-- factor where they are n
abbrev pub next_factors : ℕ → ℕ → List ℕ → List ℕ → List ℕ
next_factors k n factors seen =
    if length seen == n then with_place (place k seen) factors else factors

-- the key of the empty word
abbrev pub empty_key : Key
empty_key = record { prefix = []; suffix = []; factors = [] }

-- the key at level n that a letter leads to: the suffix with the letter behind it is a factor where
-- it has n letters
abbrev pub next_key : ℕ → ℕ → Key → ℕ → Key
next_key k n key a = record {
  prefix = prefix (n - 1) (key.prefix ++ a ∷ []);
  suffix = suffix (n - 1) (key.suffix ++ a ∷ []);
  factors = next_factors k n key.factors (key.suffix ++ a ∷ []);
}

-- the key at level n that the letters of a word lead to
abbrev pub key_from : ℕ → ℕ → Key → List ℕ → Key
key_from k n key [] = key
key_from k n key (a ∷ w) = key_from k n (next_key k n key a) w

-- the key of a word at level n
abbrev pub key_of : ℕ → ℕ → List ℕ → Key
key_of k n w = key_from k n empty_key w

-- the key can be followed by a letter: its prefix is no longer than that of a word, and the place
-- of the new factor is a small number
pub record HasNext (k n : ℕ) (key : Key) (a : ℕ) : Type 0 where
  pub letters : 1 ≤ k
  pub level : 1 ≤ n
  pub prefix : length key.prefix ≤ n - 1
  pub small : length (key.suffix ++ a ∷ []) ≡ n → place k (key.suffix ++ a ∷ []) < MOST_WIDTH

abbrev pub key_eq : Key → Key → Bool
key_eq s t = (pointwise nat_eq s.prefix t.prefix && pointwise nat_eq s.suffix t.suffix) && pointwise
    nat_eq s.factors t.factors

-- the number of letters, the level, and the keys that were seen, in the order in which they were
-- seen
pub record FactorKeys : Type 0 where
  pub letters : ℕ
  pub level : ℕ
  pub keys : List Key

-- the number of the key of a word, if that key was seen
abbrev pub number_of : FactorKeys → List ℕ → Option ℕ
number_of s w = position (key_eq (key_of s.letters s.level w)) s.keys

-- the key with a number
abbrev pub key_at : FactorKeys → ℕ → Key
key_at s n = slice_index_or s.keys n empty_key

-- a level was begun that is not too wide, and the keys that were seen are numbered one to one
pub record AreFactorKeys (s : FactorKeys) : Type 0 where
  pub letters : 1 ≤ s.letters
  pub level : 1 ≤ s.level
  pub narrow : ¬ IsWide (width s.letters s.level)
  pub numbered : AreNumbered s.letters (SameKey s.level) (number_of s) (length s.keys)

pub keys_numbered : (s : FactorKeys) → AreFactorKeys s
    → AreNumbered s.letters (SameKey s.level) (number_of s) (length s.keys)
keys_numbered s h = h.numbered
