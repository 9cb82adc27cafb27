-- Keys of prefixes, suffixes and factors, as they are seen.
use Rattle.std.proofs.Common.{◌≡◌, ℕ, ◌-◌, ◌<◌, ◌≤◌, ◌^◌, true, List, [], ◌∷◌, ◌++◌, Some, length, ap, sym, subst, ◌∙◌, arith, get_or}
use Rattle.std.specs.Prelude.{position, min}
use Rattle.std.specs.List.{position_or_len}
use Rattle.std.proofs.lemmas.List.{length-take}
use Rattle.std.proofs.lemmas.List.Sums.{passes_at_first}
use Rattle.indexmap.specs.IndexSet.{insert_key}
use Rattle.language_theory.specs.Words.{Over}
use Rattle.language_theory.proofs.Shortlex.{over_last}
use Rattle.language_theory.proofs.Congruences.{both_directions}
use Rattle.exploration.specs.States.{AreKept, IsNext, IsCounted}
use Rattle.exploration.specs.Interning.{AreReached}
use Rattle.exploration.specs.NumberedKeys.{position_is, keys_number}
use Rattle.exploration.proofs.Interning.{insert_keeps, insert_numbers, insert_counts, insert_reached}
use Rattle.factor_keys.specs.declared.key.Key.{Key}
use Rattle.level_search.specs.Levels.{IsWide}
use Rattle.factor_keys.specs.Keys.{width}
use Rattle.factor_keys.proofs.Widths.{not_wide}
use Rattle.factor_keys.specs.FactorKeys.{FactorKeys, AreFactorKeys, HasNext, empty_key, next_key, key_of, key_eq, key_at, number_of}
use Rattle.factor_keys.proofs.Places.{place_within}
use Rattle.factor_keys.proofs.ComputedKeys.{IsKeyOf, seen_of, seen_over, key_is, key_from_last, same_keys, key_Decides}

-- keys that are those of words make a quotient at a level
pub factor_keys : (s : FactorKeys) → 1 ≤ s.letters → 1 ≤ s.level
    → ¬ IsWide (width s.letters s.level)
    → AreReached key_eq s.letters (key_of s.letters s.level) s.keys → AreFactorKeys s
factor_keys s k n narrow h =
    let numbered = keys_number key_eq key_Decides s.letters (key_of s.letters s.level) s.keys h in
    record {
      letters = k;
      level = n;
      narrow = narrow;
      numbered =
          record {
            below = numbered.below;
            used = numbered.used;
            one =
                λ u v i ou ov e. both_directions (numbered.one u v i ou ov e)
                (same_keys s.letters s.level n u v ou ov);
          };
    }

pub keys_reached : (s : FactorKeys) → AreFactorKeys s
    → AreReached key_eq s.letters (key_of s.letters s.level) s.keys
keys_reached s h = record { reached = h.numbered.used }

-- the number of a word's key leads back to the key
pub key_at_number : (s : FactorKeys) (w : List ℕ) (n : ℕ) → number_of s w ≡ Some n
    → key_of s.letters s.level w ≡ key_at s n
key_at_number s w n e =
    let (a, h) = position_is (key_eq (key_of s.letters s.level w)) s.keys n e in
    (key_Decides (key_of s.letters s.level w) (key_at s n)).0
    (subst (λ (m : ℕ). key_eq (key_of s.letters s.level w) (get_or s.keys m empty_key) ≡ true) a
    (passes_at_first (key_eq (key_of s.letters s.level w)) s.keys empty_key (omega arith)))

-- the quotient after a key was seen
abbrev pub with_seen : FactorKeys → Key → FactorKeys
with_seen s key = record s { keys = insert_key key_eq s.keys key }

pub seen_keys : (s : FactorKeys) (w : List ℕ) (key : Key) → Over s.letters w
    → key_of s.letters s.level w ≡ key → AreFactorKeys s → AreFactorKeys (with_seen s key)
seen_keys s w key o e h = factor_keys (with_seen s key) h.letters h.level h.narrow
    (insert_reached key_eq key_Decides s.letters (key_of s.letters s.level) s.keys key w o e
    (keys_reached s h))

pub seen_keeps : (s : FactorKeys) (key : Key)
    → AreKept s.letters (number_of s) (number_of (with_seen s key))
seen_keeps s key =
    record {
      kept = λ w n o e. insert_keeps key_eq key_Decides s.keys (key_of s.letters s.level w)
          key n e;
    }

pub seen_next : (s : FactorKeys) (p a : ℕ) (key : Key) → key
    ≡ next_key s.letters s.level (key_at s p) a
    → IsNext s.letters (number_of s) (number_of (with_seen s key)) p a
    (position_or_len (key_eq key) s.keys)
seen_next s p a key f = record {
  leads = λ w o e.
      let at : key_of s.letters s.level (w ++ a ∷ []) ≡ key =
      key_from_last s.letters s.level empty_key w a
      ∙ (ap (λ (r : Key). next_key s.letters s.level r a) (key_at_number s w p e) ∙ sym f) in
      subst (λ (r : Key). position (key_eq r) (insert_key key_eq s.keys key)
      ≡ Some (position_or_len (key_eq key) s.keys)) (sym at)
      (insert_numbers key_eq key_Decides s.keys key);
}

pub seen_counts : (s : FactorKeys) (key : Key)
    → IsCounted (length s.keys) (length (insert_key key_eq s.keys key))
    (position_or_len (key_eq key) s.keys)
seen_counts s key = insert_counts key_eq key_Decides s.keys key

-- the key to which a letter leads is that of a word
pub next_reached : (s : FactorKeys) (p a : ℕ) → AreFactorKeys s → p < length s.keys → a < s.letters
    → (w : List ℕ) × Over s.letters w
    × (key_of s.letters s.level w ≡ next_key s.letters s.level (key_at s p) a)
next_reached s p a h hp ha =
    let (w, o, e) = h.numbered.used p hp in (
      w ++ a ∷ [],
      over_last s.letters w a o ha,
      key_from_last s.letters s.level empty_key w a
          ∙ ap (λ (r : Key). next_key s.letters s.level r a) (key_at_number s w p e),
    )

-- a key that was seen can be followed by a letter
pub has_next : (s : FactorKeys) (p a : ℕ) → AreFactorKeys s → p < length s.keys → a < s.letters
    → HasNext s.letters s.level (key_at s p) a
has_next s p a h hp ha = by (h.numbered.used p hp)
  where
    by : (w : List ℕ) × Over s.letters w × (number_of s w ≡ Some p)
        → HasNext s.letters s.level (key_at s p) a
    by (w, o, e) = record {
      letters = h.letters;
      level = h.level;
      prefix =
          (let l = ap length is.prefix in let m = length-take (s.level - 1) w in let low =
          min_low (s.level - 1) (length w) in omega arith);
      small = λ l. (let b = place_within s.letters (seen_of (key_at s p) a) over in let w =
          ap (λ (i : ℕ). s.letters ^ i) l in let n = not_wide (width s.letters s.level) h.narrow in
          omega arith);
    }
      where
        is : IsKeyOf s.letters s.level w (key_at s p)
        is = subst (IsKeyOf s.letters s.level w) (key_at_number s w p e)
            (key_is s.letters s.level h.level w o)

        over : Over s.letters (seen_of (key_at s p) a)
        over = seen_over s.letters s.level h.level w a o ha (key_at s p) is

        min_low : (i j : ℕ) → min i j ≤ i
        min_low i j = omega arith

-- a level that was just begun
pub begun : (s : FactorKeys) (key : Key) → 1 ≤ s.letters → 1 ≤ s.level
    → ¬ IsWide (width s.letters s.level) → s.keys ≡ [] → key ≡ empty_key
    → AreFactorKeys (with_seen s key)
begun s key k n narrow none e =
    let nothing : AreReached key_eq s.letters (key_of s.letters s.level) s.keys =
    record {
      reached = λ i h. let l : length s.keys ≡ 0 = ap length none in
          absurd (omega arith);
    } in
    seen_keys s [] key tt (sym e) (factor_keys s k n narrow nothing)
