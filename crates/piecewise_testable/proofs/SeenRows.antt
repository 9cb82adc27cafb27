-- The rows that were seen are numbered one to one, also after one more was seen.
use Rattle.std.proofs.Common.{◌≡◌, ℕ, ◌<◌, ◌≤◌, Bool, true, false, List, [], Some, length, set, replicate, refl, ap, sym, subst, ◌∙◌, arith}
use Rattle.std.specs.Bool.{beq, Decides}
use Rattle.std.specs.Cmp.{booleans_Decides}
use Rattle.std.specs.Cmp.Lexicographic.{pointwise}
use Rattle.std.specs.List.{position_or_len}
use Rattle.std.proofs.lemmas.Slice.Eq.{slice_eq-Decides}
use Rattle.indexmap.specs.IndexSet.{insert_key}
use Rattle.language_theory.specs.Words.{Over}
use Rattle.language_theory.proofs.Congruences.{both_directions}
use Rattle.exploration.specs.States.{AreKept, IsNext, IsCounted}
use Rattle.exploration.specs.Interning.{AreReached}
use Rattle.exploration.specs.NumberedKeys.{keys_number}
use Rattle.exploration.proofs.Interning.{insert_counts, insert_reached}
use Rattle.exploration.proofs.KeyedStates.{seen_keeps, seen_first, seen_next, seen_holds, next_reached}
use Rattle.level_search.specs.Levels.{IsWide}
use Rattle.subword_theory.specs.SubwordRows.{width, next_row, row_of}
use Rattle.subword_theory.proofs.Rows.{row_last, row_long, same_rows}
use Rattle.piecewise_testable.specs.SubwordKeys.{SubwordKeys, AreSubwordKeys, number_of, row_at}

rows_Decides : (xs ys : List Bool) → Decides (pointwise beq xs ys) (xs ≡ ys)
rows_Decides xs ys = slice_eq-Decides booleans_Decides xs ys (pointwise beq xs ys) refl

-- a row after a letter
abbrev after : ℕ → List Bool → ℕ → List Bool
after k row a = next_row k a row

-- a level with rows of words
pub record HasRows (s : SubwordKeys) : Type 0 where
  pub some_letters : 1 ≤ s.letters
  pub few_letters : s.letters ≤ 60
  pub narrow : ¬ IsWide (width s.letters s.level)
  pub reached : AreReached (pointwise beq) s.letters (row_of s.letters s.level) s.rows

keys_by_rows : (s : SubwordKeys) → HasRows s → AreSubwordKeys s
keys_by_rows s h =
    let n = keys_number (pointwise beq) rows_Decides s.letters (row_of s.letters s.level) s.rows
    h.reached in
    record {
      some_letters = h.some_letters;
      few_letters = h.few_letters;
      narrow = h.narrow;
      numbered = record {
        below = n.below;
        used = n.used;
        one =
            λ u v i ou ov e.
            both_directions (n.one u v i ou ov e) (same_rows s.letters s.level u v ou ov);
      };
    }

rows_of_keys : (s : SubwordKeys) → AreSubwordKeys s → HasRows s
rows_of_keys s h = record {
  some_letters = h.some_letters;
  few_letters = h.few_letters;
  narrow = h.narrow;
  reached = record { reached = h.numbered.used };
}

-- the quotient after a row was seen
abbrev pub with_seen : SubwordKeys → List Bool → SubwordKeys
with_seen s x = record s { rows = insert_key (pointwise beq) s.rows x }

seen : (s : SubwordKeys) (w : List ℕ) (x : List Bool) → Over s.letters w
    → row_of s.letters s.level w ≡ x → HasRows s → AreSubwordKeys (with_seen s x)
seen s w x o e h =
    keys_by_rows (with_seen s x)
    (record {
      some_letters = h.some_letters;
      few_letters = h.few_letters;
      narrow = h.narrow;
      reached = insert_reached (pointwise beq) rows_Decides s.letters (row_of s.letters s.level)
          s.rows x w o e h.reached;
    })

-- a level that was just begun
begun : (s : SubwordKeys) (x : List Bool) → 1 ≤ s.letters → s.letters ≤ 60
    → ¬ IsWide (width s.letters s.level) → s.rows ≡ [] → row_of s.letters s.level [] ≡ x
    → AreSubwordKeys (with_seen s x)
begun s x some few narrow none e =
    seen s [] x tt e
    (record {
      some_letters = some;
      few_letters = few;
      narrow = narrow;
      reached = record {
        reached = λ n h. (let l : length s.rows ≡ 0 = ap length none in absurd (omega arith));
      };
    })

first_number : (s : SubwordKeys) (x : List Bool) → row_of s.letters s.level [] ≡ x
    → number_of (with_seen s x) [] ≡ Some (position_or_len (pointwise beq x) s.rows)
first_number s x =
    seen_first (pointwise beq) rows_Decides s.letters (row_of s.letters s.level) s.rows x

-- the same of a level that was started anew, with the width and the first row as they were made
module _ (s : SubwordKeys) (k n w : ℕ) (x : List Bool)
    (anew : s ≡ (let fresh : SubwordKeys = record { letters = k; level = n; rows = [] } in fresh))
    (wide : (w ≡ width k n) × ¬ IsWide (width k n))
    (first : x ≡ set (replicate w false) 0 true) where
  first_is : row_of s.letters s.level [] ≡ x
  first_is =
      ap (λ (t : SubwordKeys). row_of t.letters t.level []) anew
      ∙ (ap (λ (v : ℕ). set (replicate v false) 0 true) (sym wide.0) ∙ sym first)

  pub begun_again : 1 ≤ k → k ≤ 60 → AreSubwordKeys (with_seen s x)
  begun_again some few =
      begun s x (subst (λ (t : SubwordKeys). 1 ≤ t.letters) (sym anew) some)
      (subst (λ (t : SubwordKeys). t.letters ≤ 60) (sym anew) few)
      (subst (λ (t : SubwordKeys). ¬ IsWide (width t.letters t.level)) (sym anew) wide.1)
      (ap (λ (t : SubwordKeys). t.rows) anew) first_is

  pub first_number_again : number_of (with_seen s x) []
      ≡ Some (position_or_len (pointwise beq x) s.rows)
  first_number_again = first_number s x first_is

-- a row to which a letter leads was seen
pub keys_seen : (s : SubwordKeys) (p a : ℕ) (x : List Bool) → AreSubwordKeys s → p < length s.rows
    → a < s.letters → x ≡ next_row s.letters a (row_at s p) → AreSubwordKeys (with_seen s x)
keys_seen s p a x h hp ha e =
    let (w, o, f) = next_reached (pointwise beq) rows_Decides s.letters (row_of s.letters s.level)
    (after s.letters) (row_last s.letters s.level) s.rows [] p a (rows_of_keys s h).reached hp ha in
    seen s w x o (f ∙ sym e) (rows_of_keys s h)

pub keys_keep : (s : SubwordKeys) (x : List Bool)
    → AreKept s.letters (number_of s) (number_of (with_seen s x))
keys_keep s x =
    seen_keeps (pointwise beq) rows_Decides s.letters (row_of s.letters s.level) s.rows x

pub keys_next : (s : SubwordKeys) (p a : ℕ) (x : List Bool)
    → x ≡ next_row s.letters a (row_at s p)
    → IsNext s.letters (number_of s) (number_of (with_seen s x)) p a
    (position_or_len (pointwise beq x) s.rows)
keys_next s p a x =
    seen_next (pointwise beq) rows_Decides s.letters (row_of s.letters s.level) (after s.letters)
    (row_last s.letters s.level) s.rows [] p a x

pub keys_counted : (s : SubwordKeys) (x : List Bool)
    → IsCounted (length s.rows) (length (insert_key (pointwise beq) s.rows x))
    (position_or_len (pointwise beq x) s.rows)
keys_counted s x = insert_counts (pointwise beq) rows_Decides s.rows x

-- a row that was seen is not too wide
pub seen_long : (s : SubwordKeys) (p : ℕ) → AreSubwordKeys s → p < length s.rows
    → length (row_at s p) ≡ width s.letters s.level
seen_long s p h l =
    seen_holds (pointwise beq) rows_Decides s.letters (row_of s.letters s.level)
    (λ x. length x ≡ width s.letters s.level) s.rows [] p (rows_of_keys s h).reached l
    (row_long s.letters s.level)
