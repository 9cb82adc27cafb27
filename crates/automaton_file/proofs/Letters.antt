-- Alphabets as a test, and the numbers of their letters.
use Rattle.std.proofs.Common.{◌≡◌, ◌≢◌, ◌<◌, ℕ, zero, suc, List, [], ◌∷◌, length, refl, sym, ap, ◌∙◌, arith, true, false, subst}
use Rattle.std.specs.Prelude.{Option, Some, None, Bool, not, ◌&&◌, ◌==◌, nat_le, nat_lt, slice_index, IfSome, IsNone, ◌↔◌}
use Rattle.std.specs.List.{list_all, list_any, position, position_or_len, Contains}
use Rattle.std.proofs.lemmas.Bool.{and_parts, and_from, or_parts, or_from, leb-true, le-leb, lt-ltb, le-ltb, ne_eqb, eq-eqb, eqb-false, not-true, not_from_false, false_from_ne_true}
use Rattle.std.proofs.lemmas.List.Elements.{All-weaker, Contains-get_or}
use Rattle.std.proofs.lemmas.List.Sums.{AllPass-from_list_all, list_all-from_AllPass, position_or_len_is}
use Rattle.syn_words.specs.Alphabet.{IsAlphabet, IsLowerCase, AreDistinct}
use Rattle.automaton_file.specs.FileText.{is_alphabet, are_distinct}
use Rattle.expression_theory.specs.Scan.{is_lower_case}

pub lower_case_test : (b : ℕ) → IsLowerCase b → is_lower_case b ≡ true
lower_case_test b h = and_from (nat_le 97 b) (nat_le b 122) (le-leb 97 b h.0) (le-leb b 122 h.1)

pub from_lower_case_test : (b : ℕ) → is_lower_case b ≡ true → IsLowerCase b
from_lower_case_test b h = let both = and_parts (nat_le 97 b) (nat_le b 122) h in
    (leb-true 97 b both.0, leb-true b 122 both.1)

-- a byte that is not in a list
absent_test : (b : ℕ) (more : List ℕ) → ((j : ℕ) → j < length more → b ≢ slice_index more j)
    → list_any (λ c. c == b) more ≡ false
absent_test b [] h = refl
absent_test b (c ∷ more) h =
    or_from (c == b) (list_any (λ c. c == b) more) (ne_eqb c b (λ e. h zero (omega arith) (sym e)))
    (absent_test b more (λ j k. h (suc j) (omega arith)))

from_absent_test : (b : ℕ) (more : List ℕ) → list_any (λ c. c == b) more ≡ false → (j : ℕ)
    → j < length more → b ≢ slice_index more j
from_absent_test b [] h j k = absurd (omega arith)
from_absent_test b (c ∷ more) h zero k =
    λ e. eqb-false c b (or_parts (c == b) (list_any (λ c. c == b) more) h).0 (sym e)
from_absent_test b (c ∷ more) h (suc j) k =
    from_absent_test b more (or_parts (c == b) (list_any (λ c. c == b) more) h).1 j (omega arith)

pub distinct_test : (text : List ℕ) → AreDistinct text → are_distinct text ≡ true
distinct_test [] h = refl
distinct_test (b ∷ more) h =
    and_from (not (list_any (λ c. c == b) more)) (are_distinct more)
    (not_from_false _ (absent_test b more (λ j k. h zero (suc j) (omega arith) (omega arith))))
    (distinct_test more (λ i j k l. h (suc i) (suc j) (omega arith) (omega arith)))

pub from_distinct_test : (text : List ℕ) → are_distinct text ≡ true → AreDistinct text
from_distinct_test [] h i j k l = absurd (omega arith)
from_distinct_test (b ∷ more) h i zero k l = absurd (omega arith)
from_distinct_test (b ∷ more) h zero (suc j) k l =
    from_absent_test b more
    (not-true _ (and_parts (not (list_any (λ c. c == b) more)) (are_distinct more) h).0) j
    (omega arith)
from_distinct_test (b ∷ more) h (suc i) (suc j) k l =
    from_distinct_test more (and_parts (not (list_any (λ c. c == b) more)) (are_distinct more) h).1
    i j (omega arith) (omega arith)

-- the parts of the test
abbrev lower_test : List ℕ → Bool
lower_test text = list_all is_lower_case text

pub alphabet_test : (text : List ℕ) → IsAlphabet text → is_alphabet text ≡ true
alphabet_test text h =
    and_from (nat_le 1 (length text)) _ (le-leb 1 (length text) h.some)
    (and_from (nat_le (length text) 26) _ (le-leb (length text) 26 h.few)
    (and_from (lower_test text) _
    (list_all-from_AllPass is_lower_case text
    (All-weaker IsLowerCase (λ b. is_lower_case b ≡ true) lower_case_test text h.lower))
    (distinct_test text h.distinct)))

pub from_alphabet_test : (text : List ℕ) → is_alphabet text ≡ true → IsAlphabet text
from_alphabet_test text h =
    let one = and_parts (nat_le 1 (length text))
    (nat_le (length text) 26 && (lower_test text && are_distinct text)) h in
    let two = and_parts (nat_le (length text) 26) (lower_test text && are_distinct text) one.1 in
    let three = and_parts (lower_test text) (are_distinct text) two.1 in
    record {
      some = leb-true 1 (length text) one.0;
      few = leb-true (length text) 26 two.0;
      lower = All-weaker (λ b. is_lower_case b ≡ true) IsLowerCase from_lower_case_test text
          (AllPass-from_list_all is_lower_case text three.0);
      distinct = from_distinct_test text three.1;
    }

pub no_alphabet_test : (text : List ℕ) → ¬ IsAlphabet text → is_alphabet text ≡ false
no_alphabet_test text h = false_from_ne_true (is_alphabet text) (λ e. h (from_alphabet_test text e))

position_none : (p : ℕ → Bool) (xs : List ℕ) → position_or_len p xs ≡ length xs
    → None ≡ position p xs
position_none p xs e = let past : nat_lt (position_or_len p xs) (length xs) ≡ false =
    le-ltb _ _ (omega arith) in rw past

pub position_some : (p : ℕ → Bool) (xs : List ℕ) (n : ℕ) → position_or_len p xs ≡ n → n < length xs
    → Some n ≡ position p xs
position_some p xs n e h = let before : nat_lt (position_or_len p xs) (length xs) ≡ true =
    lt-ltb _ _ (omega arith) in rw before (ap Some (sym e))

pub letter_found : (letters : List ℕ) (b : ℕ) (r : Option ℕ) → IsAlphabet letters
    → (IsNone r ↔ (¬ Contains letters b))
    → IfSome r (λ n. (n < length letters) × (slice_index letters n ≡ b))
    → r ≡ position (λ c. c == b) letters
letter_found letters b None h none some =
    position_none (λ c. c == b) letters
    (position_or_len_is (λ c. c == b) letters (length letters) 0 (omega arith)
    (λ k l. ne_eqb _ b (λ e. none.0 refl
    (subst (λ (c : ℕ). Contains letters c) e (Contains-get_or letters k 0 l))))
    (λ l. absurd (omega arith)))
letter_found letters b (Some n) h none some =
    position_some (λ c. c == b) letters n
    (position_or_len_is (λ c. c == b) letters n 0 (omega (arith, some.0))
    (λ k l. ne_eqb _ b (λ e. h.distinct k n l some.0 (e ∙ sym some.1)))
    (λ l. eq-eqb _ b some.1)) some.0
