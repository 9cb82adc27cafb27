-- Words of digits and lower-case letters, and the fields of the lines that they make.
use Rattle.std.proofs.Common.{◌≡◌, ℕ, ◌^◌, ◌<◌, ◌≤◌, List, [], ◌∷◌, ◌++◌, length, refl, sym, ap, ◌∙◌, arith, true, false, append_assoc, rules}
use Rattle.std.specs.Prelude.{not, ◌==◌, ◌&&◌, nat_le, All, codes}
use Rattle.std.specs.Fmt.{decimal}
use Rattle.std.specs.List.{list_all, slice_split, filter}
use Rattle.std.proofs.lemmas.Bool.{and_parts, and_from, or_right, ne_eqb, leb-true, le-leb}
use Rattle.std.proofs.lemmas.Bool.Decides.{nat_tests}
use Rattle.std.proofs.lemmas.Fmt.{digits_decimal, decimal_nonempty}
use Rattle.std.proofs.lemmas.Str.Parse.{IsNumeralModel, numerals_by_fold}
use Rattle.std.proofs.lemmas.List.Elements.{All-nil, All-cons, All-weaker}
use Rattle.std.proofs.lemmas.List.Folds.{list_all-append}
use Rattle.std.proofs.lemmas.List.Sums.{AllPass-from_list_all, list_all-from_AllPass}
use Rattle.std.proofs.lemmas.List.Splits.{slice_split_at, slice_split_none}
use Rattle.automaton_file.specs.LineText.{fields, is_blank, is_allowed, is_plain, is_significant, is_digit, value_behind}
use Rattle.generated_file.specs.Generated.{step_line}
use Rattle.generated_file.proofs.LineEnds.{IsPlain}

-- from the digit 0 to the letter z
abbrev pub InWord : ℕ → Type 0
InWord b = (48 ≤ b) × (b ≤ 122)

-- some bytes from the digit 0 to the letter z
pub record IsWord (word : List ℕ) : Type 0 where
  pub some : 0 < length word
  pub each : All InWord word

own : IsNumeralModel (λ ds. list_all is_digit ds ≡ true) (value_behind 0)
own = numerals_by_fold _ (search rules) value_behind (search rules)

digit_in_word : (b : ℕ) → is_digit b ≡ true → InWord b
digit_in_word b h =
    let both = and_parts (nat_le 48 b) (nat_le b 57) h in
    (leb-true 48 b both.0, omega (arith, leb-true b 57 both.1))

pub decimal_word : (n : ℕ) → n < 2 ^ 64 → IsWord (decimal n)
decimal_word n h = record {
  some = decimal_nonempty n h;
  each =
      All-weaker (λ b. is_digit b ≡ true) InWord digit_in_word (decimal n)
      (AllPass-from_list_all is_digit (decimal n) (digits_decimal own n h));
}

pub letter_word : (b : ℕ) → InWord b → IsWord (b ∷ [])
letter_word b h = record { some = omega arith; each = All-cons InWord b [] h (All-nil InWord) }

-- no byte of a word is blank
not_blank : (b : ℕ) → InWord b → is_blank b ≡ false
not_blank b (low, high) = by (ne_eqb b 32 (λ e. omega arith)) (ne_eqb b 9 (λ e. omega arith))
  where
    by : (b == 32) ≡ false → (b == 9) ≡ false → is_blank b ≡ false
    by e f = rw (e, f) refl

none_blank : (word : List ℕ) → IsWord word → All (λ b. is_blank b ≡ false) word
none_blank word h = All-weaker InWord (λ b. is_blank b ≡ false) not_blank word h.each

filter_some : (word : List ℕ) (more : List (List ℕ)) → 0 < length word
    → filter (λ (field : List ℕ). not (length field == 0)) (word ∷ more)
    ≡ word ∷ filter (λ (field : List ℕ). not (length field == 0)) more
filter_some word more h = grind (arith, nat_tests)

-- a word before a blank is the first field
pub first_word : (word rest : List ℕ) → IsWord word
    → fields (word ++ codes " " ++ rest) ≡ word ∷ fields rest
unfolding fields
first_word word rest h =
    ap fields (append_assoc word (codes " ") rest)
    ∙ ap (filter (λ (field : List ℕ). not (length field == 0)))
    (slice_split_at is_blank word 32 rest (none_blank word h) refl)
    ∙ filter_some word (slice_split is_blank rest) h.some

-- a word alone is the one field
pub last_word : (word : List ℕ) → IsWord word → fields word ≡ word ∷ []
unfolding fields
last_word word h =
    ap (filter (λ (field : List ℕ). not (length field == 0)))
    (slice_split_none is_blank word (none_blank word h))
    ∙ filter_some word [] h.some

-- a word is plain

allowed : (b : ℕ) → InWord b → is_allowed b ≡ true
allowed b (low, high) =
    or_right (b == 9) (nat_le 32 b && nat_le b 126)
    (and_from (nat_le 32 b) (nat_le b 126) (le-leb 32 b (omega arith)) (le-leb b 126 (omega arith)))

pub plain_word : (word : List ℕ) → IsWord word → IsPlain word
plain_word word h =
    list_all-from_AllPass is_allowed word
    (All-weaker InWord (λ b. is_allowed b ≡ true) allowed word h.each)

pub plain_append : (xs ys : List ℕ) → IsPlain xs → IsPlain ys → IsPlain (xs ++ ys)
plain_append xs ys h k =
    list_all-append is_allowed xs ys ∙ and_from (is_plain xs) (is_plain ys) h k

-- a line that begins with a word is no comment
pub word_significant : (word : List ℕ) (more : List (List ℕ)) → IsWord word
    → is_significant (word ∷ more) ≡ true
word_significant word more h =
    ap not (ne_eqb _ 35 (λ e. omega (arith, (h.each 0 0 h.some).0, e)))

-- the line of a step

regroup : (u v w : List ℕ) → u ++ codes " " ++ v ++ codes " " ++ w
    ≡ u ++ codes " " ++ (v ++ codes " " ++ w)
regroup u v w =
    append_assoc (u ++ codes " " ++ v) (codes " ") w
    ∙ append_assoc (u ++ codes " ") v (codes " " ++ w)
    ∙ ap (λ (xs : List ℕ). u ++ codes " " ++ xs) (sym (append_assoc v (codes " ") w))

pub step_fields : (from : ℕ) (letter : List ℕ) (to : ℕ) → from < 2 ^ 64 → IsWord letter
    → to < 2 ^ 64
    → fields (step_line from letter to) ≡ decimal from ∷ letter ∷ decimal to ∷ []
step_fields from letter to h is k =
    ap fields (regroup (decimal from) letter (decimal to))
    ∙ first_word (decimal from) (letter ++ codes " " ++ decimal to) (decimal_word from h)
    ∙ ap (λ (fs : List (List ℕ)). decimal from ∷ fs)
    (first_word letter (decimal to) is
    ∙ ap (λ (fs : List (List ℕ)). letter ∷ fs) (last_word (decimal to) (decimal_word to k)))

pub step_plain : (from : ℕ) (letter : List ℕ) (to : ℕ) → from < 2 ^ 64 → IsWord letter → to < 2 ^ 64
    → IsPlain (step_line from letter to)
step_plain from letter to h is k =
    let first = decimal from ++ codes " " in
    let second = first ++ letter in
    plain_append (second ++ codes " ") (decimal to)
    (plain_append second (codes " ")
    (plain_append first letter
    (plain_append (decimal from) (codes " ") (plain_word (decimal from) (decimal_word from h)) refl)
    (plain_word letter is)) refl)
    (plain_word (decimal to) (decimal_word to k))
