-- Numbers that a field spells.
use Rattle.std.proofs.Common.{◌≡◌, ℕ, ◌+◌, ◌-◌, ◌*◌, ◌^◌, ◌<◌, ◌≤◌, ◌⊎◌, List, [], ◌∷◌, length, get_or, refl, sym, ap, ◌∙◌, inl, inr, arith, true, false}
use Rattle.std.specs.Prelude.{Bool, cond, not, ◌&&◌, ◌==◌, nat_lt, Option, Some, None}
use Rattle.std.specs.Fmt.{decimal}
use Rattle.std.specs.List.{list_all}
use Rattle.std.proofs.Common.{rules}
use Rattle.std.proofs.lemmas.Bool.{and_left, and_right, and_parts, and_from, not-true, not_from_false, ne_eqb, eqb-false, lt-ltb, le-ltb, ltb-true, cases_lt}
use Rattle.std.proofs.lemmas.Fmt.{digits_decimal, digits_value-decimal, decimal-digits_value, decimal_nonempty, first_decimal, decimal_digit}
use Rattle.std.proofs.lemmas.Str.Parse.{IsNumeralModel, numerals_by_fold}
use Rattle.automaton_file.specs.LineText.{is_digit, is_number, value, value_behind, number_below}
use Rattle.automaton_file.specs.Parts.{SpellsNumber}
use Rattle.std.specs.Option.{unwrap_or}
use Rattle.automaton_file.proofs.TextLines.{some_of_cond}

-- further digits never make a number smaller
value_behind_ge : (n : ℕ) (ds : List ℕ) → n ≤ value_behind n ds
value_behind_ge n [] = omega arith
value_behind_ge n (d ∷ ds) = omega (arith, value_behind_ge (n * 10 + (d - 48)) ds)

cond_is_none : (b : Bool) (v : ℕ) → b ≡ false → None ≡ cond b (Some v) None
cond_is_none b v e = rw e

pub number_below_no_number : (limit : ℕ) (field : List ℕ) → is_number field ≡ false
    → None ≡ number_below limit field
unfolding number_below
number_below_no_number limit field e =
    cond_is_none _ _ (and_left (is_number field) (nat_lt (value_behind 0 field) limit) e)

-- the digits so far reach the limit
pub number_below_past : (limit n : ℕ) (field more : List ℕ)
    → value_behind n more ≡ value_behind 0 field → limit ≤ n → None ≡ number_below limit field
unfolding number_below
number_below_past limit n field more e h =
    cond_is_none _ _
    (and_right (is_number field) (nat_lt (value_behind 0 field) limit)
    (le-ltb (value_behind 0 field) limit (omega (arith, value_behind_ge n more, e))))

pub number_below_is : (limit n : ℕ) (field : List ℕ) → is_number field ≡ true
    → n ≡ value_behind 0 field → n < limit → Some n ≡ number_below limit field
unfolding number_below
number_below_is limit n field e same h =
    let below : nat_lt (value_behind 0 field) limit ≡ true = lt-ltb (value_behind 0 field) limit
    (omega arith) in
    rw (e, below) (ap Some same)

-- what a field spells is below the limit
pub number_below_gives : (limit n : ℕ) (field : List ℕ) → number_below limit field ≡ Some n
    → (n < limit) × (n ≡ value field)
unfolding number_below
number_below_gives limit n field e =
    let found = some_of_cond (is_number field && nat_lt (value field) limit) (value field) n e in
    let tests = and_parts (is_number field) (nat_lt (value field) limit) found.0 in
    (omega (arith, ltb-true _ _ tests.1, found.1), found.1)

pub number_below_or_zero : (limit : ℕ) (field : List ℕ)
    → unwrap_or (number_below (limit + 1) field) 0 ≤ limit
number_below_or_zero limit field = by (number_below (limit + 1) field) refl
  where
    by : (o : Option ℕ) → number_below (limit + 1) field ≡ o → unwrap_or o 0 ≤ limit
    by None e = omega arith
    by (Some n) e = omega (arith, number_below_gives (limit + 1) n field e)

-- What a field that is a number must be, and its decimal notation.
own : IsNumeralModel (λ ds. list_all is_digit ds ≡ true) (value_behind 0)
own = numerals_by_fold _ (search rules) value_behind (search rules)

number_digits : (field : List ℕ) → is_number field ≡ true
    → (list_all is_digit field ≡ true) × (0 < length field)
    × (get_or field 0 0 ≡ 48 → length field ≡ 1)
number_digits [] e = absurd (cc)
number_digits (d ∷ []) e = (and_from (is_digit d) true e refl, omega arith, λ _. omega arith)
number_digits (d ∷ e ∷ more) h =
    let both = and_parts (not (d == 48)) (list_all is_digit (d ∷ e ∷ more)) h in
    (both.1, omega arith, λ z. absurd (eqb-false d 48 (not-true _ both.0) z))

digits_number : (field : List ℕ) → list_all is_digit field ≡ true → 0 < length field
    → (get_or field 0 0 ≡ 48 → length field ≡ 1) → is_number field ≡ true
digits_number [] e some first = absurd (omega arith)
digits_number (d ∷ []) e some first = (and_parts (is_digit d) true e).0
digits_number (d ∷ e ∷ more) h some first =
    and_from (not (d == 48)) (list_all is_digit (d ∷ e ∷ more))
    (not_from_false _ (ne_eqb d 48 (λ z. absurd (omega (arith, first z))))) h

decimal_number : (n : ℕ) → n < 2 ^ 64 → is_number (decimal n) ≡ true
decimal_number n h =
    digits_number (decimal n) (digits_decimal own n h) (decimal_nonempty n h) (by (cases_lt 0 n))
  where
    by : (0 < n) ⊎ (n ≤ 0) → get_or (decimal n) 0 0 ≡ 48 → length (decimal n) ≡ 1
    by (inl some) z = absurd (omega (arith, first_decimal n some h))
    by (inr none) z =
        let zero' : n ≡ 0 = omega arith in ap (λ (k : ℕ). length (decimal k)) zero'
        ∙ ap length (decimal_digit 0 (omega arith))

pub value_decimal : (n : ℕ) → n < 2 ^ 64 → value (decimal n) ≡ n
value_decimal n h = digits_value-decimal own n h

-- a field spells a number below the limit exactly where it is the number's decimal notation
pub number_below_spelled : (limit n : ℕ) (field : List ℕ) → limit ≤ 10000
    → number_below limit field ≡ Some n → (n < limit) × SpellsNumber n field
unfolding number_below
number_below_spelled limit n field small e =
    let found = some_of_cond (is_number field && nat_lt (value field) limit) (value field) n e in
    let tests = and_parts (is_number field) (nat_lt (value field) limit) found.0 in
    let digits = number_digits field tests.0 in
    let below : value_behind 0 field < limit = ltb-true _ _ tests.1 in
    let notation : decimal
    (value_behind 0 field) ≡ field = decimal-digits_value own field digits.0 digits.1 digits.2
    (omega arith) in
    (omega (arith, below, found.1), sym notation ∙ ap decimal (sym found.1))

pub spelled_number_below : (limit n : ℕ) (field : List ℕ) → limit ≤ 10000 → n < limit
    → SpellsNumber n field → number_below limit field ≡ Some n
spelled_number_below limit n field small h e =
    sym (number_below_is limit n field (ap is_number e
    ∙ decimal_number n (omega arith)) (sym (ap value e ∙ value_decimal n (omega arith))) h)
