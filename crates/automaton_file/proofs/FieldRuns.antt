-- The first field of a line and those behind it.
use Rattle.std.proofs.Common.{◌≡◌, ℕ, zero, suc, ◌+◌, ◌<◌, ◌≤◌, List, [], ◌∷◌, length, take, drop, refl, sym, ap, ◌∙◌, arith, true, false, get_or, inl, inr, subst, ◌⊎◌}
use Rattle.std.proofs.lemmas.Bool.{cases_lt}
use Rattle.std.specs.Prelude.{◌==◌, Bool, cond, not, Some, None}
use Rattle.std.specs.List.{slice_split, position, position_or_len, filter}
use Rattle.std.proofs.lemmas.Bool.Decides.{nat_tests}
use Rattle.std.proofs.lemmas.List.{drop_more, drop_all, take_all, length-take-le}
use Rattle.std.proofs.lemmas.List.Elements.{All-from_get_or}
use Rattle.std.proofs.lemmas.List.Sums.{fails_before_first, passes_at_first, prefix_len-le-length}
use Rattle.std.proofs.lemmas.List.Splits.{slice_split-cons_yes, slice_split_first, slice_split_none}
use Rattle.automaton_file.specs.LineText.{is_blank, fields}
use Rattle.automaton_file.proofs.TextLines.{place_found, none_found}

abbrev pub is_dark : ℕ → Bool
is_dark b = not (is_blank b)

fields_none : fields [] ≡ []
unfolding fields
fields_none = refl

-- a space or tab as the first byte makes no field
fields_blank : (x : ℕ) (xs : List ℕ) → is_blank x ≡ true → fields (x ∷ xs) ≡ fields xs
unfolding fields
fields_blank x xs h = ap (filter (λ field. not (length field == 0)))
    (slice_split-cons_yes is_blank x xs h)

blank_of_cond : (b : Bool) (n m : ℕ) → suc n ≤ cond (not (not b)) (1 + m) 0 → (b ≡ true) × (n ≤ m)
blank_of_cond true n m h = (refl, omega arith)
blank_of_cond false n m h = absurd (omega arith)

-- nor do several
fields_blanks : (xs : List ℕ) (n : ℕ) → n ≤ position_or_len is_dark xs
    → fields xs ≡ fields (drop n xs)
fields_blanks xs zero h = refl
fields_blanks [] (suc n) h = refl
fields_blanks (x ∷ xs) (suc n) h =
    let first = blank_of_cond (is_blank x) n (position_or_len is_dark xs) h in
    fields_blank x xs first.0 ∙ fields_blanks xs n first.1

filter_run : (run : List ℕ) (more : List (List ℕ)) → 0 < length run
    → filter (λ (field : List ℕ). not (length field == 0)) (run ∷ more) ≡ run ∷ filter
    (λ (field : List ℕ). not (length field == 0)) more
filter_run run more h = grind (arith, nat_tests)

-- the length of the longest prefix of other bytes
abbrev pub run : List ℕ → ℕ
run xs = position_or_len is_blank xs

-- a run of other bytes that a space or tab ends is a field
fields_ended : (xs : List ℕ) → 0 < run xs → run xs < length xs
    → fields xs ≡ take (run xs) xs ∷ fields (drop (run xs) xs)
unfolding fields
fields_ended xs h k =
    let behind : fields (drop (run xs) xs) ≡ fields (drop (run xs + 1) xs) =
    ap fields (drop_more xs (run xs) 0 k)
    ∙ fields_blank (get_or xs (run xs) 0) (drop (run xs + 1) xs)
    (passes_at_first is_blank xs 0 k) in
    let some : 0 < length (take (run xs) xs) =
    omega (arith, length-take-le (run xs) xs (omega arith)) in
    ap (filter (λ (field : List ℕ). not (length field == 0))) (slice_split_first is_blank xs 0 k)
    ∙ filter_run (take (run xs) xs) (slice_split is_blank (drop (run xs + 1) xs)) some
    ∙ ap (λ (more : List (List ℕ)). take (run xs) xs ∷ more) (sym behind)

-- a run of other bytes at the end of a line is a field
fields_last : (xs : List ℕ) → position_or_len is_blank xs ≡ length xs → 0 < length xs
    → fields xs ≡ xs ∷ []
unfolding fields
fields_last xs e h =
    ap (filter (λ (field : List ℕ). not (length field == 0)))
    (slice_split_none is_blank xs
    (All-from_get_or (λ b. is_blank b ≡ false) xs 0
    (λ i k. fails_before_first is_blank xs i 0 (omega arith))))
    ∙ filter_run xs [] h

-- the longest prefix of other bytes is a field
pub fields_run : (xs : List ℕ) → 0 < run xs
    → fields xs ≡ take (run xs) xs ∷ fields (drop (run xs) xs)
fields_run xs h = by (cases_lt (run xs) (length xs))
  where
    by : (run xs < length xs) ⊎ (length xs ≤ run xs)
        → fields xs ≡ take (run xs) xs ∷ fields (drop (run xs) xs)
    by (inl within) = fields_ended xs h within
    by (inr past) =
        let all : run xs ≡ length xs = omega (arith, prefix_len-le-length is_dark xs) in
        fields_last xs all (omega arith)
        ∙ ap (λ (run : List ℕ). run ∷ []) (sym (take_all (run xs) xs past))
        ∙ ap (λ (more : List (List ℕ)). take (run xs) xs ∷ more)
        (sym fields_none ∙ ap fields (sym (drop_all (run xs) xs past)))

run_some : (x : ℕ) (xs : List ℕ) → is_dark x ≡ true → 0 < run (x ∷ xs)
run_some x xs h = rw h (omega arith)

-- a line begins with a field behind its first blanks
pub run_at : (text begun : List ℕ) (start : ℕ) → position is_dark text ≡ Some start
    → begun ≡ drop start text → 0 < run begun
run_at text begun start found e =
    let at = place_found is_dark text start found in
    let dark : is_dark (get_or text start 0) ≡ true = ap (λ (i : ℕ). is_dark (get_or text i 0)) at.1
    ∙ passes_at_first is_dark text 0 (omega (arith, at.0, at.1)) in
    subst (λ (xs : List ℕ). 0 < run xs) (sym (e ∙ drop_more text start 0 at.0))
    (run_some (get_or text start 0) (drop (start + 1) text) dark)

pub fields_all_blank : (text : List ℕ) → position is_dark text ≡ None → fields text ≡ []
fields_all_blank text found =
    fields_blanks text (length text) (omega (arith, none_found is_dark text found))
    ∙ ap fields (drop_all (length text) text (omega arith)) ∙ fields_none

pub fields_from : (text : List ℕ) (start : ℕ) → position is_dark text ≡ Some start
    → fields text ≡ fields (drop start text)
fields_from text start found =
    fields_blanks text start (omega (arith, place_found is_dark text start found))

-- the first field of a line with one
pub fields_cut : (text begun : List ℕ) (start : ℕ) → position is_dark text ≡ Some start
    → begun ≡ drop start text
    → fields text ≡ take (run begun) begun ∷ fields (drop (run begun) begun)
fields_cut text begun start found e = fields_from text start found ∙ ap fields (sym e)
    ∙ fields_run begun (run_at text begun start found e)

-- the same, for its two sides
pub fields_cut_at : (text begun : List ℕ) (start n : ℕ) → position is_dark text ≡ Some start
    → begun ≡ drop start text → n ≡ run begun → (field rest : List ℕ) → field ≡ take n begun
    → rest ≡ drop n begun → fields text ≡ field ∷ fields rest
fields_cut_at text begun start n found e same field rest prefix back = let cut =
    fields_cut text begun start found e in rw (prefix, back, same) cut
