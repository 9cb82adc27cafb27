-- The first line of a text and those behind it.
use Rattle.std.proofs.Common.{◌≡◌, ℕ, ◌+◌, ◌<◌, ◌≤◌, List, [], ◌∷◌, length, take, drop, refl, sym, ap, ◌∙◌, arith, true, false, ltb-true, ltb-false}
use Rattle.std.specs.Prelude.{◌==◌, Bool, cond, not, Some, None, nat_lt}
use Rattle.std.specs.List.{slice_split, onto_first, position, position_or_len}
use Rattle.std.specs.Str.Lines.{lines_of_parts, strip_carriage_return}
use Rattle.std.proofs.lemmas.List.{take_all, drop_all, length-take-le, take-take}
use Rattle.std.proofs.lemmas.Bool.Decides.{nat_tests}
use Rattle.std.proofs.lemmas.List.Sums.{fails_before_first, prefix_len-le-length}
use Rattle.std.proofs.lemmas.List.Elements.{All-from_get_or}
use Rattle.std.proofs.lemmas.List.Splits.{slice_split_first, slice_split_none}
use Rattle.automaton_file.specs.LineText.{text_lines}

abbrev pub is_line_feed : ℕ → Bool
is_line_feed b = b == 10

-- a list of parts with at least one
abbrev IsCons : List (List ℕ) → Type 0
IsCons xs = (x : List ℕ) × (more : List (List ℕ)) × (xs ≡ x ∷ more)

onto_is_cons : (x : ℕ) (xs : List (List ℕ)) → IsCons (onto_first x xs)
onto_is_cons x [] = (x ∷ [], [], refl)
onto_is_cons x (part ∷ more) = (x ∷ part, more, refl)

cond_is_cons : (b : Bool) (xs ys : List (List ℕ)) → IsCons xs → IsCons ys → IsCons (cond b xs ys)
cond_is_cons true xs ys h k = h
cond_is_cons false xs ys h k = k

-- `slice_split` gives at least one part
split_is_cons : (xs : List ℕ) → IsCons (slice_split is_line_feed xs)
split_is_cons [] = ([], [], refl)
split_is_cons (x ∷ xs) = cond_is_cons (x == 10) _ _ ([], slice_split is_line_feed xs, refl)
    (onto_is_cons x (slice_split is_line_feed xs))

-- a part that others follow is a line that an LF ends
ended_line : (first : List ℕ) (rest : List (List ℕ)) → IsCons rest
    → lines_of_parts (first ∷ rest) ≡ strip_carriage_return first ∷ lines_of_parts rest
ended_line first rest (x, more, e) = rw e

pub text_lines_none : text_lines [] ≡ []
unfolding text_lines
text_lines_none = refl

-- a line that an LF ends
pub text_lines_ended : (bytes : List ℕ) (end : ℕ) → end ≡ position_or_len is_line_feed bytes
    → end < length bytes → text_lines bytes ≡ strip_carriage_return (take end bytes) ∷ text_lines
    (drop (end + 1) bytes)
unfolding text_lines
text_lines_ended bytes end e h =
    rw e (let h' : position_or_len is_line_feed bytes < length bytes = omega arith in
    ap lines_of_parts (slice_split_first is_line_feed bytes 0 h')
    ∙ ended_line _ _ (split_is_cons (drop (position_or_len is_line_feed bytes + 1) bytes)))

last_part : (xs : List ℕ) → 0 < length xs → lines_of_parts (xs ∷ []) ≡ xs ∷ []
last_part xs h = grind (arith, nat_tests)

-- a last line that no LF ends
pub text_lines_last : (bytes : List ℕ) → position_or_len is_line_feed bytes ≡ length bytes
    → 0 < length bytes → text_lines bytes ≡ bytes ∷ []
unfolding text_lines
text_lines_last bytes e h =
    ap lines_of_parts (slice_split_none is_line_feed bytes
    (All-from_get_or (λ b. (b == 10) ≡ false) bytes 0
    (λ i k. fails_before_first is_line_feed bytes i 0 (omega arith)))) ∙ last_part bytes h

-- what a choice of a number or none is
pub some_of_cond : (b : Bool) (n m : ℕ) → cond b (Some n) None ≡ Some m → (b ≡ true) × (m ≡ n)
some_of_cond true n m e = (refl, cc)
some_of_cond false n m e = absurd (cc)

none_of_cond : (b : Bool) (n : ℕ) → cond b (Some n) None ≡ None → b ≡ false
none_of_cond true n e = absurd (cc)
none_of_cond false n e = refl

-- `position` gives the first place that passes
pub place_found : (p : ℕ → Bool) (bytes : List ℕ) (n : ℕ) → position p bytes ≡ Some n
    → (n < length bytes) × (n ≡ position_or_len p bytes)
place_found p bytes n found =
    let h = some_of_cond (nat_lt (position_or_len p bytes) (length bytes)) _ n found in
    (let k = ltb-true _ _ h.0 in omega (arith, h.1), h.1)

-- where `position` gives none, none passes
pub none_found : (p : ℕ → Bool) (bytes : List ℕ) → position p bytes ≡ None
    → position_or_len p bytes ≡ length bytes
none_found p bytes found =
    let h = ltb-false _ _
    (none_of_cond (nat_lt (position_or_len p bytes) (length bytes)) _ found) in
    omega (arith, prefix_len-le-length (λ b. not (p b)) bytes)

-- a line that an LF ends, cut off by its length without its end
pub text_lines_cut : (bytes line : List ℕ) (end n : ℕ) → position is_line_feed bytes ≡ Some end
    → line ≡ take end bytes → take n line ≡ strip_carriage_return line → n ≤ length line
    → text_lines bytes ≡ take n bytes ∷ text_lines (drop (end + 1) bytes)
text_lines_cut bytes line end n found e cut h =
    let at = place_found is_line_feed bytes end found in
    let short : n ≤ end =
    omega (arith, ap length e, length-take-le end bytes (omega (arith, at.0))) in
    let text : strip_carriage_return (take end bytes) ≡ take n bytes =
    ap strip_carriage_return (sym e) ∙ sym cut ∙ ap (λ (l : List ℕ). take n l) e
    ∙ take-take n end bytes short in
    text_lines_ended bytes end at.1 at.0
    ∙ ap (λ (l : List ℕ). l ∷ text_lines (drop (end + 1) bytes)) text

-- a last line that no LF ends, cut off by its length
pub text_lines_rest : (bytes : List ℕ) → position is_line_feed bytes ≡ None → 0 < length bytes
    → text_lines bytes ≡ take (length bytes) bytes ∷ text_lines (drop (length bytes) bytes)
text_lines_rest bytes found h =
    text_lines_last bytes (none_found is_line_feed bytes found) h
    ∙ ap (λ (l : List ℕ). l ∷ []) (sym (take_all (length bytes) bytes (omega arith)))
    ∙ ap (λ (ls : List (List ℕ)). take (length bytes) bytes ∷ ls)
    (sym text_lines_none ∙ ap text_lines (sym (drop_all (length bytes) bytes (omega arith))))
