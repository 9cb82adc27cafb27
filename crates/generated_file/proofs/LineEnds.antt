-- Plain lines, each ended with LF, are the lines of their text.
use Rattle.std.proofs.Common.{◌≡◌, ℕ, zero, suc, ◌-◌, ◌<◌, ◌⊎◌, List, [], ◌∷◌, length, get_or, refl, ap, ◌∙◌, inl, inr, arith, true, false, append_assoc}
use Rattle.std.specs.Prelude.{◌==◌, ◌&&◌, nat_le, All, codes}
use Rattle.std.specs.List.{slice_split}
use Rattle.std.specs.Str.Lines.{strip_carriage_return, lines_of_parts}
use Rattle.std.proofs.lemmas.Bool.{and_parts, or_cases, eqb-true, ne_eqb, leb-true}
use Rattle.std.proofs.lemmas.List.Elements.{All-nil, All-cons, All-head, All-tail}
use Rattle.std.proofs.lemmas.List.Splits.{slice_split_at, length-slice_split}
use Rattle.automaton_file.specs.LineText.{text_lines, is_allowed, is_plain}
use Rattle.automaton_file.proofs.TextLines.{is_line_feed, text_lines_none}
use Rattle.generated_file.specs.Generated.{text_of}

-- the bytes of a line are allowed
abbrev pub IsPlain : List ℕ → Type 0
IsPlain line = is_plain line ≡ true

-- an allowed byte is no LF and no CR
allowed_not : (b c : ℕ) → is_allowed b ≡ true → 9 < c → c < 32 → (b == c) ≡ false
allowed_not b c h low high = ne_eqb b c (by (or_cases (b == 9) (nat_le 32 b && nat_le b 126) h))
  where
    by : ((b == 9) ≡ true) ⊎ ((nat_le 32 b && nat_le b 126) ≡ true) → b ≡ c → ⊥
    by (inl tab) e = omega (arith, eqb-true b 9 tab, e, low)
    by (inr both) e =
        omega (arith, leb-true 32 b (and_parts (nat_le 32 b) (nat_le b 126) both).0, e, high)

no_line_feed : (line : List ℕ) → IsPlain line → All (λ b. is_line_feed b ≡ false) line
no_line_feed [] h = All-nil (λ b. is_line_feed b ≡ false)
no_line_feed (b ∷ line) h =
    let both = and_parts (is_allowed b) (is_plain line) h in
    All-cons (λ b. is_line_feed b ≡ false) b line
    (allowed_not b 10 both.0 (omega arith) (omega arith)) (no_line_feed line both.1)

no_return_at : (line : List ℕ) (k : ℕ) → IsPlain line → (get_or line k 0 == 13) ≡ false
no_return_at [] k h = refl
no_return_at (b ∷ line) zero h =
    allowed_not b 13 (and_parts (is_allowed b) (is_plain line) h).0 (omega arith) (omega arith)
no_return_at (b ∷ line) (suc k) h =
    no_return_at line k (and_parts (is_allowed b) (is_plain line) h).1

nothing_stripped : (line : List ℕ) → IsPlain line → strip_carriage_return line ≡ line
nothing_stripped line h = rw (no_return_at line (length line - 1) h) refl

line_before : (line : List ℕ) (more : List (List ℕ)) → 0 < length more
    → lines_of_parts (line ∷ more) ≡ strip_carriage_return line ∷ lines_of_parts more
line_before line [] h = absurd (omega arith)
line_before line (part ∷ more) h = refl

pub lines_of_text : (lines : List (List ℕ)) → All IsPlain lines
    → text_lines (text_of lines) ≡ lines
unfolding text_lines
lines_of_text [] h = text_lines_none
lines_of_text (line ∷ more) h =
    let plain = All-head IsPlain line more h in
    let some : 0 < length (slice_split is_line_feed (text_of more)) =
    omega (arith, length-slice_split is_line_feed (text_of more)) in
    ap text_lines (append_assoc line (codes "\n") (text_of more))
    ∙ ap lines_of_parts
    (slice_split_at is_line_feed line 10 (text_of more) (no_line_feed line plain) refl)
    ∙ line_before line (slice_split is_line_feed (text_of more)) some
    ∙ ap (λ (l : List ℕ). l ∷ text_lines (text_of more)) (nothing_stripped line plain)
    ∙ ap (λ (ls : List (List ℕ)). line ∷ ls)
    (lines_of_text more (All-tail IsPlain line more h))
