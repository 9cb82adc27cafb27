-- Lines that are skipped.
use Rattle.std.proofs.Common.{◌≡◌, ℕ, suc, ◌+◌, ◌-◌, ◌≤◌, List, [], ◌∷◌, ◌++◌, length, take, drop, sym, ap, ◌∙◌, arith, true, false, append_assoc, length-append, subst}
use Rattle.std.specs.Prelude.{not}
use Rattle.std.specs.List.{list_all}
use Rattle.std.proofs.lemmas.Bool.{and_parts, and_from, not_from_false}
use Rattle.std.proofs.lemmas.List.{drop-drop, drop_all}
use Rattle.automaton_file.specs.LineText.{text_lines, line_len, line_start, is_plain, is_significant, fields, is_skipped, IsSkip}
use Rattle.automaton_file.proofs.TextLines.{text_lines_none}

all_push : (texts : List (List ℕ)) (text : List ℕ) → list_all is_skipped texts ≡ true
    → is_skipped text ≡ true → list_all is_skipped (texts ++ text ∷ []) ≡ true
all_push [] text h k = rw k
all_push (t ∷ texts) text h k = let both = and_parts (is_skipped t) (list_all is_skipped texts) h in
    and_from (is_skipped t) (list_all is_skipped (texts ++ text ∷ [])) both.0
    (all_push texts text both.1 k)

pub skip_more : (texts rest : List (List ℕ)) (text : List ℕ) (number at : ℕ)
    → IsSkip texts number (text ∷ rest) at → is_skipped text ≡ true
    → IsSkip texts number rest (at + 1)
skip_more texts rest text number at s h = record {
  skipped = s.skipped ++ text ∷ [];
  split = s.split ∙ sym (append_assoc s.skipped (text ∷ []) rest);
  counted = omega (arith, s.counted, length-append s.skipped (text ∷ []));
  each = all_push s.skipped text s.each h;
}

pub skip_same : (texts rest other : List (List ℕ)) (number at : ℕ) → IsSkip texts number rest at
    → rest ≡ other → IsSkip texts number other at
skip_same texts rest other number at s e =
    subst (λ (r : List (List ℕ)). IsSkip texts number r at) e s

-- the first line of what stands from a place on
pub line_ahead : (bytes rest text : List ℕ) (from t w : ℕ) → rest ≡ drop from bytes
    → text ≡ take t rest → text_lines rest ≡ take t rest ∷ text_lines (drop w rest)
    → text_lines (drop from bytes) ≡ text ∷ text_lines (drop (from + w) bytes)
line_ahead bytes rest text from t w back prefix e = rw (← drop-drop w from bytes, ← back, prefix) e

-- what is skipped so far, and one line more
pub skip_line : (bytes text : List ℕ) (place number from at w : ℕ)
    → IsSkip (text_lines (drop place bytes)) number (text_lines (drop from bytes)) at
    → text_lines (drop from bytes) ≡ text ∷ text_lines (drop (from + w) bytes)
    → is_plain text ≡ true → is_significant (fields text) ≡ false
    → IsSkip (text_lines (drop place bytes)) number (text_lines (drop (from + w) bytes)) (at + 1)
skip_line bytes text place number from at w s e plain blank =
    skip_more _ _ text _ _ (skip_same _ _ _ _ _ s e)
    (and_from (is_plain text) (not (is_significant (fields text))) plain
    (not_from_false _ blank))

pub skip_to_end : (bytes : List ℕ) (place number from at : ℕ)
    → IsSkip (text_lines (drop place bytes)) number (text_lines (drop from bytes)) at → 1 ≤ at
    → length bytes ≤ from → IsSkip (text_lines (drop place bytes)) number [] (at - 1 + 1)
skip_to_end bytes place number from at s some end =
    let same : at ≡ at - 1 + 1 = omega arith in
    subst (λ (n : ℕ). IsSkip (text_lines (drop place bytes)) number [] n) same
    (skip_same _ _ _ _ _ s (ap text_lines (drop_all from bytes end) ∙ text_lines_none))

-- the place where the next line begins
pub line_start_next : (bytes rest : List ℕ) (place number from at w : ℕ) → rest ≡ drop from bytes
    → w ≡ line_len rest → from ≡ line_start bytes place (at - number) → number ≤ at
    → from + w ≡ line_start bytes place (at + 1 - number)
line_start_next bytes rest place number from at w back same begins risen =
    let next : suc (at - number) ≡ at + 1 - number = omega arith in
    ap (λ (x : ℕ). from + x) (same ∙ ap line_len back)
    ∙ ap (λ (x : ℕ). x + line_len (drop x bytes)) begins ∙ ap (line_start bytes place) next
