-- The lines of a text, the fields of a line, and numbers.
use Rattle.std.specs.Prelude.{◌≡◌, ◌<◌, ◌≤◌, ◌++◌, true, slice_range, ℕ, zero, suc, Bool, false, not, cond, ◌+◌, ◌-◌, ◌*◌, ◌==◌, ◌&&◌, ◌||◌, nat_le, nat_lt, Option, Some, None, List, [], ◌∷◌, length, drop, min, slice_index}
use Rattle.std.specs.List.{list_all, filter, slice_split, position_or_len}
use Rattle.std.specs.Str.Lines.{lines}
use Rattle.automaton_file.specs.declared.lines.LineGot.{LineGot}
use Rattle.automaton_file.specs.declared.lines.LineGot.TheVariants.{Line, BadByte, End}

-- The lines without their ends, as Rust's `str::lines` cuts them: after each LF, and a CR
-- directly before an LF belongs to the line's end.
unfoldable pub text_lines : List ℕ → List (List ℕ)
text_lines bytes = lines bytes

-- the length of the first line of a text, with its end
abbrev pub line_len : List ℕ → ℕ
line_len bytes = min (position_or_len (λ b. b == 10) bytes + 1) (length bytes)

-- The place where the line behind so many others begins, counted from a place on where a line
-- begins.
abbrev pub line_start : List ℕ → ℕ → ℕ → ℕ
line_start bytes place zero = place
line_start bytes place (suc count) =
    let before = line_start bytes place count in before + line_len (drop before bytes)

-- printable ASCII or a tab
abbrev pub is_allowed : ℕ → Bool
is_allowed b = (b == 9) || (nat_le 32 b && nat_le b 126)

-- a line with allowed bytes alone
abbrev pub is_plain : List ℕ → Bool
is_plain text = list_all is_allowed text

-- a space or a tab
abbrev pub is_blank : ℕ → Bool
is_blank b = (b == 32) || (b == 9)

-- the longest runs of bytes other than space and tab
unfoldable pub fields : List ℕ → List (List ℕ)
fields text = filter (λ field. not (length field == 0)) (slice_split is_blank text)

-- the fields of a line that is neither blank nor a comment
abbrev pub is_significant : List (List ℕ) → Bool
is_significant [] = false
is_significant (field ∷ more) = not (slice_index field 0 == 35)

-- the significant lines
abbrev pub parts : List (List ℕ) → List (List ℕ)
parts [] = []
parts (text ∷ more) = cond (is_significant (fields text)) (text ∷ parts more) (parts more)

-- the bytes behind the first field of a line
abbrev pub behind_first : List ℕ → List ℕ
behind_first text =
    let begun = drop (position_or_len (λ b. not (is_blank b)) text) text in
    drop (position_or_len is_blank begun) begun

abbrev pub is_digit : ℕ → Bool
is_digit b = nat_le 48 b && nat_le b 57

-- `0`, or digits of which the first isn't 0
abbrev pub is_number : List ℕ → Bool
is_number [] = false
is_number (d ∷ []) = is_digit d
is_number (d ∷ e ∷ more) = not (d == 48) && list_all is_digit (d ∷ e ∷ more)

-- the value of digits behind digits of the value n
abbrev pub value_behind : ℕ → List ℕ → ℕ
value_behind n [] = n
value_behind n (d ∷ more) = value_behind (n * 10 + (d - 48)) more

abbrev pub value : List ℕ → ℕ
value field = value_behind 0 field

-- the number that a field spells, if it spells one below the limit
unfoldable pub number_below : ℕ → List ℕ → Option ℕ
number_below limit field =
    cond (is_number field && nat_lt (value field) limit) (Some (value field)) None

-- blank or a comment, with allowed bytes alone
abbrev pub is_skipped : List ℕ → Bool
is_skipped text = is_plain text && not (is_significant (fields text))

-- from the lines `texts`, the first of which has this number, some are skipped to the lines `rest`
pub record IsSkip (texts : List (List ℕ)) (number : ℕ) (rest : List (List ℕ))
    (next : ℕ) : Type 0 where
  pub skipped : List (List ℕ)
  pub split : texts ≡ skipped ++ rest
  pub counted : next ≡ number + length skipped
  pub each : list_all is_skipped skipped ≡ true

-- a line at `from` to `to`, before the text from `next` on, is the first one from `place` on
-- that is significant or has a byte that isn't allowed, and it has none
pub record IsLineAhead (bytes : List ℕ) (place number at from to next : ℕ) : Type 0 where
  pub skip : IsSkip (text_lines (drop place bytes)) number
      (slice_range bytes from to ∷ text_lines (drop next bytes)) at
  pub plain : is_plain (slice_range bytes from to) ≡ true
  pub significant : is_significant (fields (slice_range bytes from to)) ≡ true
  pub begins : from ≡ line_start bytes place (at - number)
  pub ends : next ≡ line_start bytes place (at + 1 - number)
  pub order : from ≤ to
  pub inside : to ≤ next
  pub onward : place < next
  pub within : next ≤ length bytes
  pub counted : at ≤ from + 1
  pub rises : at < next + 1

-- the line with number `at` is the first one from `place` on that is significant or has a byte
-- that isn't allowed, and it has one
pub record IsBadAhead (bytes : List ℕ) (place number at : ℕ) : Type 0 where
  pub text : List ℕ
  pub rest : List (List ℕ)
  pub skip : IsSkip (text_lines (drop place bytes)) number (text ∷ rest) at
  pub bad : is_plain text ≡ false

-- no line from `place` on is significant or has a byte that isn't allowed, and there are `count`
-- lines in all
pub record IsEndAhead (bytes : List ℕ) (place number count : ℕ) : Type 0 where
  pub skip : IsSkip (text_lines (drop place bytes)) number [] (count + 1)
  pub few : count ≤ length bytes

-- what stands from the place on where the line with this number begins
abbrev pub IsNextLine : List ℕ → ℕ → ℕ → LineGot → Type 0
IsNextLine bytes place number (Line at from to next) =
    IsLineAhead bytes place number at from to next
IsNextLine bytes place number (BadByte at) = IsBadAhead bytes place number at
IsNextLine bytes place number (End count) = IsEndAhead bytes place number count
