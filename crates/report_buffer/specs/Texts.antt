-- How the parts of a line are written.
use Rattle.std.specs.Prelude.{ℕ, zero, suc, Bool, cond, List, [], ◌∷◌, ◌++◌, codes, slice_index}
use Rattle.std.specs.Fmt.{decimal}
use Rattle.std.specs.List.{flat_map}

-- the texts of 0, 1, .., n - 1, one after another
abbrev pub texts_below : (ℕ → List ℕ) → ℕ → List ℕ
texts_below text zero = []
texts_below text (suc n) = texts_below text n ++ text n

-- what stands before a text of which n are before it: nothing before the first one
abbrev pub gap_before : List ℕ → ℕ → List ℕ
gap_before gap zero = []
gap_before gap (suc n) = gap

-- the texts of 0, 1, .., n - 1, with a gap between each two
abbrev pub separated : List ℕ → (ℕ → List ℕ) → ℕ → List ℕ
separated gap text zero = []
separated gap text (suc n) = separated gap text n ++ gap_before gap n ++ text n

-- the numbers that belong to 0, 1, .., n - 1, each behind a blank
abbrev pub numbers_below : (ℕ → ℕ) → ℕ → List ℕ
numbers_below number n = texts_below (λ i. codes " " ++ decimal (number i)) n

-- a letter, where `signs` has the byte of each
abbrev pub letter_text : List ℕ → ℕ → List ℕ
letter_text signs a = slice_index signs a ∷ []

-- letters, one after another
abbrev pub letters_text : List ℕ → List ℕ → List ℕ
letters_text signs letters = flat_map (letter_text signs) letters

-- a word as its letters; the empty word is `1`
abbrev pub word_text : List ℕ → List ℕ → List ℕ
word_text signs [] = codes "1"
word_text signs (a ∷ w) = letters_text signs (a ∷ w)

-- whether words are in the language, or out of it
abbrev pub membership_text : Bool → List ℕ
membership_text is_in = cond is_in (codes "in") (codes "out")

-- a line with a name and a number
abbrev pub number_line : List ℕ → ℕ → List ℕ
number_line name n = name ++ codes " " ++ decimal n ++ codes "\n"

-- a line with a name and a word
abbrev pub word_line : List ℕ → List ℕ → List ℕ → List ℕ
word_line signs name w = name ++ codes " " ++ word_text signs w ++ codes "\n"

-- the line that tells whether the first of two words is in the language
abbrev pub first_line : Bool → List ℕ
first_line is_in = codes "first " ++ membership_text is_in ++ codes "\n"
