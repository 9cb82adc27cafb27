-- The text of the section `green`.
use Rattle.std.specs.Prelude.{◌≡◌, ℕ, zero, suc, ◌+◌, Bool, cond, List, [], ◌++◌, codes, length, slice_index}
use Rattle.std.specs.Fmt.{decimal}
use Rattle.language_theory.specs.Words.{word_at}
use Rattle.language_theory.specs.Automaton.{is_marked}
use Rattle.cayley_tables.specs.CayleyGraphs.{CayleyGraphs}
use Rattle.green_relations.specs.GreenClasses.{GreenClasses}
use Rattle.green_relations.specs.EggBoxes.{AreBoxesOf, box_at, row_at, cell_at}
use Rattle.report_buffer.specs.Texts.{texts_below, separated, word_text, number_line}

-- the least words of the elements, and for each whether it is idempotent
pub record Marked : Type 0 where
  pub words : List (List ℕ)
  pub idempotents : List Bool

abbrev pub marked : List (List ℕ) → List Bool → Marked
marked words idempotents = record { words = words; idempotents = idempotents }

-- the boxes are those of the classes of as many elements as the monoid has, over the letters with
-- these signs
pub record AreBoxesToSay (signs : List ℕ) (c : CayleyGraphs) (g : GreenClasses)
    (boxes : List (List (List (List ℕ)))) : Type 0 where
  pub letters : c.right.letters ≡ length signs
  pub size : length g.r ≡ length c.words
  pub diagram : AreBoxesOf g boxes

-- a star where an element is idempotent
abbrev pub star_text : Bool → List ℕ
star_text is_idempotent = cond is_idempotent (codes "*") []

-- the least word of an element, with a star where it is idempotent
abbrev pub member_text : List ℕ → Marked → ℕ → List ℕ
member_text signs m i = word_text signs (word_at m.words i) ++ star_text (is_marked m.idempotents i)

-- the elements of a cell
abbrev pub cell_text : List ℕ → Marked → List ℕ → List ℕ
cell_text signs m cell =
    separated (codes " ") (λ n. member_text signs m (slice_index cell n)) (length cell)

-- the cells of a row
abbrev pub cells_text : List ℕ → Marked → List (List ℕ) → List ℕ
cells_text signs m row =
    separated (codes " | ") (λ x. cell_text signs m (cell_at row x)) (length row)

abbrev pub row_text : List ℕ → Marked → List (List ℕ) → List ℕ
row_text signs m row = cells_text signs m row ++ codes "\n"

-- the number of a box, and how many rows, columns, and elements in a cell it has
abbrev pub box_head : ℕ → List (List (List ℕ)) → List ℕ
box_head n box =
    codes "box " ++ decimal n ++ codes " rows " ++ decimal (length box)
    ++ codes " columns " ++ decimal (length (row_at box 0))
    ++ codes " size " ++ decimal (length (cell_at (row_at box 0) 0)) ++ codes "\n"

-- a box: its head, and a line for each row
abbrev pub box_text : List ℕ → Marked → List (List (List (List ℕ))) → ℕ → List ℕ
box_text signs m boxes n =
    box_head n (box_at boxes n)
    ++ texts_below (λ y. row_text signs m (row_at (box_at boxes n) y)) (length (box_at boxes n))

-- the number of boxes
abbrev pub boxes_head : List (List (List (List ℕ))) → List ℕ
boxes_head boxes = codes "green\n" ++ number_line (codes "boxes") (length boxes)

-- the boxes
abbrev pub boxes_text : List ℕ → Marked → List (List (List (List ℕ))) → List ℕ
boxes_text signs m boxes = boxes_head boxes ++ texts_below (box_text signs m boxes) (length boxes)

-- how many of 0, 1, .., n - 1 are marked
abbrev pub marks_below : List Bool → ℕ → ℕ
marks_below marks zero = 0
marks_below marks (suc n) = marks_below marks n + cond (is_marked marks n) 1 0

-- the number of idempotents
abbrev pub idempotents_text : ℕ → List ℕ
idempotents_text count = number_line (codes "idempotents") count

-- the section: the boxes, and the number of idempotents
abbrev pub green_text : List ℕ → Marked → List (List (List (List ℕ))) → List ℕ
green_text signs m boxes =
    boxes_text signs m boxes ++ idempotents_text (marks_below m.idempotents (length m.words))
