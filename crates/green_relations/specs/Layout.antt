-- How the boxes of an egg-box diagram stand in flat lists.
use Rattle.std.specs.Prelude.{◌≡◌, ◌<◌, ◌≤◌, ◌+◌, ◌*◌, ◌^◌, ℕ, List, length, slice_index, map}
use Rattle.std.specs.List.{range_with_len}
use Rattle.cayley_tables.specs.declared.limits.TheConstants.{MOST_ELEMENTS}
use Rattle.green_relations.specs.GreenClasses.{GreenClasses}
use Rattle.green_relations.specs.Classes.{AreClasses}
use Rattle.green_relations.specs.Numbering.{IsNumbering, AreStarts, part}

-- For each box the number of its rows, the number of its columns, and its first cell; for each cell
-- where its members start, and where the last one's end; and the members of the cells.
pub record Layout : Type 0 where
  pub rows : List ℕ
  pub columns : List ℕ
  pub corners : List ℕ
  pub starts : List ℕ
  pub members : List ℕ

abbrev pub layout : List ℕ → List ℕ → List ℕ → List ℕ → List ℕ → Layout
layout rows columns corners starts members = record {
  rows = rows;
  columns = columns;
  corners = corners;
  starts = starts;
  members = members;
}

-- cells are numbered row by row
abbrev pub cell_number : Layout → ℕ → ℕ → ℕ → ℕ
cell_number t b y x = slice_index t.corners b + (y * slice_index t.columns b + x)

abbrev pub laid_row : Layout → ℕ → ℕ → List (List ℕ)
laid_row t b y = map (λ x. part t.starts t.members (cell_number t b y x))
    (range_with_len 0 (slice_index t.columns b))

abbrev pub laid_box : Layout → ℕ → List (List (List ℕ))
laid_box t b = map (laid_row t b) (range_with_len 0 (slice_index t.rows b))

-- the boxes that stand in the lists
abbrev pub laid_boxes : Layout → List (List (List (List ℕ)))
laid_boxes t = map (laid_box t) (range_with_len 0 (length t.rows))

-- Each box has a row and a column and lies among the cells, each of its cells has a member, and
-- cells lie among the members.
pub record IsLayout (t : Layout) : Type 0 where
  pub few : length t.rows ≤ MOST_ELEMENTS
  pub room : length t.starts ≤ 2 ^ 48
  pub filed : length t.columns ≡ length t.rows
  pub cornered : length t.corners ≡ length t.rows + 1
  pub high : (b : ℕ) → b < length t.rows
      → (1 ≤ slice_index t.rows b) × (slice_index t.rows b ≤ MOST_ELEMENTS)
  pub wide : (b : ℕ) → b < length t.rows
      → (1 ≤ slice_index t.columns b) × (slice_index t.columns b ≤ MOST_ELEMENTS)
  pub box : (b : ℕ) → b < length t.rows
      → slice_index t.corners b + slice_index t.rows b * slice_index t.columns b < length t.starts
  pub some : (b y x : ℕ) → b < length t.rows → y < slice_index t.rows b
      → x < slice_index t.columns b
      → slice_index t.starts (cell_number t b y x) < slice_index t.starts (cell_number t b y x + 1)
  pub inside : (c : ℕ) → c + 1 < length t.starts → slice_index t.starts (c + 1) ≤ length t.members

-- Where each element stands: the number of its box, its row and its column. `tally` has the number
-- of boxes, and `high` and `wide` have for each box how many rows and columns it has.
pub record ArePlaces (g : GreenClasses) (tally boxes rows columns high wide : List ℕ) : Type 0 where
  pub classes : AreClasses g
  pub group : List ℕ
  pub one_group : (i : ℕ) → i < length g.r → slice_index group i ≡ 0
  pub box : IsNumbering g.j group (length g.r) 1 boxes tally
  pub row : IsNumbering g.r boxes (length g.r) (slice_index tally 0) rows high
  pub column : IsNumbering g.l boxes (length g.r) (slice_index tally 0) columns wide

-- the number of each element's cell
pub record AreCells (boxes rows columns wide corners : List ℕ) (n : ℕ) (cells : List ℕ) : Type 0
  where
    pub long : length cells ≡ n
    pub cell : (i : ℕ) → i < n → slice_index cells i
        ≡ slice_index corners (slice_index boxes i)
        + (slice_index rows i * slice_index wide (slice_index boxes i) + slice_index columns i)

-- each element lies in its box: its row ends with the box or before, and all numbers stay small
pub record LieInBoxes (boxes rows columns wide corners : List ℕ) : Type 0 where
  pub ranked : length rows ≡ length boxes
  pub filed : length columns ≡ length boxes
  pub cornered : length corners ≡ length wide + 1
  pub box : (i : ℕ) → i < length boxes → slice_index boxes i < length wide
  pub row : (i : ℕ) → i < length boxes → slice_index rows i ≤ MOST_ELEMENTS
  pub column : (i : ℕ) → i < length boxes → slice_index columns i ≤ MOST_ELEMENTS
  pub width : (b : ℕ) → b < length wide → slice_index wide b ≤ MOST_ELEMENTS
  pub corner : (b : ℕ) → b < length corners → slice_index corners b < 2 ^ 47

-- where the cells of each box start, and the number of all cells
pub record AreCorners (high wide corners : List ℕ) : Type 0 where
  pub areas : List ℕ
  pub long : length areas ≡ length high
  pub area : (b : ℕ) → b < length high
      → slice_index areas b ≡ slice_index high b * slice_index wide b
  pub starts : AreStarts areas corners
