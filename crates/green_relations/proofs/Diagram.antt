-- The boxes that are laid out by numbers are the egg-box diagram of the classes.
use Rattle.std.proofs.Common.{◌≡◌, ◌↔◌, ℕ, ◌+◌, ◌-◌, ◌*◌, ◌^◌, ◌<◌, ◌≤◌, List, length, slice_index}
use Rattle.std.proofs.Common.{drop, refl, sym, ap, subst, arith, ◌∙◌}
use Rattle.std.proofs.lemmas.List.{length-take-le, length-drop}
use Rattle.green_relations.specs.GreenClasses.{GreenClasses}
use Rattle.green_relations.specs.EggBoxes.{AreJust, IsFirst, IsBox, Share, AreBoxesOf, box_at}
use Rattle.green_relations.specs.EggBoxes.{row_at}
use Rattle.green_relations.specs.Classes.{NameFirsts, AreClasses}
use Rattle.green_relations.specs.Numbering.{AreGrouped, AreNumbered, IsNumbering, AreListed, part}
use Rattle.green_relations.specs.Layout.{Layout, layout, cell_number, laid_boxes, IsLayout}
use Rattle.green_relations.specs.Layout.{ArePlaces, AreCells, LieInBoxes, AreCorners}
use Rattle.green_relations.proofs.Rising.{just_one, just_same}
use Rattle.green_relations.proofs.Parts.{starts_below, before_later, parts_apart}
use Rattle.green_relations.proofs.Laying.{areas_small, cell_below, cell_one, len_is, rows_is}
use Rattle.green_relations.proofs.Laying.{columns_is, cell_is}

-- the least of a class is the one that names it
first_names : (n : ℕ) (labels : List ℕ) → NameFirsts n labels → (i : ℕ) → i < n
    → IsFirst n (Share labels) i ↔ (slice_index labels i ≡ i)
first_names n labels h i hi = (
  λ f. let own = f (slice_index labels i) (omega (arith, h.below i hi)) (h.own i hi) in
      omega (arith, own, h.below i hi),
  λ e m hm s. omega (arith, h.below m hm, s, e),
)

module _ (g : GreenClasses) (a : AreClasses g) (tally boxes group : List ℕ)
    (zero : (i : ℕ) → i < length g.r → slice_index group i ≡ 0)
    (box : IsNumbering g.j group (length g.r) 1 boxes tally) where
  tops : AreNumbered g.j group (length g.r) 0 boxes (slice_index tally 0)
  tops = box.group 0 (omega arith)

  box_below : (i : ℕ) → i < length g.r → slice_index boxes i < slice_index tally 0
  box_below i hi = tops.within i hi (zero i hi)

  top_of : (i : ℕ) → i < length g.r → slice_index tops.firsts (slice_index boxes i)
      ≡ slice_index g.j i
  top_of i hi = tops.first i hi (zero i hi)

  box_inside : (i : ℕ) → i < length g.r → slice_index boxes i < length tops.firsts
  box_inside i hi = omega (arith, box_below i hi, tops.total)

  -- elements are in one box exactly where they share the label of J
  box_same : (i m : ℕ) → i < length g.r → m < length g.r → Share g.j i m
      → slice_index boxes i ≡ slice_index boxes m
  box_same i m hi hm s = just_one (slice_index boxes i) (slice_index boxes m) tops.just
      (box_inside i hi) (box_inside m hm) (top_of i hi ∙ (s ∙ sym (top_of m hm)))

  box_shares : (i m : ℕ) → i < length g.r → m < length g.r
      → slice_index boxes i ≡ slice_index boxes m → Share g.j i m
  box_shares i m hi hm s = sym (top_of i hi) ∙ (ap (slice_index tops.firsts) s ∙ top_of m hm)

  label_below : (labels : List ℕ) → NameFirsts (length g.r) labels → (i : ℕ) → i < length g.r
      → slice_index labels i < length g.r
  label_below labels h i hi = omega (arith, h.below i hi)

  -- the rows and the columns are parts of boxes
  grouped : (labels : List ℕ) → NameFirsts (length g.r) labels
      → ((i m : ℕ) → i < length g.r → m < length g.r → Share labels i m → Share g.j i m)
      → AreGrouped labels boxes (slice_index tally 0)
  grouped labels h parts = record {
    names = subst (λ (n : ℕ). NameFirsts n labels) (sym box.long) h;
    within = λ i hi. box_below i (inside i hi);
    same = λ i hi. let x = inside i hi in let y = label_below labels h i x in
        box_same (slice_index labels i) i y x (parts (slice_index labels i) i y x (h.own i x));
  }
    where
      inside : (i : ℕ) → i < length boxes → i < length g.r
      inside i hi = omega (arith, box.long)

  pub columns_grouped : AreGrouped g.l boxes (slice_index tally 0)
  columns_grouped = grouped g.l a.l a.columns

module _ (g : GreenClasses) (a : AreClasses g) (tally boxes rows columns high wide : List ℕ)
    (p : ArePlaces g tally boxes rows columns high wide) where
  -- the boxes by their least elements
  top_box : AreNumbered g.j p.group (length g.r) 0 boxes (slice_index tally 0)
  top_box = tops g a tally boxes p.group p.one_group p.box

  count_small : slice_index tally 0 ≤ 50000
  count_small = omega (arith, p.box.few 0 (omega arith), a.few)

  in_box : (i : ℕ) → i < length g.r → slice_index boxes i < slice_index tally 0
  in_box i hi = box_below g a tally boxes p.group p.one_group p.box i hi

  pub high_small : (b : ℕ) → b < length high → slice_index high b ≤ 50000
  high_small b hb = omega (arith, p.row.few b (omega (arith, p.row.size)), a.few)

  pub wide_small : (b : ℕ) → b < length high → slice_index wide b ≤ 50000
  wide_small b hb = omega (arith, p.column.few b (omega (arith, p.row.size)), a.few)

  pub few_boxes : length high ≤ 50000
  few_boxes = omega (arith, p.row.size, count_small)

  pub as_wide : length wide ≡ length high
  as_wide = p.column.size ∙ sym p.row.size

  row_below : (i : ℕ) → i < length g.r → slice_index rows i < slice_index high (slice_index boxes i)
  row_below i hi = (p.row.group (slice_index boxes i) (in_box i hi)).within i hi refl

  column_below : (i : ℕ) → i < length g.r
      → slice_index columns i < slice_index wide (slice_index boxes i)
  column_below i hi = (p.column.group (slice_index boxes i) (in_box i hi)).within i hi refl

  module _ (corners : List ℕ) (k : AreCorners high wide corners) where
    corner_small : (b : ℕ) → b ≤ length high → slice_index corners b < 2 ^ 47
    corner_small b hb =
        let s = areas_small high wide k.areas few_boxes k.long k.area high_small wide_small in
        let below = starts_below k.areas corners k.starts 2500000000 s.each b
        (omega (arith, k.long)) in
        omega (arith, below, hb, few_boxes)

    pub lie_in_boxes : LieInBoxes boxes rows columns wide corners
    lie_in_boxes = record {
      ranked = p.row.long ∙ sym p.box.long;
      filed = p.column.long ∙ sym p.box.long;
      cornered = omega (arith, k.starts.long, k.long, as_wide);
      box = λ i hi. omega (arith, in_box i (inside i hi), p.column.size);
      row = λ i hi. omega (
        arith,
        row_below i (inside i hi),
        p.row.few (slice_index boxes i)
            (in_box i (inside i hi)),
        a.few,
      );
      column = λ i hi. omega (
        arith,
        column_below i (inside i hi),
        p.column.few (slice_index boxes i)
            (in_box i (inside i hi)),
        a.few,
      );
      width = λ b hb. wide_small b (omega (arith, as_wide));
      corner = λ b hb. corner_small b (omega (arith, k.starts.long, k.long));
    }
      where
        inside : (i : ℕ) → i < length boxes → i < length g.r
        inside i hi = omega (arith, p.box.long)

    pub cells_few : slice_index corners (length high) < 2 ^ 47
    cells_few = corner_small (length high) (omega arith)

    module _ (cells : List ℕ) (e : AreCells boxes rows columns wide corners (length boxes)
        cells) where
      -- the cell of a row and a column lies in its box
      in_area : (b y x : ℕ) → b < length high → y < slice_index high b → x < slice_index wide b
          → y * slice_index wide b + x < slice_index k.areas b
      in_area b y x hb hy hx = omega (
        arith,
        k.area b hb,
        cell_below y x (slice_index high b) (slice_index wide b) hy hx,
      )

      cell_of : (i : ℕ) → i < length g.r → slice_index cells i
          ≡ slice_index corners (slice_index boxes i)
          + (slice_index rows i * slice_index wide (slice_index boxes i) + slice_index columns i)
      cell_of i hi = e.cell i (omega (arith, p.box.long))

      in_high : (i : ℕ) → i < length g.r → slice_index boxes i < length high
      in_high i hi = omega (arith, in_box i hi, p.row.size)

      pub cells_long : length cells ≡ length g.r
      cells_long = e.long ∙ p.box.long

      pub cells_within : (i : ℕ) → i < length cells
          → slice_index cells i < slice_index corners (length high)
      cells_within i hi =
          let x : i < length g.r = omega (arith, cells_long) in
          let b = slice_index boxes i in
          let area = in_area b (slice_index rows i) (slice_index columns i) (in_high i x)
          (row_below i x) (column_below i x) in
          let last = before_later k.areas corners k.starts b (length high) (in_high i x)
          (omega (arith, k.long)) in
          omega (arith, cell_of i x, area, last)

      module _ (starts members : List ℕ)
          (l : AreListed cells (slice_index corners (length high)) starts members) where
        abbrev t : Layout
        t = layout high wide corners starts members

        number_below : (b y x : ℕ) → b < length high → y < slice_index high b
            → x < slice_index wide b → cell_number t b y x < slice_index corners (length high)
        number_below b y x hb hy hx = omega (
          arith,
          in_area b y x hb hy hx,
          before_later k.areas corners k.starts b (length high) hb (omega (arith, k.long)),
        )

        ys : (b : ℕ) → b < length high
            → AreNumbered g.r boxes (length g.r) b rows (slice_index high b)
        ys b hb = p.row.group b (omega (arith, p.row.size))

        xs : (b : ℕ) → b < length high
            → AreNumbered g.l boxes (length g.r) b columns (slice_index wide b)
        xs b hb = p.column.group b (omega (arith, p.row.size))

        joined : (i m : ℕ) → i < length g.r → m < length g.r → Share g.j i m
            → slice_index boxes i ≡ slice_index boxes m
        joined = box_same g a tally boxes p.group p.one_group p.box

        -- the rows and columns of a box are where their least elements say
        on_line : (labels numbers : List ℕ) (b size : ℕ)
            → ((i m : ℕ) → i < length g.r → m < length g.r → Share labels i m → Share g.j i m)
            → (h : AreNumbered labels boxes (length g.r) b numbers size) → (i y : ℕ)
            → i < length g.r
            → y < size → ((slice_index boxes i ≡ b) × (slice_index numbers i ≡ y))
            ↔ Share labels i (slice_index h.firsts y)
        on_line labels numbers b size parts h i y hi hy = (to, from)
          where
            f : ℕ
            f = slice_index h.firsts y

            hf : y < length h.firsts
            hf = omega (arith, h.total)

            below : slice_index h.firsts y < length g.r
            below = h.just.within y hf

            own : slice_index labels (slice_index h.firsts y) ≡ slice_index h.firsts y
            own = (h.just.each y hf).0

            there : slice_index boxes (slice_index h.firsts y) ≡ b
            there = (h.just.each y hf).1

            to : (slice_index boxes i ≡ b) × (slice_index numbers i ≡ y)
                → slice_index labels i ≡ slice_index labels (slice_index h.firsts y)
            to (d, e) = sym (h.first i hi d) ∙ (ap (slice_index h.firsts) e ∙ sym own)

            from : slice_index labels i ≡ slice_index labels (slice_index h.firsts y)
                → (slice_index boxes i ≡ b) × (slice_index numbers i ≡ y)
            from s =
                let d : slice_index boxes i ≡ b =
                joined i (slice_index h.firsts y) hi below
                (parts i (slice_index h.firsts y) hi below s)
                ∙ there in (
                  d,
                  just_one (slice_index numbers i) y h.just
                      (omega (arith, h.within i hi d, h.total)) hf
                      (h.first i hi d ∙ (s ∙ own)),
                )

        -- a cell has what its row and its column have in common
        in_cell : (b y x : ℕ) (hb : b < length high) → y < slice_index high b
            → x < slice_index wide b
            → (i : ℕ) → i < length g.r → (slice_index cells i ≡ cell_number t b y x)
            ↔ (Share g.r i (slice_index (ys b hb).firsts y)
            × Share g.l i (slice_index (xs b hb).firsts x))
        in_cell b y x hb hy hx i hi = (to, from)
          where
            row : ((slice_index boxes i ≡ b) × (slice_index rows i ≡ y))
                ↔ Share g.r i (slice_index (ys b hb).firsts y)
            row = on_line g.r rows b (slice_index high b) a.rows (ys b hb) i y hi hy

            column : ((slice_index boxes i ≡ b) × (slice_index columns i ≡ x))
                ↔ Share g.l i (slice_index (xs b hb).firsts x)
            column = on_line g.l columns b (slice_index wide b) a.columns (xs b hb) i x hi hx

            to : slice_index cells i ≡ cell_number t b y x
                → Share g.r i (slice_index (ys b hb).firsts y)
                × Share g.l i (slice_index (xs b hb).firsts x)
            to f =
                let (d, m) = parts_apart k.areas corners k.starts (slice_index boxes i) b
                (slice_index rows i * slice_index wide (slice_index boxes i)
                + slice_index columns i)
                (y * slice_index wide b + x) (omega (arith, in_high i hi, k.long))
                (omega (arith, k.long))
                (in_area (slice_index boxes i) (slice_index rows i) (slice_index columns i)
                (in_high i hi) (row_below i hi) (column_below i hi)) (in_area b y x hb hy hx)
                (sym (cell_of i hi) ∙ f) in
                let at : slice_index rows i * slice_index wide b + slice_index columns i
                ≡ y * slice_index wide b + x =
                ap (λ (z : ℕ). slice_index rows i * slice_index wide z
                + slice_index columns i) (sym d) ∙ m in
                let width : slice_index columns i < slice_index wide b =
                subst (λ (z : ℕ). slice_index columns i < slice_index wide z) d
                (column_below i hi) in
                let (u, v) = cell_one (slice_index rows i) (slice_index columns i) y x
                (slice_index wide b) width hx at in
                (row.0 (d, u), column.0 (d, v))

            from : Share g.r i (slice_index (ys b hb).firsts y)
                × Share g.l i (slice_index (xs b hb).firsts x)
                → slice_index cells i ≡ cell_number t b y x
            from (s, q) =
                let (d, u) = row.1 s in
                let (e, v) = column.1 q in
                cell_of i hi
                ∙ (ap (λ (z : ℕ). slice_index corners z
                + (slice_index rows i * slice_index wide z + slice_index columns i)) d
                ∙ (ap (λ (z : ℕ). slice_index corners b
                + (z * slice_index wide b + slice_index columns i)) u
                ∙ ap (λ (z : ℕ). slice_index corners b + (y * slice_index wide b + z)) v))

        cell_just : (b y x : ℕ) (hb : b < length high) → y < slice_index high b
            → x < slice_index wide b
            → AreJust (length g.r) (λ i. Share g.r i (slice_index (ys b hb).firsts y)
            × Share g.l i (slice_index (xs b hb).firsts x))
            (part starts members (cell_number t b y x))
        cell_just b y x hb hy hx = just_same (length g.r)
            (part starts members (cell_number t b y x))
            (in_cell b y x hb hy hx) (subst (λ (n : ℕ). AreJust n
            (λ i. slice_index cells i ≡ cell_number t b y x)
            (part starts members (cell_number t b y x))) cells_long
            (l.group (cell_number t b y x) (number_below b y x hb hy hx)))

        -- the row and the column meet
        cell_held : (b y x : ℕ) → b < length high → y < slice_index high b → x < slice_index wide b
            → 0 < length (part starts members (cell_number t b y x))
        cell_held b y x hb hy hx =
            let r = ys b hb in
            let c = xs b hb in
            let hr : y < length r.firsts = omega (arith, r.total) in
            let hc : x < length c.firsts = omega (arith, c.total) in
            let fr = r.just.within y hr in
            let fc = c.just.within x hc in
            let (z, hz, u, v) = a.meet (slice_index r.firsts y) (slice_index c.firsts x) fr fc
            (box_shares g a tally boxes p.group p.one_group p.box (slice_index r.firsts y)
            (slice_index c.firsts x) fr fc ((r.just.each y hr).1 ∙ sym (c.just.each x hc).1)) in
            let (m, hm, f) = (cell_just b y x hb hy hx).all z hz (u, v) in
            omega (arith, hm)

        cell_long : (c : ℕ) → c < slice_index corners (length high)
            → length (part starts members c) ≡ slice_index starts (c + 1) - slice_index starts c
        cell_long c hc =
            let dropped = length-drop (slice_index starts c) members in
            length-take-le (slice_index starts (c + 1) - slice_index starts c)
            (drop (slice_index starts c) members)
            (omega (arith, dropped, l.inside c hc, l.rise c hc))

        -- each box has an element: its least
        top_number : (b : ℕ) (hb : b < length high) → (i : ℕ) × (i < length g.r)
            × (slice_index boxes i ≡ b)
        top_number b hb =
            let h : b < length top_box.firsts = omega (arith, top_box.total, p.row.size) in
            let i = slice_index top_box.firsts b in
            let hi = top_box.just.within b h in
            let own = (top_box.just.each b h).0 in (
              i,
              hi,
              just_one (slice_index boxes i) b top_box.just (omega (
                arith,
                top_box.within i hi
                    (p.one_group i hi),
                top_box.total,
              )) h (top_box.first i hi (p.one_group i hi) ∙ own),
            )

        some_row : (b : ℕ) → b < length high → 1 ≤ slice_index high b
        some_row b hb = let (i, hi, d) = top_number b hb in
            omega (arith, (ys b hb).within i hi d)

        some_column : (b : ℕ) → b < length high → 1 ≤ slice_index wide b
        some_column b hb = let (i, hi, d) = top_number b hb in
            omega (arith, (xs b hb).within i hi d)

        pub laid_out : IsLayout (layout high wide corners starts members)
        laid_out = record {
          few = few_boxes;
          room = omega (arith, l.long, cells_few);
          filed = as_wide;
          cornered = omega (arith, k.starts.long, k.long);
          high = λ b hb. (some_row b hb, high_small b hb);
          wide = λ b hb. (some_column b hb, wide_small b hb);
          box = λ b hb. omega (
            arith,
            l.long,
            k.area b hb,
            before_later k.areas corners k.starts b
                (length high) hb (omega (arith, k.long)),
          );
          some = λ b y x hb hy hx. omega (
            arith,
            cell_held b y x hb hy hx,
            cell_long (cell_number t b y x) (number_below b y x hb hy hx),
          );
          inside = λ c hc. l.inside c (omega (arith, l.long));
        }

        abbrev v : List (List (List (List ℕ)))
        v = laid_boxes (layout high wide corners starts members)

        many : length high ≡ length v
        many = len_is t laid_out v refl

        box_of : (b : ℕ) (h : b < length top_box.firsts)
            → IsBox (length g.r) (Share g.r) (Share g.l) (Share g.j)
            (slice_index top_box.firsts b) (box_at v b)
        box_of b h = record {
          rows = (ys b hb).firsts;
          columns = (xs b hb).firsts;
          firsts_of_rows = just_same (length g.r) (ys b hb).firsts
              (λ i hi. on_top g.r a.r i hi) (ys b hb).just;
          firsts_of_columns = just_same (length g.r) (xs b hb).firsts
              (λ i hi. on_top g.l a.l i hi) (xs b hb).just;
          height = sym (rows_is t laid_out v refl b hv) ∙ sym (ys b hb).total;
          width = λ y hy. sym (columns_is t laid_out v refl b y hv (row_in y hy))
              ∙ sym (xs b hb).total;
          cell = λ y x hy hx. subst (AreJust (length g.r) (λ i.
              Share g.r i (slice_index (ys b hb).firsts y)
              × Share g.l i (slice_index (xs b hb).firsts x)))
              (cell_is t laid_out v refl b y x hv (row_in y hy) (column_in y x hy hx))
              (cell_just b y x hb (row_high y hy) (column_wide x hx));
          some = λ y x hy hx. subst (λ (ms : List ℕ). 0 < length ms)
              (cell_is t laid_out v refl b y x hv (row_in y hy) (column_in y x hy hx))
              (cell_held b y x hb (row_high y hy) (column_wide x hx));
        }
          where
            hb : b < length high
            hb = omega (arith, top_box.total, p.row.size)

            hv : b < length v
            hv = omega (arith, many, hb)

            row_high : (y : ℕ) → y < length (ys b hb).firsts → y < slice_index high b
            row_high y hy = omega (arith, (ys b hb).total)

            column_wide : (x : ℕ) → x < length (xs b hb).firsts → x < slice_index wide b
            column_wide x hx = omega (arith, (xs b hb).total)

            row_in : (y : ℕ) → y < length (ys b hb).firsts → y < length (box_at v b)
            row_in y hy = omega (arith, row_high y hy, rows_is t laid_out v refl b hv)

            column_in : (y x : ℕ) → y < length (ys b hb).firsts → x < length (xs b hb).firsts
                → x < length (row_at (box_at v b) y)
            column_in y x hy hx = omega (
              arith,
              column_wide x hx,
              columns_is t laid_out v refl b y hv (row_in y hy),
            )

            own : slice_index g.j (slice_index top_box.firsts b) ≡ slice_index top_box.firsts b
            own = (top_box.just.each b h).0

            on_top : (labels : List ℕ) → NameFirsts (length g.r) labels → (i : ℕ) → i < length g.r
                → ((slice_index labels i ≡ i) × (slice_index boxes i ≡ b))
                ↔ (IsFirst (length g.r) (Share labels) i
                × Share g.j i (slice_index top_box.firsts b))
            on_top labels names i hi = (
              λ q. (
                (first_names (length g.r) labels names i hi).1 q.0,
                sym (top_box.first i hi (p.one_group i hi))
                    ∙ (ap (slice_index top_box.firsts) q.1 ∙ sym own),
              ),
              λ q. (
                (first_names (length g.r) labels names i hi).0 q.0,
                just_one (slice_index boxes i) b top_box.just
                    (omega (arith, top_box.within i hi (p.one_group i hi), top_box.total)) h
                    (top_box.first i hi (p.one_group i hi) ∙ (q.1 ∙ own)),
              ),
            )

        pub are_boxes : AreBoxesOf g (laid_boxes (layout high wide corners starts members))
        are_boxes = record {
          tops = top_box.firsts;
          firsts = just_same (length g.r) top_box.firsts
              (λ i hi. (
                λ q. (first_names (length g.r) g.j a.j i hi).1 q.0,
                λ f. ((first_names (length g.r) g.j a.j i hi).0 f, p.one_group i hi),
              )) top_box.just;
          count = omega (arith, many, p.row.size, top_box.total);
          box = box_of;
        }
