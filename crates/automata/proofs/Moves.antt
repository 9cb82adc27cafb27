-- Empty moves by their rows of marks.
use Rattle.std.proofs.Common.{◌≡◌, ◌≢◌, ℕ, ◌<◌, ◌⊎◌, inl, inr, Bool, true, false, ◌||◌, ◌==◌, List, [], ◌∷◌, length, get_or, set, replicate, refl, sym, ap, subst, ◌∙◌, arith}
use Rattle.std.specs.Prelude.{All}
use Rattle.std.specs.List.{list_any}
use Rattle.std.specs.Cmp.{both_ways as both_directions}
use Rattle.std.proofs.Math.Bool.{or-false}
use Rattle.std.proofs.lemmas.Bool.{cases_lt, both_ways, or_right, and_from, eq-eqb, ne_eqb, eqb-true}
use Rattle.std.proofs.lemmas.Grind.{get_or-set_at}
use Rattle.std.proofs.lemmas.List.{length-set, length-replicate, get_or-set_other, get_or-replicate, get_or_past, get_or_read}
use Rattle.std.proofs.lemmas.List.Elements.{All-set, All-replicate}
use Rattle.language_theory.proofs.Numbers.{equal_or_not}
use Rattle.language_theory.specs.Automaton.{Automaton, is_marked, is_move, has_move, moves_where}
use Rattle.language_theory.proofs.StepLists.{listed_moves, same_moves, has_moves}
use Rattle.number_set.specs.Marks.{HasGained}
use Rattle.automata.specs.Nfa.{AreMoves, HasMove, AreNear, in_moves, of_rows, with_move}
use Rattle.automata.proofs.Steps.{no_moves_where}
use Rattle.automata.proofs.Rows.{bare_row, marked_within}

-- whether there are rows is told by their number
pub none_by_test : (n : ℕ) (moves : List (List Bool)) (b : Bool) → n ≡ length moves → b ≡ true
    → b ≡ (n == 0) → length moves ≡ 0
none_by_test n moves b long t e = sym long ∙ eqb-true n 0 (sym e ∙ t)

pub some_by_test : (n : ℕ) (moves : List (List Bool)) (b : Bool) → n ≡ length moves → b ≡ false
    → b ≡ (n == 0) → (length moves ≢ 0)
some_by_test n moves b long t e none = both_ways (n == 0) (sym e ∙ t) (eq-eqb n 0 (long ∙ none))

-- no rows are none
pub no_rows_left : (moves : List (List Bool)) → length moves ≡ 0 → moves ≡ []
no_rows_left [] h = refl
no_rows_left (row ∷ moves) h = absurd (omega (arith, h))

-- ---- one move more

-- a row that gains a state gains that move
move_gained : (n : ℕ) (moves : List (List Bool)) (p q : ℕ) (row : List Bool) → length moves ≡ n
    → p < n → HasGained (get_or moves p []) row n (λ (y : ℕ). q == y) → (x y : ℕ)
    → in_moves (set moves p row) x y ≡ (in_moves moves x y || is_move x y (p, q))
move_gained n moves p q row long hp gained x y = by (equal_or_not x p)
  where
    here : x ≡ p → is_move x y (p, q) ≡ (q == y)
    here e = rw (e, eq-eqb p p refl) refl

    there : (x ≢ p) → is_move x y (p, q) ≡ false
    there ne = rw (ne_eqb p x (λ e. ne (sym e))) refl

    by : (x ≡ p) ⊎ (x ≢ p)
        → in_moves (set moves p row) x y ≡ (in_moves moves x y || is_move x y (p, q))
    by (inl e) =
        ap (λ (marks : List Bool). is_marked marks y) (get_or-set_at moves p x row [] e (rw long hp))
        ∙ gained.each y
        ∙ ap (λ (i : ℕ). is_marked (get_or moves i []) y || (q == y)) (sym e)
        ∙ ap (λ (c : Bool). in_moves moves x y || c) (sym (here e))
    by (inr ne) =
        ap (λ (marks : List Bool). is_marked marks y) (get_or-set_other moves p x row [] ne)
        ∙ sym (ap (λ (c : Bool). in_moves moves x y || c) (there ne) ∙ or-false (in_moves moves x y))

-- rows for each state, one of which gains a state
one_more : (n : ℕ) (moves : List (List Bool)) (p q : ℕ) (row : List Bool) → length moves ≡ n
    → All (λ (marks : List Bool). (length marks ≡ 0) ⊎ (length marks ≡ n)) moves → p < n
    → HasGained (get_or moves p []) row n (λ (y : ℕ). q == y) → HasMove n moves (set moves p row) p q
one_more n moves p q row long each hp gained = record {
  moves = inr (record {
    long = length-set moves p row ∙ long;
    row = All-set (λ (marks : List Bool). (length marks ≡ 0) ⊎ (length marks ≡ n)) moves p row
        (inr gained.long) each;
    some = (
      p,
      q,
      move_gained n moves p q row long hp gained p q
          ∙ or_right (in_moves moves p q) (is_move p q (p, q))
          (and_from (p == p) (q == q) (eq-eqb p p refl) (eq-eqb q q refl)),
    );
  });
  each = move_gained n moves p q row long hp gained;
}

-- the first move of all
pub first_move : (n : ℕ) (moves rows : List (List Bool)) (p q : ℕ) (old row : List Bool)
    → length moves ≡ 0 → rows ≡ replicate n [] → p < n → old ≡ get_or rows p []
    → HasGained old row n (λ (y : ℕ). q == y) → HasMove n moves (set rows p row) p q
first_move n moves rows p q old row none e hp read gained = record { moves = more.moves; each = each }
  where
    bare : List (List Bool)
    bare = replicate n []

    at : old ≡ get_or bare p []
    at = read ∙ ap (λ (xs : List (List Bool)). get_or xs p []) e

    of_bare : HasMove n bare (set bare p row) p q
    of_bare = one_more n bare p q row (length-replicate {A = List Bool} n [])
        (All-replicate (λ (marks : List Bool). (length marks ≡ 0) ⊎ (length marks ≡ n)) n [] (inl refl)) hp
        (subst (λ (marks : List Bool). HasGained marks row n (λ (y : ℕ). q == y)) at gained)

    more : HasMove n bare (set rows p row) p q
    more = subst (λ (xs : List (List Bool)). HasMove n bare (set xs p row) p q) (sym e) of_bare

    each : (x y : ℕ) → in_moves (set rows p row) x y ≡ (in_moves moves x y || is_move x y (p, q))
    each x y = more.each x y
        ∙ ap (λ (b : Bool). b || is_move x y (p, q))
        (bare_row n x y ∙ sym (ap (λ (xs : List (List Bool)). in_moves xs x y) (no_rows_left moves none)))

-- one move more than some
pub next_move : (n : ℕ) (moves : List (List Bool)) (p q : ℕ) (old row : List Bool)
    → (length moves ≢ 0) → AreMoves n moves → p < n → old ≡ get_or moves p []
    → HasGained old row n (λ (y : ℕ). q == y) → HasMove n moves (set moves p row) p q
next_move n moves p q old row some are hp read gained = by are
  where
    by : AreMoves n moves → HasMove n moves (set moves p row) p q
    by (inl e) = absurd (some (ap (λ (xs : List (List Bool)). length xs) e))
    by (inr h) = one_more n moves p q row h.long h.row hp
        (subst (λ (marks : List Bool). HasGained marks row n (λ (y : ℕ). q == y)) read gained)

-- a row that is there has no place or one for each state
pub move_row : (n : ℕ) (moves : List (List Bool)) (p : ℕ) → AreMoves n moves → p < length moves
    → (length (get_or moves p []) ≡ 0) ⊎ (length (get_or moves p []) ≡ n)
move_row n moves p (inl e) hp = absurd (omega (arith, ap (λ (xs : List (List Bool)). length xs) e))
move_row n moves p (inr h) hp = h.row p [] hp

-- where there are rows, there is one for each state
pub rows_of_moves : (n : ℕ) (moves : List (List Bool)) → AreMoves n moves → (length moves ≢ 0)
    → length moves ≡ n
rows_of_moves n moves (inl e) some = absurd (some (ap (λ (xs : List (List Bool)). length xs) e))
rows_of_moves n moves (inr h) some = h.long

-- ---- the automaton of the rows

module _ (k : ℕ) (initial finals : List Bool) (rows moves : List (List Bool)) where
  -- a mark is that of a state
  pub marked_state : (p q : ℕ) → AreMoves (length initial) moves → in_moves moves p q ≡ true
      → (p < length initial) × (q < length initial)
  marked_state p q (inl e) t = absurd (both_ways (in_moves moves p q)
      (ap (λ (xs : List (List Bool)). in_moves xs p q) e) t)
  marked_state p q (inr h) t = elim (cases_lt p (length moves)) [
    | inl hp ↦ (omega (arith, h.long), by hp (h.row p [] hp))
    | inr past ↦ absurd (both_ways (in_moves moves p q)
        (ap (λ (marks : List Bool). is_marked marks q) (get_or_past moves p [] past)) t)
  ]
    where
      by : p < length moves → (length (get_or moves p []) ≡ 0) ⊎ (length (get_or moves p []) ≡ length initial)
          → q < length initial
      by hp (inl e) = absurd (omega (arith, e, marked_within (get_or moves p []) q t))
      by hp (inr e) = omega (arith, e, marked_within (get_or moves p []) q t)

  -- whether it has an empty move is told by the rows
  pub move_marked : AreMoves (length initial) moves → (p q : ℕ)
      → has_move (of_rows k initial finals rows moves) p q ≡ in_moves moves p q
  move_marked are p q = both_directions (has_move (of_rows k initial finals rows moves) p q)
      (in_moves moves p q)
      (λ h. ((listed_moves (length initial) (in_moves moves) p q).0 h).2)
      (λ t. let (hp, hq) = marked_state p q are t in
      (listed_moves (length initial) (in_moves moves) p q).1 (hp, hq, t))

  -- it has the empty moves of the new rows
  pub moves_gained : (others : List (List Bool)) (p q : ℕ) → HasMove (length initial) moves others p q
      → of_rows k initial finals rows others ≡ with_move (of_rows k initial finals rows moves) p q
  moves_gained others p q h =
      ap (λ (xs : List (ℕ × ℕ)). record (of_rows k initial finals rows moves) { moves = xs })
      (same_moves (length initial) (in_moves others) _ (λ x y hx hy.
      h.each x y ∙ ap (λ (b : Bool). b || is_move x y (p, q)) (sym (has_moves (length initial) (in_moves moves) x y hx hy))))

  -- without rows it has no empty move
  pub without_rows : length moves ≡ 0 → moves_where (length initial) (in_moves moves) ≡ []
  without_rows none = no_moves_where (length initial) (in_moves moves)
      (λ p q. ap (λ (xs : List (List Bool)). in_moves xs p q) (no_rows_left moves none))

  -- and else it has one
  pub with_rows : AreMoves (length initial) moves → (length moves ≢ 0)
      → (moves_where (length initial) (in_moves moves) ≢ [])
  with_rows are some e = by are
    where
      by : AreMoves (length initial) moves → ⊥
      by (inl none) = some (ap (λ (xs : List (List Bool)). length xs) none)
      by (inr h) =
          let (p, q, t) = h.some in
          let (hp, hq) = marked_state p q are t in
          let found = (listed_moves (length initial) (in_moves moves) p q).1 (hp, hq, t) in
          both_ways _ (ap (λ (xs : List (ℕ × ℕ)). list_any (is_move p q) xs) e) found

-- ---- the same of an automaton that is known by its rows

module _ (m : Automaton) (k : ℕ) (initial finals : List Bool) (rows moves : List (List Bool))
    (view : of_rows k initial finals rows moves ≡ m) where
  pub no_moves_kept : length moves ≡ 0 → m.moves ≡ []
  no_moves_kept none = subst (λ (n : Automaton). n.moves ≡ []) view
      (without_rows k initial finals rows moves none)

  pub some_moves_kept : AreMoves (length initial) moves → (length moves ≢ 0) → (m.moves ≢ [])
  some_moves_kept are some = subst (λ (n : Automaton). n.moves ≢ []) view
      (with_rows k initial finals rows moves are some)

  pub move_kept : AreMoves (length initial) moves → (p q : ℕ) → has_move m p q ≡ in_moves moves p q
  move_kept are p q = subst (λ (n : Automaton). has_move n p q ≡ in_moves moves p q) view
      (move_marked k initial finals rows moves are p q)

  -- without rows it has no empty move
  pub no_move_kept : AreMoves (length initial) moves → length moves ≡ 0 → (p q : ℕ)
      → has_move m p q ≡ false
  no_move_kept are none p q = move_kept are p q
      ∙ ap (λ (xs : List (List Bool)). in_moves xs p q) (no_rows_left moves none)

  -- and else there is a row for each state
  pub move_row_within : AreMoves (length initial) moves → (length moves ≢ 0) → (p : ℕ) → p < m.states
      → p < length moves
  move_row_within are some p hp =
      let states : length initial ≡ m.states = ap (λ (n : Automaton). n.states) view in
      omega (arith, rows_of_moves (length initial) moves are some)

  pub move_row_read : AreMoves (length initial) moves → (length moves ≢ 0) → (p : ℕ) → p < m.states
      → (row : List Bool) → row ≡ get_or moves p row → row ≡ get_or moves p []
  move_row_read are some p hp row read =
      get_or_read moves p row (move_row_within are some p hp) read []

  pub move_added : (others : List (List Bool)) (n p q : ℕ) → n ≡ m.states → HasMove n moves others p q
      → of_rows k initial finals rows others ≡ with_move m p q
  move_added others n p q e h =
      let states : n ≡ length initial = e ∙ sym (ap (λ (n : Automaton). n.states) view) in
      moves_gained k initial finals rows moves others p q
      (subst (λ (size : ℕ). HasMove size moves others p q) states h)
      ∙ ap (λ (n : Automaton). with_move n p q) view

  -- ---- a state and those to which empty moves lead from it

  one_state : (p : ℕ) → p < m.states → (q : ℕ)
      → is_marked (set (replicate m.states false) p true) q ≡ (p == q)
  one_state p hp q = elim (equal_or_not q p) [
    | inl e ↦ get_or-set_at (replicate m.states false) p q true false e
        (rw (length-replicate {A = Bool} m.states false) hp) ∙ sym (eq-eqb p q (sym e))
    | inr ne ↦ get_or-set_other (replicate m.states false) p q true false ne
        ∙ get_or-replicate_same m.states q ∙ sym (ne_eqb p q (λ e. ne (sym e)))
  ]
    where
      get_or-replicate_same : (n q : ℕ) → get_or (replicate n false) q false ≡ false
      get_or-replicate_same n q = elim (cases_lt q n) [
        | inl l ↦ get_or-replicate n q false false l
        | inr g ↦ get_or_past (replicate n false) q false
            (omega (arith, length-replicate {A = Bool} n false))
      ]

  one_state_long : (p : ℕ) → length (set (replicate m.states false) p true) ≡ m.states
  one_state_long p = length-set (replicate m.states false) p true
      ∙ length-replicate {A = Bool} m.states false

  pub near_alone : AreMoves (length initial) moves → length moves ≡ 0 → (p : ℕ) → p < m.states
      → (base : List Bool) → base ≡ set (replicate m.states false) p true → AreNear m p base
  near_alone are none p hp base e = subst (AreNear m p) (sym e) (record {
    long = one_state_long p;
    each = λ q. one_state p hp q
        ∙ sym (ap (λ (b : Bool). (p == q) || b) (no_move_kept are none p q) ∙ or-false (p == q));
  })

  pub near_more : AreMoves (length initial) moves → (p : ℕ) → p < m.states
      → (base row near : List Bool) → base ≡ set (replicate m.states false) p true
      → row ≡ get_or moves p [] → HasGained base near (length base) (is_marked row)
      → AreNear m p near
  near_more are p hp base row near e read h = record {
    long = h.long ∙ ap (λ (marks : List Bool). length marks) e ∙ one_state_long p;
    each = λ q. h.each q
        ∙ ap (λ (b : Bool). b || is_marked row q)
        (ap (λ (marks : List Bool). is_marked marks q) e ∙ one_state p hp q)
        ∙ ap (λ (b : Bool). (p == q) || b)
        (ap (λ (marks : List Bool). is_marked marks q) read ∙ sym (move_kept are p q));
  }
