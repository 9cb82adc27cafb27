-- Automata by their rows of marks.
use Rattle.std.proofs.Common.{◌≡◌, ◌≢◌, ℕ, ◌+◌, ◌*◌, ◌<◌, ◌≤◌, ◌⊎◌, inl, inr, Bool, true, false, ◌||◌, ◌==◌, List, [], length, get_or, set, replicate, refl, sym, ap, subst, ◌∙◌, arith}
use Rattle.std.specs.Prelude.{All}
use Rattle.std.specs.Cmp.{both_ways as both_directions}
use Rattle.std.proofs.Math.Bool.{or-false}
use Rattle.std.proofs.lemmas.Bool.{cases_lt, both_ways, eq-eqb, ne_eqb, and_right}
use Rattle.std.proofs.lemmas.Nat.{same_from_place}
use Rattle.std.proofs.lemmas.Grind.{get_or-set_at}
use Rattle.std.proofs.lemmas.List.{length-set, length-replicate, get_or-set_other, get_or-replicate, get_or_past}
use Rattle.std.proofs.lemmas.List.Elements.{All-set, All-replicate}
use Rattle.language_theory.proofs.Graphs.{row_place}
use Rattle.language_theory.proofs.Numbers.{equal_or_not, true_or_not}
use Rattle.language_theory.specs.Automaton.{Automaton, IsAutomaton, IsInOrder, is_marked, has_step, steps_where, moves_where}
use Rattle.language_theory.proofs.StepLists.{listed_where, has_where, same_where, all_where, all_moves, in_order_where}
use Rattle.number_set.specs.Marks.{HasGained}
use Rattle.automata.specs.Nfa.{most_states, IsSized, IsRow, AreRows, AreMoves, in_rows, in_moves, of_rows, bare}
use Rattle.syn_words.specs.Alphabet.{most_letters}
use Rattle.automata.proofs.Steps.{step_within, leads, with_steps, none_where, no_moves_where}

-- rows without a place have no marks
pub bare_row : (count i q : ℕ) → is_marked (get_or (replicate count []) i []) q ≡ false
bare_row count i q = elim (cases_lt i count) [
  | inl l ↦ ap (λ (row : List Bool). is_marked row q) (get_or-replicate count i [] [] l)
  | inr g ↦ ap (λ (row : List Bool). is_marked row q)
      (get_or_past (replicate count []) i [] (omega (arith, length-replicate {A = List Bool} count [])))
]

pub unmarked_past : (marks : List Bool) (q : ℕ) → length marks ≤ q → is_marked marks q ≡ false
unmarked_past marks q h = get_or_past marks q false h

pub marked_within : (marks : List Bool) (q : ℕ) → is_marked marks q ≡ true → q < length marks
marked_within marks q h = elim (cases_lt q (length marks)) [
  | inl l ↦ l
  | inr g ↦ absurd (both_ways (is_marked marks q) (unmarked_past marks q g) h)
]

-- an automaton by rows is one
pub rows_automaton : (k : ℕ) (initial finals : List Bool) (rows moves : List (List Bool))
    → length finals ≡ length initial → IsAutomaton (of_rows k initial finals rows moves)
rows_automaton k initial finals rows moves e = record {
  initial = refl;
  finals = e;
  from = all_where (λ s. s.0 < length initial) (length initial) k (in_rows k rows)
      (λ p a q hp ha hq. hp);
  letter = all_where (λ s. s.1 < k) (length initial) k (in_rows k rows) (λ p a q hp ha hq. ha);
  to = all_where (λ s. s.2 < length initial) (length initial) k (in_rows k rows)
      (λ p a q hp ha hq. hq);
  moves_from = all_moves (λ s. s.0 < length initial) (length initial) (in_moves moves)
      (λ p q hp hq. hp);
  moves_to = all_moves (λ s. s.1 < length initial) (length initial) (in_moves moves)
      (λ p q hp hq. hq);
}

-- its sizes are those of its rows of marks
pub rows_sized : (k : ℕ) (initial finals : List Bool) (rows moves : List (List Bool))
    → length finals ≡ length initial → 1 ≤ length initial → length initial ≤ most_states → 1 ≤ k
    → k ≤ most_letters → IsSized (of_rows k initial finals rows moves)
rows_sized k initial finals rows moves e some few letter letters = record {
  automaton = rows_automaton k initial finals rows moves e;
  some_states = some;
  few_states = few;
  some_letters = letter;
  few_letters = letters;
}

-- its steps and empty moves stand in order
pub rows_ordered : (k : ℕ) (initial finals : List Bool) (rows moves : List (List Bool))
    → IsInOrder (of_rows k initial finals rows moves)
rows_ordered k initial finals rows moves =
    in_order_where (of_rows k initial finals rows moves) (in_rows k rows) (in_moves moves) refl
    refl

-- rows without a place are those of the automaton without steps
pub rows_bare : (n k count : ℕ)
    → of_rows k (replicate n false) (replicate n false) (replicate count []) [] ≡ bare n k
rows_bare n k count =
    ap (λ (m : ℕ). let made : Automaton = record {
      states = m;
      letters = k;
      initial = replicate n false;
      finals = replicate n false;
      steps = steps_where m k (in_rows k (replicate count []));
      moves = moves_where m (in_moves []);
    } in made) (length-replicate {A = Bool} n false)
    ∙ ap (λ (steps : List (ℕ × ℕ × ℕ)). record (bare n k) {
      steps = steps;
      moves = moves_where n (in_moves []);
    })
    (none_where n k (in_rows k (replicate count [])) (λ p a q. bare_row count (p * k + a) q))
    ∙ ap (λ (moves : List (ℕ × ℕ)). record (bare n k) { moves = moves })
    (no_moves_where n (in_moves []) (λ p q. refl))

-- what the rows of an automaton without steps are
pub record AreBare (n k : ℕ) (initial finals : List Bool) (rows moves : List (List Bool)) : Type 0 where
  pub sized : IsSized (of_rows k initial finals rows moves)
  pub are_rows : AreRows (length initial) k rows
  pub are_moves : AreMoves (length initial) moves
  pub same : of_rows k initial finals rows moves ≡ bare n k

pub rows_made : (n k : ℕ) (initial finals : List Bool) (rows moves : List (List Bool))
    → initial ≡ replicate n false → finals ≡ replicate n false → rows ≡ replicate (n * k) [] → moves ≡ []
    → 1 ≤ n → n ≤ most_states → 1 ≤ k → k ≤ most_letters → AreBare n k initial finals rows moves
rows_made n k initial finals rows moves e f r g some few letter letters =
    let long : length initial ≡ n = ap (λ (row : List Bool). length row) e
    ∙ length-replicate {A = Bool} n false in record {
      sized = rows_sized k initial finals rows moves (ap (λ (row : List Bool). length row) (f ∙ sym e))
          (omega (arith, long)) (omega (arith, long)) letter letters;
      are_rows = record {
        long = ap (λ (marks : List (List Bool)). length marks) r
            ∙ length-replicate {A = List Bool} (n * k) []
            ∙ ap (λ (m : ℕ). m * k) (sym long);
        row = subst (All (λ (marks : List Bool). (length marks ≡ 0) ⊎ (length marks ≡ length initial)))
            (sym r)
            (All-replicate (λ (marks : List Bool). (length marks ≡ 0) ⊎ (length marks ≡ length initial))
            (n * k) [] (inl refl));
      };
      are_moves = inl g;
      same = rw (e, f, r, g) (rows_bare n k (n * k));
    }

-- a row has the marks of the steps from its state by its letter
pub row_of : (k : ℕ) (initial finals : List Bool) (rows moves : List (List Bool)) (p a : ℕ)
    → AreRows (length initial) k rows → p < length initial → a < k
    → IsRow (of_rows k initial finals rows moves) p a (get_or rows (p * k + a) [])
row_of k initial finals rows moves p a h hp ha = record { long = short; each = each }
  where
    row : List Bool
    row = get_or rows (p * k + a) []

    of_length : (length row ≡ 0) ⊎ (length row ≡ length initial) → length row ≤ length initial
    of_length (inl e) = omega (arith, e)
    of_length (inr e) = omega (arith, e)

    short : length row ≤ length initial
    short = of_length (h.row (p * k + a) []
        (rw h.long (row_place p a (length initial) k hp ha)))

    each : (q : ℕ) → is_marked row q ≡ has_step (of_rows k initial finals rows moves) p a q
    each q = both_directions (is_marked row q) (has_step (of_rows k initial finals rows moves) p a q)
        (λ t. (listed_where (length initial) k (in_rows k rows) p a q).1 (hp, ha, inside t, t))
        (λ t. ((listed_where (length initial) k (in_rows k rows) p a q).0 t).3)
      where
        inside : is_marked row q ≡ true → q < length initial
        inside t = omega (arith, short, marked_within row q t)

-- ---- a row that gains marks

-- the other rows stay
pub rows_gained : (n k : ℕ) (rows : List (List Bool)) (p a : ℕ) (row : List Bool) (g : ℕ → Bool)
    → AreRows n k rows → p < n → a < k → HasGained (get_or rows (p * k + a) []) row n g
    → AreRows n k (set rows (p * k + a) row)
rows_gained n k rows p a row g h hp ha gained = record {
  long = length-set rows (p * k + a) row ∙ h.long;
  row = All-set (λ (marks : List Bool). (length marks ≡ 0) ⊎ (length marks ≡ n)) rows (p * k + a) row
      (inr gained.long) h.row;
}

marks_gained : (n k : ℕ) (rows : List (List Bool)) (p a : ℕ) (row : List Bool) (g : ℕ → Bool)
    → AreRows n k rows → p < n → a < k → HasGained (get_or rows (p * k + a) []) row n g
    → (x b y : ℕ) → b < k
    → in_rows k (set rows (p * k + a) row) x b y ≡ (in_rows k rows x b y || leads p a g x b y)
marks_gained n k rows p a row g h hp ha gained x b y hb =
    by (equal_or_not (x * k + b) (p * k + a))
  where
    within : p * k + a < length rows
    within = rw h.long (row_place p a n k hp ha)

    here : (x ≡ p) × (b ≡ a) → leads p a g x b y ≡ g y
    here (e, f) = rw (e, f, eq-eqb p p refl, eq-eqb a a refl) refl

    there : (x * k + b ≢ p * k + a) → leads p a g x b y ≡ false
    there ne = elim (equal_or_not p x) [
      | inl e ↦ elim (equal_or_not a b) [
        | inl f ↦ absurd (ne (rw (e, f) refl))
        | inr n ↦ rw (ne_eqb a b n) (and_right (p == x) false refl)
      ]
      | inr n ↦ rw (ne_eqb p x n) refl
    ]

    by : (x * k + b ≡ p * k + a) ⊎ (x * k + b ≢ p * k + a)
        → in_rows k (set rows (p * k + a) row) x b y ≡ (in_rows k rows x b y || leads p a g x b y)
    by (inl e) =
        let same = same_from_place x b p a k hb ha e in
        ap (λ (marks : List Bool). is_marked marks y)
        (get_or-set_at rows (p * k + a) (x * k + b) row [] e within)
        ∙ gained.each y
        ∙ ap (λ (i : ℕ). is_marked (get_or rows i []) y || g y) (sym e)
        ∙ ap (λ (c : Bool). in_rows k rows x b y || c) (sym (here same))
    by (inr ne) =
        ap (λ (marks : List Bool). is_marked marks y)
        (get_or-set_other rows (p * k + a) (x * k + b) row [] ne)
        ∙ sym (ap (λ (c : Bool). in_rows k rows x b y || c) (there ne)
        ∙ or-false (in_rows k rows x b y))

-- the automaton has the steps of the new marks too
pub steps_gained : (k : ℕ) (initial finals : List Bool) (rows moves : List (List Bool)) (p a : ℕ)
    (row : List Bool) (g : ℕ → Bool) → AreRows (length initial) k rows → p < length initial → a < k
    → HasGained (get_or rows (p * k + a) []) row (length initial) g
    → of_rows k initial finals (set rows (p * k + a) row) moves
    ≡ with_steps (of_rows k initial finals rows moves) p a g
steps_gained k initial finals rows moves p a row g h hp ha gained =
    ap (λ (steps : List (ℕ × ℕ × ℕ)). record (of_rows k initial finals rows moves) { steps = steps })
    (same_where (length initial) k (in_rows k (set rows (p * k + a) row)) _
    (λ x b y hx hb hy.
    marks_gained (length initial) k rows p a row g h hp ha gained x b y hb
    ∙ ap (λ (c : Bool). c || leads p a g x b y)
    (sym (has_where (length initial) k (in_rows k rows) x b y hx hb hy))))

-- ---- the same of an automaton that is known by its rows

-- a row that is read
pub row_read : (m : Automaton) (k : ℕ) (initial finals : List Bool) (rows moves : List (List Bool))
    (p a : ℕ) (marks : List Bool) → of_rows k initial finals rows moves ≡ m
    → AreRows (length initial) k rows → p < m.states → a < m.letters
    → marks ≡ get_or rows (p * m.letters + a) [] → IsRow m p a marks
row_read m k initial finals rows moves p a marks e h = subst (λ (n : Automaton). p < n.states
    → a < n.letters → marks ≡ get_or rows (p * n.letters + a) [] → IsRow n p a marks) e
    (λ hp ha r. subst (IsRow (of_rows k initial finals rows moves) p a) (sym r)
    (row_of k initial finals rows moves p a h hp ha))

-- the row of a state and a letter has no place or one for each state
pub row_places : (m : Automaton) (k : ℕ) (initial finals : List Bool) (rows moves : List (List Bool))
    (p a : ℕ) (marks : List Bool) → of_rows k initial finals rows moves ≡ m
    → AreRows (length initial) k rows → p < m.states → a < m.letters
    → marks ≡ get_or rows (p * m.letters + a) [] → (length marks ≡ 0) ⊎ (length marks ≡ m.states)
row_places m k initial finals rows moves p a marks e h = subst (λ (n : Automaton). p < n.states
    → a < n.letters → marks ≡ get_or rows (p * n.letters + a) []
    → (length marks ≡ 0) ⊎ (length marks ≡ n.states)) e
    (λ hp ha r. subst (λ (row : List Bool). (length row ≡ 0) ⊎ (length row ≡ length initial)) (sym r)
    (h.row (p * k + a) [] (rw h.long (row_place p a (length initial) k hp ha))))

-- the row of a state and a letter is there
pub row_within : (m : Automaton) (k : ℕ) (initial finals : List Bool) (rows moves : List (List Bool))
    (p a : ℕ) → of_rows k initial finals rows moves ≡ m → AreRows (length initial) k rows
    → p < m.states → a < m.letters → p * m.letters + a < length rows
row_within m k initial finals rows moves p a e h = subst (λ (n : Automaton). p < n.states
    → a < n.letters → p * n.letters + a < length rows) e
    (λ hp ha. rw h.long (row_place p a (length initial) k hp ha))

-- the steps after a row has gained marks
pub record HasSteps (m : Automaton) (k : ℕ) (initial finals : List Bool) (rows moves : List (List Bool))
    (p a : ℕ) (g : ℕ → Bool) : Type 0 where
  pub are_rows : AreRows (length initial) k rows
  pub same : of_rows k initial finals rows moves ≡ with_steps m p a g

pub row_changed : (m : Automaton) (k : ℕ) (initial finals : List Bool) (rows moves : List (List Bool))
    (p a : ℕ) (old new : List Bool) (g : ℕ → Bool) → of_rows k initial finals rows moves ≡ m
    → AreRows (length initial) k rows → p < m.states → a < m.letters
    → old ≡ get_or rows (p * m.letters + a) [] → HasGained old new m.states g
    → HasSteps m k initial finals (set rows (p * m.letters + a) new) moves p a g
row_changed m k initial finals rows moves p a old new g e h = subst (λ (n : Automaton). p < n.states
    → a < n.letters → old ≡ get_or rows (p * n.letters + a) [] → HasGained old new n.states g
    → HasSteps n k initial finals (set rows (p * n.letters + a) new) moves p a g) e
    (λ hp ha r gained.
    let at : HasGained (get_or rows (p * k + a) []) new (length initial) g =
    subst (λ (row : List Bool). HasGained row new (length initial) g) r gained in record {
      are_rows = rows_gained (length initial) k rows p a new g h hp ha at;
      same = steps_gained k initial finals rows moves p a new g h hp ha at;
    })

-- outside of the sizes there is no step
pub no_step : (m : Automaton) (p a q : ℕ) → IsAutomaton m
    → (m.states ≤ p) ⊎ (m.letters ≤ a) ⊎ (m.states ≤ q) → has_step m p a q ≡ false
no_step m p a q good out = elim (true_or_not (has_step m p a q)) [
  | inl h ↦ let (hp, ha, hq) = step_within m p a q good h in elim out [
    | inl o ↦ absurd (omega (arith, hp, o))
    | inr more ↦ elim more [
      | inl o ↦ absurd (omega (arith, ha, o))
      | inr o ↦ absurd (omega (arith, hq, o))
    ]
  ]
  | inr n ↦ not_true (has_step m p a q) n
]
  where
    not_true : (b : Bool) → (b ≡ true → ⊥) → b ≡ false
    not_true true n = absurd (n refl)
    not_true false n = refl

-- an automaton with other rows is as large
pub changed_sized : (k : ℕ) (initial finals : List Bool)
    (rows moves other_rows other_moves : List (List Bool))
    → IsSized (of_rows k initial finals rows moves)
    → IsSized (of_rows k initial finals other_rows other_moves)
changed_sized k initial finals rows moves other_rows other_moves h =
    rows_sized k initial finals other_rows other_moves h.automaton.finals h.some_states h.few_states
    h.some_letters h.few_letters
