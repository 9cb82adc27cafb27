-- The states to which empty moves lead, and empty moves taken in.
use Rattle.std.proofs.Common.{◌≡◌, ℕ, ◌+◌, ◌*◌, ◌<◌, ◌≤◌, ◌↔◌, ◌⊎◌, inl, inr, Bool, true, false, ◌||◌, ◌&&◌, ◌==◌, IsTrue, List, [], ◌∷◌, ◌++◌, length, get_or, set, replicate, refl, sym, ap, subst, ◌∙◌, arith}
use Rattle.std.specs.Prelude.{All}
use Rattle.std.proofs.lemmas.Bool.{cases_lt, both_ways, or_cases, or_left, or_right, and_parts, and_from, eq-eqb, eqb-true}
use Rattle.std.proofs.Math.Bool.{or-false}
use Rattle.std.proofs.lemmas.Grind.{get_or-set_at}
use Rattle.std.proofs.Common.{length-append}
use Rattle.std.proofs.Math.Seq.{get_or-append_seam}
use Rattle.std.proofs.lemmas.List.{get_or_append_left, length-set, get_or-set_other, length-replicate, get_or-replicate, get_or_default}
use Rattle.std.proofs.lemmas.List.Elements.{All-set}
use Rattle.language_theory.specs.Automaton.{Automaton, IsTarget, IsMove, Path, stay, move, HasMovesTakenIn, is_marked, has_move}
use Rattle.language_theory.proofs.Numbers.{equal_or_not}
use Rattle.language_theory.proofs.Automata.{path_joined, path_within}
use Rattle.language_theory.proofs.StepLists.{listed_where}
use Rattle.language_theory.proofs.Graphs.{row_place}
use Rattle.number_set.specs.Marks.{HasGained}
use Rattle.automata.specs.Nfa.{IsSized, AreRows, in_rows, in_moves, of_rows}
use Rattle.automata.specs.Closures.{AreSquare, AreNearRows, AreClosures, GoThrough, IsClosed, AreClosed, AreTakenIn}
use Rattle.automata.proofs.Steps.{no_moves_where}
use Rattle.automata.proofs.Rows.{marked_within, rows_sized}

-- ---- through each state

-- the rows have each state and the empty moves, lead nowhere else, and lead on through the states
-- below k
pub record AreClosedBelow (m : Automaton) (k : ℕ) (rows : List (List Bool)) : Type 0 where
  pub long : length rows ≡ m.states
  pub square : AreSquare rows
  pub here : (p : ℕ) → p < m.states → IsTrue (in_moves rows p p)
  pub moves : (p q : ℕ) → p < m.states → IsMove m p q → IsTrue (in_moves rows p q)
  pub sound : (p q : ℕ) → p < m.states → IsTrue (in_moves rows p q) → Path m p [] q
  pub through : (p s q : ℕ) → p < m.states → s < k → IsTrue (in_moves rows p s)
      → IsTrue (in_moves rows s q) → IsTrue (in_moves rows p q)

pub near_closed : (m : Automaton) (rows : List (List Bool)) → AreNearRows m m.states rows
    → AreClosedBelow m 0 rows
near_closed m rows h = record {
  long = h.long;
  square = record { row = λ p d hp. long p d hp };
  here = λ p hp. (h.each p hp).each p ∙ or_left (p == p) (has_move m p p) (eq-eqb p p refl);
  moves = λ p q hp t. (h.each p hp).each q ∙ or_right (p == q) (has_move m p q) t.1;
  sound = sound;
  through = λ p s q hp hs x y. absurd (omega arith);
}
  where
    long : (p : ℕ) (d : List Bool) → p < length rows → length (get_or rows p d) ≡ length rows
    long p d hp =
        let hm : p < m.states = omega (arith, h.long) in
        ap (λ (marks : List Bool). length marks) (get_or_default rows p d [] hp)
        ∙ (h.each p hm).long ∙ sym h.long

    sound : (p q : ℕ) → p < m.states → IsTrue (in_moves rows p q) → Path m p [] q
    sound p q hp t = elim (or_cases (p == q) (has_move m p q) (sym ((h.each p hp).each q) ∙ t)) [
      | inl same ↦ subst (λ (r : ℕ). Path m p [] r) (eqb-true p q same) stay
      | inr found ↦
          let within : q < m.states = omega (arith, (h.each p hp).long, marked_within (get_or rows p []) q t) in
          move (within, found) stay
    ]

pub through_next : (m : Automaton) (k : ℕ) (old new : List (List Bool)) → k < m.states
    → AreClosedBelow m k old → GoThrough old new k → AreClosedBelow m (k + 1) new
through_next m k old new hk h g = record {
  long = g.long ∙ h.long;
  square = g.square;
  here = λ p hp. (pairs p p hp).1 (inl (h.here p hp));
  moves = λ p q hp t. (pairs p q hp).1 (inl (h.moves p q hp t));
  sound = sound;
  through = λ p s q hp hs x y. elim (cases_lt s k) [
    | inl below ↦ by p s q hp below ((pairs p s hp).0 x) ((pairs s q (omega (arith, below, hk))).0 y)
    | inr at ↦
        let e : s ≡ k = omega (arith, at, hs) in
        middle p q hp ((pairs p k hp).0 (subst (λ (i : ℕ). IsTrue (in_moves new p i)) e x))
        ((pairs k q hk).0 (subst (λ (i : ℕ). IsTrue (in_moves new i q)) e y))
  ];
}
  where
    pairs : (p q : ℕ) → p < m.states → IsTrue (in_moves new p q)
        ↔ (IsTrue (in_moves old p q) ⊎ (IsTrue (in_moves old p k) × IsTrue (in_moves old k q)))
    pairs p q hp = g.each p q (rw h.long hp)

    sound : (p q : ℕ) → p < m.states → IsTrue (in_moves new p q) → Path m p [] q
    sound p q hp t = elim ((pairs p q hp).0 t) [
      | inl before ↦ h.sound p q hp before
      | inr both ↦ path_joined (h.sound p k hp both.0) (h.sound k q hk both.1)
    ]

    by : (p s q : ℕ) → p < m.states → s < k
        → IsTrue (in_moves old p s) ⊎ (IsTrue (in_moves old p k) × IsTrue (in_moves old k s))
        → IsTrue (in_moves old s q) ⊎ (IsTrue (in_moves old s k) × IsTrue (in_moves old k q))
        → IsTrue (in_moves new p q)
    by p s q hp hs (inl a) (inl b) = (pairs p q hp).1 (inl (h.through p s q hp hs a b))
    by p s q hp hs (inl a) (inr (b, c)) =
        (pairs p q hp).1 (inr (h.through p s k hp hs a b, c))
    by p s q hp hs (inr (a, b)) (inl c) =
        (pairs p q hp).1 (inr (a, h.through k s q hk hs b c))
    by p s q hp hs (inr (a, b)) (inr (c, d)) = (pairs p q hp).1 (inr (a, d))

    middle : (p q : ℕ) → p < m.states
        → IsTrue (in_moves old p k) ⊎ (IsTrue (in_moves old p k) × IsTrue (in_moves old k k))
        → IsTrue (in_moves old k q) ⊎ (IsTrue (in_moves old k k) × IsTrue (in_moves old k q))
        → IsTrue (in_moves new p q)
    middle p q hp (inl a) (inl b) = (pairs p q hp).1 (inr (a, b))
    middle p q hp (inl a) (inr (b, c)) = (pairs p q hp).1 (inr (a, c))
    middle p q hp (inr (a, b)) (inl c) = (pairs p q hp).1 (inr (a, c))
    middle p q hp (inr (a, b)) (inr (c, d)) = (pairs p q hp).1 (inr (a, d))

-- through all states the rows have all that empty moves lead to
pub all_closed : (m : Automaton) (k : ℕ) (rows : List (List Bool)) → m.states ≤ k
    → AreClosedBelow m k rows → AreClosures m rows
all_closed m k rows hk h = record {
  long = h.long;
  square = h.square;
  each = λ p q hp. (h.sound p q hp, λ f. complete f hp);
}
  where
    complete : {p q : ℕ} → Path m p [] q → p < m.states → IsTrue (in_moves rows p q)
    complete {p = p} stay hp = h.here p hp
    complete {p = p} {q = q} (move {q = s} t f) hp =
        h.through p s q hp (omega (arith, t.0, hk)) (h.moves p s hp t) (complete f t.0)

-- ---- one state, row by row

-- a set that has no middle gains nothing
pub nothing_gained : (row reached : List Bool) (middle : ℕ) → is_marked row middle ≡ false
    → HasGained row row (length row) (λ (q : ℕ). is_marked row middle && is_marked reached q)
nothing_gained row reached middle e = record {
  long = refl;
  each = λ q. sym (rw e (or-false (is_marked row q)));
}

pub all_gained : (old new reached : List Bool) (middle : ℕ) → is_marked old middle ≡ true
    → HasGained old new (length old) (is_marked reached)
    → HasGained old new (length old) (λ (q : ℕ). is_marked old middle && is_marked reached q)
all_gained old new reached middle e h = record { long = h.long; each = λ q. rw e (h.each q) }

-- the rows below n are done
pub record AreDoneBelow (old : List (List Bool)) (middle : ℕ) (reached : List Bool) (n : ℕ)
    (new : List (List Bool)) : Type 0 where
  pub long : length new ≡ length old
  pub square : AreSquare new
  pub done : (p q : ℕ) → p < n → in_moves new p q
      ≡ (in_moves old p q || (in_moves old p middle && is_marked reached q))
  pub rest : (p : ℕ) → n ≤ p → get_or new p [] ≡ get_or old p []

pub none_done : (old : List (List Bool)) (middle : ℕ) (reached : List Bool) → AreSquare old
    → AreDoneBelow old middle reached 0 old
none_done old middle reached h = record {
  long = refl;
  square = h;
  done = λ p q hp. absurd (omega arith);
  rest = λ p hp. refl;
}

pub one_done : (old : List (List Bool)) (middle : ℕ) (reached : List Bool) (n : ℕ)
    (new : List (List Bool)) (row gained : List Bool) → n < length old
    → AreDoneBelow old middle reached n new → row ≡ get_or new n []
    → HasGained row gained (length row) (λ (q : ℕ). is_marked row middle && is_marked reached q)
    → AreDoneBelow old middle reached (n + 1) (set new n gained)
one_done old middle reached n new row gained hn h read g = record {
  long = length-set new n gained ∙ h.long;
  square = record {
    row = subst (λ (size : ℕ). All (λ (marks : List Bool). length marks ≡ size) (set new n gained))
        (sym (length-set new n gained))
        (All-set (λ (marks : List Bool). length marks ≡ length new) new n gained
        (g.long ∙ ap (λ (marks : List Bool). length marks) read ∙ h.square.row n [] within)
        h.square.row);
  };
  done = λ p q hp. elim (equal_or_not p n) [
    | inl e ↦ ap (λ (marks : List Bool). is_marked marks q) (get_or-set_at new n p gained [] e within)
        ∙ g.each q
        ∙ ap (λ (marks : List Bool). is_marked marks q || (is_marked marks middle && is_marked reached q))
        (read ∙ h.rest n (omega arith) ∙ ap (λ (i : ℕ). get_or old i []) (sym e))
    | inr ne ↦ ap (λ (marks : List Bool). is_marked marks q) (get_or-set_other new n p gained [] ne)
        ∙ h.done p q (omega arith)
  ];
  rest = λ p hp. get_or-set_other new n p gained [] (λ e. omega arith) ∙ h.rest p (omega arith);
}
  where
    within : n < length new
    within = omega (arith, h.long)

pub all_done : (old : List (List Bool)) (middle : ℕ) (reached : List Bool) (n : ℕ)
    (new : List (List Bool)) → length old ≤ n → reached ≡ get_or old middle []
    → AreDoneBelow old middle reached n new → GoThrough old new middle
all_done old middle reached n new hn read h = record {
  long = h.long;
  square = h.square;
  each = λ p q hp. (
    λ t. elim (or_cases (in_moves old p q) (in_moves old p middle && is_marked reached q)
        (sym (h.done p q (omega arith)) ∙ t)) [
          | inl before ↦ inl before
          | inr both ↦ let parts = and_parts (in_moves old p middle) (is_marked reached q) both in
              inr (parts.0, sym (ap (λ (marks : List Bool). is_marked marks q) read) ∙ parts.1)
        ],
    λ x. h.done p q (omega arith) ∙ elim x [
      | inl before ↦ or_left (in_moves old p q) (in_moves old p middle && is_marked reached q) before
      | inr (into, out) ↦ or_right (in_moves old p q) (in_moves old p middle && is_marked reached q)
          (and_from (in_moves old p middle) (is_marked reached q) into
          (ap (λ (marks : List Bool). is_marked marks q) read ∙ out))
    ],
  );
}

-- ---- a set

-- the set has the marks of the rows of the members below n
pub record IsClosedBelow (closures : List (List Bool)) (set : List Bool) (n : ℕ)
    (new : List Bool) : Type 0 where
  pub long : length new ≡ length set
  pub each : (q : ℕ) → IsTrue (is_marked new q)
      ↔ ((s : ℕ) × (s < n) × IsTrue (is_marked set s) × IsTrue (in_moves closures s q))

pub none_closed : (closures : List (List Bool)) (set : List Bool)
    → IsClosedBelow closures set 0 (replicate (length set) false)
none_closed closures set = record {
  long = length-replicate {A = Bool} (length set) false;
  each = λ q. (
    λ t. absurd (both_ways (is_marked (replicate (length set) false) q)
        (get_or-replicate (length set) q false false
        (omega (
          arith,
          marked_within (replicate (length set) false) q t,
          length-replicate {A = Bool} (length set) false,
        ))) t),
    λ x. let (s, l, _, _) = x in absurd (omega arith),
  );
}

pub one_closed : (closures : List (List Bool)) (set : List Bool) (n s : ℕ) (old row new : List Bool)
    → n ≤ s → ((i : ℕ) → n ≤ i → i < s → is_marked set i ≡ false) → IsTrue (is_marked set s)
    → row ≡ get_or closures s [] → HasGained old new (length old) (is_marked row)
    → IsClosedBelow closures set n old → IsClosedBelow closures set (s + 1) new
one_closed closures set n s old row new below bare marked read gained h = record {
  long = gained.long ∙ h.long;
  each = λ q. (to q, from q);
}
  where
    mark : (q : ℕ) → is_marked new q ≡ (is_marked old q || in_moves closures s q)
    mark q = gained.each q
        ∙ ap (λ (marks : List Bool). is_marked old q || is_marked marks q) read

    to : (q : ℕ) → IsTrue (is_marked new q) → (i : ℕ) × (i < s + 1) × IsTrue (is_marked set i)
        × IsTrue (in_moves closures i q)
    to q t = elim (or_cases (is_marked old q) (in_moves closures s q) (sym (mark q) ∙ t)) [
      | inl before ↦ let (i, l, x, y) = (h.each q).0 before in (i, omega arith, x, y)
      | inr last ↦ (s, omega arith, marked, last)
    ]

    from : (q : ℕ) → (i : ℕ) × (i < s + 1) × IsTrue (is_marked set i)
        × IsTrue (in_moves closures i q) → IsTrue (is_marked new q)
    from q (i, l, x, y) = mark q ∙ elim (cases_lt i n) [
      | inl before ↦ or_left (is_marked old q) (in_moves closures s q) ((h.each q).1 (i, before, x, y))
      | inr behind ↦ elim (equal_or_not i s) [
        | inl e ↦ or_right (is_marked old q) (in_moves closures s q)
            (subst (λ (j : ℕ). IsTrue (in_moves closures j q)) e y)
        | inr ne ↦ absurd (both_ways (is_marked set i) (bare i behind (omega arith)) x)
      ]
    ]

pub set_closed : (closures : List (List Bool)) (set : List Bool) (n : ℕ) (new : List Bool)
    → ((i : ℕ) → n ≤ i → is_marked set i ≡ false) → IsClosedBelow closures set n new
    → IsClosed closures set new
set_closed closures set n new none h = record {
  long = h.long;
  each = λ q. (
    λ t. let (s, l, x, y) = (h.each q).0 t in (s, x, y),
    λ x. let (s, marked, there) = x in (h.each q).1 (s, within s marked, marked, there),
  );
}
  where
    within : (s : ℕ) → IsTrue (is_marked set s) → s < n
    within s marked = elim (cases_lt s n) [
      | inl l ↦ l
      | inr g ↦ absurd (both_ways (is_marked set s) (none s g) marked)
    ]

-- ---- row by row

-- the rows below n are closed
pub record AreClosedRows (closures rows : List (List Bool)) (n : ℕ) (new : List (List Bool)) : Type 0 where
  pub long : length new ≡ n
  pub each : (i : ℕ) → i < n → IsClosed closures (get_or rows i []) (get_or new i [])

pub no_row_closed : (closures rows : List (List Bool)) → AreClosedRows closures rows 0 []
no_row_closed closures rows = record { long = refl; each = λ i h. absurd (omega arith) }

pub row_closed : (closures rows : List (List Bool)) (n : ℕ) (new : List (List Bool))
    (row made : List Bool) → row ≡ get_or rows n [] → IsClosed closures row made
    → AreClosedRows closures rows n new → AreClosedRows closures rows (n + 1) (new ++ made ∷ [])
row_closed closures rows n new row made read closed h = record {
  long = simp length-append (ap (λ (i : ℕ). i + 1) h.long);
  each = λ i hi. elim (cases_lt i n) [
    | inl before ↦ subst (λ (x : List Bool). IsClosed closures (get_or rows i []) x)
        (sym (get_or_append_left new (made ∷ []) [] i (rw h.long before))) (h.each i before)
    | inr behind ↦
        let e : n ≡ i = omega (arith, behind, hi) in
        let at : get_or (new ++ made ∷ []) n [] ≡ made =
        ap (λ (j : ℕ). get_or (new ++ made ∷ []) j []) (sym h.long)
        ∙ get_or-append_seam new made [] [] in
        subst (λ (j : ℕ). IsClosed closures (get_or rows j []) (get_or (new ++ made ∷ []) j [])) e
        (subst (λ (x : List Bool). IsClosed closures (get_or rows n []) x) (sym at)
        (subst (λ (x : List Bool). IsClosed closures x made) read closed))
  ];
}

pub rows_closed : (closures rows : List (List Bool)) (n : ℕ) (new : List (List Bool))
    → length rows ≡ n → AreClosedRows closures rows n new → AreClosed closures rows new
rows_closed closures rows n new e h =
    record { long = h.long ∙ sym e; each = λ i hi. h.each i (omega (arith, e, hi)) }

-- ---- empty moves taken in

module _ (k : ℕ) (initial finals first : List Bool) (rows moves closures others : List (List Bool))
    (are : AreRows (length initial) k rows)
    (c : AreClosures (of_rows k initial finals rows moves) closures)
    (f : IsClosed closures initial first) (r : AreClosed closures rows others) where
  -- there is a row for each state and letter
  pub closed_are_rows : AreRows (length first) k others
  closed_are_rows = record {
    long = r.long ∙ are.long ∙ ap (λ (n : ℕ). n * k) (sym f.long);
    row = λ i d hi. by i d hi (are.row i [] (rw (← r.long) hi));
  }
    where
      by : (i : ℕ) (d : List Bool) → i < length others
          → (length (get_or rows i []) ≡ 0) ⊎ (length (get_or rows i []) ≡ length initial)
          → (length (get_or others i d) ≡ 0) ⊎ (length (get_or others i d) ≡ length first)
      by i d hi long =
          let at : length (get_or others i d) ≡ length (get_or rows i []) =
          ap (λ (marks : List Bool). length marks) (get_or_default others i d [] hi)
          ∙ (r.each i (omega (arith, r.long))).long in
          elim long [
            | inl e ↦ inl (at ∙ e)
            | inr e ↦ inr (at ∙ e ∙ sym f.long)
          ]

  -- it begins where empty moves lead from initial states, and its steps have empty moves behind them
  pub closed_taken_in : HasMovesTakenIn (of_rows k initial finals rows moves)
      (of_rows k first finals others [])
  closed_taken_in = record {
    states = f.long;
    letters = refl;
    moves = no_moves_where (length first) (in_moves []) (λ p q. refl);
    finals = refl;
    initial = λ p. (
      λ x. let (s, marked, there) = (f.each p).0 x.1 in
          let hs = marked_within initial s marked in
          (s, (hs, marked), (c.each s p hs).0 there),
      λ x. let (i, begin, path) = x in
          let there = (f.each p).1 (i, begin.1, (c.each i p begin.0).1 path) in
          (marked_within first p there, there),
    );
    steps = λ p a q. (to p a q, from p a q);
  }
    where
      place : (p a : ℕ) → p < length initial → a < k → p * k + a < length rows
      place p a hp ha = rw are.long (row_place p a (length initial) k hp ha)

      to : (p a q : ℕ) → IsTarget (of_rows k first finals others []) p a q
          → (s : ℕ) × IsTarget (of_rows k initial finals rows moves) p a s
          × Path (of_rows k initial finals rows moves) s [] q
      to p a q (hq, has) =
          let (lp, ha, lq, there) = (listed_where (length first) k (in_rows k others) p a q).0 has in
          let hp : p < length initial = omega (arith, f.long) in
          let (s, marked, leads) = ((r.each (p * k + a) (place p a hp ha)).each q).0 there in
          let hs = short p a s hp ha marked in
          (s, (hs, (listed_where (length initial) k (in_rows k rows) p a s).1 (hp, ha, hs, marked)), (c.each s q hs).0 leads)
        where
          short : (p a s : ℕ) → p < length initial → a < k → in_rows k rows p a s ≡ true
              → s < length initial
          short p a s hp ha marked =
              let within = marked_within (get_or rows (p * k + a) []) s marked in
              elim (are.row (p * k + a) [] (place p a hp ha)) [
                | inl e ↦ absurd (omega (arith, e, within))
                | inr e ↦ omega (arith, e, within)
              ]

      from : (p a q : ℕ) → (s : ℕ) × IsTarget (of_rows k initial finals rows moves) p a s
          × Path (of_rows k initial finals rows moves) s [] q
          → IsTarget (of_rows k first finals others []) p a q
      from p a q (s, (hs, has), path) =
          let (hp, ha, ls, marked) = (listed_where (length initial) k (in_rows k rows) p a s).0 has in
          let hq : q < length initial = path_within hs path in
          let there = ((r.each (p * k + a) (place p a hp ha)).each q).1
          (s, marked, (c.each s q hs).1 path) in
          let lp : p < length first = omega (arith, f.long) in
          let lq : q < length first = omega (arith, f.long) in
          (lq, (listed_where (length first) k (in_rows k others) p a q).1 (lp, ha, lq, there))

-- the same of an automaton that is known by its rows
pub made_taken_in : (m : Automaton) (k : ℕ) (initial finals first : List Bool)
    (rows moves closures others : List (List Bool)) → of_rows k initial finals rows moves ≡ m
    → IsSized (of_rows k initial finals rows moves) → AreRows (length initial) k rows
    → AreClosures m closures → IsClosed closures initial first → AreClosed closures rows others
    → AreTakenIn m first others
made_taken_in m k initial finals first rows moves closures others view sized are c f r =
    let own : AreClosures (of_rows k initial finals rows moves) closures =
    subst (λ (n : Automaton). AreClosures n closures) (sym view) c in
    subst (λ (n : Automaton). AreTakenIn n first others) view (record {
      sized = rows_sized k first finals others [] (sized.automaton.finals ∙ sym f.long)
          (rw f.long sized.some_states) (rw f.long sized.few_states) sized.some_letters
          sized.few_letters;
      are_rows = closed_are_rows k initial finals first rows moves closures others are own f r;
      taken_in = closed_taken_in k initial finals first rows moves closures others are own f r;
    })
