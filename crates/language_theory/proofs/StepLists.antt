-- Lists of steps and of empty moves, in the order of their states, letters and targets.
use Rattle.std.proofs.Common.{◌≡◌, ℕ, zero, suc, ◌+◌, ◌<◌, ◌⊎◌, inl, inr, ◌↔◌, Bool, true, false, ◌&&◌, ◌||◌, ◌==◌, IsTrue, List, [], ◌∷◌, ◌++◌, refl, sym, ap, ◌∙◌, arith, append-nil, subst}
use Rattle.std.specs.Prelude.{All, if◌then◌else◌}
use Rattle.std.specs.List.{list_any, flat_map, range_with_len}
use Rattle.std.specs.Cmp.{both_ways as both_directions}
use Rattle.std.proofs.Math.Bool.{or-false}
use Rattle.std.proofs.lemmas.Bool.{both_ways, and_parts, and_from, or_cases, or_left, or_right, eqb-true, eq-eqb}
use Rattle.std.proofs.lemmas.Grind.{flat_map-append}
use Rattle.std.proofs.lemmas.List.Elements.{All-nil, All-cons, All-append}
use Rattle.std.proofs.lemmas.List.Folds.{list_any-append}
use Rattle.language_theory.specs.Automaton.{Automaton, is_step, is_move, has_step, has_move, steps_where, moves_where, IsInOrder}

-- ---- what belongs to the numbers below a bound, in their order

range_more : (a n : ℕ) → range_with_len a (suc n) ≡ range_with_len a n ++ (a + n) ∷ []
range_more a zero = ap (λ (k : ℕ). k ∷ []) (omega arith)
range_more a (suc n) =
    ap (λ (ks : List ℕ). a ∷ ks) (range_more (a + 1) n)
    ∙ ap (λ (k : ℕ). a ∷ range_with_len (a + 1) n ++ k ∷ []) (omega arith)

-- with one number more, what belongs to it comes last
pub with_one_more : {X : Type 0} (f : ℕ → List X) (n : ℕ)
    → flat_map f (range_with_len 0 (suc n)) ≡ flat_map f (range_with_len 0 n) ++ f n
with_one_more {X} f n =
    ap (flat_map f)
    (range_more 0 n ∙ ap (λ (k : ℕ). range_with_len 0 n ++ k ∷ []) (omega arith))
    ∙ flat_map-append f (range_with_len 0 n) (n ∷ [])
    ∙ ap (λ (xs : List X). flat_map f (range_with_len 0 n) ++ xs) (append-nil (f n))

-- what holds of all that belongs to each number holds of the whole list
pub all_below : {X : Type 0} (P : X → Type 0) (f : ℕ → List X) (n : ℕ)
    → ((i : ℕ) → i < n → All P (f i)) → All P (flat_map f (range_with_len 0 n))
all_below P f zero h = All-nil P
all_below P f (suc n) h =
    subst (All P) (sym (with_one_more f n))
    (All-append P (flat_map f (range_with_len 0 n)) (f n)
    (all_below P f n (λ i k. h i (omega arith))) (h n (omega arith)))

-- some element passes a test exactly if some element of what belongs to some number does
pub any_below : {X : Type 0} (t : X → Bool) (f : ℕ → List X) (n : ℕ)
    → IsTrue (list_any t (flat_map f (range_with_len 0 n)))
    ↔ ((i : ℕ) × (i < n) × IsTrue (list_any t (f i)))
any_below t f zero = (λ h. absurd (both_ways false refl h), λ x. absurd (let l = x.1 in omega arith))
any_below t f (suc n) =
    let rest = any_below t f n in
    let parts : list_any t (flat_map f (range_with_len 0 (suc n)))
    ≡ (list_any t (flat_map f (range_with_len 0 n)) || list_any t (f n)) =
    ap (list_any t) (with_one_more f n)
    ∙ list_any-append t (flat_map f (range_with_len 0 n)) (f n) in (
      λ h. elim (or_cases _ _ (sym parts ∙ h)) [
        | inl before ↦ let (i, l, k) = rest.0 before in (i, omega arith, k)
        | inr last ↦ (n, omega arith, last)
      ],
      λ x. let (i, l, k) = x in parts ∙ elim (cases_lt_suc i n l) [
        | inl below ↦ or_left _ _ (rest.1 (i, below, k))
        | inr same ↦ or_right (list_any t (flat_map f (range_with_len 0 n))) _
            (subst (λ (j : ℕ). IsTrue (list_any t (f j))) same k)
      ],
    )
  where
    cases_lt_suc : (i n : ℕ) → i < suc n → (i < n) ⊎ (i ≡ n)
    cases_lt_suc i zero l = inr (omega arith)
    cases_lt_suc zero (suc n) l = inl (omega arith)
    cases_lt_suc (suc i) (suc n) l = elim (cases_lt_suc i n (omega arith)) [
      | inl h ↦ inl (omega arith)
      | inr h ↦ inr (ap suc h)
    ]

-- lists are equal where what belongs to each number is
pub same_below : {X : Type 0} (f g : ℕ → List X) (n : ℕ) → ((i : ℕ) → i < n → f i ≡ g i)
    → flat_map f (range_with_len 0 n) ≡ flat_map g (range_with_len 0 n)
same_below f g zero h = refl
same_below {X} f g (suc n) h =
    with_one_more f n
    ∙ ap (λ (xs : List X). xs ++ f n) (same_below f g n (λ i k. h i (omega arith)))
    ∙ ap (λ (xs : List X). flat_map g (range_with_len 0 n) ++ xs) (h n (omega arith))
    ∙ sym (with_one_more g n)

-- ---- steps

-- a step, where it passes the test
one_where : (b : Bool) (p a q x y z : ℕ)
    → IsTrue (list_any (is_step x y z) (if b then (p, a, q) ∷ [] else []))
    ↔ ((p ≡ x) × (a ≡ y) × (q ≡ z) × IsTrue b)
one_where false p a q x y z = (
  λ h. absurd (both_ways false refl h),
  λ h. absurd (both_ways false refl h.3),
)
one_where true p a q x y z = (
  λ h. let is = sym (or-false (is_step x y z (p, a, q))) ∙ h in
      let first = and_parts (p == x) ((a == y) && (q == z)) is in
      let second = and_parts (a == y) (q == z) first.1 in (
        eqb-true p x first.0,
        eqb-true a y second.0,
        eqb-true q z second.1,
        refl,
      ),
  λ h. or-false (is_step x y z (p, a, q))
      ∙ and_from (p == x) _ (eq-eqb p x h.0)
      (and_from (a == y) (q == z) (eq-eqb a y h.1) (eq-eqb q z h.2)),
)

-- the steps that pass a test are listed
pub listed_where : (states letters : ℕ) (f : ℕ → ℕ → ℕ → Bool) (p a q : ℕ)
    → IsTrue (list_any (is_step p a q) (steps_where states letters f))
    ↔ ((p < states) × (a < letters) × (q < states) × IsTrue (f p a q))
unfolding steps_where
listed_where states letters f p a q = (
  λ h. let (x, lx, hx) = (any_below (is_step p a q) (from_state f states letters) states).0 h in
      let (y, ly, hy) = (any_below (is_step p a q) (by_letter f states x) letters).0 hx in
      let (z, lz, hz) = (any_below (is_step p a q) (to_state f x y) states).0 hy in
      let (ex, ey, ez, t) = (one_where (f x y z) x y z p a q).0 hz in (
        subst (λ (k : ℕ). k < states) ex lx,
        subst (λ (k : ℕ). k < letters) ey ly,
        subst (λ (k : ℕ). k < states) ez lz,
        subst (λ (k : ℕ). IsTrue (f k a q)) ex
            (subst (λ (k : ℕ). IsTrue (f x k q)) ey (subst (λ (k : ℕ). IsTrue (f x y k)) ez t)),
      ),
  λ h. let (lp, la, lq, t) = h in
      (any_below (is_step p a q) (from_state f states letters) states).1 (
        p,
        lp,
        (any_below (is_step p a q) (by_letter f states p) letters).1 (
          a,
          la,
          (any_below (is_step p a q) (to_state f p a) states).1 (
            q,
            lq,
            (one_where (f p a q) p a q p a q).1 (refl, refl, refl, t),
          ),
        ),
      ),
)
  where
    to_state : (ℕ → ℕ → ℕ → Bool) → ℕ → ℕ → ℕ → List (ℕ × ℕ × ℕ)
    to_state f p a q = if f p a q then (p, a, q) ∷ [] else []

    by_letter : (ℕ → ℕ → ℕ → Bool) → ℕ → ℕ → ℕ → List (ℕ × ℕ × ℕ)
    by_letter f states p a = flat_map (to_state f p a) (range_with_len 0 states)

    from_state : (ℕ → ℕ → ℕ → Bool) → ℕ → ℕ → ℕ → List (ℕ × ℕ × ℕ)
    from_state f states letters p = flat_map (by_letter f states p) (range_with_len 0 letters)

-- what holds of each step that passes holds of all that are listed
pub all_where : (P : ℕ × ℕ × ℕ → Type 0) (states letters : ℕ) (f : ℕ → ℕ → ℕ → Bool)
    → ((p a q : ℕ) → p < states → a < letters → q < states → P (p, a, q))
    → All P (steps_where states letters f)
unfolding steps_where
all_where P states letters f h =
    all_below P _ states (λ p lp. all_below P _ letters (λ a la. all_below P _ states (λ q lq.
    one (f p a q) p a q (h p a q lp la lq))))
  where
    one : (b : Bool) (p a q : ℕ) → P (p, a, q) → All P (if b then (p, a, q) ∷ [] else [])
    one true p a q k = All-cons P (p, a, q) [] k (All-nil P)
    one false p a q k = All-nil P

-- tests that agree list the same steps
pub same_where : (states letters : ℕ) (f g : ℕ → ℕ → ℕ → Bool)
    → ((p a q : ℕ) → p < states → a < letters → q < states → f p a q ≡ g p a q)
    → steps_where states letters f ≡ steps_where states letters g
unfolding steps_where
same_where states letters f g h =
    same_below _ _ states (λ p lp. same_below _ _ letters (λ a la. same_below _ _ states (λ q lq.
    ap (λ (b : Bool). if b then (p, a, q) ∷ [] else []) (h p a q lp la lq))))

-- within the sizes the listed steps are those that pass
pub has_where : (states letters : ℕ) (f : ℕ → ℕ → ℕ → Bool) (p a q : ℕ) → p < states
    → a < letters → q < states
    → list_any (is_step p a q) (steps_where states letters f) ≡ f p a q
has_where states letters f p a q lp la lq = both_directions (list_any (is_step p a q) (steps_where states letters f)) (f p a q)
    (λ h. ((listed_where states letters f p a q).0 h).3)
    (λ h. (listed_where states letters f p a q).1 (lp, la, lq, h))

-- ---- empty moves

one_move : (b : Bool) (p q x z : ℕ) → IsTrue (list_any (is_move x z) (if b then (p, q) ∷ [] else []))
    ↔ ((p ≡ x) × (q ≡ z) × IsTrue b)
one_move false p q x z = (
  λ h. absurd (both_ways false refl h),
  λ h. absurd (both_ways false refl h.2),
)
one_move true p q x z = (
  λ h. let is = sym (or-false (is_move x z (p, q))) ∙ h in
      let both = and_parts (p == x) (q == z) is in
      (eqb-true p x both.0, eqb-true q z both.1, refl),
  λ h. or-false (is_move x z (p, q)) ∙ and_from (p == x) (q == z) (eq-eqb p x h.0) (eq-eqb q z h.1),
)

-- the empty moves that pass a test are listed
pub listed_moves : (states : ℕ) (f : ℕ → ℕ → Bool) (p q : ℕ)
    → IsTrue (list_any (is_move p q) (moves_where states f))
    ↔ ((p < states) × (q < states) × IsTrue (f p q))
unfolding moves_where
listed_moves states f p q = (
  λ h. let (x, lx, hx) = (any_below (is_move p q) from_state states).0 h in
      let (z, lz, hz) = (any_below (is_move p q) (to_state x) states).0 hx in
      let (ex, ez, t) = (one_move (f x z) x z p q).0 hz in (
        subst (λ (k : ℕ). k < states) ex lx,
        subst (λ (k : ℕ). k < states) ez lz,
        subst (λ (k : ℕ). IsTrue (f k q)) ex (subst (λ (k : ℕ). IsTrue (f x k)) ez t),
      ),
  λ h. let (lp, lq, t) = h in
      (any_below (is_move p q) from_state states).1 (
        p,
        lp,
        (any_below (is_move p q) (to_state p) states).1
            (q, lq, (one_move (f p q) p q p q).1 (refl, refl, t)),
      ),
)
  where
    to_state : ℕ → ℕ → List (ℕ × ℕ)
    to_state p q = if f p q then (p, q) ∷ [] else []

    from_state : ℕ → List (ℕ × ℕ)
    from_state p = flat_map (to_state p) (range_with_len 0 states)

-- what holds of each empty move that passes holds of all that are listed
pub all_moves : (P : ℕ × ℕ → Type 0) (states : ℕ) (f : ℕ → ℕ → Bool)
    → ((p q : ℕ) → p < states → q < states → P (p, q)) → All P (moves_where states f)
unfolding moves_where
all_moves P states f h =
    all_below P _ states (λ p lp. all_below P _ states (λ q lq. one (f p q) p q (h p q lp lq)))
  where
    one : (b : Bool) (p q : ℕ) → P (p, q) → All P (if b then (p, q) ∷ [] else [])
    one true p q k = All-cons P (p, q) [] k (All-nil P)
    one false p q k = All-nil P

-- tests that agree list the same empty moves
pub same_moves : (states : ℕ) (f g : ℕ → ℕ → Bool)
    → ((p q : ℕ) → p < states → q < states → f p q ≡ g p q)
    → moves_where states f ≡ moves_where states g
unfolding moves_where
same_moves states f g h =
    same_below _ _ states (λ p lp. same_below _ _ states (λ q lq.
    ap (λ (b : Bool). if b then (p, q) ∷ [] else []) (h p q lp lq)))

-- within the sizes the listed empty moves are those that pass
pub has_moves : (states : ℕ) (f : ℕ → ℕ → Bool) (p q : ℕ) → p < states → q < states
    → list_any (is_move p q) (moves_where states f) ≡ f p q
has_moves states f p q lp lq =
    both_directions (list_any (is_move p q) (moves_where states f)) (f p q)
    (λ h. ((listed_moves states f p q).0 h).2)
    (λ h. (listed_moves states f p q).1 (lp, lq, h))

-- steps and empty moves that are listed by tests stand in order
pub in_order_where : (m : Automaton) (f : ℕ → ℕ → ℕ → Bool) (g : ℕ → ℕ → Bool)
    → m.steps ≡ steps_where m.states m.letters f → m.moves ≡ moves_where m.states g → IsInOrder m
in_order_where m f g e d = record {
  steps = e ∙ same_where m.states m.letters f (has_step m) (λ p a q lp la lq.
      sym (ap (list_any (is_step p a q)) e ∙ has_where m.states m.letters f p a q lp la lq));
  moves = d ∙ same_moves m.states g (has_move m) (λ p q lp lq.
      sym (ap (list_any (is_move p q)) d ∙ has_moves m.states g p q lp lq));
}

-- automata with the same states, letters and steps, which stand in order, list them alike
pub steps_alike : (m n : Automaton) → IsInOrder m → IsInOrder n → m.states ≡ n.states
    → m.letters ≡ n.letters → ((p a q : ℕ) → has_step m p a q ≡ has_step n p a q)
    → m.steps ≡ n.steps
steps_alike m n h k e i same =
    h.steps ∙ same_where m.states m.letters (has_step m) (has_step n) (λ p a q lp la lq. same p a q)
    ∙ ap (λ (s : ℕ). steps_where s m.letters (has_step n)) e
    ∙ ap (λ (l : ℕ). steps_where n.states l (has_step n)) i ∙ sym k.steps

-- and so empty moves
pub in_order_alike : (m n : Automaton) → IsInOrder m → IsInOrder n → m.states ≡ n.states
    → m.letters ≡ n.letters → ((p a q : ℕ) → has_step m p a q ≡ has_step n p a q)
    → ((p q : ℕ) → has_move m p q ≡ has_move n p q) → (m.steps ≡ n.steps) × (m.moves ≡ n.moves)
in_order_alike m n h k e i same also = (
  steps_alike m n h k e i same,
  h.moves ∙ same_moves m.states (has_move m) (has_move n) (λ p q lp lq. also p q)
      ∙ ap (λ (s : ℕ). moves_where s (has_move n)) e ∙ sym k.moves,
)
