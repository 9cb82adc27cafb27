-- What is built is the position automaton.
use Rattle.std.proofs.Common.{◌≡◌, ◌≢◌, ℕ, zero, suc, ◌+◌, ◌-◌, ◌<◌, ◌≤◌, Bool, true, false, IsTrue, ◌&&◌, ◌||◌, ◌==◌, ◌⊎◌, inl, inr, List, [], ◌∷◌, ◌++◌, length, replicate, set, get_or, refl, ap, sym, subst, ◌∙◌, arith, map, append_assoc}
use Rattle.std.specs.Bool.{Decides}
use Rattle.std.specs.List.{All, list_any}
use Rattle.std.proofs.lemmas.List.Elements.{All-get_or}
use Rattle.std.proofs.lemmas.List.{get_or-set_same, get_or-set_other, get_or-replicate, get_or_past, length-replicate}
use Rattle.std.proofs.lemmas.Bool.{cases_lt}
use Rattle.std.proofs.lemmas.Bool.Decides.{Decides-eqb, Decides-and, Decides-or, eqb_tells}
use Rattle.language_theory.specs.Automaton.{Automaton, is_final, is_step, has_step, IsInOrder}
use Rattle.automata.specs.Nfa.{bare, with_initial, IsSized}
use Rattle.expression_theory.specs.Expression.{Tree, Means}
use Rattle.expression_theory.specs.Positions.{positions, numbered, PositionWord, Begins, Follows, Ends, letter_of, StepsTo, IsFinalPosition, IsPositions}
use Rattle.expression_theory.specs.FirstLast.{has, has_empty, firsts, lasts, follows}
use Rattle.expression_theory.proofs.Exchange.{between}
use Rattle.expression_theory.proofs.Relabel.{Image, has_positions, from_positions}
use Rattle.expression_theory.proofs.FirstLast.{has_empty_decides, firsts_decide, lasts_decide, follows_decide}
use Rattle.expression_theory.proofs.Acceptance.{steps_below}
use Rattle.regex_reader.specs.Marks.{Table, is_marked, IsAdded}
use Rattle.regex_reader.specs.Parts.{IsPart, IsFollowing, Summary}
use Rattle.regex_reader.specs.Growth.{HasFinals, HasGrown, IsTableStep, IsEarlyStep, IsBuilt}
use Rattle.regex_reader.proofs.Tables.{or_nothing}

-- the table has the steps of the automaton, 0 being the state before all positions
abbrev pub Steps : Tree → ℕ → ℕ → Bool
Steps t p q = follows (numbered 1 t) p q || ((0 == p) && has (firsts (numbered 1 t)) q)

no_zero : (t : Tree) (u v : List ℕ) → PositionWord t (u ++ 0 ∷ v) → ⊥
no_zero t u v h = let b : 1 ≤ 0 = (between 1 t 0 u v h).0 in omega arith

decides_by : {P Q : Type 0} (b : Bool) → Decides b P → (P → Q) → (Q → P) → Decides b Q
decides_by b d to from = (λ e. to (d.0 e), λ q. d.1 (from q))

steps_decide : (t : Tree) (p q : ℕ)
    → Decides (Steps t p q) (Follows (PositionWord t) p q ⊎ ((0 ≡ p) × Begins (PositionWord t) q))
steps_decide t p q =
    Decides-or (follows (numbered 1 t) p q) ((0 == p) && has (firsts (numbered 1 t)) q)
    (follows_decide (numbered 1 t) p q)
    (Decides-and (0 == p) (has (firsts (numbered 1 t)) q) (Decides-eqb 0 p)
    (firsts_decide (numbered 1 t) q))

-- the table tells the steps
pub step_decides : (t : Tree) (p q : ℕ) → Decides (Steps t p q) (StepsTo t p q)
step_decides t zero q = decides_by (Steps t 0 q) (steps_decide t 0 q) to from
  where
    to : Follows (PositionWord t) 0 q ⊎ ((zero ≡ zero) × Begins (PositionWord t) q)
        → Begins (PositionWord t) q
    to (inl (u, v, h)) = absurd (no_zero t u (q ∷ v) h)
    to (inr (e, h)) = h

    from : Begins (PositionWord t) q → Follows (PositionWord t) 0 q
        ⊎ ((zero ≡ zero) × Begins (PositionWord t) q)
    from h = inr (refl, h)
step_decides t (suc p) q = decides_by (Steps t (suc p) q) (steps_decide t (suc p) q) to inl
  where
    to : Follows (PositionWord t) (suc p) q ⊎ ((0 ≡ suc p) × Begins (PositionWord t) q)
        → Follows (PositionWord t) (suc p) q
    to (inl h) = h
    to (inr (e, h)) = absurd (let f : 0 ≡ suc p = e in omega arith)

-- what is final
abbrev pub Finals : Tree → ℕ → Bool
Finals t p = (has_empty (numbered 1 t) && (0 == p)) || has (lasts (numbered 1 t)) p

empty_position_word : (t : Tree) → Means t [] → PositionWord t []
empty_position_word t h = by (has_positions t [] h)
  where
    by : Image (letter_of t) (PositionWord t) [] → PositionWord t []
    by ([], s, e) = s
    by (a ∷ x, s, e) = absurd (let f : letter_of t a ∷ map (letter_of t) x ≡ [] = e in cc)

ends_decide : (t : Tree) (p : ℕ)
    → Decides (Finals t p) ((PositionWord t [] × (0 ≡ p)) ⊎ Ends (PositionWord t) p)
ends_decide t p =
    Decides-or (has_empty (numbered 1 t) && (0 == p)) (has (lasts (numbered 1 t)) p)
    (Decides-and (has_empty (numbered 1 t)) (0 == p) (has_empty_decides (numbered 1 t))
    (Decides-eqb 0 p)) (lasts_decide (numbered 1 t) p)

-- and it tells the final states
pub final_decides : (t : Tree) (p : ℕ) → Decides (Finals t p) (IsFinalPosition t p)
final_decides t zero = decides_by (Finals t 0) (ends_decide t 0) to from
  where
    to : (PositionWord t [] × (zero ≡ zero)) ⊎ Ends (PositionWord t) 0 → Means t []
    to (inl (h, e)) = from_positions t [] h
    to (inr (u, h)) = absurd (no_zero t u [] h)

    from : Means t [] → (PositionWord t [] × (zero ≡ zero)) ⊎ Ends (PositionWord t) 0
    from h = inl (empty_position_word t h, refl)
final_decides t (suc p) = decides_by (Finals t (suc p)) (ends_decide t (suc p)) to inr
  where
    to : (PositionWord t [] × (0 ≡ suc p)) ⊎ Ends (PositionWord t) (suc p)
        → Ends (PositionWord t) (suc p)
    to (inl (h, e)) = absurd (let f : 0 ≡ suc p = e in omega arith)
    to (inr h) = h

pub steps_from_below : (t : Tree) (p q : ℕ) → StepsTo t p q → p < length (positions t) + 1
steps_from_below t zero q h = omega arith
steps_from_below t (suc p) q (u, v, h) = let b : suc p < 1 + length (positions t) =
    (between 1 t (suc p) u (q ∷ v) h).1 in omega arith

pub steps_to_position : (t : Tree) (p q : ℕ) → StepsTo t p q → 1 ≤ q
steps_to_position t zero q (w, h) = (between 1 t q [] w h).0
steps_to_position t (suc p) q (u, v, h) =
    (between 1 t q (u ++ suc p ∷ []) v
    (subst (PositionWord t) (sym (append_assoc u (suc p ∷ []) (q ∷ v))) h)).0

-- the table of what follows, with the row of what begins
pub record HasSteps (t : Tree) (m : Table) : Type 0 where
  pub width : m.width ≡ length (positions t) + 1
  pub each : (p q : ℕ) → p < m.width → q < m.width → is_marked m p q ≡ Steps t p q

-- with the row of what begins, the table has all steps
pub with_begin : (t : Tree) (m m' : Table) (xs : List ℕ) → m.width ≡ length (positions t) + 1
    → IsFollowing 1 (t ∷ []) m → xs ≡ firsts (numbered 1 t) →
    IsAdded m m' (λ i j. (0 == i) && has xs j) → HasSteps t m'
with_begin t m m' xs w f e add = record {
  width = add.width ∙ w;
  each = λ p q a b.
      add.each p q (subst (λ i. p < i) add.width a) (subst (λ i. q < i) add.width b)
      ∙ ap (λ r. r || ((0 == p) && has xs q))
      (f p q (subst (λ i. p < i) add.width a) (subst (λ i. q < i) add.width b)
      ∙ sym (or_nothing (follows (numbered 1 t) p q)))
      ∙ ap (λ l. follows (numbered 1 t) p q || ((0 == p) && has l q)) e;
}

-- what is built is the position automaton
pub built_positions : (t : Tree) (k : ℕ) (r : Summary) (m : Table) (xs : List ℕ) (a : Automaton)
    → IsPart 1 t r → HasSteps t m → xs ≡ positions t → IsBuilt r.has_empty r.last m xs k a
    → IsPositions t k a
built_positions t k r m xs a part table e built = record {
  states = built.states ∙ ap (λ l. length l + 1) e;
  letters = built.letters;
  initials = built.sized.automaton.initial;
  finals = built.sized.automaton.finals;
  initial = λ p. (
    λ i. sym ((Decides-eqb 0 p).0 (sym (built.initial p) ∙ i)),
    λ i. built.initial p
        ∙ (Decides-eqb 0 p).1 (sym i),
  );
  final = λ p. (
    λ i. (final_decides t p).0 (sym (finals p) ∙ i),
    λ i. finals p
        ∙ (final_decides t p).1 i,
  );
  step = λ p x q. (to p x q, from p x q);
  ordered = built.ordered;
  plain = built.plain;
}
  where
    finals : (p : ℕ) → is_final a p ≡ Finals t p
    finals p = built.finals p ∙ ap (λ b. (b && (0 == p)) || has r.last p) part.empty
        ∙ ap (λ l. (has_empty (numbered 1 t) && (0 == p)) || has l p) part.last

    to : (p x q : ℕ) → IsTrue (has_step a p x q) → StepsTo t p q × (letter_of t q ≡ x)
    to p x q h = by ((built.steps p x q).0 h)
      where
        by : IsTableStep m xs p x q → StepsTo t p q × (letter_of t q ≡ x)
        by (b, f, (c, d, l)) =
            let w = table.width in
            let n : length xs ≡ length (positions t) = ap length e in (
              (step_decides t p q).0 (sym (table.each p q (omega arith) (omega arith)) ∙ f),
              sym (l ∙ ap (λ l. get_or l (q - 1) 0) e),
            )

    from : (p x q : ℕ) → StepsTo t p q × (letter_of t q ≡ x) → IsTrue (has_step a p x q)
    from p x q (s, l) =
        let w = table.width in
        let n : length xs ≡ length (positions t) = ap length e in
        let b = steps_from_below t p q s in
        let c = steps_below t p q s in
        let d = steps_to_position t p q s in
        let marked : is_marked m p q ≡ true = table.each p q (omega arith) (omega arith)
        ∙ (step_decides t p q).1 s in
        (built.steps p x q).1
        (omega arith, marked, (d, omega arith, sym (ap (λ l. get_or l (q - 1) 0) e ∙ l)))

none_set : (n p : ℕ) → get_or (replicate n false) p false ≡ false
none_set n p = by (cases_lt p n)
  where
    by : (p < n) ⊎ (n ≤ p) → get_or (replicate n false) p false ≡ false
    by (inl h) = get_or-replicate n p false false h
    by (inr h) = get_or_past (replicate n false) p false (let e : length (replicate n false) ≡ n =
        length-replicate n false in omega arith)

start_set : (n p : ℕ) → 0 < n → get_or (set (replicate n false) 0 true) p false ≡ (0 == p)
start_set n p h = by (eqb_tells 0 p)
  where
    by : (((0 == p) ≡ true) × (0 ≡ p)) ⊎ (((0 == p) ≡ false) × (0 ≢ p))
        → get_or (set (replicate n false) 0 true) p false ≡ (0 == p)
    by (inl (e, f)) =
        ap (λ i. get_or (set (replicate n false) 0 true) i false) (sym f)
        ∙ get_or-set_same (replicate n false) 0 true false (let e : length (replicate n false) ≡ n =
        length-replicate n false in omega arith) ∙ sym e
    by (inr (e, f)) = get_or-set_other (replicate n false) 0 p true false (λ g. f (sym g))
        ∙ none_set n p ∙ sym e

-- the automaton that gains its initial state, its final states and its steps
pub built_from : (n k : ℕ) (he : Bool) (last : List ℕ) (table : Table) (xs : List ℕ)
    (a b c d : Automaton) → a ≡ with_initial (bare n k) 0 → HasFinals a b (λ p. he && (0 == p))
    → HasFinals b c (has last) →
    HasGrown c d (IsEarlyStep table xs k) → n ≡ length xs + 1 → All (λ x. x < k) xs
    → IsSized d → IsInOrder d → IsBuilt he last table xs k d
built_from n k he last table xs a b c d e f g h w below sized ordered = record {
  states = h.states ∙ g.states ∙ f.states ∙ ap (λ (m : Automaton). m.states) e ∙ w;
  letters = h.letters ∙ g.letters ∙ f.letters ∙ ap (λ (m : Automaton). m.letters) e;
  initial = λ p.
      ap (λ l. get_or l p false) (h.initial ∙ g.initial ∙ f.initial
      ∙ ap (λ (m : Automaton). m.initial) e) ∙ start_set n p (omega arith);
  finals = λ p.
      ap (λ l. get_or l p false) h.finals ∙ g.finals p ∙ ap (λ r. r || has last p) (f.finals p)
      ∙ ap (λ r. (r || (he && (0 == p))) || has last p) (ap (λ (m : Automaton). is_final m p) e
      ∙ none_set n p);
  steps = λ p x q. (to p x q, from p x q);
  sized = sized;
  ordered = ordered;
  plain = h.moves ∙ g.moves ∙ f.moves ∙ ap (λ (m : Automaton). m.moves) e;
}
  where
    none : (p x q : ℕ) → IsTrue (has_step c p x q) → ⊥
    none p x q i =
        let s : c.steps ≡ [] = g.steps ∙ f.steps ∙ ap (λ (m : Automaton). m.steps) e in
        let j : list_any (is_step p x q) [] ≡ true = sym (ap (list_any (is_step p x q)) s) ∙ i in
        let l : false ≡ true = j in cc

    to : (p x q : ℕ) → IsTrue (has_step d p x q) → IsTableStep table xs p x q
    to p x q i = by ((h.steps p x q).0 i)
      where
        by : IsTrue (has_step c p x q) ⊎ IsEarlyStep table xs k p x q → IsTableStep table xs p x q
        by (inl j) = absurd (none p x q j)
        by (inr (l, j)) = j

    from : (p x q : ℕ) → IsTableStep table xs p x q → IsTrue (has_step d p x q)
    from p x q (i, j, (l, m, e)) =
        let small : get_or xs (q - 1) 0 < k =
        All-get_or (λ x. x < k) xs (q - 1) 0 (omega arith) below in
        (h.steps p x q).1 (inr (omega arith, (i, j, (l, m, e))))
