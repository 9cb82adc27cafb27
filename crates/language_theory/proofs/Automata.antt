-- Paths of automata: words put together, lists of states, the states that a word reaches, and empty
-- moves taken in.
use Rattle.std.proofs.Common.{◌≡◌, ℕ, zero, suc, ◌+◌, ◌<◌, ◌↔◌, Bool, false, IsTrue, List, [], ◌∷◌, ◌++◌, length, slice_index, refl, sym, subst, arith}
use Rattle.std.specs.Prelude.{slice_index_or}
use Rattle.std.specs.List.{list_any}
use Rattle.std.proofs.lemmas.Bool.{both_ways}
use Rattle.language_theory.specs.Automaton.{Automaton, is_final, is_move, IsTarget, IsMove, Path, stay, step, move, AcceptsFrom, Accepts, IsReached, SameSubset, HasMovesTakenIn}
use Rattle.language_theory.specs.Runs.{IsRun}
use Rattle.language_theory.specs.Congruence.{IsRightCongruence}
use Rattle.language_theory.specs.Nerode.{Nerode}
use Rattle.language_theory.proofs.Congruences.{both_directions, other_direction}

-- ---- words put together

-- a path goes on where another ends
pub path_joined : {m : Automaton} {p q r : ℕ} {u v : List ℕ} → Path m p u q → Path m q v r
    → Path m p (u ++ v) r
path_joined stay g = g
path_joined (step t h) g = step t (path_joined h g)
path_joined (move t h) g = move t (path_joined h g)

path_split : {m : Automaton} {p r : ℕ} {w : List ℕ} → Path m p w r → (u v : List ℕ) → w ≡ u ++ v
    → (q : ℕ) × Path m p u q × Path m q v r
path_split {m} {p} {r} h [] v e = (p, stay, subst (λ (x : List ℕ). Path m p x r) e h)
path_split stay (a ∷ u) v e = absurd (cc)
path_split {m} {p} (step {a = b} {q = s} {w = x} t h) (a ∷ u) v e =
    let d : b ≡ a = cc in
    let k : x ≡ u ++ v = cc in
    let (q, f, g) = path_split h u v k in
    (q, step (subst (λ (c : ℕ). IsTarget m p c s) d t) f, g)
path_split (move t h) (a ∷ u) v e = let (q, f, g) = path_split h (a ∷ u) v e in (q, move t f, g)

pub path_append : (m : Automaton) (p : ℕ) (u v : List ℕ) (r : ℕ) → Path m p (u ++ v) r
    ↔ ((q : ℕ) × Path m p u q × Path m q v r)
path_append m p u v r = (λ h. path_split h u v refl, λ h. let (q, f, g) = h in path_joined f g)

pub accepts_append : (m : Automaton) (u v : List ℕ) (p : ℕ) → AcceptsFrom m (u ++ v) p
    ↔ ((q : ℕ) × Path m p u q × AcceptsFrom m v q)
accepts_append m u v p = (
  λ h. let (r, l, final) = h in let (q, f, g) = (path_append m p u v r).0 l in (q, f, (r, g, final)),
  λ h. let (q, f, (r, g, final)) = h in (r, path_joined f g, final),
)

pub path_within : {m : Automaton} {p r : ℕ} {w : List ℕ} → p < m.states → Path m p w r
    → r < m.states
path_within l stay = l
path_within l (step t h) = path_within t.0 h
path_within l (move t h) = path_within t.0 h

-- ---- paths by their first letter

-- a path with a letter goes by empty moves to the state where it takes the step
pub path_first : {m : Automaton} {p a r : ℕ} {w : List ℕ} → Path m p (a ∷ w) r
    → (q s : ℕ) × Path m p [] q × IsTarget m q a s × Path m s w r
path_first {p = p} (step {q = s} t h) = (p, s, stay, t, h)
path_first (move t h) = let (q, s, f, g, k) = path_first h in (q, s, move t f, g, k)

module _ (m : Automaton) (none : m.moves ≡ []) where
  no_move : (p q : ℕ) → IsMove m p q → ⊥
  no_move p q t = both_ways (list_any (is_move p q) m.moves)
      (subst (λ (moves : List (ℕ × ℕ)). list_any (is_move p q) moves ≡ false) (sym none) refl)
      t.1

  -- without empty moves it begins with the step
  pub path_steps : {p a r : ℕ} {w : List ℕ} → Path m p (a ∷ w) r
      → (q : ℕ) × IsTarget m p a q × Path m q w r
  path_steps (step {q = q} t h) = (q, t, h)
  path_steps {p = p} (move {q = q} t h) = absurd (no_move p q t)

  -- and a path with no letter stays
  pub path_stays : {p r : ℕ} → Path m p [] r → p ≡ r
  path_stays stay = refl
  path_stays {p = p} (move {q = q} t h) = absurd (no_move p q t)

  pub path_by_none : (p r : ℕ) → Path m p [] r ↔ (p ≡ r)
  path_by_none p r = (path_stays, λ e. subst (λ (q : ℕ). Path m p [] q) e stay)

  pub path_by_steps : (p a : ℕ) (w : List ℕ) (r : ℕ) → Path m p (a ∷ w) r
      ↔ ((q : ℕ) × IsTarget m p a q × Path m q w r)
  path_by_steps p a w r = (path_steps, λ x. let (q, t, h) = x in step t h)

  -- so acceptance is that by steps alone
  pub accepts_none : (p : ℕ) → AcceptsFrom m [] p ↔ IsTrue (is_final m p)
  accepts_none p = (
    λ x. let (r, h, final) = x in subst (λ (q : ℕ). IsTrue (is_final m q)) (sym (path_stays h)) final,
    λ final. (p, stay, final),
  )

  pub accepts_letter : (p a : ℕ) (w : List ℕ) → AcceptsFrom m (a ∷ w) p
      ↔ ((q : ℕ) × IsTarget m p a q × AcceptsFrom m w q)
  accepts_letter p a w = (
    λ x. let (r, h, final) = x in let (q, t, rest) = path_steps h in (q, t, (r, rest, final)),
    λ x. let (q, t, (r, rest, final)) = x in (r, step t rest, final),
  )

-- ---- the states that a word reaches

pub reached_within : (m : Automaton) (w : List ℕ) (r : ℕ) → IsReached m w r → r < m.states
reached_within m w r (p, i, h) = path_within i.0 h

pub reached_append : (m : Automaton) (u v : List ℕ) (r : ℕ) → IsReached m (u ++ v) r
    ↔ ((q : ℕ) × IsReached m u q × Path m q v r)
reached_append m u v r = (
  λ h. let (p, i, l) = h in let (q, f, g) = (path_append m p u v r).0 l in (q, (p, i, f), g),
  λ h. let (q, (p, i, f), g) = h in (p, i, (path_append m p u v r).1 (q, f, g)),
)

pub accepts_reached : (m : Automaton) (w : List ℕ) → Accepts m w
    ↔ ((r : ℕ) × IsReached m w r × IsTrue (is_final m r))
accepts_reached m w = (
  λ h. let (p, i, (r, l, final)) = h in (r, (p, i, l), final),
  λ h. let (r, (p, i, l), final) = h in (p, i, (r, l, final)),
)

pub accepts_behind : (m : Automaton) (u v : List ℕ) → Accepts m (u ++ v)
    ↔ ((q : ℕ) × IsReached m u q × AcceptsFrom m v q)
accepts_behind m u v = (
  λ h. let (p, i, l) = h in let (q, f, g) = (accepts_append m u v p).0 l in (q, (p, i, f), g),
  λ h. let (q, (p, i, f), g) = h in (p, i, (accepts_append m u v p).1 (q, f, g)),
)

-- to reach the same states is a right congruence
pub same_subset_right : (k : ℕ) (m : Automaton) → IsRightCongruence k (SameSubset m)
same_subset_right k m = record {
  equivalence = record {
    refl = λ u o r. (λ h. h, λ h. h);
    symm =
        λ u v ou ov s r. other_direction (s r);
    trans =
        λ u v w ou ov ow s t r. both_directions (s r) (t r);
  };
  right = λ u v w ou ov ow s r. (
    λ h. half u v w r (λ q. (s q).0) h,
    λ h. half v u w r (λ q. (s q).1) h,
  );
}
  where
    half : (u v w : List ℕ) (r : ℕ) → ((q : ℕ) → IsReached m u q → IsReached m v q)
        → IsReached m (u ++ w) r → IsReached m (v ++ w) r
    half u v w r s h =
        let (q, f, g) = (reached_append m u w r).0 h in (reached_append m v w r).1 (q, s q f, g)

-- and the same words are accepted behind words that reach the same states
pub same_subset_nerode : (k : ℕ) (m : Automaton) (u v : List ℕ) → SameSubset m u v
    → Nerode k (Accepts m) u v
same_subset_nerode k m u v s w o = (half u v (λ q. (s q).0), half v u (λ q. (s q).1))
  where
    half : (u v : List ℕ) → ((q : ℕ) → IsReached m u q → IsReached m v q) → Accepts m (u ++ w)
        → Accepts m (v ++ w)
    half u v f h =
        let (q, r, g) = (accepts_behind m u w).0 h in (accepts_behind m v w).1 (q, f q r, g)

-- ---- empty moves taken in

module _ (m n : Automaton) (h : HasMovesTakenIn m n) where
  -- a path goes by empty moves to a state from which the other automaton has one with the word
  moves_first : (w : List ℕ) {p r : ℕ} → Path m p w r → (q : ℕ) × Path m p [] q × Path n q w r
  moves_first [] {r = r} f = (r, f, stay)
  moves_first (a ∷ w) f =
      let (q, s, before, t, rest) = path_first f in
      let (x, moves, more) = moves_first w rest in
      (q, before, step ((h.steps q a x).1 (s, t, moves)) more)

  path_back : (w : List ℕ) {q r : ℕ} → Path n q w r → Path m q w r
  path_back [] {q = q} f = subst (λ x. Path m q [] x) (path_stays n h.moves f) stay
  path_back (a ∷ w) {q = q} f =
      let (x, t, rest) = path_steps n h.moves f in
      let (s, u, moves) = (h.steps q a x).0 t in
      step u (path_joined moves (path_back w rest))

  -- each word leads to the same states in both
  pub taken_in_reached : (w : List ℕ) (r : ℕ) → IsReached m w r ↔ IsReached n w r
  taken_in_reached w r = (
    λ x. let (i, first, f) = x in let (q, moves, g) = moves_first w f in
        (q, (h.initial q).1 (i, first, moves), g),
    λ x. let (q, first, g) = x in let (i, begin, moves) = (h.initial q).0 first in
        (i, begin, path_joined moves (path_back w g)),
  )

  pub taken_in_subset : (u v : List ℕ) → SameSubset m u v ↔ SameSubset n u v
  taken_in_subset u v = (
    λ s r. both_directions (other_direction (taken_in_reached u r))
        (both_directions (s r) (taken_in_reached v r)),
    λ s r. both_directions (taken_in_reached u r)
        (both_directions (s r) (other_direction (taken_in_reached v r))),
  )

  pub taken_in_accepts : (w : List ℕ) → Accepts m w ↔ Accepts n w
  taken_in_accepts w = (
    λ x. let (r, reached, final) = (accepts_reached m w).0 x in
        (accepts_reached n w).1 (r, (taken_in_reached w r).0 reached, final_too r final),
    λ x. let (r, reached, final) = (accepts_reached n w).0 x in
        (accepts_reached m w).1 (r, (taken_in_reached w r).1 reached, final_back r final),
  )
    where
      final_too : (r : ℕ) → IsTrue (is_final m r) → IsTrue (is_final n r)
      final_too r = subst (λ (marks : List Bool). IsTrue (slice_index_or marks r false)) (sym h.finals)

      final_back : (r : ℕ) → IsTrue (is_final n r) → IsTrue (is_final m r)
      final_back r = subst (λ (marks : List Bool). IsTrue (slice_index_or marks r false)) h.finals

-- ---- lists of states, where there are no empty moves

record IsWay (m : Automaton) (w : List ℕ) (p : ℕ) (ps : List ℕ) : Type 0 where
  long : length ps ≡ length w
  steps : (i : ℕ) → i < length w → IsTarget m (slice_index (p ∷ ps) i) (slice_index w i)
      (slice_index ps i)
  last : IsTrue (is_final m (slice_index (p ∷ ps) (length w)))

way_of : (m : Automaton) → m.moves ≡ [] → (w : List ℕ) (p : ℕ) → AcceptsFrom m w p
    → (ps : List ℕ) × IsWay m w p ps
way_of m none [] p (r, h, final) = (
  [],
  record {
    long = refl;
    steps = λ i l. absurd (omega arith);
    last = subst (λ x. IsTrue (is_final m x)) (sym (path_stays m none h)) final;
  },
)
way_of m none (a ∷ w) p (r, h, final) =
    let (q, t, rest) = path_steps m none h in
    let (ps, d) = way_of m none w q (r, rest, final) in
    (q ∷ ps, record { long = (let e = d.long in omega arith); steps = steps q t ps d; last = d.last })
  where
    steps : (q : ℕ) → IsTarget m p a q → (ps : List ℕ) → IsWay m w q ps → (i : ℕ) → i < length (a ∷ w)
        → IsTarget m (slice_index (p ∷ (q ∷ ps)) i) (slice_index (a ∷ w) i) (slice_index (q ∷ ps) i)
    steps q t ps d zero l = t
    steps q t ps d (suc i) l = d.steps i (omega arith)

of_way : (m : Automaton) (w : List ℕ) (p : ℕ) (ps : List ℕ) → IsWay m w p ps → AcceptsFrom m w p
of_way m [] p ps d = (p, stay, d.last)
of_way m (a ∷ w) p [] d = absurd (let e = d.long in omega arith)
of_way m (a ∷ w) p (q ∷ ps) d =
    let (r, rest, final) = of_way m w q ps
    (record {
      long = (let e = d.long in omega arith);
      steps =
          λ i l. d.steps (suc i) (omega arith);
      last = d.last;
    }) in
    (r, step (d.steps 0 (omega arith)) rest, final)

-- acceptance by a list with a state more than the word has letters
pub accepts_by_run : (m : Automaton) → m.moves ≡ [] → (w : List ℕ) → Accepts m w
    ↔ ((states : List ℕ) × IsRun m w states)
accepts_by_run m none w = (to, λ h. let (states, r) = h in from states r)
  where
    to : Accepts m w → (states : List ℕ) × IsRun m w states
    to (p, i, h) =
        let (ps, d) = way_of m none w p h in (
          p ∷ ps,
          record {
            long = (let e = d.long in omega arith);
            first = i;
            steps = λ i l. let e : i + 1 ≡ suc i = omega arith in
                subst (λ n. IsTarget m (slice_index (p ∷ ps) i) (slice_index w i)
                (slice_index (p ∷ ps) n)) (sym e) (d.steps i l);
            last = d.last;
          },
        )

    from : (states : List ℕ) → IsRun m w states → Accepts m w
    from [] r = absurd (let e = r.long in omega arith)
    from (p ∷ ps) r = (
      p,
      r.first,
      of_way m w p ps (record {
        long = (let e = r.long in omega arith);
        steps = λ i l. let e : i + 1 ≡ suc i = omega arith in
            subst (λ n. IsTarget m (slice_index (p ∷ ps) i) (slice_index w i)
            (slice_index (p ∷ ps) n)) e (r.steps i l);
        last = r.last;
      }),
    )
