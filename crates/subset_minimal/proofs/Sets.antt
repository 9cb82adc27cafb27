-- Rows of marks that words lead to, and the states that words reach.
use Rattle.std.proofs.Common.{◌≡◌, ℕ, ◌+◌, ◌<◌, ◌≤◌, ◌↔◌, ◌||◌, inl, inr, Bool, true, false, IsTrue, List, [], ◌∷◌, ◌++◌, length, replicate, ap, sym, subst, ◌∙◌, arith}
use Rattle.std.specs.List.{list_any}
use Rattle.std.specs.Cmp.{both_ways as equal_tests}
use Rattle.std.proofs.lemmas.Bool.{both_ways, cases_lt, or_cases}
use Rattle.std.proofs.Math.Bool.{true-or, or-true}
use Rattle.std.proofs.lemmas.List.{ext_get_or, get_or-replicate, length-replicate}
use Rattle.std.proofs.lemmas.List.FromFn.{length-map-range_with_len, get_or-map-range_with_len}
use Rattle.std.proofs.lemmas.List.Folds.{Any-from_list_any, list_any_at}
use Rattle.std.proofs.lemmas.Grind.{common_steps}
use Rattle.language_theory.specs.Automaton.{Automaton, IsAutomaton, is_marked, is_step, has_step, Path, stay, step, IsReached, SameSubset, Accepts}
use Rattle.language_theory.specs.Congruence.{moved}
use Rattle.language_theory.proofs.Congruences.{moved_append}
use Rattle.language_theory.proofs.Automata.{path_steps, path_stays, accepts_reached, reached_within}
use Rattle.subset_minimal.specs.Subsets.{comes_from, successor, set_of, HasFinal}
use Rattle.automata.specs.Nfa.{IsRow}
use Rattle.number_set.specs.Marks.{HasGained}

-- ---- one letter

pub successor_long : (m : Automaton) (marks : List Bool) (a : ℕ)
    → length (successor m marks a) ≡ m.states
unfolding successor
successor_long m marks a = length-map-range_with_len _ 0 m.states

successor_at : (m : Automaton) (marks : List Bool) (a q : ℕ) → q < m.states
    → is_marked (successor m marks a) q ≡ list_any (comes_from marks a q) m.steps
unfolding successor
successor_at m marks a q h = get_or-map-range_with_len
    (λ q. list_any (comes_from marks a q) m.steps) 0 m.states q q false h (omega arith)

-- a marked step from a state to q is a step to q
comes_from-step : (marks : List Bool) (a q : ℕ) (s : ℕ × ℕ × ℕ) → comes_from marks a q s ≡ true
    → (is_marked marks s.0 ≡ true) × (is_step s.0 a q s ≡ true)
comes_from-step marks a q s h = grind (arith, common_steps)

step-comes_from : (marks : List Bool) (p a q : ℕ) (s : ℕ × ℕ × ℕ) → is_marked marks p ≡ true
    → is_step p a q s ≡ true → comes_from marks a q s ≡ true
step-comes_from marks p a q s h k = grind (arith, common_steps)

-- the marks of the next set are the targets of the marked states
pub successor_marks : (m : Automaton) (marks : List Bool) (a q : ℕ) → IsAutomaton m → q < m.states
    → IsTrue (is_marked (successor m marks a) q)
    ↔ ((p : ℕ) × (p < m.states) × IsTrue (is_marked marks p) × IsTrue (has_step m p a q))
successor_marks m marks a q good hq = (to, from)
  where
    to : IsTrue (is_marked (successor m marks a) q)
        → (p : ℕ) × (p < m.states) × IsTrue (is_marked marks p) × IsTrue (has_step m p a q)
    to h =
        let (i, s, within, at, comes) = Any-from_list_any (comes_from marks a q) m.steps
        (sym (successor_at m marks a q hq) ∙ h) in
        let (marked, leads) = comes_from-step marks a q s comes in
        let bound : s.0 < m.states =
        subst (λ (t : ℕ × ℕ × ℕ). t.0 < m.states) at (good.from i s within) in (
          s.0,
          bound,
          marked,
          list_any_at (is_step s.0 a q) m.steps i s within (ap (is_step s.0 a q) at ∙ leads),
        )

    from : (p : ℕ) × (p < m.states) × IsTrue (is_marked marks p) × IsTrue (has_step m p a q)
        → IsTrue (is_marked (successor m marks a) q)
    from (p, hp, marked, found) =
        let (i, s, within, at, leads) = Any-from_list_any (is_step p a q) m.steps found in
        successor_at m marks a q hq ∙ list_any_at (comes_from marks a q) m.steps i s within
        (ap (comes_from marks a q) at ∙ step-comes_from marks p a q s marked leads)

-- ---- words

pub moved_long : (m : Automaton) (marks : List Bool) (w : List ℕ) → length marks ≡ m.states
    → length (moved (successor m) marks w) ≡ m.states
moved_long m marks [] h = h
moved_long m marks (a ∷ w) h = moved_long m (successor m marks a) w (successor_long m marks a)

pub set_of_last : (m : Automaton) (w : List ℕ) (a : ℕ)
    → set_of m (w ++ a ∷ []) ≡ successor m (set_of m w) a
set_of_last m w a = moved_append (successor m) m.initial w (a ∷ [])

-- without empty moves the marks are those of the states to which the word leads from marked states
moved_marks : (m : Automaton) (marks : List Bool) (w : List ℕ) (r : ℕ) → m.moves ≡ []
    → IsAutomaton m → r < m.states → IsTrue (is_marked (moved (successor m) marks w) r)
    ↔ ((p : ℕ) × (p < m.states) × IsTrue (is_marked marks p) × Path m p w r)
moved_marks m marks [] r none good hr = (
  λ h. (r, hr, h, stay),
  λ x. let (p, hp, marked, path) = x in
      subst (λ q. IsTrue (is_marked marks q)) (path_stays m none path) marked,
)
moved_marks m marks (a ∷ w) r none good hr = let rest =
    moved_marks m (successor m marks a) w r none good hr in (to rest.0, from rest.1)
  where
    to : (IsTrue (is_marked (moved (successor m) (successor m marks a) w) r)
        → (q : ℕ) × (q < m.states) × IsTrue (is_marked (successor m marks a) q) × Path m q w r)
        → IsTrue (is_marked (moved (successor m) (successor m marks a) w) r)
        → (p : ℕ) × (p < m.states) × IsTrue (is_marked marks p) × Path m p (a ∷ w) r
    to rest h =
        let (q, hq, next, path) = rest h in
        let (p, hp, marked, found) = (successor_marks m marks a q good hq).0 next in
        (p, hp, marked, step (hq, found) path)

    from : ((q : ℕ) × (q < m.states) × IsTrue (is_marked (successor m marks a) q) × Path m q w r
        → IsTrue (is_marked (moved (successor m) (successor m marks a) w) r))
        → (p : ℕ) × (p < m.states) × IsTrue (is_marked marks p) × Path m p (a ∷ w) r
        → IsTrue (is_marked (moved (successor m) (successor m marks a) w) r)
    from rest (p, hp, marked, path) =
        let (q, (hq, found), more) = path_steps m none path in
        rest (q, hq, (successor_marks m marks a q good hq).1 (p, hp, marked, found), more)

pub set_of_long : (m : Automaton) (w : List ℕ) → IsAutomaton m → length (set_of m w) ≡ m.states
set_of_long m w good = moved_long m m.initial w good.initial

-- the set of a word has the states that the word reaches
pub set_of_marks : (m : Automaton) (w : List ℕ) (r : ℕ) → m.moves ≡ []
    → IsAutomaton m → r < m.states
    → IsTrue (is_marked (set_of m w) r) ↔ IsReached m w r
set_of_marks m w r none good hr = (
  λ h. let (p, hp, marked, leads) =
      (moved_marks m m.initial w r none good hr).0 h in (p, (hp, marked), leads),
  λ x. let (p, (hp, marked), leads) =
      x in (moved_marks m m.initial w r none good hr).1 (p, hp, marked, leads),
)

-- words reach the same states exactly where their sets are equal
pub same_sets : (m : Automaton) (u v : List ℕ) → m.moves ≡ [] → IsAutomaton m
    → (set_of m u ≡ set_of m v) ↔ SameSubset m u v
same_sets m u v none good = (λ e r. (half u v e r, half v u (sym e) r), from)
  where
    half : (u v : List ℕ) → set_of m u ≡ set_of m v → (r : ℕ) → IsReached m u r → IsReached m v r
    half u v e r h =
        let hr = reached_within m u r h in
        (set_of_marks m v r none good hr).0
        (subst (λ marks. IsTrue (is_marked marks r)) e ((set_of_marks m u r none good hr).1 h))

    from : SameSubset m u v → set_of m u ≡ set_of m v
    from same = ext_get_or false (set_of m u) (set_of m v)
        (set_of_long m u good ∙ sym (set_of_long m v good)) (λ r l.
        let hr : r < m.states = subst (λ n. r < n) (set_of_long m u good) l in
        let a = set_of_marks m u r none good hr in
        let b = set_of_marks m v r none good hr in
        equal_tests (is_marked (set_of m u) r) (is_marked (set_of m v) r)
        (λ h. b.1 ((same r).0 (a.0 h))) (λ h. a.1 ((same r).1 (b.0 h))))

-- a word is accepted exactly where its set has a final state
pub accepts_by_set : (m : Automaton) (w : List ℕ) → m.moves ≡ [] → IsAutomaton m
    → HasFinal m (set_of m w) ↔ Accepts m w
accepts_by_set m w none good = (
  λ h. let (r, hr, marked, final) =
      h in (accepts_reached m w).1 (r, (set_of_marks m w r none good hr).0 marked, final),
  λ h. let (r, reached, final) = (accepts_reached m w).0 h in let hr =
      reached_within m w r reached in (r, hr, (set_of_marks m w r none good hr).1 reached, final),
)

-- ---- a set that is made state by state

-- the marked states are those to which steps lead from the members below n
pub record AreTargetsBelow (m : Automaton) (members : List Bool) (a n : ℕ)
    (marks : List Bool) : Type 0 where
  pub long : length marks ≡ m.states
  pub each : (q : ℕ) → q < m.states → IsTrue (is_marked marks q)
      ↔ ((p : ℕ) × (p < n) × IsTrue (is_marked members p) × IsTrue (has_step m p a q))

pub none_below : (m : Automaton) (members : List Bool) (a n : ℕ) → n ≡ m.states
    → AreTargetsBelow m members a 0 (replicate n false)
none_below m members a n e = record {
  long = length-replicate n false ∙ e;
  each = λ q h. (
    λ t. absurd (both_ways (is_marked (replicate n false) q)
        (get_or-replicate n q false false (rw e h)) t),
    λ x. let (p, l, _, _) =
        x in absurd (omega arith),
  );
}

-- a member adds the states to which its steps lead
pub more_below : (m : Automaton) (members : List Bool) (a n : ℕ) (old row new : List Bool)
    → IsTrue (is_marked members n) → IsRow m n a row → HasGained old new m.states (λ q. is_marked row q)
    → AreTargetsBelow m members a n old → AreTargetsBelow m members a (n + 1) new
more_below m members a n old row new marked here added h =
    record { long = added.long; each = λ q l. (to q l, from q l) }
  where
    mark : (q : ℕ) → is_marked new q ≡ (is_marked old q || has_step m n a q)
    mark q = added.each q ∙ ap (λ (b : Bool). is_marked old q || b) (here.each q)

    to : (q : ℕ) → q < m.states → IsTrue (is_marked new q)
        → (p : ℕ) × (p < n + 1) × IsTrue (is_marked members p) × IsTrue (has_step m p a q)
    to q l t = elim (or_cases (is_marked old q) (has_step m n a q) (sym (mark q) ∙ t)) [
      | inl o ↦ let (p, lp, s, c) = (h.each q l).0 o in (p, omega arith, s, c)
      | inr c ↦ (n, omega arith, marked, c)
    ]

    from : (q : ℕ) → q < m.states → (p : ℕ) × (p < n + 1) × IsTrue (is_marked members p)
        × IsTrue (has_step m p a q) → IsTrue (is_marked new q)
    from q l (p, lp, s, c) = elim (cases_lt p n) [
      | inl i ↦ mark q ∙ rw ((h.each q l).1 (p, i, s, c)) (true-or (has_step m n a q))
      | inr i ↦
          let e : p ≡ n = omega arith in
          let last : has_step m n a q ≡ true = subst (λ p. IsTrue (has_step m p a q)) e c in
          mark q ∙ rw last (or-true (is_marked old q))
    ]

-- states that are no members add nothing
pub skipped_below : (m : Automaton) (members : List Bool) (a n k : ℕ) (marks : List Bool) → n ≤ k
    → ((q : ℕ) → n ≤ q → q < k → is_marked members q ≡ false) → AreTargetsBelow m members a n marks
    → AreTargetsBelow m members a k marks
skipped_below m members a n k marks g bare h =
    record { long = h.long; each = λ q l. (to q l, from q l) }
  where
    to : (q : ℕ) → q < m.states → IsTrue (is_marked marks q)
        → (p : ℕ) × (p < k) × IsTrue (is_marked members p) × IsTrue (has_step m p a q)
    to q l t = let (p, lp, s, c) = (h.each q l).0 t in (p, omega arith, s, c)

    from : (q : ℕ) → q < m.states → (p : ℕ) × (p < k) × IsTrue (is_marked members p)
        × IsTrue (has_step m p a q) → IsTrue (is_marked marks q)
    from q l (p, lp, s, c) = elim (cases_lt p n) [
      | inl i ↦ (h.each q l).1 (p, i, s, c)
      | inr i ↦ absurd (both_ways (is_marked members p) (bare p i lp) s)
    ]

-- with all states the set is the successor
pub all_below : (m : Automaton) (members : List Bool) (a : ℕ) (marks : List Bool) → IsAutomaton m
    → AreTargetsBelow m members a m.states marks → marks ≡ successor m members a
all_below m members a marks good h = ext_get_or false marks (successor m members a)
    (h.long ∙ sym (successor_long m members a)) (λ q l.
    let hq : q < m.states = subst (λ n. q < n) h.long l in
    let s = successor_marks m members a q good hq in
    equal_tests (is_marked marks q) (is_marked (successor m members a) q)
    (λ t. let (p, lp, i, c) = (h.each q hq).0 t in s.1 (p, lp, i, c))
    (λ t. let (p, lp, i, f) = s.0 t in (h.each q hq).1 (p, lp, i, f)))

-- from a number on no state is a member
pub all_walked : (m : Automaton) (members : List Bool) (a from : ℕ) (marks : List Bool)
    → IsAutomaton m → from ≤ m.states
    → ((q : ℕ) → from ≤ q → is_marked members q ≡ false) → AreTargetsBelow m members a from marks
    → marks ≡ successor m members a
all_walked m members a from marks good l none h =
    all_below m members a marks good
    (skipped_below m members a from m.states marks l (λ q g _. none q g) h)
