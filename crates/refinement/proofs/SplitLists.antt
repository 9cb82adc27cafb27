-- Each node is among those that came into its class.
use Rattle.std.proofs.Common.{◌≡◌, ℕ, ◌+◌, ◌<◌, ◌⊎◌, inl, inr, Bool, true, false, List, [], ◌∷◌, ◌++◌, length, slice_index, get_or, set, take, ap, sym, subst, ◌∙◌, arith}
use Rattle.std.specs.Prelude.{All}
use Rattle.std.specs.List.{Contains}
use Rattle.std.proofs.lemmas.List.{get_or_default, take_more, length_push, get_or-set_same, get_or-set_other, get_or_append_left}
use Rattle.std.proofs.lemmas.List.Elements.{Contains-append_left, Contains-push, Contains-push_cases, All-push, All-contains, All-get_or, All-weaker, All-contains_itself}
use Rattle.language_theory.proofs.Numbers.{equal_or_not}
use Rattle.language_theory.specs.Words.{word_at}
use Rattle.language_theory.specs.Automaton.{is_marked}
use Rattle.language_theory.specs.ShortlexGraph.{Graph}
use Rattle.refinement.specs.SplittingState.{IsListed}
use Rattle.refinement.specs.Splitting.{IsClosed, AreMembers, ArePicked, AreMarked}

pub pushed_length : {X : Type 0} (xs ys : List X) (x : X) → ys ≡ xs ++ x ∷ []
    → length ys ≡ length xs + 1
pushed_length xs ys x e = rw e (length_push xs x)

pub All-pushed : {X : Type 0} (P : X → Type 0) (xs ys : List X) (x : X) → ys ≡ xs ++ x ∷ []
    → All P xs → P x → All P ys
All-pushed P xs ys x e h p = rw e (All-push P xs x h p)

-- a node comes into a class
pub listed_put : (size node class : ℕ) (classes list : List ℕ) (members : List (List ℕ))
    → IsListed size classes members → node < length classes → class < length members
    → list ≡ word_at members class ++ node ∷ []
    → IsListed size (set classes node class) (set members class list)
listed_put size node class classes list members h hn hc e =
    record {
      at = λ i hi. elim (equal_or_not i node) [
        | inl s ↦ (let at : slice_index (set classes node class) i ≡ class =
            ap (λ (k : ℕ). slice_index (set classes node class) k) s
            ∙ get_or-set_same classes node class 0 hn in
            rw (at, get_or-set_same members class list [] hc, e)
            (subst (λ (k : ℕ). Contains (word_at members class ++ node ∷ []) k) (sym s)
            (Contains-push (word_at members class) node)))
        | inr n ↦ rw (get_or-set_other classes node i class 0 n)
            (other i (slice_index classes i) (h.at i hi)
            (equal_or_not (slice_index classes i) class))
      ];
    }
  where
    other : (i c : ℕ) → Contains (word_at members c) i → (c ≡ class) ⊎ ¬ (c ≡ class)
        → Contains (word_at (set members class list) c) i
    other i c k (inl s) = rw (s, get_or-set_same members class list [] hc, e)
        (Contains-append_left (word_at members class) (node ∷ []) i
        (subst (λ (d : ℕ). Contains (word_at members d) i) s k))
    other i c k (inr n) = rw (get_or-set_other members class c list [] n) k

-- those that have left a class are forgotten
pub listed_forget : (size class : ℕ) (classes list : List ℕ) (members : List (List ℕ))
    → IsListed size classes members → class < length members → AreMembers size classes class list
    → IsListed size classes (set members class list)
listed_forget size class classes list members h hc m =
    record { at = λ i hi. by i hi (equal_or_not (slice_index classes i) class) }
  where
    by : (i : ℕ) → i < size → (slice_index classes i ≡ class) ⊎ ¬ (slice_index classes i ≡ class)
        → Contains (word_at (set members class list) (slice_index classes i)) i
    by i hi (inl s) = rw (s, get_or-set_same members class list [] hc) ((m.exact i).1 (hi, s))
    by i hi (inr n) =
        rw (get_or-set_other members class (slice_index classes i) list [] n) (h.at i hi)

-- a class without nodes is added
pub listed_open : (size : ℕ) (classes list : List ℕ) (members more : List (List ℕ))
    → IsListed size classes members → length classes ≡ size → All (λ c. c < length members) classes
    → more ≡ members ++ list ∷ [] → IsListed size classes more
listed_open size classes list members more h long w e =
    rw e (record {
      at = λ i hi. rw (get_or_append_left members (list ∷ []) []
          (slice_index classes i)
          (All-get_or (λ c. c < length members) classes i 0 (omega (arith, long)) w)) (h.at i hi);
    })

-- all nodes are in one class
pub listed_new : (size : ℕ) (classes all : List ℕ) (members : List (List ℕ))
    → ((i : ℕ) → i < size → slice_index classes i ≡ 0) → length all ≡ size
    → ((i : ℕ) → i < size → slice_index all i ≡ i) → members ≡ [] ++ all ∷ []
    → IsListed size classes members
listed_new size classes all members zeros long each e =
    rw e (record { at = λ i hi. rw (zeros i hi) (i, omega (arith, long), each' i hi) })
  where
    each' : (i : ℕ) → i < size → get_or all i i ≡ i
    each' i hi = get_or_default all i i 0 (omega (arith, long)) ∙ each i hi

pub picked_in : (size class n x : ℕ) (classes nodes picked more : List ℕ)
    → ArePicked size classes class (take n nodes) picked → n < length nodes
    → x ≡ slice_index nodes n
    → x < size → slice_index classes x ≡ class → more ≡ picked ++ x ∷ []
    → ArePicked size classes class (take (n + 1) nodes) more
picked_in size class n x classes nodes picked more h l e hx here f =
    rw (f, take_more nodes n 0 l) (record {
      within = All-push (λ i. i < size) picked x h.within hx;
      exact = λ i. (
        λ k. elim (Contains-push_cases picked x i k) [
          | inl o ↦ (let p = (h.exact i).0 o in
              (Contains-append_left (take n nodes) (slice_index nodes n ∷ []) i p.0, p.1))
          | inr o ↦ (
            subst (λ (j : ℕ). Contains (take n nodes ++ slice_index nodes n ∷ []) j) (sym e ∙ o)
                (Contains-push (take n nodes) (slice_index nodes n)),
            ap (λ (j : ℕ). slice_index classes j) (sym o) ∙ here,
          )
        ],
        λ p. elim (Contains-push_cases (take n nodes) (slice_index nodes n) i p.0) [
          | inl o ↦ Contains-append_left picked (x ∷ []) i ((h.exact i).1 (o, p.1))
          | inr o ↦ subst (λ (j : ℕ). Contains (picked ++ x ∷ []) j) (e ∙ o)
              (Contains-push picked x)
        ],
      );
    })

pub picked_out : (size class n x : ℕ) (classes nodes picked more : List ℕ)
    → ArePicked size classes class (take n nodes) picked → n < length nodes
    → x ≡ slice_index nodes n
    → ¬ (slice_index classes x ≡ class) → more ≡ picked
    → ArePicked size classes class (take (n + 1) nodes) more
picked_out size class n x classes nodes picked more h l e other f =
    rw (f, take_more nodes n 0 l) (record {
      within = h.within;
      exact = λ i. (
        λ k. let p = (h.exact i).0 k in
            (Contains-append_left (take n nodes) (slice_index nodes n ∷ []) i p.0, p.1),
        λ p. elim (Contains-push_cases (take n nodes) (slice_index nodes n) i p.0) [
          | inl o ↦ (h.exact i).1 (o, p.1)
          | inr o ↦ absurd (other (ap (λ (j : ℕ). slice_index classes j) (e ∙ o) ∙ p.1))
        ],
      );
    })

pub picked_members : (size class : ℕ) (classes list picked : List ℕ) (members : List (List ℕ))
    → IsListed size classes members → All (λ i. i < size) list → list ≡ word_at members class
    → ArePicked size classes class list picked → AreMembers size classes class picked
picked_members size class classes list picked members h w e p = record {
  within = p.within;
  exact = λ i. (
    λ k. let q = (p.exact i).0 k in (All-contains (λ i. i < size) list i w q.0, q.1),
    λ q. (p.exact i).1
        (rw e (subst (λ (c : ℕ). Contains (word_at members c) i) q.1 (h.at i q.0)), q.1),
  );
}

pub marked_in : (marks : List Bool) (n : ℕ) (marked more : List ℕ) → AreMarked marks n marked
    → is_marked marks n ≡ true → more ≡ marked ++ n ∷ [] → AreMarked marks (n + 1) more
marked_in marks n marked more h e f =
    rw f (record {
      exact = λ i. (
        λ k. elim (Contains-push_cases marked n i k) [
          | inl o ↦ (let p = (h.exact i).0 o in (omega (arith, p.0), p.1))
          | inr o ↦ (omega arith, ap (λ (j : ℕ). is_marked marks j) (sym o) ∙ e)
        ],
        λ p. elim (equal_or_not n i) [
          | inl s ↦ subst (λ (j : ℕ). Contains (marked ++ n ∷ []) j) s (Contains-push marked n)
          | inr s ↦ Contains-append_left marked (n ∷ []) i ((h.exact i).1 (lower i p.0 s, p.1))
        ],
      );
    })
  where
    lower : (i : ℕ) → i < n + 1 → ¬ (n ≡ i) → i < n
    lower i hi s = omega (arith, s)

pub marked_out : (marks : List Bool) (n : ℕ) (marked more : List ℕ) → AreMarked marks n marked
    → is_marked marks n ≡ false → more ≡ marked → AreMarked marks (n + 1) more
marked_out marks n marked more h e f =
    rw f (record {
      exact = λ i. (
        λ k. let p = (h.exact i).0 k in (omega (arith, p.0), p.1),
        λ p. elim (equal_or_not n i) [
          | inl s ↦ (let no : is_marked marks i ≡ false = ap (λ (j : ℕ). is_marked marks j) (sym s)
              ∙ e in
              absurd (cc (no, p.1)))
          | inr s ↦ (h.exact i).1 (lower i p.0 s, p.1)
        ],
      );
    })
  where
    lower : (i : ℕ) → i < n + 1 → ¬ (n ≡ i) → i < n
    lower i hi s = omega (arith, s)

pub marked_closed : (g : Graph) (marks : List Bool) (marked : List ℕ)
    → AreMarked marks g.size marked → IsClosed g marks marked
marked_closed g marks marked h = record {
  closed = λ i j hi hj same k.
      let p = (h.exact i).0 k in (h.exact j).1 (hj, sym (same [] tt) ∙ p.1);
}

pub marked_within : (marks : List Bool) (n : ℕ) (marked : List ℕ) → AreMarked marks n marked
    → All (λ i. i < n) marked
marked_within marks n marked h = All-weaker (Contains marked) (λ i. i < n)
    (λ i k. ((h.exact i).0 k).0) marked (All-contains_itself marked)
