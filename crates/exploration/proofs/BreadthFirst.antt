-- A breadth-first search stays one when the next target is listed, and a whole one gives a shortlex
-- graph.
use Rattle.std.proofs.Common.{◌≡◌, ℕ, ◌+◌, ◌*◌, ◌<◌, ◌≤◌, ◌⊎◌, inl, inr, List, [], ◌∷◌, ◌++◌, length, refl, ap, sym, subst, ◌∙◌, arith, length-append}
use Rattle.std.specs.Prelude.{slice_index}
use Rattle.std.proofs.lemmas.Bool.{cases_lt}
use Rattle.std.proofs.lemmas.List.{get_or_append_left, get_or_push}
use Rattle.std.proofs.Math.Nat.{mul-le-mul_right}
use Rattle.std.proofs.lemmas.List.Elements.{All-push, All-weaker, All-get_or}
use Rattle.language_theory.specs.Words.{Over, ◌⊏◌, word_at}
use Rattle.language_theory.proofs.Shortlex.{shortlex_append_letters, shortlex_append_last, shortlex_shorter, shortlex_asymm, shortlex_irrefl, over_last}
use Rattle.language_theory.proofs.Graphs.{row_place}
use Rattle.exploration.specs.Search.{IsBreadthFirst}
use Rattle.exploration.proofs.Places.{place_order, row_within, place_before_or_last}

-- the empty word comes before each word with a letter
pub nil_first : (w : List ℕ) (a : ℕ) → [] ⊏ (w ++ a ∷ [])
nil_first w a = shortlex_shorter [] (w ++ a ∷ []) (simp length-append (omega arith))

-- the word that leads to the next target is greater than each word that was found
pub found_before_next : (k : ℕ) (words : List (List ℕ)) (targets : List ℕ) (p a i : ℕ)
    → IsBreadthFirst k words targets → p < length words → length targets ≡ p * k + a → a < k
    → i < length words → word_at words i ⊏ (word_at words p ++ a ∷ [])
found_before_next k words targets p a i h hp e ha hi = by (cases_lt 0 i)
  where
    after : (q b : ℕ) → b < k → (q < p) ⊎ ((q ≡ p) × (b < a))
        → (word_at words q ++ b ∷ []) ⊏ (word_at words p ++ a ∷ [])
    after q b hb (inl l) =
        shortlex_append_letters (word_at words q) (word_at words p) b a (h.rise q p l hp)
    after q b hb (inr l) = subst (λ (n : ℕ). (word_at words q ++ b ∷ [])
        ⊏ (word_at words n ++ a ∷ [])) l.0 (shortlex_append_last (word_at words q) b a l.1)

    by : (0 < i) ⊎ (i ≤ 0) → word_at words i ⊏ (word_at words p ++ a ∷ [])
    by (inl l) =
        let f = h.found i l hi in
        let before : f.0 * k + f.1 < p * k + a = omega (arith, f.3) in
        subst (λ (w : List ℕ). w ⊏ (word_at words p ++ a ∷ [])) (sym f.5)
        (after f.0 f.1 f.2 (place_order f.0 f.1 p a k ha before))
    by (inr l) =
        let z : 0 ≡ i = omega arith in
        subst (λ (n : ℕ). word_at words n ⊏ (word_at words p ++ a ∷ [])) z
        (subst (λ (w : List ℕ). w ⊏ (word_at words p ++ a ∷ [])) (sym h.root)
        (nil_first (word_at words p) a))

-- the next target is a node that was found before
pub search_meets : (k : ℕ) (words : List (List ℕ)) (targets : List ℕ) (p a n : ℕ)
    → IsBreadthFirst k words targets → p < length words → length targets ≡ p * k + a → a < k
    → n < length words → IsBreadthFirst k words (targets ++ n ∷ [])
search_meets k words targets p a n h hp e ha hn = record {
  some = h.some;
  root = h.root;
  over = h.over;
  rise = h.rise;
  found = λ j pos within. let f = h.found j pos within in (
    f.0,
    f.1,
    f.2,
    omega (arith, longer, f.3),
    (get_or_append_left targets (n ∷ []) 0 (f.0 * k + f.1) f.3) ∙ f.4,
    f.5,
  );
  handled = omega (arith, longer, row_place p a (length words) k hp ha);
  within = All-push (λ t. t < length words) targets n h.within hn;
  least = λ q b hb place. least q b hb (place_before_or_last q b p a k targets n hb ha e place);
}
  where
    longer : length (targets ++ n ∷ []) ≡ length targets + 1
    longer = simp length-append

    at : (i : ℕ) → i < length targets → slice_index (targets ++ n ∷ []) i ≡ slice_index targets i
    at i hi = get_or_append_left targets (n ∷ []) 0 i hi

    last : slice_index (targets ++ n ∷ []) (p * k + a) ≡ n
    last = get_or_push targets n 0 (p * k + a) e

    least : (q b : ℕ) → b < k → (q * k + b < length targets) ⊎ ((q ≡ p) × (b ≡ a))
        → ¬ ((word_at words q ++ b ∷ [])
        ⊏ word_at words (slice_index (targets ++ n ∷ []) (q * k + b)))
    least q b hb (inl l) = subst (λ (t : ℕ). ¬ ((word_at words q ++ b ∷ []) ⊏ word_at words t))
        (sym (at (q * k + b) l)) (h.least q b hb l)
    least q b hb (inr l) = rw (l.0, l.1, last)
        (shortlex_asymm (word_at words n) (word_at words p ++ a ∷ [])
        (found_before_next k words targets p a n h hp e ha hn))

-- a comparison of words goes over to equal words
before_as : (u v x y : List ℕ) → u ≡ x → v ≡ y → u ⊏ v → x ⊏ y
before_as u v x y e f h = subst (λ (z : List ℕ). z ⊏ y) e (subst (λ (z : List ℕ). u ⊏ z) f h)

-- the next target is a node that is found now
pub search_finds : (k : ℕ) (words : List (List ℕ)) (targets : List ℕ) (p a : ℕ)
    → IsBreadthFirst k words targets → p < length words → length targets ≡ p * k + a → a < k
    → IsBreadthFirst k (words ++ (word_at words p ++ a ∷ []) ∷ []) (targets ++ length words ∷ [])
search_finds k words targets p a h hp e ha = record {
  some = omega (arith, more);
  root = old 0 h.some ∙ h.root;
  over = λ i hi. over i (split i hi);
  rise = λ i j hij hj. rise i j hij (split j hj);
  found = λ j pos hj. found j pos (split j hj);
  handled = omega (
    arith,
    longer,
    more,
    row_place p a (length words) k hp ha,
    mul-le-mul_right {m = length words} {n = length all} k (omega (arith, more)),
  );
  within = All-push (λ t. t < length all) targets (length words)
      (All-weaker (λ t. t < length words) (λ t. t < length all) (λ t ht. omega (arith, more))
      targets h.within) (omega (arith, more));
  least = λ q b hb place.
      least q b hb (place_before_or_last q b p a k targets (length words) hb ha e place);
}
  where
    next : List ℕ
    next = word_at words p ++ a ∷ []

    all : List (List ℕ)
    all = words ++ next ∷ []

    more : length all ≡ length words + 1
    more = simp length-append

    longer : length (targets ++ length words ∷ []) ≡ length targets + 1
    longer = simp length-append

    split : (i : ℕ) → i < length all → (i < length words) ⊎ (length words ≡ i)
    split i hi = elim (cases_lt i (length words))
        [ inl l ↦ inl l | inr l ↦ inr (omega (arith, more)) ]

    old : (i : ℕ) → i < length words → word_at all i ≡ word_at words i
    old i hi = get_or_append_left words (next ∷ []) [] i hi

    new : (i : ℕ) → length words ≡ i → word_at all i ≡ next
    new i hi = get_or_push words next [] i hi

    at : (i : ℕ) → i < length targets
        → slice_index (targets ++ length words ∷ []) i ≡ slice_index targets i
    at i hi = get_or_append_left targets (length words ∷ []) 0 i hi

    last : slice_index (targets ++ length words ∷ []) (p * k + a) ≡ length words
    last = get_or_push targets (length words) 0 (p * k + a) e

    over : (i : ℕ) → (i < length words) ⊎ (length words ≡ i) → Over k (word_at all i)
    over i (inl l) = subst (Over k) (sym (old i l)) (h.over i l)
    over i (inr l) =
        subst (Over k) (sym (new i l)) (over_last k (word_at words p) a (h.over p hp) ha)

    rise : (i j : ℕ) → i < j → (j < length words) ⊎ (length words ≡ j)
        → word_at all i ⊏ word_at all j
    rise i j hij (inl l) = before_as (word_at words i) (word_at words j) (word_at all i)
        (word_at all j) (sym (old i (omega arith))) (sym (old j l)) (h.rise i j hij l)
    rise i j hij (inr l) = before_as (word_at words i) next (word_at all i) (word_at all j)
        (sym (old i (omega arith))) (sym (new j l))
        (found_before_next k words targets p a i h hp e ha (omega arith))

    found : (j : ℕ) → 0 < j → (j < length words) ⊎ (length words ≡ j)
        → (q b : ℕ) × (b < k) × (q * k + b < length (targets ++ length words ∷ []))
        × (slice_index (targets ++ length words ∷ []) (q * k + b) ≡ j)
        × (word_at all j ≡ word_at all q ++ b ∷ [])
    found j pos (inl l) =
        let f = h.found j pos l in (
          f.0,
          f.1,
          f.2,
          omega (arith, longer, f.3),
          at (f.0 * k + f.1) f.3 ∙ f.4,
          old j l ∙ f.5
              ∙ ap (λ (w : List ℕ). w ++ f.1 ∷ [])
              (sym (old f.0 (row_within f.0 f.1 k (length words) (omega (arith, f.3, h.handled))))),
        )
    found j pos (inr l) = (
      p,
      a,
      ha,
      omega (arith, longer),
      last ∙ l,
      new j l
          ∙ ap (λ (w : List ℕ). w ++ a ∷ []) (sym (old p hp)),
    )

    least : (q b : ℕ) → b < k → (q * k + b < length targets) ⊎ ((q ≡ p) × (b ≡ a))
        → ¬ ((word_at all q ++ b ∷ [])
        ⊏ word_at all (slice_index (targets ++ length words ∷ []) (q * k + b)))
    least q b hb (inl l) g =
        let t : ℕ = slice_index targets (q * k + b) in
        let ht : t < length words =
        All-get_or (λ t. t < length words) targets (q * k + b) 0 l h.within in
        let hq : q < length words = row_within q b k (length words) (omega (arith, l, h.handled)) in
        h.least q b hb l (before_as (word_at all q ++ b ∷ [])
        (word_at all (slice_index (targets ++ length words ∷ []) (q * k + b)))
        (word_at words q ++ b ∷ []) (word_at words t)
        (ap (λ (w : List ℕ). w ++ b ∷ []) (old q hq))
        (ap (word_at all) (at (q * k + b) l) ∙ old t ht) g)
    least q b hb (inr l) g =
        shortlex_irrefl next (before_as (word_at all q ++ b ∷ [])
        (word_at all (slice_index (targets ++ length words ∷ []) (q * k + b))) next next
        (ap (λ (w : List ℕ). w ++ b ∷ []) (ap (word_at all) l.0 ∙ old p hp)
        ∙ ap (λ (c : ℕ). word_at words p ++ c ∷ []) l.1)
        (ap (word_at all) (ap (slice_index (targets ++ length words ∷ []))
        (ap (λ (n : ℕ). n * k + b) l.0 ∙ ap (λ (c : ℕ). p * k + c) l.1) ∙ last)
        ∙ new (length words) refl) g)
