-- Pairs of labels are noted with the least place that has them.
use Rattle.std.proofs.Common.{◌≡◌, ℕ, ◌+◌, ◌<◌, ◌≤◌, ◌⊎◌, inl, inr, Bool, true, false, List, []}
use Rattle.std.proofs.Common.{◌∷◌, ◌++◌, Option, Some, None, length, slice_index, refl, sym, ap}
use Rattle.std.proofs.Common.{subst, arith, ◌∙◌, length-append}
use Rattle.std.proofs.lemmas.Grind.{common_steps}
use Rattle.std.proofs.lemmas.Bool.{cases_lt}
use Rattle.std.proofs.lemmas.List.{get_or_append_left, get_or_push}
use Rattle.std.specs.Map.{lookup}
use Rattle.indexmap.specs.IndexMap.{IndexMap, get, IsEmpty}
use Rattle.green_relations.specs.Pairs.{ArePairMates, same_pair, IsNoted}

-- the first n places have their least mates, and each pair that was noted is that of a place
pub record AreNoted {S : Type 0} (first second : List ℕ) (n : ℕ) (seen : IndexMap (ℕ × ℕ) ℕ S)
    (labels : List ℕ) : Type 0 where
  pub long : length labels ≡ n
  pub below : (i : ℕ) → i < n → slice_index labels i ≤ i
  pub noted : (i : ℕ) → i < n
      → get same_pair seen (slice_index first i, slice_index second i) ≡ Some (slice_index labels i)
  pub held : (p : ℕ × ℕ) (m : ℕ) → get same_pair seen p ≡ Some m
      → (m < n) × (slice_index first m ≡ p.0) × (slice_index second m ≡ p.1)

parts_of : (p q : ℕ × ℕ) → same_pair p q ≡ true → (p.0 ≡ q.0) × (p.1 ≡ q.1)
parts_of p q h = grind (arith, common_steps)

pairs_one : (p q : ℕ × ℕ) → p.0 ≡ q.0 → p.1 ≡ q.1 → p ≡ q
pairs_one (a, b) (c, d) e f = cc

some_one : {m p : ℕ} → Option.Some m ≡ Option.Some p → m ≡ p
some_one e = cc

module _ {S : Type 0} (first second : List ℕ) (n : ℕ) where
  -- one place more
  pub noted_next : (old new : IndexMap (ℕ × ℕ) ℕ S) (labels more : List ℕ) (label : ℕ)
      → AreNoted first second n old labels
      → IsNoted (slice_index first n, slice_index second n) n label old new
      → more ≡ labels ++ label ∷ [] → AreNoted first second (n + 1) new more
  noted_next old new labels more label h s e = record {
    long = omega (arith, longer, h.long);
    below = λ i hi. below i (split i hi);
    noted = λ i hi. noted i (split i hi);
    held = λ p m f. held p m (same_pair pair p) refl f;
  }
    where
      pair : ℕ × ℕ
      pair = (slice_index first n, slice_index second n)

      longer : length more ≡ length labels + 1
      longer = ap length e ∙ simp length-append

      kept : (i : ℕ) → i < n → slice_index more i ≡ slice_index labels i
      kept i hi = ap (λ (xs : List ℕ). slice_index xs i) e
          ∙ get_or_append_left labels (label ∷ []) 0 i (omega (arith, h.long))

      last : slice_index more n ≡ label
      last = ap (λ (xs : List ℕ). slice_index xs n) e ∙ get_or_push labels label 0 n h.long

      split : (i : ℕ) → i < n + 1 → (i < n) ⊎ (n ≡ i)
      split i hi = elim (cases_lt i n) [ inl l ↦ inl l | inr l ↦ inr (omega arith) ]

      -- the place that was noted is that of the pair
      mine : (label ≤ n) × (slice_index first label ≡ slice_index first n)
          × (slice_index second label ≡ slice_index second n)
      mine = by s.known
        where
          by : (get same_pair old pair ≡ Some label) ⊎ ((get same_pair old pair ≡ None)
              × (label ≡ n)) → (label ≤ n) × (slice_index first label ≡ slice_index first n)
              × (slice_index second label ≡ slice_index second n)
          by (inl f) = let (a, b, d) = h.held pair label f in (omega arith, b, d)
          by (inr f) = (omega (arith, f.1), ap (slice_index first) f.1, ap (slice_index second) f.1)

      below : (i : ℕ) → (i < n) ⊎ (n ≡ i) → slice_index more i ≤ i
      below i (inl l) = omega (arith, kept i l, h.below i l)
      below i (inr f) = subst (λ (m : ℕ). slice_index more m ≤ m) f (omega (arith, last, mine.0))

      noted : (i : ℕ) → (i < n) ⊎ (n ≡ i)
          → get same_pair new (slice_index first i, slice_index second i)
          ≡ Some (slice_index more i)
      noted i (inr f) = subst (λ (m : ℕ). get same_pair new (
        slice_index first m,
        slice_index second m,
      ) ≡ Some (slice_index more m)) f
          (s.noted ∙ ap (λ (m : ℕ). Some m) (sym last))
      noted i (inl l) = by (same_pair pair (slice_index first i, slice_index second i)) refl s.known
        where
          old_label : get same_pair old (slice_index first i, slice_index second i)
              ≡ Some (slice_index labels i)
          old_label = h.noted i l

          by : (b : Bool) → same_pair pair (slice_index first i, slice_index second i) ≡ b
              → (get same_pair old pair ≡ Some label) ⊎ ((get same_pair old pair ≡ None)
              × (label ≡ n))
              → get same_pair new (slice_index first i, slice_index second i)
              ≡ Some (slice_index more i)
          by false d k = s.others (slice_index first i, slice_index second i) d
              ∙ (old_label ∙ ap (λ (m : ℕ). Some m) (sym (kept i l)))
          by true d (inl k) =
              let (x, y) = parts_of pair (slice_index first i, slice_index second i) d in
              let same : pair ≡ (slice_index first i, slice_index second i) =
              pairs_one pair (slice_index first i, slice_index second i) x y in
              let one : label ≡ slice_index labels i =
              some_one (sym k ∙ (ap (get same_pair old) same ∙ old_label)) in
              ap (get same_pair new) (sym same)
              ∙ (s.noted ∙ ap (λ (m : ℕ). Some m) (one ∙ sym (kept i l)))
          by true d (inr k) =
              let (x, y) = parts_of pair (slice_index first i, slice_index second i) d in
              let same : pair ≡ (slice_index first i, slice_index second i) =
              pairs_one pair (slice_index first i, slice_index second i) x y in
              let none : None ≡ Some (slice_index labels i) =
              sym k.0 ∙ (ap (get same_pair old) same ∙ old_label) in
              cc none

      held : (p : ℕ × ℕ) (m : ℕ) (b : Bool) → same_pair pair p ≡ b → get same_pair new p ≡ Some m
          → (m < n + 1) × (slice_index first m ≡ p.0) × (slice_index second m ≡ p.1)
      held p m false d f =
          let (a, x, y) = h.held p m (sym (s.others p d) ∙ f) in (omega arith, x, y)
      held p m true d f =
          let (x, y) = parts_of pair p d in
          let same : pair ≡ p = pairs_one pair p x y in
          let one : label ≡ m = some_one (sym s.noted ∙ (ap (get same_pair new) same ∙ f)) in
          let (a, u, v) = mine in
          subst (λ (z : ℕ). (z < n + 1) × (slice_index first z ≡ p.0)
          × (slice_index second z ≡ p.1))
          one (omega arith, u ∙ x, v ∙ y)

  pub noted_none : (seen : IndexMap (ℕ × ℕ) ℕ S) (labels : List ℕ) → IsEmpty seen → labels ≡ []
      → AreNoted first second 0 seen labels
  noted_none seen labels e f = record {
    long = ap length f;
    below = λ i hi. absurd (omega (arith, hi));
    noted = λ i hi. absurd (omega (arith, hi));
    held = λ p m g. none p m (sym (ap (lookup (same_pair p)) e) ∙ g);
  }
    where
      none : (p : ℕ × ℕ) (m : ℕ) → Option.None ≡ Option.Some m
          → (m < 0) × (slice_index first m ≡ p.0) × (slice_index second m ≡ p.1)
      none p m g = cc g

  pub noted_all : (seen : IndexMap (ℕ × ℕ) ℕ S) (labels : List ℕ)
      → AreNoted first second n seen labels → ArePairMates first second n labels
  noted_all seen labels h = record {
    long = h.long;
    below = h.below;
    one = λ i hi. (h.held (slice_index first i, slice_index second i) (slice_index labels i)
        (h.noted i hi)).1;
    two = λ i hi. (h.held (slice_index first i, slice_index second i) (slice_index labels i)
        (h.noted i hi)).2;
    least = λ i m hi hm x y.
        let same : get same_pair seen (slice_index first m, slice_index second m)
        ≡ get same_pair seen (slice_index first i, slice_index second i) =
        ap (λ (p : ℕ). get same_pair seen (p, slice_index second m)) x
        ∙ ap (λ (q : ℕ). get same_pair seen (slice_index first i, q)) y in
        let one : slice_index labels m ≡ slice_index labels i =
        some_one (sym (h.noted m hm) ∙ (same ∙ h.noted i hi)) in
        omega (arith, one, h.below m hm);
  }
