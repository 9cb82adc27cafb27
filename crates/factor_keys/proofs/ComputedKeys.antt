-- The key that is computed letter by letter is the key of the word.
use Rattle.std.proofs.Common.{◌≡◌, ◌↔◌, ◌⊎◌, inl, inr, ℕ, zero, suc, ◌+◌, ◌-◌, ◌<◌, ◌≤◌, Bool, true, false, List, [], ◌∷◌, ◌++◌, length, take, refl, ap, sym, subst, ◌∙◌, arith, append_assoc, nat_eq}
use Rattle.std.specs.Prelude.{◌&&◌}
use Rattle.std.specs.Bool.{Decides}
use Rattle.std.specs.Cmp.Lexicographic.{pointwise}
use Rattle.std.proofs.lemmas.List.{append-nil, length_push}
use Rattle.std.proofs.lemmas.Bool.Decides.{Decides-eqb, eqb_tells}
use Rattle.std.proofs.lemmas.Slice.Eq.{slice_eq-Decides}
use Rattle.language_theory.specs.Words.{Over, IsFactor}
use Rattle.language_theory.proofs.Shortlex.{last_letter, over_prefix, over_suffix, over_last}
use Rattle.language_theory.proofs.Congruences.{both_directions, other_direction}
use Rattle.exploration.proofs.Whole.{letter_by_letter}
use Rattle.factor_keys.specs.declared.key.Key.{Key}
use Rattle.factor_keys.specs.Keys.{prefix, suffix, SameParts, SameKey}
use Rattle.factor_keys.specs.FactorKeys.{place, with_place, empty_key, next_factors, next_key, key_from, key_of, key_eq}
use Rattle.factor_keys.specs.WordParts.{factor_behind, factor_short, suffix_whole, suffix_ends}
use Rattle.factor_keys.specs.SameKeys.{key_parts, Ends, ends_suffix, factor_last, prefix_last, suffix_last}
use Rattle.factor_keys.proofs.Places.{Rises, Among, rises_with, among_with, one_rising, one_place}

-- the place of a factor of n letters of w
abbrev pub IsFactorPlace : ℕ → ℕ → List ℕ → ℕ → Type 0
IsFactorPlace k n w p = (x : List ℕ) × Over k x × (length x ≡ n) × IsFactor x w × (place k x ≡ p)

pub record IsKeyOf (k n : ℕ) (w : List ℕ) (key : Key) : Type 0 where
  pub prefix : key.prefix ≡ prefix (n - 1) w
  pub suffix : key.suffix ≡ suffix (n - 1) w
  pub rises : Rises key.factors
  pub has : (p : ℕ) → Among p key.factors ↔ IsFactorPlace k n w p

empty_is : (k n : ℕ) → 1 ≤ n → IsKeyOf k n [] empty_key
empty_is k n pos = record {
  prefix = sym (none (n - 1));
  suffix = sym (suffix_whole (n - 1) [] (omega arith));
  rises = tt;
  has = λ p. (
    λ h. absurd h,
    λ h. let (x, o, l, f, e) = h in let s = factor_short x [] f in
        absurd (omega arith),
  );
}
  where
    none : (m : ℕ) → prefix m [] ≡ []
    none zero = refl
    none (suc m) = refl

-- the last letters that were seen
abbrev pub seen_of : Key → ℕ → List ℕ
seen_of key a = key.suffix ++ a ∷ []

module _ (k n : ℕ) (pos : 1 ≤ n) (w : List ℕ) (a : ℕ) (o : Over k w) (low : a < k) (key : Key)
    (h : IsKeyOf k n w key) where
  -- the last letters that were seen end the word
  seen_ends : Ends (seen_of key a) (w ++ a ∷ [])
  seen_ends = (
    take (length w - (n - 1)) w,
    ap (λ (s : List ℕ). take (length w - (n - 1)) w
        ++ (s ++ a ∷ [])) h.suffix
        ∙ (sym (append_assoc (take (length w - (n - 1)) w) (suffix (n - 1) w) (a ∷ []))
        ∙ ap (λ (v : List ℕ). v ++ a ∷ []) (suffix_ends (n - 1) w)),
  )

  pub seen_over : Over k (seen_of key a)
  seen_over = let (p, e) = seen_ends in
      over_suffix k p (seen_of key a) (subst (Over k) (sym e) (over_last k w a o low))

  -- a factor of n letters that is new is what was seen last
  new_factor : (x : List ℕ) → length x ≡ n → IsFactor x (w ++ a ∷ []) → IsFactor x w
      ⊎ (x ≡ seen_of key a)
  new_factor x l f = by (last_letter x)
    where
      by : (x ≡ []) ⊎ ((y : List ℕ) × (b : ℕ) × (x ≡ y ++ b ∷ [])) → IsFactor x w
          ⊎ (x ≡ seen_of key a)
      by (inl e) = let none : length x ≡ 0 = ap length e in absurd (omega arith)
      by (inr (y, b, e)) =
          let more : length (y ++ b ∷ []) ≡ length y + 1 = length_push y b in
          let long : length y ≡ n - 1 = let i = ap length e in omega arith in
          elim ((factor_last y b w a).0 (subst (λ (z : List ℕ). IsFactor z (w ++ a ∷ [])) e f)) [
            | inl g ↦ inl (subst (λ (z : List ℕ). IsFactor z w) (sym e) g)
            | inr g ↦ (
                let last : suffix (length y) w ≡ y = (ends_suffix y w).0 g.1 in
                let same : key.suffix ≡ y = h.suffix
                ∙ (ap (λ (m : ℕ). suffix m w) (sym long) ∙ last) in
                inr (e ∙ (ap (λ (c : ℕ). y ++ c ∷ []) g.0
                ∙ ap (λ (z : List ℕ). z ++ a ∷ []) (sym same))))
          ]

  older : (p : ℕ) → IsFactorPlace k n w p → IsFactorPlace k n (w ++ a ∷ []) p
  older p (x, ox, l, f, e) = (x, ox, l, factor_behind x w (a ∷ []) f, e)

  factors_with : length (seen_of key a) ≡ n → (p : ℕ)
      → Among p (with_place (place k (seen_of key a)) key.factors)
      ↔ IsFactorPlace k n (w ++ a ∷ []) p
  factors_with l p = (to, from)
    where
      to : Among p (with_place (place k (seen_of key a)) key.factors)
          → IsFactorPlace k n (w ++ a ∷ []) p
      to m = elim ((among_with p (place k (seen_of key a)) key.factors).0 m) [
        | inl e ↦ (let (q, f) = seen_ends in (
          seen_of key a,
          seen_over,
          l,
          (q, [], ap (λ (z : List ℕ). q ++ z) (append-nil (seen_of key a)) ∙ f),
          sym e,
        ))
        | inr r ↦ older p ((h.has p).0 r)
      ]

      from : IsFactorPlace k n (w ++ a ∷ []) p
          → Among p (with_place (place k (seen_of key a)) key.factors)
      from (x, ox, lx, f, e) = (among_with p (place k (seen_of key a)) key.factors).1
          (elim (new_factor x lx f) [
            | inl g ↦ inr ((h.has p).1 (x, ox, lx, g, e))
            | inr g ↦ inl (sym e ∙ ap (place k) g)
          ])

  factors_without : ¬ (length (seen_of key a) ≡ n) → (p : ℕ) → Among p key.factors
      ↔ IsFactorPlace k n (w ++ a ∷ []) p
  factors_without d p = (λ m. older p ((h.has p).0 m), from)
    where
      from : IsFactorPlace k n (w ++ a ∷ []) p → Among p key.factors
      from (x, ox, lx, f, e) = elim (new_factor x lx f) [
        | inl g ↦ (h.has p).1 (x, ox, lx, g, e)
        | inr g ↦ absurd (d (sym (ap length g) ∙ lx))
      ]

  factors_next : Rises (next_factors k n key.factors (seen_of key a))
      × ((p : ℕ) → Among p (next_factors k n key.factors (seen_of key a))
      ↔ IsFactorPlace k n (w ++ a ∷ []) p)
  factors_next = elim (eqb_tells (length (seen_of key a)) n) [
    | inl t ↦ rw t.0 (rises_with (place k (seen_of key a)) key.factors h.rises, factors_with t.1)
    | inr t ↦ rw t.0 (h.rises, factors_without t.1)
  ]

  pub next_is : IsKeyOf k n (w ++ a ∷ []) (next_key k n key a)
  next_is = record {
    prefix = ap (λ (v : List ℕ). prefix (n - 1) (v ++ a ∷ [])) h.prefix
        ∙ sym (prefix_last (n - 1) w a);
    suffix = ap (λ (v : List ℕ). suffix (n - 1) (v ++ a ∷ [])) h.suffix
        ∙ sym (suffix_last (n - 1) w a);
    rises = factors_next.0;
    has = factors_next.1;
  }

pub key_from_last : (k n : ℕ) (key : Key) (w : List ℕ) (a : ℕ) → key_from k n key (w ++ a ∷ [])
    ≡ next_key k n (key_from k n key w) a
key_from_last k n key [] a = refl
key_from_last k n key (b ∷ w) a = key_from_last k n (next_key k n key b) w a

pub key_is : (k n : ℕ) → 1 ≤ n → (w : List ℕ) → Over k w → IsKeyOf k n w (key_of k n w)
key_is k n pos = letter_by_letter (λ w. Over k w → IsKeyOf k n w (key_of k n w))
    (λ _. empty_is k n pos) step
  where
    step : (w : List ℕ) (a : ℕ) → (Over k w → IsKeyOf k n w (key_of k n w)) → Over k (w ++ a ∷ [])
        → IsKeyOf k n (w ++ a ∷ []) (key_of k n (w ++ a ∷ []))
    step w a before o =
        let ow = over_prefix k w (a ∷ []) o in
        let low : a < k = (over_suffix k w (a ∷ []) o).0 in
        subst (IsKeyOf k n (w ++ a ∷ [])) (sym (key_from_last k n empty_key w a))
        (next_is k n pos w a ow low (key_of k n w) (before ow))

-- ---- equal keys

over_factor : (k : ℕ) (x w : List ℕ) → Over k w → IsFactor x w → Over k x
over_factor k x w o (p, q, e) =
    over_prefix k x q (over_suffix k p (x ++ q) (subst (Over k) (sym e) o))

module _ (k n : ℕ) (u v : List ℕ) (ou : Over k u) (ov : Over k v) (s t : Key) (hs : IsKeyOf k n u s)
    (ht : IsKeyOf k n v t) where
  factor_moves : s ≡ t → (x : List ℕ) → length x ≡ n → IsFactor x u → IsFactor x v
  factor_moves e x l f =
      let ox = over_factor k x u ou f in
      let there : Among (place k x) s.factors = (hs.has (place k x)).1 (x, ox, l, f, refl) in
      let (y, oy, ly, g, d) =
      (ht.has (place k x)).0 (subst (λ (r : Key). Among (place k x) r.factors) e there) in
      let (_, same) = one_place k 0 0 y x oy ox (ly ∙ sym l) d in
      subst (λ (z : List ℕ). IsFactor z v) same g

  member_moves : SameParts n u v → (p : ℕ) → Among p s.factors → Among p t.factors
  member_moves h p m =
      let (x, ox, l, f, e) = (hs.has p).0 m in
      (ht.has p).1 (x, ox, l, (h.factors x l).0 f, e)

pub same_parts : (k n : ℕ) (u v : List ℕ) → Over k u → Over k v → (s t : Key) → IsKeyOf k n u s
    → IsKeyOf k n v t → (s ≡ t) ↔ SameParts n u v
same_parts k n u v ou ov s t hs ht = (to, from)
  where
    to : s ≡ t → SameParts n u v
    to e = record {
      prefix = sym hs.prefix ∙ (ap (λ (r : Key). r.prefix) e ∙ ht.prefix);
      suffix = sym hs.suffix ∙ (ap (λ (r : Key). r.suffix) e ∙ ht.suffix);
      factors =
          λ x l. (
            factor_moves k n u v ou ov s t hs ht e x l,
            factor_moves k n v u ov ou t s ht hs
                (sym e) x l,
          );
    }

    from : SameParts n u v → s ≡ t
    from h =
        let front = hs.prefix ∙ (h.prefix ∙ sym ht.prefix) in
        let back = hs.suffix ∙ (h.suffix ∙ sym ht.suffix) in
        let other : SameParts n v u =
        record {
          prefix = sym h.prefix;
          suffix = sym h.suffix;
          factors =
              λ x l. other_direction (h.factors x l);
        } in
        let factors = one_rising s.factors t.factors hs.rises ht.rises
        (member_moves k n u v ou ov s t hs ht h) (member_moves k n v u ov ou t s ht hs other) in
        λ i. record { prefix = front i; suffix = back i; factors = factors i }

-- words have equal computed keys exactly where they have the same key
pub same_keys : (k n : ℕ) → 1 ≤ n → (u v : List ℕ) → Over k u → Over k v
    → (key_of k n u ≡ key_of k n v) ↔ SameKey n u v
same_keys k n pos u v ou ov = both_directions
    (same_parts k n u v ou ov (key_of k n u) (key_of k n v) (key_is k n pos u ou)
    (key_is k n pos v ov)) (other_direction (key_parts n u v))

-- ---- the test of keys

words_Decides : (x y : List ℕ) → Decides (pointwise nat_eq x y) (x ≡ y)
words_Decides x y = slice_eq-Decides Decides-eqb x y (pointwise nat_eq x y) refl

both_true : (a b : Bool) → (a && b) ≡ true → (a ≡ true) × (b ≡ true)
both_true true b e = (refl, e)
both_true false b e = cc

pub key_Decides : (s t : Key) → Decides (key_eq s t) (s ≡ t)
key_Decides s t = (to, from)
  where
    to : key_eq s t ≡ true → s ≡ t
    to e =
        let (f, c) =
        both_true (pointwise nat_eq s.prefix t.prefix && pointwise nat_eq s.suffix t.suffix)
        (pointwise nat_eq s.factors t.factors) e in
        let (a, b) = both_true (pointwise nat_eq s.prefix t.prefix)
        (pointwise nat_eq s.suffix t.suffix) f in
        let front = (words_Decides s.prefix t.prefix).0 a in
        let back = (words_Decides s.suffix t.suffix).0 b in
        let factors = (words_Decides s.factors t.factors).0 c in
        λ i. record { prefix = front i; suffix = back i; factors = factors i }

    from : s ≡ t → key_eq s t ≡ true
    from e =
        let a = (words_Decides s.prefix t.prefix).1 (ap (λ (r : Key). r.prefix) e) in
        let b = (words_Decides s.suffix t.suffix).1 (ap (λ (r : Key). r.suffix) e) in
        let c = (words_Decides s.factors t.factors).1 (ap (λ (r : Key). r.factors) e) in
        rw (a, b) c
