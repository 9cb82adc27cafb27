-- Rules that are listed element by element and letter by letter are all rules.
use Rattle.std.proofs.Common.{◌≡◌, ◌⊎◌, inl, inr, ℕ, ◌+◌, ◌<◌, List, [], ◌∷◌, ◌++◌, length, length-append, refl, ap, sym, subst, ◌∙◌, arith}
use Rattle.std.proofs.lemmas.Bool.{cases_lt}
use Rattle.std.proofs.lemmas.List.{get_or_append_left, get_or_push}
use Rattle.language_theory.specs.Words.{◌⊏◌, word_at}
use Rattle.language_theory.specs.ShortlexGraph.{target, SameNode}
use Rattle.language_theory.proofs.Representatives.{place_is_one}
use Rattle.monoid_theory.specs.Presentation.{AreRules, rule_at}
use Rattle.monoid_theory.proofs.RulePlaces.{rule_is_at_place, left_sides_rise}
use Rattle.cayley_tables.specs.CayleyGraphs.{CayleyGraphs, AreCayleyGraphs}
use Rattle.presentation.specs.RuleLists.{ComesBefore, IsRuleOf, AreRulesBefore}
use Rattle.presentation.proofs.LeftSides.{leads_to_product}

-- nothing comes before the first pair
pub none_listed : (c : CayleyGraphs) → AreCayleyGraphs c → AreRulesBefore c 0 0 []
none_listed c h = record {
  graphs = h;
  each = λ n l. absurd (omega arith);
  before = λ n l. absurd (omega arith);
  rise = λ m n l g. absurd (omega arith);
  all = λ j b right p. absurd (first j b p);
  few = omega arith;
}
  where
    first : (j b : ℕ) → ¬ ComesBefore j b 0 0
    first j b (inl l) = omega arith
    first j b (inr (e, l)) = omega arith

-- what comes before the next letter comes before this one, or is this one
before_next : (j b i a : ℕ) → ComesBefore j b i (a + 1) → ComesBefore j b i a ⊎ ((j ≡ i) × (b ≡ a))
before_next j b i a (inl l) = inl (inl l)
before_next j b i a (inr (e, l)) = elim (cases_lt b a) [
  | inl g ↦ inl (inr (e, g))
  | inr g ↦ inr (e, omega arith)
]

later_letter : (j b i a : ℕ) → ComesBefore j b i a → ComesBefore j b i (a + 1)
later_letter j b i a (inl l) = inl l
later_letter j b i a (inr (e, l)) = inr (e, omega arith)

later_element : (j b i a : ℕ) → ComesBefore j b i a → ComesBefore j b (i + 1) 0
later_element j b i a (inl l) = inl (omega arith)
later_element j b i a (inr (e, l)) = inl (omega arith)

-- with all letters, the next element comes
before_next_element : (j b i k : ℕ) → b < k → ComesBefore j b (i + 1) 0 → ComesBefore j b i k
before_next_element j b i k hb (inl l) = elim (cases_lt j i) [
  | inl g ↦ inl g
  | inr g ↦ inr (omega arith, hb)
]
before_next_element j b i k hb (inr (e, l)) = absurd (omega arith)

pub next_element : (c : CayleyGraphs) (i : ℕ) (rules : List (List ℕ × ℕ))
    → AreRulesBefore c i c.right.letters rules → AreRulesBefore c (i + 1) 0 rules
next_element c i rules h = record {
  graphs = h.graphs;
  each = h.each;
  before = λ n l. let (j, b, p, e) = h.before n l in
      (j, b, later_element j b i c.right.letters p, e);
  rise = h.rise;
  all = λ j b right p hb r. h.all j b right (before_next_element j b i c.right.letters hb p) hb r;
  few = let f = h.few in omega arith;
}

-- a left side has one right side
one_right : (c : CayleyGraphs) → AreCayleyGraphs c → (i a right : ℕ) → i < length c.words
    → a < c.right.letters → IsRuleOf c (word_at c.words i ++ a ∷ []) right
    → right ≡ target c.right i a
one_right c h i a right hi ha r =
    place_is_one (SameNode c.right) c.words (word_at c.words i ++ a ∷ []) right
    (target c.right i a) r.place (leads_to_product c h i a hi ha).place

-- no left side here
pub nothing_to_list : (c : CayleyGraphs) (i a : ℕ) (rules : List (List ℕ × ℕ)) → i < length c.words
    → a < c.right.letters → ¬ IsRuleOf c (word_at c.words i ++ a ∷ []) (target c.right i a)
    → AreRulesBefore c i a rules → AreRulesBefore c i (a + 1) rules
nothing_to_list c i a rules hi ha none h = record {
  graphs = h.graphs;
  each = h.each;
  before = λ n l. let (j, b, p, e) = h.before n l in (j, b, later_letter j b i a p, e);
  rise = h.rise;
  all = λ j b right p hb r. by j b right (before_next j b i a p) hb r;
  few = let f = h.few in omega arith;
}
  where
    by : (j b right : ℕ) → ComesBefore j b i a ⊎ ((j ≡ i) × (b ≡ a)) → b < c.right.letters
        → IsRuleOf c (word_at c.words j ++ b ∷ []) right
        → (n : ℕ) × (n < length rules) × (rule_at rules n ≡ (word_at c.words j ++ b ∷ [], right))
    by j b right (inl p) hb r = h.all j b right p hb r
    by j b right (inr (e, d)) hb r =
        let here : IsRuleOf c (word_at c.words i ++ a ∷ []) right =
        subst (λ (x : ℕ). IsRuleOf c (word_at c.words i ++ x ∷ []) right) d
        (subst (λ (x : ℕ). IsRuleOf c (word_at c.words x ++ b ∷ []) right) e r) in
        absurd (none (subst (IsRuleOf c (word_at c.words i ++ a ∷ []))
        (one_right c h.graphs i a right hi ha here) here))

-- one rule more
pub rule_is_listed : (c : CayleyGraphs) (i a : ℕ) (rules : List (List ℕ × ℕ)) → i < length c.words
    → a < c.right.letters → IsRuleOf c (word_at c.words i ++ a ∷ []) (target c.right i a)
    → AreRulesBefore c i a rules
    → AreRulesBefore c i (a + 1)
    (rules ++ (word_at c.words i ++ a ∷ [], target c.right i a) ∷ [])
rule_is_listed c i a rules hi ha rule h = record {
  graphs = h.graphs;
  each = λ n l. each n (old_or_new n l);
  before = λ n l. before n (old_or_new n l);
  rise = λ m n l g. rise m n l (old_or_new n g);
  all = λ j b right p hb r. by j b right (before_next j b i a p) hb r;
  few = let f = h.few in omega (arith, longer);
}
  where
    new : List ℕ × ℕ
    new = (word_at c.words i ++ a ∷ [], target c.right i a)

    more : List (List ℕ × ℕ)
    more = rules ++ new ∷ []

    longer : length more ≡ length rules + 1
    longer = simp length-append

    old_or_new : (n : ℕ) → n < length more → (n < length rules) ⊎ (length rules ≡ n)
    old_or_new n l = elim (cases_lt n (length rules)) [
      | inl g ↦ inl g
      | inr g ↦ inr (omega (arith, longer))
    ]

    old : (n : ℕ) → n < length rules → rule_at more n ≡ rule_at rules n
    old n l = get_or_append_left rules (new ∷ []) ([], 0) n l

    last : (n : ℕ) → length rules ≡ n → rule_at more n ≡ new
    last n e = get_or_push rules new ([], 0) n e

    each : (n : ℕ) → (n < length rules) ⊎ (length rules ≡ n)
        → IsRuleOf c (rule_at more n).0 (rule_at more n).1
    each n (inl l) =
        subst (λ (r : List ℕ × ℕ). IsRuleOf c r.0 r.1) (sym (old n l)) (h.each n l)
    each n (inr e) = subst (λ (r : List ℕ × ℕ). IsRuleOf c r.0 r.1) (sym (last n e)) rule

    before : (n : ℕ) → (n < length rules) ⊎ (length rules ≡ n) → (j b : ℕ)
        × ComesBefore j b i (a + 1) × ((rule_at more n).0 ≡ word_at c.words j ++ b ∷ [])
    before n (inl l) = let (j, b, p, e) = h.before n l in
        (j, b, later_letter j b i a p, ap (λ (r : List ℕ × ℕ). r.0) (old n l) ∙ e)
    before n (inr e) =
        (i, a, inr (refl, omega arith), ap (λ (r : List ℕ × ℕ). r.0) (last n e))

    below_new : (m : ℕ) → m < length rules → (rule_at rules m).0 ⊏ (word_at c.words i ++ a ∷ [])
    below_new m l = let (j, b, p, e) = h.before m l in
        subst (λ (w : List ℕ). w ⊏ (word_at c.words i ++ a ∷ [])) (sym e)
        (left_sides_rise c.right.letters (SameNode c.right) c.words h.graphs.shortlex.least
        j i b a hi p)

    rise : (m n : ℕ) → m < n → (n < length rules) ⊎ (length rules ≡ n)
        → (rule_at more m).0 ⊏ (rule_at more n).0
    rise m n l (inl g) =
        subst (λ (r : List ℕ × ℕ). (rule_at more m).0 ⊏ r.0) (sym (old n g))
        (subst (λ (r : List ℕ × ℕ). r.0 ⊏ (rule_at rules n).0) (sym (old m (omega arith)))
        (h.rise m n l g))
    rise m n l (inr e) =
        subst (λ (r : List ℕ × ℕ). (rule_at more m).0 ⊏ r.0) (sym (last n e))
        (subst (λ (r : List ℕ × ℕ). r.0 ⊏ new.0) (sym (old m (omega arith)))
        (below_new m (omega arith)))

    by : (j b right : ℕ) → ComesBefore j b i a ⊎ ((j ≡ i) × (b ≡ a)) → b < c.right.letters
        → IsRuleOf c (word_at c.words j ++ b ∷ []) right
        → (n : ℕ) × (n < length more) × (rule_at more n ≡ (word_at c.words j ++ b ∷ [], right))
    by j b right (inl p) hb r = let (n, l, e) = h.all j b right p hb r in
        (n, omega (arith, longer), old n l ∙ e)
    by j b right (inr (e, d)) hb r = (
      length rules,
      omega (arith, longer),
      last (length rules) refl
          ∙ new_is,
    )
      where
        here : IsRuleOf c (word_at c.words i ++ a ∷ []) right
        here = subst (λ (x : ℕ). IsRuleOf c (word_at c.words i ++ x ∷ []) right) d
            (subst (λ (x : ℕ). IsRuleOf c (word_at c.words x ++ b ∷ []) right) e r)

        new_is : new ≡ (word_at c.words j ++ b ∷ [], right)
        new_is =
            let f : right ≡ target c.right i a = one_right c h.graphs i a right hi ha here in cc

-- behind the last element all rules are listed
pub all_listed : (c : CayleyGraphs) (rules : List (List ℕ × ℕ))
    → AreRulesBefore c (length c.words) 0 rules
    → AreRules c.right.letters (SameNode c.right) c.words rules
all_listed c rules h = record {
  each = h.each;
  rise = h.rise;
  all = λ left right r.
      let (i, a, hi, ha, e) = rule_is_at_place c.right.letters (SameNode c.right) c.words
      h.graphs.shortlex.least left right r in
      let (n, l, f) = h.all i a right (inl hi) ha
      (subst (λ (w : List ℕ). IsRuleOf c w right) e r) in
      (n, l, f ∙ ap (λ (w : List ℕ). (w, right)) (sym e));
}
