-- Two rows of marks that are put together word by word.
use Rattle.std.proofs.Common.{◌≡◌, ℕ, ◌+◌, ◌*◌, ◌/◌, ◌%◌, ◌^◌, ◌<◌, ◌≤◌, ◌&&◌, ◌||◌, ◌⊎◌, ◌≢◌, inl, inr, Bool, true, false, IsTrue, List, replicate, cond, length, get_or, set, map, bit_or, bit_and, max, min, w64, refl, ap, sym, subst, ◌∙◌, arith}
use Rattle.std.specs.List.{range_with_len}
use Rattle.std.specs.Int.{bit_at, trailing_zeros}
use Rattle.std.specs.Int.Bits.{and_zero_r}
use Rattle.std.proofs.lemmas.Nat.{or_lt, and_le_l}
use Rattle.std.proofs.lemmas.Nat.Bits.{same_from_bits_below, bit_at_or, bit_at_and, bit_at-zero, bit_at-trailing_zeros}
use Rattle.std.proofs.lemmas.List.{ext_get_or, get_or-set_other, get_or_past, length-set, get_or-replicate, length-replicate}
use Rattle.std.proofs.lemmas.List.FromFn.{length-map-range_with_len, get_or-map-range_with_len}
use Rattle.std.proofs.lemmas.Grind.{get_or-set_at}
use Rattle.std.proofs.lemmas.Bool.{cases_lt, both_ways}
use Rattle.language_theory.proofs.Numbers.{equal_or_not}
use Rattle.language_theory.specs.Automaton.{is_marked}
use Rattle.number_set.specs.Marks.{packed, word_at, AreWithin, IsWindowOf, HasGained, IsIntersection, Meet}
use Rattle.number_set.proofs.Packing.{Holds, held_long, held_word, packed_long, packed_at, word_bit, word_small, place_cut}

-- ---- two marks and two bits

-- `bits` does with each bit of two words what `marks` does with two marks
pub record AreAlike (marks : Bool → Bool → Bool) (bits : ℕ → ℕ → ℕ) : Type 0 where
  pub bare : marks false false ≡ false
  pub small : (x y : ℕ) → x < 2 ^ 64 → y < 2 ^ 64 → bits x y < 2 ^ 64
  pub each : (a b : Bool) (x y k : ℕ) → bit_at x k ≡ cond a 1 0 → bit_at y k ≡ cond b 1 0
      → bit_at (bits x y) k ≡ cond (marks a b) 1 0

abbrev pub either : Bool → Bool → Bool
either a b = a || b

abbrev pub both : Bool → Bool → Bool
both a b = a && b

greater_bit : (a b : Bool) → max (cond a 1 0) (cond b 1 0) ≡ cond (a || b) 1 0
greater_bit true true = refl
greater_bit true false = refl
greater_bit false true = refl
greater_bit false false = refl

lesser_bit : (a b : Bool) → min (cond a 1 0) (cond b 1 0) ≡ cond (a && b) 1 0
lesser_bit true true = refl
lesser_bit true false = refl
lesser_bit false true = refl
lesser_bit false false = refl

pub or_alike : AreAlike either bit_or
or_alike = record {
  bare = refl;
  small = λ x y hx hy. or_lt 64 x y hx hy;
  each = λ a b x y k e f. bit_at_or x y k ∙ rw (e, f) (greater_bit a b);
}

pub and_alike : AreAlike both bit_and
and_alike = record {
  bare = refl;
  small = λ x y hx hy. let less = and_le_l x y in omega (arith, less);
  each = λ a b x y k e f. bit_at_and x y k ∙ rw (e, f) (lesser_bit a b);
}

-- ---- words that are 0

zero_in_zeros : (n i : ℕ) → ◌≡◌ {A = ℕ} (get_or (replicate n 0) i 0) 0
zero_in_zeros n i = elim (cases_lt i n) [
  | inl l ↦ get_or-replicate n i 0 0 l
  | inr g ↦ get_or_past (replicate n 0) i 0 (rw (length-replicate {A = ℕ} n 0) g)
]

-- ---- two rows

-- the marks of two rows put together, as long as the first row
pub combined : (Bool → Bool → Bool) → List Bool → List Bool → List Bool
combined f old other = map (λ p. f (is_marked old p) (is_marked other p))
    (range_with_len 0 (length old))

pub combined_long : (f : Bool → Bool → Bool) (old other : List Bool)
    → length (combined f old other) ≡ length old
unfolding combined
combined_long f old other = length-map-range_with_len _ 0 (length old)

pub combined_at : (f : Bool → Bool → Bool) (old other : List Bool) (p : ℕ)
    → f false false ≡ false → length other ≤ length old
    → is_marked (combined f old other) p ≡ f (is_marked old p) (is_marked other p)
unfolding combined
combined_at f old other p bare short = elim (cases_lt p (length old)) [
  | inl l ↦ get_or-map-range_with_len (λ q. f (is_marked old q) (is_marked other q)) 0
      (length old) p p false l (omega arith)
  | inr g ↦
      let past : is_marked (combined f old other) p ≡ false =
      get_or_past (combined f old other) p false (rw (combined_long f old other) g) in
      let first : is_marked old p ≡ false = get_or_past old p false g in
      let second : is_marked other p ≡ false = get_or_past other p false (omega arith) in
      past ∙ sym (rw (first, second) bare)
]

pub word_combined : (f : Bool → Bool → Bool) (g : ℕ → ℕ → ℕ) (old other : List Bool) (i : ℕ)
    → AreAlike f g → length other ≤ length old
    → word_at (combined f old other) i ≡ g (word_at old i) (word_at other i)
word_combined f g old other i h short = same_from_bits_below 64 (word_at (combined f old other) i)
    (g (word_at old i) (word_at other i)) (word_small (combined f old other) i)
    (h.small (word_at old i) (word_at other i) (word_small old i) (word_small other i)) (λ k l.
    word_bit (combined f old other) i k l
    ∙ ap (λ (b : Bool). cond b 1 0) (combined_at f old other (64 * i + k) h.bare short)
    ∙ sym (h.each (is_marked old (64 * i + k)) (is_marked other (64 * i + k)) (word_at old i)
    (word_at other i) k (word_bit old i k l) (word_bit other i k l)))

-- behind the last mark all bits are 0
word_past : (marks : List Bool) (i : ℕ) → length marks ≤ 64 * i → word_at marks i ≡ 0
word_past marks i h = same_from_bits_below 64 (word_at marks i) 0 (word_small marks i)
    (omega arith) (λ k l.
    word_bit marks i k l ∙ ap (λ (b : Bool). cond b 1 0)
    (get_or_past marks (64 * i + k) false (omega arith)) ∙ sym (bit_at-zero k))

-- a row that is no longer has no more words
pub fewer_words : (s t : ℕ) (v w : List ℕ) (old other : List Bool) → Holds s v old
    → Holds t w other → length other ≤ length old → length w ≤ length v
fewer_words s t v w old other h k short =
    omega (arith, held_long s v old h, held_long t w other k, h.long, k.long)

pub as_many_words : (s t : ℕ) (v w : List ℕ) (old other : List Bool) → Holds s v old
    → Holds t w other → length other ≡ length old → length w ≡ length v
as_many_words s t v w old other h k same =
    omega (arith, held_long s v old h, held_long t w other k, h.long, k.long)

-- ---- rows that are put together word by word

-- the words before a place are put together, and the others are still the old ones
pub record AreCombinedBelow (g : ℕ → ℕ → ℕ) (old other now : List ℕ) (place : ℕ) : Type 0 where
  pub long : length now ≡ length old
  pub below : (i : ℕ) → i < place → get_or now i 0 ≡ g (get_or old i 0) (get_or other i 0)
  pub above : (i : ℕ) → place ≤ i → get_or now i 0 ≡ get_or old i 0

-- words that are 0 change nothing
pub none_combined_before : (g : ℕ → ℕ → ℕ) (old other : List ℕ) (first last : ℕ)
    → ((x : ℕ) → g x 0 ≡ x) → AreWithin first last other
    → AreCombinedBelow g old other old first
none_combined_before g old other first last rest h = record {
  long = refl;
  below = λ i l. sym (rest (get_or old i 0)) ∙ ap (λ (y : ℕ). g (get_or old i 0) y) (sym (h.before i l));
  above = λ i l. refl;
}

pub none_combined_behind : (g : ℕ → ℕ → ℕ) (old other now : List ℕ) (first last place : ℕ)
    → ((x : ℕ) → g x 0 ≡ x) → AreWithin first last other → last ≤ place
    → AreCombinedBelow g old other now place → AreCombinedBelow g old other now (length other)
none_combined_behind g old other now first last place rest h end c = record {
  long = c.long;
  below = λ i l. elim (cases_lt i place) [
    | inl b ↦ c.below i b
    | inr b ↦ c.above i b ∙ sym (rest (get_or old i 0))
        ∙ ap (λ (y : ℕ). g (get_or old i 0) y) (sym (h.behind i (omega arith)))
  ];
  above = λ i l. elim (cases_lt i place) [
    | inl b ↦ c.below i b ∙ ap (λ (y : ℕ). g (get_or old i 0) y) (h.behind i (omega (arith, h.within)))
        ∙ rest (get_or old i 0)
    | inr b ↦ c.above i b
  ];
}

pub none_combined : (g : ℕ → ℕ → ℕ) (old other : List ℕ) → AreCombinedBelow g old other old 0
none_combined g old other = record {
  long = refl;
  below = λ i l. absurd (omega arith);
  above = λ i l. refl;
}

pub one_combined : (g : ℕ → ℕ → ℕ) (old other now : List ℕ) (place x y : ℕ)
    → place < length now → x ≡ get_or now place 0 → y ≡ get_or other place 0
    → AreCombinedBelow g old other now place
    → AreCombinedBelow g old other (set now place (g x y)) (place + 1)
one_combined g old other now place x y within e f h = record {
  long = length-set now place (g x y) ∙ h.long;
  below = λ i l. elim (equal_or_not i place) [
    | inl same ↦ get_or-set_at now place i (g x y) 0 same within
        ∙ rw (same, sym (h.above place (omega arith)), sym e, sym f) refl
    | inr n ↦ get_or-set_other now place i (g x y) 0 n ∙ h.below i (omega arith)
  ];
  above = λ i l. get_or-set_other now place i (g x y) 0 (λ e. omega arith)
      ∙ h.above i (omega arith);
}

module _ (f : Bool → Bool → Bool) (g : ℕ → ℕ → ℕ) (s t : ℕ) (v w now : List ℕ)
    (old other : List Bool) (place : ℕ) (alike : AreAlike f g) (first : Holds s v old)
    (second : Holds t w other) (short : length other ≤ length old) (end : length w ≤ place)
    (upto : place ≤ length w) (h : AreCombinedBelow g v w now place)
    (rest : (x : ℕ) → length w < length v → g x 0 ≡ x) where
  each_word : (i : ℕ) → i < length v → get_or now i 0 ≡ word_at (combined f old other) i
  each_word i l = elim (cases_lt i (length w)) [
    | inl b ↦ h.below i (omega arith)
        ∙ rw (held_word s v old i first l, held_word t w other i second b) refl
        ∙ sym (word_combined f g old other i alike short)
    | inr b ↦
        let none : word_at other i ≡ 0 = word_past other i
        (omega (arith, held_long t w other second, second.long)) in
        h.above i (omega arith) ∙ held_word s v old i first l
        ∙ sym (rest (word_at old i) (omega arith))
        ∙ rw (sym none) refl
        ∙ sym (word_combined f g old other i alike short)
  ]

  pub combined_holds : Holds s now (combined f old other)
  combined_holds = record {
    long = combined_long f old other ∙ first.long;
    same = ext_get_or 0 now (packed (combined f old other)) (h.long ∙ held_long s v old first
        ∙ sym long) (λ i l.
        let b : i < length v = subst (λ n. i < n) h.long l in
        each_word i b
        ∙ sym (packed_at (combined f old other) i
        (omega (arith, combined_long f old other, held_long s v old first, first.long))));
  }
    where
      long : length (packed (combined f old other)) ≡ (s + 63) / 64
      long = packed_long (combined f old other)
          ∙ ap (λ (m : ℕ). (m + 63) / 64) (combined_long f old other ∙ first.long)

pub combined_union : (old other : List Bool) → length other ≤ length old
    → HasGained old (combined either old other) (length old) (λ p. is_marked other p)
combined_union old other short = record {
  long = combined_long either old other;
  each = λ p. combined_at either old other p refl short;
}

pub combined_intersection : (old other : List Bool) → length other ≤ length old
    → IsIntersection old other (combined both old other)
combined_intersection old other short = record {
  long = combined_long both old other;
  each = λ p. combined_at both old other p refl short;
}

-- ---- the window of the words that are not 0

-- outside a window that has the window of some words these are 0
pub zero_outside : (first last from to : ℕ) (words : List ℕ)
    → (first < last → (from ≤ first) × (last ≤ to)) → AreWithin first last words → (i : ℕ)
    → (i < from) ⊎ (to ≤ i) → get_or words i 0 ≡ 0
zero_outside first last from to words inside h i out = elim (cases_lt first last) [
  | inl some ↦
      let around = inside some in
      elim out [
        | inl b ↦ h.before i (omega (arith, b, around.0))
        | inr b ↦ h.behind i (omega (arith, b, around.1))
      ]
  | inr none ↦ elim (cases_lt i first) [
    | inl b ↦ h.before i b
    | inr b ↦ h.behind i (omega (arith, b, none))
  ]
]

pub combined_within : (g : ℕ → ℕ → ℕ) (old other now : List ℕ)
    (first last other_first other_last : ℕ) (window : ℕ × ℕ) → g 0 0 ≡ 0
    → length other ≤ length old → AreWithin first last old → AreWithin other_first other_last other
    → IsWindowOf first last other_first other_last window
    → AreCombinedBelow g old other now (length other) → AreWithin window.0 window.1 now
combined_within g old other now first last other_first other_last window zeros short h k w c =
    record {
      order = w.order;
      within = elim w.within [
        | inl b ↦ omega (arith, b, h.within, c.long)
        | inr b ↦ omega (arith, b, k.within, c.long, short)
      ];
      before = λ i l. each i (inl l);
      behind = λ i l. each i (inr l);
    }
  where
    each : (i : ℕ) → (i < window.0) ⊎ (window.1 ≤ i) → get_or now i 0 ≡ 0
    each i out =
        let a : get_or old i 0 ≡ 0 =
        zero_outside first last window.0 window.1 old w.one h i out in
        let b : get_or other i 0 ≡ 0 =
        zero_outside other_first other_last window.0 window.1 other w.other k i out in
        elim (cases_lt i (length other)) [
          | inl l ↦ c.below i l ∙ rw (a, b) zeros
          | inr l ↦ c.above i l ∙ a
        ]

pub lessened_within : (g : ℕ → ℕ → ℕ) (old other now : List ℕ) (first last place : ℕ)
    → ((y : ℕ) → g 0 y ≡ 0) → AreWithin first last old → AreCombinedBelow g old other now place
    → AreWithin first last now
lessened_within g old other now first last place zeros h c = record {
  order = h.order;
  within = rw c.long h.within;
  before = λ i l. each i (h.before i l);
  behind = λ i l. each i (h.behind i l);
}
  where
    each : (i : ℕ) → get_or old i 0 ≡ 0 → get_or now i 0 ≡ 0
    each i a = elim (cases_lt i place) [
      | inl l ↦ c.below i l ∙ rw a (zeros (get_or other i 0))
      | inr l ↦ c.above i l ∙ a
    ]

pub none_within : (n : ℕ) → AreWithin 0 0 (replicate {A = ℕ} n 0)
none_within n = record {
  order = omega arith;
  within = omega arith;
  before = λ i l. absurd (omega (arith, l));
  behind = λ i l. zero_in_zeros n i;
}

-- one more word that may be other than 0
pub set_within : (first last place w : ℕ) (window : ℕ × ℕ) (words : List ℕ)
    → place < length words → AreWithin first last words
    → IsWindowOf first last place (place + 1) window
    → AreWithin window.0 window.1 (set words place w)
set_within first last place w window words within h u = record {
  order = u.order;
  within = elim u.within [
    | inl b ↦ omega (arith, b, h.within, length-set words place w)
    | inr b ↦ omega (arith, b, within, length-set words place w)
  ];
  before = λ i l. each i (inl l);
  behind = λ i l. each i (inr l);
}
  where
    around : (window.0 ≤ place) × (place + 1 ≤ window.1)
    around = u.other (omega arith)

    each : (i : ℕ) → (i < window.0) ⊎ (window.1 ≤ i) → get_or (set words place w) i 0 ≡ 0
    each i out = get_or-set_other words place i w 0 (apart i out)
        ∙ zero_outside first last window.0 window.1 words u.one h i out
      where
        apart : (i : ℕ) → (i < window.0) ⊎ (window.1 ≤ i) → i ≢ place
        apart i (inl b) e = omega (arith, b, around.0, e)
        apart i (inr b) e = omega (arith, b, around.1, e)

-- ---- words that are put to 0

-- the words of a window before a place are 0, and the others are still the old ones
pub record AreClearedBelow (old now : List ℕ) (place : ℕ) : Type 0 where
  pub long : length now ≡ length old
  pub below : (i : ℕ) → i < place → get_or now i 0 ≡ 0
  pub above : (i : ℕ) → place ≤ i → get_or now i 0 ≡ get_or old i 0

pub none_cleared : (first last : ℕ) (old : List ℕ) → AreWithin first last old
    → AreClearedBelow old old first
none_cleared first last old h = record { long = refl; below = h.before; above = λ i l. refl }

pub one_cleared : (old now : List ℕ) (place : ℕ) → place < length now
    → AreClearedBelow old now place → AreClearedBelow old (set now place 0) (place + 1)
one_cleared old now place within h = record {
  long = length-set now place 0 ∙ h.long;
  below = λ i l. elim (equal_or_not i place) [
    | inl same ↦ get_or-set_at now place i 0 0 same within
    | inr n ↦ get_or-set_other now place i 0 0 n ∙ h.below i (omega (arith, l, n))
  ];
  above = λ i l. get_or-set_other now place i 0 0 (λ e. omega (arith, l, e))
      ∙ h.above i (omega (arith, l));
}

pub all_cleared : (first last place : ℕ) (old now : List ℕ) → AreWithin first last old
    → last ≤ place → AreClearedBelow old now place → now ≡ replicate (length old) 0
all_cleared first last place old now h end c = ext_get_or 0 now (replicate (length old) 0)
    (c.long ∙ sym (length-replicate {A = ℕ} (length old) 0)) (λ i l.
    zero i ∙ sym (zero_in_zeros (length old) i))
  where
    zero : (i : ℕ) → get_or now i 0 ≡ 0
    zero i = elim (cases_lt i place) [
      | inl b ↦ c.below i b
      | inr b ↦ c.above i b ∙ h.behind i (omega (arith, b, end))
    ]

-- ---- members in common

-- no word before a place has a bit in common with its fellow
abbrev pub AreApartBelow : List ℕ → List ℕ → ℕ → Type 0
AreApartBelow v w place = (i : ℕ) → i < place → bit_and (get_or v i 0) (get_or w i 0) ≡ 0

apart_from_zero : (v w : List ℕ) (i : ℕ) → get_or w i 0 ≡ 0
    → bit_and (get_or v i 0) (get_or w i 0) ≡ 0
apart_from_zero v w i e = rw e (and_zero_r (get_or v i 0))

pub none_apart_before : (v w : List ℕ) (first last : ℕ) → AreWithin first last w
    → AreApartBelow v w first
none_apart_before v w first last h i l = apart_from_zero v w i (h.before i l)

pub none_apart_behind : (v w : List ℕ) (first last place : ℕ) → AreWithin first last w
    → last ≤ place → AreApartBelow v w place → AreApartBelow v w (length w)
none_apart_behind v w first last place h end apart i l = elim (cases_lt i place) [
  | inl b ↦ apart i b
  | inr b ↦ apart_from_zero v w i (h.behind i (omega (arith, b, end)))
]

pub one_apart : (v w : List ℕ) (place x y : ℕ) → x ≡ get_or v place 0 → y ≡ get_or w place 0
    → bit_and x y ≡ 0 → AreApartBelow v w place → AreApartBelow v w (place + 1)
one_apart v w place x y e f none h i l = elim (equal_or_not i place) [
  | inl same ↦ rw (same, sym e, sym f) none
  | inr n ↦ h i (omega arith)
]

-- the bit that two words have in common where both marks are set
abbrev bit_of_both : Bool → Bool → ℕ
bit_of_both a b = cond (a && b) 1 0

both_marked : (a b : Bool) → bit_of_both a b ≡ 1 → IsTrue a × IsTrue b
both_marked true true e = (refl, refl)
both_marked true false e = absurd (omega (arith, e))
both_marked false true e = absurd (omega (arith, e))
both_marked false false e = absurd (omega (arith, e))

marked_both : (a b : Bool) → IsTrue a → IsTrue b → bit_of_both a b ≡ 1
marked_both true true e f = refl
marked_both true false e f = absurd (both_ways false refl f)
marked_both false b e f = absurd (both_ways false refl e)

common_bit : (marks other : List Bool) (i k : ℕ) → k < 64
    → bit_at (bit_and (word_at marks i) (word_at other i)) k
    ≡ bit_of_both (is_marked marks (64 * i + k)) (is_marked other (64 * i + k))
common_bit marks other i k l = and_alike.each (is_marked marks (64 * i + k))
    (is_marked other (64 * i + k)) (word_at marks i) (word_at other i) k (word_bit marks i k l)
    (word_bit other i k l)

module _ (s t : ℕ) (v w : List ℕ) (marks other : List Bool) (first : Holds s v marks)
    (second : Holds t w other) (short : length other ≤ length marks) where
  fewer : length w ≤ length v
  fewer = fewer_words s t v w marks other first second short

  -- words with a bit in common have a member in common
  pub meet_here : (place x y : ℕ) → place < length w → x ≡ get_or v place 0
      → y ≡ get_or w place 0 → 0 < bit_and x y → Meet marks other
  meet_here place x y l e f some =
      let common : bit_and x y ≡ bit_and (word_at marks place) (word_at other place) =
      rw (
        e,
        f,
        held_word s v marks place first (omega (arith, l, fewer)),
        held_word t w other place second l,
      ) refl in
      let less = and_le_l (word_at marks place) (word_at other place) in
      let small = word_small marks place in
      let lowest = bit_at-trailing_zeros w64 (bit_and x y) some (omega (arith, common)) in
      let k : ℕ = trailing_zeros w64 (bit_and x y) in
      let found = both_marked (is_marked marks (64 * place + k))
      (is_marked other (64 * place + k))
      (sym (common_bit marks other place k lowest.0)
      ∙ ap (λ (n : ℕ). bit_at n k) (sym common) ∙ lowest.1) in
      (64 * place + k, found.0, found.1)

  pub meet_nowhere : AreApartBelow v w (length w) → Meet marks other → ⊥
  meet_nowhere h (p, a, b) = elim (cases_lt p (length other)) [
    | inl l ↦
        let within : p / 64 < length w = omega (arith, l, held_long t w other second, second.long) in
        let none : bit_and (word_at marks (p / 64)) (word_at other (p / 64)) ≡ 0 =
        rw (
          sym (held_word s v marks (p / 64) first (omega (arith, within, fewer))),
          sym (held_word t w other (p / 64) second within),
        )
        (h (p / 64) within) in
        let cut : 64 * (p / 64) + p % 64 ≡ p = place_cut p in
        let one : bit_of_both (is_marked marks (64 * (p / 64) + p % 64))
        (is_marked other (64 * (p / 64) + p % 64)) ≡ 1 =
        rw cut (marked_both (is_marked marks p) (is_marked other p) a b) in
        let bit = common_bit marks other (p / 64) (p % 64) (omega arith) in
        let zero : bit_at (bit_and (word_at marks (p / 64)) (word_at other (p / 64))) (p % 64)
        ≡ 0 = ap (λ (n : ℕ). bit_at n (p % 64)) none ∙ bit_at-zero (p % 64) in
        omega (arith, one, bit, zero)
    | inr g ↦
        both_ways (is_marked other p) (get_or_past other p false g) b
  ]
