-- Rows of marks and their words.
use Rattle.std.proofs.Common.{◌≡◌, ◌≢◌, ℕ, ◌+◌, ◌*◌, ◌/◌, ◌%◌, ◌^◌, ◌<◌, ◌≤◌, ◌==◌, ◌↔◌, inl, inr, Bool, true, false, IsTrue, List, cond, length, get_or, set, take, drop, replicate, bit_or, bit_and, w64, nat_eq, refl, ap, sym, subst, ◌∙◌, arith}
use Rattle.std.specs.Int.{bit_at}
use Rattle.std.proofs.lemmas.Simd.{bit_mask_l, mask_l-mod}
use Rattle.std.proofs.lemmas.Nat.Bits.{same_from_bits_below, bit_at_set_same, bit_at_set_other, bit_at-zero, shr_and_one}
use Rattle.std.proofs.lemmas.Nat.{or_lt}
use Rattle.std.proofs.lemmas.List.{ext_get_or, get_or-replicate, length-replicate, length-set, get_or-set_other, get_or-take, get_or-drop, length-take}
use Rattle.std.proofs.lemmas.Bool.Decides.{same_from_decides, Decides-eqb}
use Rattle.std.proofs.lemmas.Slice.Eq.{slice_eq-Decides}
use Rattle.std.specs.Cmp.{unsigned_Decides, booleans_Decides}
use Rattle.std.specs.Cmp.Lexicographic.{pointwise}
use Rattle.std.specs.Bool.{beq, Decides}
use Rattle.std.proofs.lemmas.Bool.{cases_lt}
use Rattle.std.proofs.lemmas.List.FromFn.{length-map-range_with_len, get_or-map-range_with_len}
use Rattle.std.proofs.lemmas.Grind.{common_steps, get_or-set_at}
use Rattle.language_theory.proofs.Numbers.{equal_or_not}
use Rattle.language_theory.specs.Automaton.{is_marked}
use Rattle.number_set.specs.Marks.{mark_in, marks_in, word_at, packed}

-- ---- places

pub place_cut : (p : ℕ) → 64 * (p / 64) + p % 64 ≡ p
place_cut p = omega arith

pub place_within : (p n : ℕ) → p < n → p / 64 < (n + 63) / 64
place_within p n h = omega arith

-- ---- one word

pub word_bit : (marks : List Bool) (i k : ℕ) → k < 64
    → bit_at (word_at marks i) k ≡ cond (is_marked marks (64 * i + k)) 1 0
word_bit marks i k h = bit_mask_l (take 64 (drop (64 * i) marks)) k
    ∙ ap (λ (b : Bool). cond b 1 0)
    (get_or-take 64 (drop (64 * i) marks) k false h ∙ get_or-drop (64 * i) marks k false)

pub word_small : (marks : List Bool) (i : ℕ) → word_at marks i < 2 ^ 64
word_small marks i = let m = mask_l-mod (take 64 (drop (64 * i) marks)) 64
    (omega (arith, length-take 64 (drop (64 * i) marks))) in omega (arith, m)

-- ---- rows of words

pub packed_long : (marks : List Bool) → length (packed marks) ≡ (length marks + 63) / 64
unfolding packed
packed_long marks = length-map-range_with_len _ 0 _

pub packed_at : (marks : List Bool) (i : ℕ) → i < (length marks + 63) / 64
    → get_or (packed marks) i 0 ≡ word_at marks i
unfolding packed
packed_at marks i h = get_or-map-range_with_len (λ i. word_at marks i) 0 ((length marks + 63) / 64)
    i i 0 h (omega arith)

pub packed_bit : (marks : List Bool) (p : ℕ) → p < length marks
    → bit_at (get_or (packed marks) (p / 64) 0) (p % 64) ≡ cond (is_marked marks p) 1 0
packed_bit marks p h =
    ap (λ (w : ℕ). bit_at w (p % 64)) (packed_at marks (p / 64) (place_within p (length marks) h))
    ∙ word_bit marks (p / 64) (p % 64) (omega arith)
    ∙ ap (λ (q : ℕ). cond (is_marked marks q) 1 0) (place_cut p)

test_of : (b : Bool) → (cond b 1 0 == 1) ≡ b
test_of true = refl
test_of false = refl

pub packed_mark : (marks : List Bool) (p : ℕ) → p < length marks
    → mark_in (packed marks) p ≡ is_marked marks p
packed_mark marks p h = ap (λ (n : ℕ). n == 1) (packed_bit marks p h) ∙ test_of (is_marked marks p)

-- ---- marks in words

pub marks_in_long : (size : ℕ) (words : List ℕ) → length (marks_in size words) ≡ size
unfolding marks_in
marks_in_long size words = length-map-range_with_len _ 0 size

pub marks_in_at : (size : ℕ) (words : List ℕ) (p : ℕ) → p < size
    → is_marked (marks_in size words) p ≡ mark_in words p
unfolding marks_in
marks_in_at size words p h =
    get_or-map-range_with_len (λ p. mark_in words p) 0 size p p false h (omega arith)

pub unpacked : (marks : List Bool) → marks_in (length marks) (packed marks) ≡ marks
unpacked marks =
    ext_get_or false (marks_in (length marks) (packed marks)) marks (marks_in_long _ _) (λ p l.
    let h : p < length marks = subst (λ n. p < n) (marks_in_long (length marks) (packed marks)) l in
    marks_in_at (length marks) (packed marks) p h ∙ packed_mark marks p h)

-- words that hold a row of marks have it as their marks, and are its words
pub unpacked_at : (size : ℕ) (words : List ℕ) (marks : List Bool) → length marks ≡ size
    → words ≡ packed marks → marks_in size words ≡ marks
unpacked_at size words marks e f = rw (sym e, f) (unpacked marks)

pub packed_again : (size : ℕ) (words : List ℕ) (marks : List Bool) → length marks ≡ size
    → words ≡ packed marks → words ≡ packed (marks_in size words)
packed_again size words marks e f = f ∙ ap packed (sym (unpacked_at size words marks e f))

-- ---- changes

unmarked_row : (n q : ℕ) → is_marked (replicate n false) q ≡ false
unmarked_row n q = elim (cases_lt q n) [
  | inl l ↦ get_or-replicate n q false false l
  | inr g ↦ grind (arith, common_steps)
]

word_bare : (n i : ℕ) → word_at (replicate n false) i ≡ 0
word_bare n i = same_from_bits_below 64 (word_at (replicate n false) i) 0
    (word_small (replicate n false) i) (omega arith) (λ k h.
    word_bit (replicate n false) i k h ∙ ap (λ (b : Bool). cond b 1 0) (unmarked_row n (64 * i + k))
    ∙ sym (bit_at-zero k))

pub packed_empty : (n : ℕ) → packed (replicate n false) ≡ replicate ((n + 63) / 64) 0
packed_empty n = ext_get_or 0 (packed (replicate n false)) (replicate ((n + 63) / 64) 0)
    (long ∙ sym (length-replicate ((n + 63) / 64) 0)) (λ i l.
    let h : i < (n + 63) / 64 = subst (λ m. i < m) long l in
    packed_at (replicate n false) i (rw (length-replicate n false) h) ∙ word_bare n i
    ∙ sym (get_or-replicate ((n + 63) / 64) i 0 0 h))
  where
    long : length (packed (replicate n false)) ≡ (n + 63) / 64
    long = packed_long (replicate n false)
        ∙ ap (λ (m : ℕ). (m + 63) / 64) (length-replicate n false)

-- a mark changes its own word alone
word_other : (marks : List Bool) (p i : ℕ) → i ≢ p / 64
    → word_at (set marks p true) i ≡ word_at marks i
word_other marks p i n = same_from_bits_below 64 (word_at (set marks p true) i) (word_at marks i)
    (word_small (set marks p true) i) (word_small marks i) (λ k h.
    let apart : 64 * i + k ≢ p = λ e. n (omega arith) in
    word_bit (set marks p true) i k h ∙ ap (λ (b : Bool). cond b 1 0)
    (get_or-set_other marks p (64 * i + k) true false apart) ∙ sym (word_bit marks i k h))

word_set : (marks : List Bool) (p i : ℕ) → i ≡ p / 64 → p < length marks
    → word_at (set marks p true) i ≡ bit_or (word_at marks i) (1 * 2 ^ (p % 64) % 2 ^ 64)
word_set marks p i e l = same_from_bits_below 64 (word_at (set marks p true) i)
    (bit_or (word_at marks i) (1 * 2 ^ (p % 64) % 2 ^ 64)) (word_small (set marks p true) i)
    (or_lt 64 (word_at marks i) (1 * 2 ^ (p % 64) % 2 ^ 64) (word_small marks i) (omega arith))
    (λ k h. elim (equal_or_not k (p % 64)) [
      | inl f ↦
          let at : 64 * i + k ≡ p = omega arith in
          word_bit (set marks p true) i k h ∙ ap (λ (b : Bool). cond b 1 0)
          (get_or-set_at marks p (64 * i + k) true false at l)
          ∙ sym (ap (λ (j : ℕ). bit_at (bit_or (word_at marks i) (1 * 2 ^ (p % 64) % 2 ^ 64)) j) f
          ∙ bit_at_set_same w64 (word_at marks i) (p % 64) (omega arith))
      | inr n ↦
          let apart : 64 * i + k ≢ p = λ g. n (omega arith) in
          word_bit (set marks p true) i k h ∙ ap (λ (b : Bool). cond b 1 0)
          (get_or-set_other marks p (64 * i + k) true false apart) ∙ sym (word_bit marks i k h)
          ∙ sym (bit_at_set_other w64 (word_at marks i) (p % 64) (omega arith) k n)
    ])

pub packed_set : (marks : List Bool) (p : ℕ) → p < length marks
    → packed (set marks p true) ≡ set (packed marks) (p / 64)
    (bit_or (get_or (packed marks) (p / 64) 0) (1 * 2 ^ (p % 64) % 2 ^ 64))
packed_set marks p h = ext_get_or 0 (packed (set marks p true)) (set (packed marks) (p / 64) word)
    (long ∙ sym (length-set (packed marks) (p / 64) word ∙ packed_long marks)) (λ i l.
    let b : i < (length marks + 63) / 64 = subst (λ m. i < m) long l in
    let first : get_or (packed (set marks p true)) i 0 ≡ word_at (set marks p true) i =
    packed_at (set marks p true) i (rw (length-set marks p true) b) in
    elim (equal_or_not i (p / 64)) [
      | inl e ↦
          let old : get_or (packed marks) (p / 64) 0 ≡ word_at marks i =
          ap (λ (j : ℕ). get_or (packed marks) j 0) (sym e) ∙ packed_at marks i b in
          first ∙ word_set marks p i e h ∙ ap (λ (w : ℕ). bit_or w (1 * 2 ^ (p % 64) % 2 ^ 64))
          (sym old) ∙ sym (get_or-set_at (packed marks) (p / 64) i word 0 e
          (rw (packed_long marks) (place_within p (length marks) h)))
      | inr n ↦ first ∙ word_other marks p i n
          ∙ sym (get_or-set_other (packed marks) (p / 64) i word 0 n ∙ packed_at marks i b)
    ])
  where
    word : ℕ
    word = bit_or (get_or (packed marks) (p / 64) 0) (1 * 2 ^ (p % 64) % 2 ^ 64)

    long : length (packed (set marks p true)) ≡ (length marks + 63) / 64
    long = packed_long (set marks p true) ∙ ap (λ (m : ℕ). (m + 63) / 64) (length-set marks p true)

-- ---- words of a set

-- the words hold the marks: no bit beyond the marks is set
pub record Holds (size : ℕ) (words : List ℕ) (marks : List Bool) : Type 0 where
  pub long : length marks ≡ size
  pub same : words ≡ packed marks

pub holds : (size : ℕ) (words : List ℕ) (marks : List Bool) → words ≡ packed (marks_in size words)
    → marks_in size words ≡ marks → Holds size words marks
holds size words marks e v = record {
  long = ap (λ (m : List Bool). length m) (sym v)
      ∙ marks_in_long size words;
  same = e ∙ ap packed v;
}

pub held_marks : (size : ℕ) (words : List ℕ) (marks : List Bool) → Holds size words marks
    → marks_in size words ≡ marks
held_marks size words marks h = unpacked_at size words marks h.long h.same

pub held_words : (size : ℕ) (words : List ℕ) (marks : List Bool) → Holds size words marks
    → words ≡ packed (marks_in size words)
held_words size words marks h = packed_again size words marks h.long h.same

pub held_long : (size : ℕ) (words : List ℕ) (marks : List Bool) → Holds size words marks
    → length words ≡ (size + 63) / 64
held_long size words marks h = ap (λ (ws : List ℕ). length ws) h.same ∙ packed_long marks
    ∙ ap (λ (m : ℕ). (m + 63) / 64) h.long

pub held_within : (size : ℕ) (words : List ℕ) (marks : List Bool) (p : ℕ) → Holds size words marks
    → p < length marks → p / 64 < length words
held_within size words marks p h l =
    rw (held_long size words marks h, sym h.long) (place_within p (length marks) l)

-- a place of the words is that of 64 marks, of which the first is there
pub held_place : (size : ℕ) (words : List ℕ) (marks : List Bool) (i : ℕ) → Holds size words marks
    → (i < length words) ↔ (64 * i < length marks)
held_place size words marks i h = (
  λ l. omega (arith, held_long size words marks h, h.long),
  λ l.
      omega (arith, held_long size words marks h, h.long),
)

pub held_word : (size : ℕ) (words : List ℕ) (marks : List Bool) (i : ℕ) → Holds size words marks
    → i < length words
    → get_or words i 0 ≡ word_at marks i
held_word size words marks i h l =
    ap (λ (ws : List ℕ). get_or ws i 0) h.same
    ∙ packed_at marks i (omega (arith, held_long size words marks h, h.long))

pub empty_holds : (size : ℕ) → Holds size (replicate ((size + 63) / 64) 0) (replicate size false)
empty_holds size = record { long = length-replicate size false; same = sym (packed_empty size) }

pub set_holds : (size : ℕ) (words : List ℕ) (marks : List Bool) (p w : ℕ) → Holds size words marks
    → p < length marks → w ≡ get_or words (p / 64) 0
    → Holds size (set words (p / 64) (bit_or w (1 * 2 ^ (p % 64) % 2 ^ 64))) (set marks p true)
set_holds size words marks p w h l e = record {
  long = length-set marks p true ∙ h.long;
  same = ap (λ (x : ℕ). set words (p / 64) (bit_or x (1 * 2 ^ (p % 64) % 2 ^ 64))) e
      ∙ ap (λ (ws : List ℕ). set ws (p / 64) (bit_or (get_or ws (p / 64) 0)
      (1 * 2 ^ (p % 64) % 2 ^ 64))) h.same ∙ sym (packed_set marks p l);
}

pub held_mark : (size : ℕ) (words : List ℕ) (marks : List Bool) (p w : ℕ) → Holds size words marks
    → p < length marks → w ≡ get_or words (p / 64) 0
    → (bit_and (w / 2 ^ (p % 64)) 1 == 1) ≡ is_marked marks p
held_mark size words marks p w h l e =
    ap (λ (n : ℕ). n == 1) (shr_and_one w (p % 64))
    ∙ ap (λ (x : ℕ). bit_at x (p % 64) == 1)
    (e ∙ ap (λ (ws : List ℕ). get_or ws (p / 64) 0) h.same) ∙ packed_mark marks p l

-- two sets of one size are equal exactly where their words are
pub equal_held : (s t : ℕ) (v w : List ℕ) (m n : List Bool) → s ≡ t → Holds s v m → Holds t w n
    → pointwise nat_eq v w ≡ pointwise beq m n
equal_held s t v w m n e h k = same_from_decides (pointwise nat_eq v w) (pointwise beq m n)
    (λ r. same_words (on_words.0 r), λ f. on_words.1 (h.same ∙ ap packed f ∙ sym k.same))
    (slice_eq-Decides booleans_Decides m n (pointwise beq m n) refl)
  where
    on_words : Decides (pointwise nat_eq v w) (v ≡ w)
    on_words = slice_eq-Decides unsigned_Decides v w (pointwise nat_eq v w) refl

    same_words : v ≡ w → m ≡ n
    same_words f = sym (held_marks s v m h) ∙ ap (λ (ws : List ℕ). marks_in s ws) f
        ∙ ap (λ (size : ℕ). marks_in size w) e ∙ held_marks t w n k

pub unequal_held : (s t : ℕ) (v w : List ℕ) (m n : List Bool) → s ≢ t → Holds s v m → Holds t w n
    → (s == t) ≡ pointwise beq m n
unequal_held s t v w m n d h k = same_from_decides (s == t) (pointwise beq m n) (
  λ r. absurd (d ((Decides-eqb s t).0 r)),
  λ f.
      absurd (d (sym h.long ∙ ap (λ (x : List Bool). length x) f ∙ k.long)),
)
    (slice_eq-Decides booleans_Decides m n (pointwise beq m n) refl)

-- ---- sets that are made mark by mark

-- the marks below a place are taken over
pub record AreTakenBelow (from : List Bool) (place : ℕ) (marks : List Bool) : Type 0 where
  pub long : length marks ≡ length from
  pub below : (q : ℕ) → q < place → is_marked marks q ≡ is_marked from q
  pub bare : (q : ℕ) → place ≤ q → is_marked marks q ≡ false

pub none_taken : (from : List Bool) → AreTakenBelow from 0 (replicate (length from) false)
none_taken from = record {
  long = length-replicate (length from) false;
  below =
      λ q l. absurd (omega arith);
  bare = λ q l. unmarked_row (length from) q;
}

pub one_taken : (from marks : List Bool) (place : ℕ) → IsTrue (is_marked from place)
    → place < length from → AreTakenBelow from place marks
    → AreTakenBelow from (place + 1) (set marks place true)
one_taken from marks place marked within h = record {
  long = length-set marks place true ∙ h.long;
  below = λ q l. elim (equal_or_not q place) [
    | inl e ↦ get_or-set_at marks place q true false e (rw h.long within)
        ∙ sym (ap (λ (p : ℕ). is_marked from p) e ∙ marked)
    | inr n ↦ get_or-set_other marks place q true false n ∙ h.below q (omega arith)
  ];
  bare = λ q l. get_or-set_other marks place q true false (λ e. omega arith)
      ∙ h.bare q (omega arith);
}

pub none_more : (from marks : List Bool) (place : ℕ) → is_marked from place ≡ false
    → AreTakenBelow from place marks → AreTakenBelow from (place + 1) marks
none_more from marks place unmarked h = record {
  long = h.long;
  below = λ q l. elim (equal_or_not q place) [
    | inl e ↦ h.bare q (omega arith) ∙ sym (ap (λ (p : ℕ). is_marked from p) e ∙ unmarked)
    | inr n ↦ h.below q (omega arith)
  ];
  bare = λ q l. h.bare q (omega arith);
}

pub all_taken : (from marks : List Bool) (place : ℕ) → length from ≤ place
    → AreTakenBelow from place marks → marks ≡ from
all_taken from marks place g h =
    ext_get_or false marks from h.long (λ q l. h.below q (omega (arith, h.long)))
