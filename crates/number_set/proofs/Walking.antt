-- A walk over the members of a set, word by word.
use Rattle.std.proofs.Common.{◌≡◌, ◌≢◌, ℕ, ◌+◌, ◌-◌, ◌*◌, ◌%◌, ◌^◌, ◌<◌, ◌≤◌, inl, inr, Bool, true, false, IsTrue, List, Option, Some, None, cond, length, bit_and, w64, refl, ap, sym, subst, ◌∙◌, arith}
use Rattle.std.specs.Option.{unwrap_or}
use Rattle.std.specs.Int.{bit_at, bit_not, trailing_zeros}
use Rattle.std.proofs.lemmas.Nat.Bits.{bit_at_clear_same, bit_at_clear_other, bit_at-zero, bit_at-trailing_zeros}
use Rattle.std.proofs.lemmas.Nat.{and_le_l}
use Rattle.std.proofs.lemmas.List.{get_or_past}
use Rattle.std.proofs.lemmas.Bool.{cases_lt, both_ways}
use Rattle.language_theory.proofs.Numbers.{equal_or_not}
use Rattle.language_theory.specs.Automaton.{is_marked}
use Rattle.number_set.specs.Marks.{word_at, IsWord, IsBare, IsNextMember, IsAhead}
use Rattle.number_set.proofs.Packing.{word_bit, word_small}

zero_or_one : (n : ℕ) → n ≡ 1 → n ≡ 0 → ⊥
zero_or_one n e f = omega arith

marked_from : (b : Bool) (n : ℕ) → n ≡ cond b 1 0 → n ≡ 1 → IsTrue b
marked_from true n e f = refl
marked_from false n e f = absurd (zero_or_one n f e)

unmarked_from : (b : Bool) (n : ℕ) → n ≡ cond b 1 0 → n ≡ 0 → b ≡ false
unmarked_from true n e f = absurd (zero_or_one n e f)
unmarked_from false n e f = refl

-- before the first word nothing is behind the walk
ahead_at_start : (marks : List Bool) (left : ℕ) → left ≡ word_at marks 0 → IsAhead marks 0 0 left
ahead_at_start marks left e = record {
  small = rw e (word_small marks 0);
  before = λ q _ l. absurd (omega arith);
  gone = λ k _ l. absurd (omega arith);
  here = λ k l _. ap (λ (w : ℕ). bit_at w k) e ∙ word_bit marks 0 k l;
  near = omega arith;
  within = omega arith;
}

pub ahead_of_word : (marks : List Bool) (word : Option ℕ) → IsWord marks 0 word
    → IsAhead marks 0 0 (unwrap_or word 0)
ahead_of_word marks (Some w) h = ahead_at_start marks w h.1
ahead_of_word marks None h = record {
  small = omega arith;
  before = λ q _ l. absurd (omega arith);
  gone = λ k _ l. absurd (omega arith);
  here = λ k l _. bit_at-zero k
      ∙ sym (ap (λ (b : Bool). cond b 1 0) (get_or_past marks (64 * 0 + k) false (omega arith)));
  near = omega arith;
  within = omega arith;
}

module _ (marks : List Bool) (from place left : ℕ) (h : IsAhead marks from place left) where
  -- what a walk has left of a number's place tells its mark
  bare_within : left ≡ 0 → IsBare marks from (64 * (place + 1))
  bare_within none q hq lq = elim (cases_lt q (64 * place)) [
    | inl b ↦ h.before q hq b
    | inr b ↦
        let k : 64 * place + (q - 64 * place) ≡ q = omega arith in
        let bit : bit_at left (q - 64 * place) ≡ 0 = ap (λ (w : ℕ). bit_at w (q - 64 * place)) none
        ∙ bit_at-zero (q - 64 * place) in
        subst (λ (p : ℕ). is_marked marks p ≡ false) k
        (unmarked_from (is_marked marks (64 * place + (q - 64 * place)))
        (bit_at left (q - 64 * place))
        (h.here (q - 64 * place) (omega arith) (omega arith)) bit)
  ]

  -- the next word, where nothing is left of this one
  pub ahead_at_next : (word : ℕ) → left ≡ 0 → IsWord marks (place + 1) (Some word)
      → IsAhead marks from (place + 1) word
  ahead_at_next word none (l, e) = record {
    small = rw e (word_small marks (place + 1));
    before = bare_within none;
    gone = λ k _ l. let n = h.near in absurd (omega arith);
    here = λ k l _. ap (λ (w : ℕ). bit_at w k) e ∙ word_bit marks (place + 1) k l;
    near = let n = h.near in omega arith;
    within = omega arith;
  }

  -- no member is left behind the last word
  pub none_ahead : left ≡ 0 → length marks ≤ 64 * (place + 1) → (q : ℕ) → from ≤ q
      → is_marked marks q ≡ false
  none_ahead none end q hq = elim (cases_lt q (64 * (place + 1))) [
    | inl b ↦ bare_within none q hq b
    | inr b ↦ get_or_past marks q false (omega arith)
  ]

  module _ (some : 0 < left) where
    lowest : (trailing_zeros w64 left < 64) × (bit_at left (trailing_zeros w64 left) ≡ 1)
        × ((i : ℕ) → i < trailing_zeros w64 left → bit_at left i ≡ 0)
    lowest = bit_at-trailing_zeros w64 left some h.small

    reached : from ≤ 64 * place + trailing_zeros w64 left
    reached = elim (cases_lt (64 * place + trailing_zeros w64 left) from) [
      | inl l ↦ absurd (zero_or_one (bit_at left (trailing_zeros w64 left)) lowest.1
          (h.gone (trailing_zeros w64 left) lowest.0 l))
      | inr g ↦ g
    ]

    marked : IsTrue (is_marked marks (64 * place + trailing_zeros w64 left))
    marked = marked_from (is_marked marks (64 * place + trailing_zeros w64 left))
        (bit_at left (trailing_zeros w64 left))
        (h.here (trailing_zeros w64 left) lowest.0 reached) lowest.1

    -- the lowest bit that is left is that of the next member
    pub next_ahead : IsNextMember marks from (64 * place + trailing_zeros w64 left)
    next_ahead = record {
      above = reached;
      within = elim (cases_lt (64 * place + trailing_zeros w64 left) (length marks)) [
        | inl i ↦ i
        | inr g ↦ absurd (both_ways (is_marked marks (64 * place + trailing_zeros w64 left))
            (get_or_past marks (64 * place + trailing_zeros w64 left) false g) marked)
      ];
      marked = marked;
      least = λ q hq lq. elim (cases_lt q (64 * place)) [
        | inl b ↦ h.before q hq b
        | inr b ↦
            let l = lowest.0 in
            let k : 64 * place + (q - 64 * place) ≡ q = omega arith in
            subst (λ (p : ℕ). is_marked marks p ≡ false) k
            (unmarked_from (is_marked marks (64 * place + (q - 64 * place)))
            (bit_at left (q - 64 * place))
            (h.here (q - 64 * place) (omega arith) (omega arith))
            (lowest.2 (q - 64 * place) (omega arith)))
      ];
    }

    -- the walk goes on behind it
    pub ahead_behind : (cleared : ℕ)
        → cleared ≡ bit_and left (bit_not w64 (1 * 2 ^ trailing_zeros w64 left % 2 ^ 64))
        → IsAhead marks (64 * place + trailing_zeros w64 left + 1) place cleared
    ahead_behind cleared e = record {
      small =
          let small = h.small in
          let less = and_le_l left (bit_not w64 (1 * 2 ^ trailing_zeros w64 left % 2 ^ 64)) in
          omega (arith, e, less);
      before = λ q hq lq. absurd (omega arith);
      gone = λ k l g. elim (equal_or_not k (trailing_zeros w64 left)) [
        | inl f ↦ ap (λ (w : ℕ). bit_at w k) e
            ∙ ap (λ (j : ℕ). bit_at (bit_and left
            (bit_not w64 (1 * 2 ^ trailing_zeros w64 left % 2 ^ 64))) j) f
            ∙ bit_at_clear_same w64 left (trailing_zeros w64 left) lowest.0
        | inr n ↦ other k l n ∙ lowest.2 k (omega arith)
      ];
      here = λ k l g. other k l (λ f. omega arith) ∙ h.here k l (let r = reached in omega arith);
      near = let l = lowest.0 in omega arith;
      within = h.within;
    }
      where
        other : (k : ℕ) → k < 64 → k ≢ trailing_zeros w64 left → bit_at cleared k ≡ bit_at left k
        other k l n = ap (λ (w : ℕ). bit_at w k) e
            ∙ bit_at_clear_other w64 left (trailing_zeros w64 left) lowest.0 k l n
