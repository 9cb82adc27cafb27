-- One more row of each of two graphs.
use Rattle.std.proofs.Common.{◌≡◌, ℕ, ◌+◌, ◌-◌, ◌*◌, ◌<◌, ◌≤◌, ◌⊎◌, inl, inr, List, [], ◌++◌}
use Rattle.std.proofs.Common.{length, slice_index, take, drop, All, sym, ap, subst, arith, ◌∙◌}
use Rattle.std.proofs.lemmas.List.{get_or_append_left, get_or-append_right, get_or-take}
use Rattle.std.proofs.lemmas.List.{get_or-drop, length-append, length-take-le, length-drop}
use Rattle.std.proofs.lemmas.List.{drop-drop}
use Rattle.std.proofs.lemmas.List.Elements.{All-append, All-take, All-drop}
use Rattle.std.proofs.lemmas.Bool.{cases_lt}
use Rattle.std.proofs.Math.Nat.{mul-le-mul_left}
use Rattle.components.specs.Components.{target, IsGraph, Reach, here, step}
use Rattle.components.specs.Search.{IsWithin}
use Rattle.components.specs.Beside.{HasBoth, AreBoth}
use Rattle.components.proofs.Places.{last_or_below}

-- a place in an earlier row
earlier : (x i a w : ℕ) → x < i → a < w → x * w + a < i * w
earlier x i a w xi aw = omega (arith, mul-le-mul_left w next)
  where
    next : x + 1 ≤ i
    next = omega arith

pub both_more : {d e : ℕ} {first second both : List ℕ} (n i : ℕ) → IsGraph n d first
    → IsGraph n e second → i < n → HasBoth i d e first second both
    → HasBoth (i + 1) d e first second
    (both ++ take d (drop (i * d) first) ++ take e (drop (i * e) second))
both_more {d = d} {e = e} {first = first} {second = second} {both = both} n i g h il b =
    record { long = long; left = left; right = right }
  where
    room : i * d + d ≤ n * d
    room = omega (arith, mul-le-mul_left d next)
      where
        next : i + 1 ≤ n
        next = omega arith

    room' : i * e + e ≤ n * e
    room' = omega (arith, mul-le-mul_left e next)
      where
        next : i + 1 ≤ n
        next = omega arith

    rl : length (take d (drop (i * d) first)) ≡ d
    rl = length-take-le d (drop (i * d) first)
        (omega (arith, room, g.long, length-drop (i * d) first))

    rl' : length (take e (drop (i * e) second)) ≡ e
    rl' = length-take-le e (drop (i * e) second)
        (omega (arith, room', h.long, length-drop (i * e) second))

    l1 : length (both ++ take d (drop (i * d) first)) ≡ i * (d + e) + d
    l1 = omega (arith, length-append both (take d (drop (i * d) first)), rl, b.long)

    long : length (both ++ take d (drop (i * d) first) ++ take e (drop (i * e) second))
        ≡ (i + 1) * (d + e)
    long = omega (
      arith,
      l1,
      rl',
      length-append (both ++ take d (drop (i * d) first))
          (take e (drop (i * e) second)),
    )

    -- an old place, one of the first row, and one of the second
    old : (k : ℕ) → k < i * (d + e)
        → slice_index (both ++ take d (drop (i * d) first) ++ take e (drop (i * e) second)) k
        ≡ slice_index both k
    old k kl = get_or_append_left (both ++ take d (drop (i * d) first))
        (take e (drop (i * e) second)) 0 k (omega (arith, l1))
        ∙ get_or_append_left both (take d (drop (i * d) first)) 0 k (omega (arith, b.long))

    new_left : (a : ℕ) → a < d
        → slice_index (both ++ take d (drop (i * d) first) ++ take e (drop (i * e) second))
        (i * (d + e) + a) ≡ slice_index first (i * d + a)
    new_left a ad = get_or_append_left (both ++ take d (drop (i * d) first))
        (take e (drop (i * e) second)) 0 (i * (d + e) + a) (omega (arith, l1))
        ∙ get_or-append_right both (take d (drop (i * d) first)) (i * (d + e)) (i * (d + e) + a) 0
        b.long (omega arith) ∙ ap (slice_index (take d (drop (i * d) first))) back
        ∙ get_or-take d (drop (i * d) first) a 0 ad ∙ get_or-drop (i * d) first a 0
      where
        back : i * (d + e) + a - i * (d + e) ≡ a
        back = omega arith

    new_right : (c : ℕ) → c < e
        → slice_index (both ++ take d (drop (i * d) first) ++ take e (drop (i * e) second))
        (i * (d + e) + (d + c)) ≡ slice_index second (i * e + c)
    new_right c ce = get_or-append_right (both ++ take d (drop (i * d) first))
        (take e (drop (i * e) second)) (i * (d + e) + d) (i * (d + e) + (d + c)) 0 l1 (omega arith)
        ∙ ap (slice_index (take e (drop (i * e) second))) back
        ∙ get_or-take e (drop (i * e) second) c 0 ce ∙ get_or-drop (i * e) second c 0
      where
        back : i * (d + e) + (d + c) - (i * (d + e) + d) ≡ c
        back = omega arith

    left : (x a : ℕ) → x < i + 1 → a < d
        → target (d + e) (both ++ take d (drop (i * d) first) ++ take e (drop (i * e) second)) x a
        ≡ target d first x a
    left x a xi ad = by_case (last_or_below x i xi)
      where
        by_case : (x < i) ⊎ (x ≡ i)
            → target (d + e) (both ++ take d (drop (i * d) first) ++ take e (drop (i * e) second)) x
            a ≡ target d first x a
        by_case (inl lt) = old (x * (d + e) + a) (earlier x i a (d + e) lt (omega arith))
            ∙ b.left x a lt ad
        by_case (inr f) = subst
            (λ j. target (d + e) (both ++ take d (drop (i * d) first) ++ take e
            (drop (i * e) second)) j a ≡ target d first j a) (sym f) (new_left a ad)

    right : (x c : ℕ) → x < i + 1 → c < e
        → target (d + e) (both ++ take d (drop (i * d) first) ++ take e (drop (i * e) second)) x
        (d + c) ≡ target e second x c
    right x c xi ce = by_case (last_or_below x i xi)
      where
        by_case : (x < i) ⊎ (x ≡ i)
            → target (d + e) (both ++ take d (drop (i * d) first) ++ take e (drop (i * e) second)) x
            (d + c) ≡ target e second x c
        by_case (inl lt) = old (x * (d + e) + (d + c))
            (earlier x i (d + c) (d + e) lt (omega arith)) ∙ b.right x c lt ce
        by_case (inr f) = subst
            (λ j. target (d + e) (both ++ take d (drop (i * d) first) ++ take e
            (drop (i * e) second)) j (d + c) ≡ target e second j c) (sym f) (new_right c ce)

pub within_more : {n : ℕ} (d e i j : ℕ) (first second both : List ℕ) → All (λ t. t < n) first
    → All (λ t. t < n) second → All (λ t. t < n) both
    → All (λ t. t < n) (both ++ take d (drop i first) ++ take e (drop j second))
within_more {n = n} d e i j first second both f s b =
    All-append (λ t. t < n) (both ++ take d (drop i first)) (take e (drop j second))
    (All-append (λ t. t < n) both (take d (drop i first)) b
    (All-take (λ t. t < n) d (drop i first) (All-drop (λ t. t < n) i first f)))
    (All-take (λ t. t < n) e (drop j second) (All-drop (λ t. t < n) j second s))

pub both_none : {d e : ℕ} {first second : List ℕ} → HasBoth 0 d e first second []
both_none {d = d} {e = e} = record {
  long = omega arith;
  left = λ x a l h. absurd (omega (arith, l));
  right = λ x a l h. absurd (omega (arith, l));
}

-- a graph has one row more
pub row_room : {n d : ℕ} {first : List ℕ} (i : ℕ) → IsGraph n d first → i < n
    → d ≤ length (drop (i * d) first)
row_room {n = n} {d = d} {first = first} i g il =
    omega (arith, g.long, length-drop (i * d) first, mul-le-mul_left d next)
  where
    next : i + 1 ≤ n
    next = omega arith

pub drop_next : (i d : ℕ) (xs : List ℕ) → drop d (drop (i * d) xs) ≡ drop ((i + 1) * d) xs
drop_next i d xs = drop-drop d (i * d) xs ∙ ap (λ k. drop k xs) (omega arith)

pub both_done : {n d e : ℕ} {first second both : List ℕ} (i : ℕ) → i ≡ n
    → HasBoth i d e first second both → All (λ t. t < n) both → AreBoth n d e first second both
both_done {n = n} {d = d} {e = e} {first = first} {second = second} {both = both} i f b w = record {
  graph = record { long = all.long; within = w };
  rows = all;
}
  where
    all : HasBoth n d e first second both
    all = subst (λ j. HasBoth j d e first second both) f b

pub drop_none : (d : ℕ) (xs : List ℕ) → xs ≡ drop (0 * d) xs
drop_none d xs = ap (λ k. drop k xs) none
  where
    none : 0 ≡ 0 * d
    none = omega arith

-- a path in one graph is a path in both, and a path in both is built of steps of either
pub from_first : {n d e : ℕ} {first second both : List ℕ} {x y : ℕ}
    → HasBoth n d e first second both → IsWithin n d (target d first) → Reach d (target d first) x y
    → x < n → Reach (d + e) (target (d + e) both) x y
from_first b w here xn = here
from_first {d = d} {e = e} {both = both} {x = x} {y = y} b w (step a h p) xn =
    step a (omega arith) (subst (λ v. Reach (d + e) (target (d + e) both) v y)
    (sym (b.left x a xn h)) (from_first b w p (w.within x a xn h)))

pub from_second : {n d e : ℕ} {first second both : List ℕ} {x y : ℕ}
    → HasBoth n d e first second both → IsWithin n e (target e second)
    → Reach e (target e second) x y → x < n → Reach (d + e) (target (d + e) both) x y
from_second b w here xn = here
from_second {d = d} {e = e} {both = both} {x = x} {y = y} b w (step a h p) xn =
    step (d + a) (omega arith) (subst (λ v. Reach (d + e) (target (d + e) both) v y)
    (sym (b.right x a xn h)) (from_second b w p (w.within x a xn h)))

pub by_either : {n d e : ℕ} {first second both : List ℕ} {x y : ℕ} → HasBoth n d e first second both
    → IsWithin n d (target d first) → IsWithin n e (target e second) → (P : ℕ → ℕ → Type 0)
    → ((v : ℕ) → P v v) → ((v a z : ℕ) → v < n → a < d → P (target d first v a) z → P v z)
    → ((v a z : ℕ) → v < n → a < e → P (target e second v a) z → P v z)
    → Reach (d + e) (target (d + e) both) x y → x < n → P x y
by_either {x = x} b w w' P none one other here xn = none x
by_either {n = n} {d = d} {e = e} {first = first} {second = second} {both = both} {x = x} {y = y} b
    w w' P none one other (step a h p) xn = by_case (cases_lt a d)
    (λ vn. by_either b w w' P none one other p vn)
  where
    by_case : (a < d) ⊎ (d ≤ a)
        → (target (d + e) both x a < n → P (target (d + e) both x a) y) → P x y
    by_case (inl ad) r = one x a y xn ad
        (subst (λ v. P v y) (b.left x a xn ad)
        (r (omega (arith, b.left x a xn ad, w.within x a xn ad))))
    by_case (inr da) r = other x (a - d) y xn ae
        (subst (λ v. P v y) same (r (omega (arith, same, w'.within x (a - d) xn ae))))
      where
        ae : a - d < e
        ae = omega arith

        back : a ≡ d + (a - d)
        back = omega arith

        same : target (d + e) both x a ≡ target e second x (a - d)
        same = ap (target (d + e) both x) back ∙ b.right x (a - d) xn ae
