-- A node that was not seen is opened above the others, in a segment of its own.
use Rattle.std.proofs.Common.{◌≡◌, ℕ, ◌+◌, ◌-◌, ◌<◌, ◌≤◌, ◌⊎◌, inl, inr, List, [], ◌∷◌, ◌++◌}
use Rattle.std.proofs.Common.{length, slice_index, set, refl, sym, ap, arith, ◌∙◌}
use Rattle.std.proofs.lemmas.List.{length_push, get_or-set_same, get_or-set_other, length-set}
use Rattle.components.specs.Components.{Reach, here}
use Rattle.components.specs.Search.{IsIn, IsStack, IsLinked, IsFollowed, IsWaiting, IsSearch}
use Rattle.components.proofs.Paths.{then}
use Rattle.components.proofs.Places.{at_left, at_end, last_or_below}

pub linked_push : {d : ℕ} {to : ℕ → ℕ → ℕ} {os ss : List ℕ} (t : ℕ) → IsLinked d to os ss
    → ((k : ℕ) → k + 1 ≡ length os → Reach d to (slice_index os k) t)
    → IsLinked d to (os ++ t ∷ []) (ss ++ length os ∷ [])
linked_push {d = d} {to = to} {os = os} {ss = ss} t h r = record {
  up = up;
  down = down;
  first = λ q. first;
  none = λ e. absurd (omega (arith, el, sl, length_push ss (length os)));
  below = below;
  rise = rise;
}
  where
    el : length (os ++ t ∷ []) ≡ length os + 1
    el = length_push os t

    sl : length (ss ++ length os ∷ []) ≡ length ss + 1
    sl = length_push ss (length os)

    up_old : (i j : ℕ) → i ≤ j → j < length os
        → Reach d to (slice_index (os ++ t ∷ []) i) (slice_index (os ++ t ∷ []) j)
    up_old i j ij jl = rw (at_left os t i (omega (arith, el, sl)), at_left os t j jl)
        (h.up i j ij jl)

    up_new : (i j : ℕ) → i < length os → j ≡ length os
        → Reach d to (slice_index (os ++ t ∷ []) i) (slice_index (os ++ t ∷ []) j)
    up_new i j il e = rw (at_left os t i il, at_end os t j e)
        (then (h.up i (length os - 1) (omega (arith, el, sl)) (omega (arith, el, sl)))
        (r (length os - 1) (omega (arith, el, sl))))

    same : (i j : ℕ) → i ≡ j → Reach d to (slice_index (os ++ t ∷ []) i)
        (slice_index (os ++ t ∷ []) j)
    same i j e = rw e here

    up : (i j : ℕ) → i ≤ j → j < length (os ++ t ∷ [])
        → Reach d to (slice_index (os ++ t ∷ []) i) (slice_index (os ++ t ∷ []) j)
    up i j ij jl = elim (last_or_below j (length os) (omega (arith, el, sl))) [
      | inl lt ↦ up_old i j ij lt
      | inr e ↦ elim (last_or_below i (length os) (omega (arith, el, sl))) [
        | inl il ↦ up_new i j il e
        | inr f ↦ same i j (omega (arith, el, sl))
      ]
    ]

    start_old : (q : ℕ) → q < length ss → slice_index (ss ++ length os ∷ []) q ≡ slice_index ss q
    start_old q l = at_left ss (length os) q l

    start_new : (q : ℕ) → q ≡ length ss → slice_index (ss ++ length os ∷ []) q ≡ length os
    start_new q e = at_end ss (length os) q e

    down : (i j : ℕ) → i ≤ j → j < length (os ++ t ∷ [])
        → ((q : ℕ) → q < length (ss ++ length os ∷ []) → i < slice_index (ss ++ length os ∷ []) q
        → j < slice_index (ss ++ length os ∷ []) q)
        → Reach d to (slice_index (os ++ t ∷ []) j) (slice_index (os ++ t ∷ []) i)
    down i j ij jl b = elim (last_or_below j (length os) (omega (arith, el, sl))) [
      | inl lt ↦ rw (at_left os t i (omega (arith, el, sl)), at_left os t j lt)
          (h.down i j ij lt (λ q ql iq. omega (
            arith,
            el,
            sl,
            start_old q ql,
            b q (omega (arith, el, sl))
                (omega (arith, el, sl, start_old q ql)),
          )))
      | inr e ↦ elim (last_or_below i (length os) (omega (arith, el, sl))) [
        | inl il ↦ absurd (omega (
          arith,
          el,
          sl,
          start_new (length ss) refl,
          b (length ss) (omega (arith, el, sl))
              (omega (arith, el, sl, start_new (length ss) refl)),
        ))
        | inr f ↦ same j i (omega (arith, el, sl))
      ]
    ]

    first : slice_index (ss ++ length os ∷ []) 0 ≡ 0
    first = elim (last_or_below 0 (length ss) (omega (arith, el, sl))) [
      | inl lt ↦ start_old 0 lt ∙ h.first lt
      | inr e ↦ start_new 0 e ∙ h.none (sym e)
    ]

    below : (q : ℕ) → q < length (ss ++ length os ∷ [])
        → slice_index (ss ++ length os ∷ []) q < length (os ++ t ∷ [])
    below q ql = elim (last_or_below q (length ss) (omega (arith, el, sl))) [
      | inl lt ↦ omega (arith, el, sl, start_old q lt, h.below q lt)
      | inr e ↦ omega (arith, el, sl, start_new q e)
    ]

    rise : (q r : ℕ) → q < r → r < length (ss ++ length os ∷ [])
        → slice_index (ss ++ length os ∷ []) q < slice_index (ss ++ length os ∷ []) r
    rise q u qu ul = elim (last_or_below u (length ss) (omega (arith, el, sl))) [
      | inl lt ↦ omega (
        arith,
        el,
        sl,
        start_old q (omega (arith, el, sl)),
        start_old u lt,
        h.rise q u qu lt,
      )
      | inr e ↦ omega (
        arith,
        el,
        sl,
        start_new u e,
        start_old q (omega (arith, el, sl)),
        h.below q (omega (arith, el, sl)),
      )
    ]

pub stack_push : {n : ℕ} {ps ls os : List ℕ} (t : ℕ) → IsStack n ps ls os → t < n
    → slice_index ps t ≡ 0 → n ≤ slice_index ls t
    → IsStack n (set ps t (length os + 1)) ls (os ++ t ∷ [])
stack_push {n = n} {ps = ps} {ls = ls} {os = os} t h tn unseen free = record {
  long = length-set ps t _ ∙ h.long;
  node = node;
  placed = placed;
  unlabelled = unlabelled;
  seen = seen;
  same = same;
}
  where
    el : length (os ++ t ∷ []) ≡ length os + 1
    el = length_push os t

    tl : t < length ps
    tl = omega (arith, el, h.long)

    here_now : slice_index (set ps t (length os + 1)) t ≡ length os + 1
    here_now = get_or-set_same ps t _ 0 tl

    elsewhere : (x : ℕ) → (x ≡ t → ⊥) → slice_index (set ps t (length os + 1)) x ≡ slice_index ps x
    elsewhere x ne = get_or-set_other ps t x _ 0 ne

    node : (k : ℕ) → k < length (os ++ t ∷ []) → slice_index (os ++ t ∷ []) k < n
    node k kl = elim (last_or_below k (length os) (omega (arith, el))) [
      | inl lt ↦ omega (arith, el, at_left os t k lt, h.node k lt)
      | inr e ↦ omega (arith, el, at_end os t k e)
    ]

    old_other : (k : ℕ) → k < length os → slice_index os k ≡ t → ⊥
    old_other k kl e = omega (arith, el, h.placed k kl, ap (slice_index ps) e)

    placed_old : (k : ℕ) → k < length os
        → slice_index (set ps t (length os + 1)) (slice_index os k) ≡ k + 1
    placed_old k kl = elsewhere _ (old_other k kl) ∙ h.placed k kl

    placed : (k : ℕ) → k < length (os ++ t ∷ [])
        → slice_index (set ps t (length os + 1)) (slice_index (os ++ t ∷ []) k) ≡ k + 1
    placed k kl = elim (last_or_below k (length os) (omega (arith, el))) [
      | inl lt ↦ ap (slice_index (set ps t (length os + 1))) (at_left os t k lt) ∙ placed_old k lt
      | inr e ↦ omega (
        arith,
        el,
        ap (slice_index (set ps t (length os + 1))) (at_end os t k e),
        here_now,
      )
    ]

    unlabelled : (k : ℕ) → k < length (os ++ t ∷ [])
        → n ≤ slice_index ls (slice_index (os ++ t ∷ []) k)
    unlabelled k kl = elim (last_or_below k (length os) (omega (arith, el))) [
      | inl lt ↦ omega (arith, el, ap (slice_index ls) (at_left os t k lt), h.unlabelled k lt)
      | inr e ↦ omega (arith, el, ap (slice_index ls) (at_end os t k e))
    ]

    here_or_not : (x : ℕ) → (x ≡ t) ⊎ (x ≡ t → ⊥)
    here_or_not x = grind arith

    seen : (x k : ℕ) → x < n → slice_index (set ps t (length os + 1)) x ≡ k + 1
        → n ≤ slice_index ls x → k < length (os ++ t ∷ [])
    seen x k xn e u = elim (here_or_not x) [
      | inl f ↦ omega (arith, el, ap (slice_index (set ps t (length os + 1))) f, here_now)
      | inr ne ↦ omega (arith, el, h.seen x k xn (sym (elsewhere x ne) ∙ e) u)
    ]

    same : (x k : ℕ) → x < n → slice_index (set ps t (length os + 1)) x ≡ k + 1
        → n ≤ slice_index ls x → slice_index (os ++ t ∷ []) k ≡ x
    same x k xn e u = elim (here_or_not x) [
      | inl f ↦ at_end os t k (omega (
        arith,
        el,
        ap (slice_index (set ps t (length os + 1))) f,
        here_now,
      )) ∙ sym f
      | inr ne ↦ at_left os t k (h.seen x k xn (sym (elsewhere x ne) ∙ e) u)
          ∙ h.same x k xn (sym (elsewhere x ne) ∙ e) u
    ]

pub followed_push : {n d : ℕ} {to : ℕ → ℕ → ℕ} {cs ps ls os ss : List ℕ} (t : ℕ)
    → IsFollowed n d to cs ps ls os ss → IsStack n ps ls os → IsLinked d to os ss → t < n
    → slice_index ps t ≡ 0 → IsFollowed n d to cs (set ps t (length os + 1)) ls
    (os ++ t ∷ []) (ss ++ length os ∷ [])
followed_push {n = n} {d = d} {to = to} {cs = cs} {ps = ps} {ls = ls} {os = os} {ss = ss} t h st li
    tn unseen = record {
      long = h.long;
      most = h.most;
      fresh = fresh;
      kept = kept;
    }
  where
    el : length (os ++ t ∷ []) ≡ length os + 1
    el = length_push os t

    sl : length (ss ++ length os ∷ []) ≡ length ss + 1
    sl = length_push ss (length os)

    tl : t < length ps
    tl = omega (arith, el, sl, st.long)

    here_now : slice_index (set ps t (length os + 1)) t ≡ length os + 1
    here_now = get_or-set_same ps t _ 0 tl

    here_or_not : (x : ℕ) → (x ≡ t) ⊎ (x ≡ t → ⊥)
    here_or_not x = grind arith

    elsewhere : (x : ℕ) → (x ≡ t → ⊥) → slice_index (set ps t (length os + 1)) x ≡ slice_index ps x
    elsewhere x ne = get_or-set_other ps t x _ 0 ne

    fresh : (x : ℕ) → x < n → slice_index (set ps t (length os + 1)) x ≡ 0 → slice_index cs x ≡ 0
    fresh x xn e = elim (here_or_not x) [
      | inl f ↦ absurd (omega (
        arith,
        el,
        sl,
        ap (slice_index (set ps t (length os + 1))) f,
        here_now,
      ))
      | inr ne ↦ h.fresh x xn (sym (elsewhere x ne) ∙ e)
    ]

    -- places never fall
    risen : (x m : ℕ) → m ≤ length os → m < slice_index ps x
        → m < slice_index (set ps t (length os + 1)) x
    risen x m ml ms = elim (here_or_not x) [
      | inl f ↦ omega (arith, el, sl, ap (slice_index (set ps t (length os + 1))) f, here_now)
      | inr ne ↦ omega (arith, el, sl, elsewhere x ne)
    ]

    empty_new : (k : ℕ) → k ≡ length os → slice_index cs (slice_index (os ++ t ∷ []) k) ≡ 0
    empty_new k e = ap (slice_index cs) (at_end os t k e) ∙ h.fresh t tn unseen

    kept_old : (k a q : ℕ) → k < length os → q < length ss → a < slice_index cs (slice_index os k)
        → slice_index ss q ≤ k → n ≤ slice_index ls (to (slice_index os k) a)
        → slice_index ss q < slice_index (set ps t (length os + 1)) (to (slice_index os k) a)
    kept_old k a q kl ql al qk u = risen _ _ (omega (arith, el, sl, li.below q ql))
        (h.kept k a q kl al ql qk u)

    kept_at : (k a q : ℕ) → k < length os → q < length (ss ++ length os ∷ [])
        → a < slice_index cs (slice_index os k) → slice_index (ss ++ length os ∷ []) q ≤ k
        → n ≤ slice_index ls (to (slice_index os k) a)
        → slice_index (ss ++ length os ∷ []) q < slice_index (set ps t (length os + 1))
        (to (slice_index os k) a)
    kept_at k a q kl ql al qk u = elim (last_or_below q (length ss) (omega (arith, el, sl))) [
      | inl lt ↦ omega (
        arith,
        el,
        sl,
        at_left ss (length os) q lt,
        kept_old k a q kl lt al (omega (arith, el, sl, at_left ss (length os) q lt)) u,
      )
      | inr e ↦ absurd (omega (arith, el, sl, at_end ss (length os) q e))
    ]

    kept : (k a q : ℕ) → k < length (os ++ t ∷ [])
        → a < slice_index cs (slice_index (os ++ t ∷ []) k) → q < length (ss ++ length os ∷ [])
        → slice_index (ss ++ length os ∷ []) q ≤ k
        → n ≤ slice_index ls (to (slice_index (os ++ t ∷ []) k) a)
        → slice_index (ss ++ length os ∷ []) q < slice_index (set ps t (length os + 1))
        (to (slice_index (os ++ t ∷ []) k) a)
    kept k a q kl al ql qk u = elim (last_or_below k (length os) (omega (arith, el, sl))) [
      | inl lt ↦ rw (at_left os t k lt) (kept_at k a q lt ql (rw (at_left os t k lt) at al) qk
          (rw (at_left os t k lt) at u))
      | inr e ↦ absurd (omega (arith, el, sl, empty_new k e))
    ]

pub waiting_push : {d : ℕ} {cs os qs : List ℕ} (t : ℕ) → IsWaiting d cs os qs
    → IsWaiting d cs (os ++ t ∷ []) (qs ++ length os ∷ [])
waiting_push {d = d} {cs = cs} {os = os} {qs = qs} t h =
    record { left = left; below = below; rise = rise }
  where
    el : length (os ++ t ∷ []) ≡ length os + 1
    el = length_push os t

    sl : length (qs ++ length os ∷ []) ≡ length qs + 1
    sl = length_push qs (length os)

    grown : (k : ℕ) → IsIn qs k → IsIn (qs ++ length os ∷ []) k
    grown k (q, ql, e) = (q, omega (arith, el, sl), at_left qs (length os) q ql ∙ e)

    left : (k : ℕ) → k < length (os ++ t ∷ []) → slice_index cs (slice_index (os ++ t ∷ []) k) < d
        → IsIn (qs ++ length os ∷ []) k
    left k kl c = elim (last_or_below k (length os) (omega (arith, el, sl))) [
      | inl lt ↦ grown k (h.left k lt (rw (at_left os t k lt) at c))
      | inr e ↦ (length qs, omega (arith, el, sl), at_end qs (length os) _ refl ∙ sym e)
    ]

    below : (q : ℕ) → q < length (qs ++ length os ∷ [])
        → slice_index (qs ++ length os ∷ []) q < length (os ++ t ∷ [])
    below q ql = elim (last_or_below q (length qs) (omega (arith, el, sl))) [
      | inl lt ↦ omega (arith, el, sl, at_left qs (length os) q lt, h.below q lt)
      | inr e ↦ omega (arith, el, sl, at_end qs (length os) q e)
    ]

    rise : (q r : ℕ) → q < r → r < length (qs ++ length os ∷ [])
        → slice_index (qs ++ length os ∷ []) q < slice_index (qs ++ length os ∷ []) r
    rise q u qu ul = elim (last_or_below u (length qs) (omega (arith, el, sl))) [
      | inl lt ↦ omega (
        arith,
        el,
        sl,
        at_left qs (length os) q (omega (arith, el, sl)),
        at_left qs (length os) u lt,
        h.rise q u qu lt,
      )
      | inr e ↦ omega (
        arith,
        el,
        sl,
        at_end qs (length os) u e,
        at_left qs (length os) q (omega (arith, el, sl)),
        h.below q (omega (arith, el, sl)),
      )
    ]

pub search_push : {n d : ℕ} {to : ℕ → ℕ → ℕ} {cs ps ls os ss qs : List ℕ} (t : ℕ)
    → IsSearch n d to cs ps ls os ss qs → t < n → slice_index ps t ≡ 0 → n ≤ slice_index ls t
    → ((k : ℕ) → k + 1 ≡ length os → Reach d to (slice_index os k) t)
    → IsSearch n d to cs (set ps t (length os + 1)) ls (os ++ t ∷ []) (ss ++ length os ∷ [])
    (qs ++ length os ∷ [])
search_push t h tn unseen free r = record {
  shut = h.shut;
  stack = stack_push t h.stack tn unseen free;
  linked = linked_push t h.linked r;
  followed = followed_push t h.followed h.stack h.linked tn unseen;
  waits = waiting_push t h.waits;
}
