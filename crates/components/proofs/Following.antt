-- An edge of an open node is marked as followed, and a node with no edge left no longer waits.
use Rattle.std.proofs.Common.{◌≡◌, ℕ, ◌+◌, ◌<◌, ◌≤◌, ◌⊎◌, inl, inr, List, [], ◌∷◌, ◌++◌, length}
use Rattle.std.proofs.Common.{slice_index, set, sym, ap, subst, arith, ◌∙◌}
use Rattle.std.proofs.lemmas.List.{length_push, get_or-set_same, get_or-set_other, length-set}
use Rattle.std.proofs.lemmas.Bool.{cases_eq}
use Rattle.components.specs.Search.{IsIn, IsStack, IsFollowed, IsWaiting, IsSearch}
use Rattle.components.proofs.Places.{at_left, at_end, last_or_below}

pub followed_next : {n d : ℕ} {to : ℕ → ℕ → ℕ} {cs ps ls os ss : List ℕ} (k v c : ℕ)
    → IsFollowed n d to cs ps ls os ss → IsStack n ps ls os → k < length os → slice_index os k ≡ v
    → slice_index cs v ≡ c → c < d → ((q : ℕ) → q < length ss → slice_index ss q ≤ k
    → n ≤ slice_index ls (to v c) → slice_index ss q < slice_index ps (to v c))
    → IsFollowed n d to (set cs v (c + 1)) ps ls os ss
followed_next {n = n} {d = d} {to = to} {cs = cs} {ps = ps} {ls = ls} {os = os} {ss = ss} k v c h st
    kl ev ec cd hyp = record {
      long = length-set cs v _ ∙ h.long;
      most = most;
      fresh = fresh;
      kept = kept;
    }
  where
    vn : v < n
    vn = omega (arith, st.node k kl)

    now : slice_index (set cs v (c + 1)) v ≡ c + 1
    now = get_or-set_same cs v _ 0 (omega (arith, vn, h.long))

    other : (x : ℕ) → (x ≡ v → ⊥) → slice_index (set cs v (c + 1)) x ≡ slice_index cs x
    other x ne = get_or-set_other cs v x _ 0 ne

    place : slice_index ps v ≡ k + 1
    place = ap (slice_index ps) (sym ev) ∙ st.placed k kl

    most : (x : ℕ) → x < n → slice_index (set cs v (c + 1)) x ≤ d
    most x xn = elim (cases_eq x v) [
      | inl e ↦ omega (arith, ap (slice_index (set cs v (c + 1))) e, now)
      | inr ne ↦ omega (arith, other x ne, h.most x xn)
    ]

    fresh : (x : ℕ) → x < n → slice_index ps x ≡ 0 → slice_index (set cs v (c + 1)) x ≡ 0
    fresh x xn z = elim (cases_eq x v) [
      | inl e ↦ absurd (omega (arith, ap (slice_index ps) e, place))
      | inr ne ↦ other x ne ∙ h.fresh x xn z
    ]

    at_v : (j a q : ℕ) → j < length os → slice_index os j ≡ v → a < c + 1 → q < length ss
        → slice_index ss q ≤ j → n ≤ slice_index ls (to v a) → (a < c) ⊎ (a ≡ c)
        → slice_index ss q < slice_index ps (to v a)
    at_v j a q jl e al ql qj u (inl lt) = rw e at
        (h.kept j a q jl (omega (arith, ap (slice_index cs) e)) ql qj
        (subst (λ x. n ≤ slice_index ls (to x a)) (sym e) u))
    at_v j a q jl e al ql qj u (inr f) = subst (λ b. slice_index ss q < slice_index ps (to v b))
        (sym f) (hyp q ql (omega (arith, st.placed j jl, ap (slice_index ps) e, place))
        (subst (λ b. n ≤ slice_index ls (to v b)) f u))

    kept : (j a q : ℕ) → j < length os → a < slice_index (set cs v (c + 1)) (slice_index os j)
        → q < length ss → slice_index ss q ≤ j → n ≤ slice_index ls (to (slice_index os j) a)
        → slice_index ss q < slice_index ps (to (slice_index os j) a)
    kept j a q jl al ql qj u = elim (cases_eq (slice_index os j) v) [
      | inl e ↦ subst (λ x. slice_index ss q < slice_index ps (to x a)) (sym e)
          (at_v j a q jl e (omega (arith, ap (slice_index (set cs v (c + 1))) e, now)) ql qj
          (subst (λ x. n ≤ slice_index ls (to x a)) e u)
          (last_or_below a c (omega (arith, ap (slice_index (set cs v (c + 1))) e, now))))
      | inr ne ↦ h.kept j a q jl (omega (arith, other (slice_index os j) ne)) ql qj u
    ]

pub waiting_next : {d : ℕ} {cs os qs : List ℕ} (v c : ℕ) → IsWaiting d cs os qs
    → slice_index cs v ≡ c → c < d → v < length cs → IsWaiting d (set cs v (c + 1)) os qs
waiting_next {d = d} {cs = cs} {os = os} {qs = qs} v c h ec cd vl =
    record { left = left; below = h.below; rise = h.rise }
  where
    left : (k : ℕ) → k < length os → slice_index (set cs v (c + 1)) (slice_index os k) < d
        → IsIn qs k
    left k kl l = elim (cases_eq (slice_index os k) v) [
      | inl e ↦ h.left k kl (omega (arith, ap (slice_index cs) e))
      | inr ne ↦ h.left k kl (omega (arith, get_or-set_other cs v (slice_index os k) (c + 1) 0 ne))
    ]

pub search_next : {n d : ℕ} {to : ℕ → ℕ → ℕ} {cs ps ls os ss qs : List ℕ} (k v c : ℕ)
    → IsSearch n d to cs ps ls os ss qs → k < length os → slice_index os k ≡ v
    → slice_index cs v ≡ c → c < d → ((q : ℕ) → q < length ss → slice_index ss q ≤ k
    → n ≤ slice_index ls (to v c) → slice_index ss q < slice_index ps (to v c))
    → IsSearch n d to (set cs v (c + 1)) ps ls os ss qs
search_next k v c h kl ev ec cd hyp = record {
  shut = h.shut;
  stack = h.stack;
  linked = h.linked;
  followed = followed_next k v c h.followed h.stack kl ev ec cd hyp;
  waits = waiting_next v c h.waits ec cd (omega (arith, h.followed.long, h.stack.node k kl));
}

pub waiting_done : {d : ℕ} {cs os qs : List ℕ} (k : ℕ) → IsWaiting d cs os (qs ++ k ∷ [])
    → d ≤ slice_index cs (slice_index os k) → IsWaiting d cs os qs
waiting_done {d = d} {cs = cs} {os = os} {qs = qs} k h full = record {
  left = λ j jl l. left j l (h.left j jl l);
  below = λ q ql. omega (arith, ql, at_left qs k q ql, h.below q (omega (arith, grown)));
  rise = λ q u qu ul. omega (
    arith,
    at_left qs k q (omega arith),
    at_left qs k u ul,
    h.rise q u qu (omega (arith, grown)),
  );
}
  where
    grown : length (qs ++ k ∷ []) ≡ length qs + 1
    grown = length_push qs k

    left : (j : ℕ) → slice_index cs (slice_index os j) < d → IsIn (qs ++ k ∷ []) j → IsIn qs j
    left j l (q, ql, e) = elim (last_or_below q (length qs) (omega (arith, grown))) [
      | inl lt ↦ (q, lt, sym (at_left qs k q lt) ∙ e)
      | inr f ↦ absurd (omega (
        arith,
        ap (λ i. slice_index cs (slice_index os i))
            (sym (at_end qs k q f) ∙ e),
      ))
    ]

pub search_done : {n d : ℕ} {to : ℕ → ℕ → ℕ} {cs ps ls os ss qs : List ℕ} (k : ℕ)
    → IsSearch n d to cs ps ls os ss (qs ++ k ∷ []) → d ≤ slice_index cs (slice_index os k)
    → IsSearch n d to cs ps ls os ss qs
search_done k h full = record {
  shut = h.shut;
  stack = h.stack;
  linked = h.linked;
  followed = h.followed;
  waits = waiting_done k h.waits full;
}
