-- The last segment, with no edge left, is closed: its nodes are a strong component.
use Rattle.std.proofs.Common.{◌≡◌, ℕ, ◌+◌, ◌-◌, ◌<◌, ◌≤◌, ◌⊎◌, inl, inr, List, [], ◌∷◌, ◌++◌}
use Rattle.std.proofs.Common.{length, slice_index, refl, sym, ap, subst, arith, ◌∙◌}
use Rattle.std.proofs.lemmas.List.{length_push, get_or_append_left, get_or-append_right}
use Rattle.std.proofs.lemmas.List.{length-append}
use Rattle.std.proofs.lemmas.Bool.{cases_lt}
use Rattle.components.specs.Components.{Reach, IsLeast}
use Rattle.components.specs.Search.{IsIn, IsWithin, IsShut, IsStack, IsLinked, IsFollowed}
use Rattle.components.specs.Search.{IsWaiting, IsSearch, IsNamed}
use Rattle.components.proofs.Paths.{stays_closed, stays_within, walk_closed}
use Rattle.components.proofs.Places.{at_left, at_end, last_or_below}

module _ (n d : ℕ) (to : ℕ → ℕ → ℕ) (cs ps ls ls' os os' ss qs : List ℕ)
    (s m : ℕ) (w : IsWithin n d to) (h : IsSearch n d to cs ps ls (os ++ os') (ss ++ s ∷ []) qs)
    (es : length os ≡ s) (low : (q : ℕ) → q < length qs → slice_index qs q < s)
    (nm : IsNamed os' m ls ls') (mi : IsIn os' m)
    (mb : (k : ℕ) → k < length os' → m ≤ slice_index os' k) where
  el : length (os ++ os') ≡ length os + length os'
  el = length-append os os'

  sl : length (ss ++ s ∷ []) ≡ length ss + 1
  sl = length_push ss s

  start : slice_index (ss ++ s ∷ []) (length ss) ≡ s
  start = at_end ss s (length ss) refl

  old_start : (q : ℕ) → q < length ss → slice_index (ss ++ s ∷ []) q ≡ slice_index ss q
  old_start q ql = at_left ss s q ql

  kept_node : (k : ℕ) → k < length os → slice_index (os ++ os') k ≡ slice_index os k
  kept_node k kl = get_or_append_left os os' 0 k kl

  closed_node : (k : ℕ) → k < length os' → slice_index (os ++ os') (s + k) ≡ slice_index os' k
  closed_node k kl = get_or-append_right os os' s (s + k) 0 es (omega arith)
      ∙ ap (slice_index os') (omega arith)

  start_most : (q : ℕ) → q < length (ss ++ s ∷ []) → slice_index (ss ++ s ∷ []) q ≤ s
  start_most q ql = elim (last_or_below q (length ss) (omega (arith, sl))) [
    | inl lt ↦ omega (arith, start, sl, h.linked.rise q (length ss) lt (omega (arith, sl)))
    | inr e ↦ omega (arith, start, ap (slice_index (ss ++ s ∷ [])) e)
  ]

  inside : (i j : ℕ) → s ≤ i → s ≤ j → i < length (os ++ os') → j < length (os ++ os')
      → Reach d to (slice_index (os ++ os') i) (slice_index (os ++ os') j)
  inside i j si sj il jl = elim (cases_lt j i) [
    | inl lt ↦ h.linked.down j i (omega arith) il
        (λ q ql b. absurd (omega (arith, start_most q ql)))
    | inr ge ↦ h.linked.up i j ge jl
  ]

  both : (x y : ℕ) → IsIn os' x → IsIn os' y → Reach d to x y
  both x y (i, il, ei) (j, jl, ej) =
      let p : Reach d to (slice_index (os ++ os') (s + i)) (slice_index (os ++ os') (s + j)) =
      inside (s + i) (s + j) (omega arith) (omega arith) (omega (arith, el, es))
      (omega (arith, el, es)) in
      subst (λ b. Reach d to x b) (closed_node j jl
      ∙ ej) (subst (λ a. Reach d to a (slice_index (os ++ os') (s + j)))
      (closed_node i il ∙ ei) p)

  node_within : (x : ℕ) → IsIn os' x → x < n
  node_within x (i, il, ei) = omega (
    arith,
    h.stack.node (s + i) (omega (arith, el, es)),
    closed_node i il,
    ei,
  )

  was_open : (x : ℕ) → IsIn os' x → n ≤ slice_index ls x
  was_open x (i, il, ei) = omega (
    arith,
    h.stack.unlabelled (s + i) (omega (arith, el, es)),
    ap (slice_index ls) (closed_node i il ∙ ei),
  )

  stays : (y : ℕ) → slice_index ls y < n → slice_index ls' y < n
  stays y l = elim (nm.others y)
      [ inl e ↦ omega (arith, e) | inr p ↦ omega (arith, p.0, node_within m mi) ]

  still : (y : ℕ) → n ≤ slice_index ls' y → n ≤ slice_index ls y
  still y u = elim (nm.others y)
      [ inl e ↦ omega (arith, e) | inr p ↦ absurd (omega (arith, p.0, node_within m mi)) ]

  -- an edge from a node of the segment
  edge_shut : (x a : ℕ) → IsIn os' x → a < d → slice_index ls' (to x a) < n
  edge_shut x a (i, il, ei) ad = elim (cases_lt (slice_index ls (to x a)) n) [
    | inl lt ↦ stays (to x a) lt
    | inr ge ↦ named_place (slice_index ps (to x a) - 1) (place ge) ge
  ]
    where
      ex : slice_index (os ++ os') (s + i) ≡ x
      ex = closed_node i il ∙ ei

      inx : s + i < length (os ++ os')
      inx = omega (arith, el, es)

      all : d ≤ slice_index cs x
      all = elim (cases_lt (slice_index cs x) d) [
        | inl lt ↦ absurd (waits_not (h.waits.left (s + i) inx
            (omega (arith, ap (slice_index cs) ex))))
        | inr ge ↦ ge
      ]
        where
          waits_not : IsIn qs (s + i) → ⊥
          waits_not (q, ql, e) = omega (arith, low q ql)

      xn : x < n
      xn = node_within x (i, il, ei)

      place : n ≤ slice_index ls (to x a) → s < slice_index ps (to x a)
      place ge = subst (λ y. s < slice_index ps (to y a)) ex
          (omega (
            arith,
            start,
            h.followed.kept (s + i) a (length ss) inx
                (omega (arith, all, ap (slice_index cs) ex)) (omega (arith, sl))
                (omega (arith, start))
                (subst (λ y. n ≤ slice_index ls (to y a)) (sym ex) ge),
          ))

      named_place : (k : ℕ) → s < slice_index ps (to x a) → n ≤ slice_index ls (to x a)
          → slice_index ls' (to x a) < n
      named_place j ps_above ge =
          let k : ℕ = slice_index ps (to x a) - 1 in
          let tn : to x a < n = w.within x a xn ad in
          let ek : slice_index ps (to x a) ≡ k + 1 = omega arith in
          let kl = h.stack.seen (to x a) k tn ek ge in
          let same = h.stack.same (to x a) k tn ek ge in
          let kc : k - s < length os' = omega (arith, el, es, kl) in
          let named = nm.named (k - s) kc in
          let at_k : slice_index os' (k - s) ≡ to x a = sym (closed_node (k - s) kc)
          ∙ ap (slice_index (os ++ os')) (omega arith) ∙ same in
          omega (arith, named, ap (slice_index ls') at_k, node_within m mi)

  shut_now : (x a : ℕ) → x < n → a < d → slice_index ls' x < n → slice_index ls' (to x a) < n
  shut_now x a xn ad l = elim (nm.others x) [
    | inl e ↦ stays (to x a) (h.shut.shut x a xn ad (omega (arith, e)))
    | inr p ↦ edge_shut x a p.1 ad
  ]

  right_of : (x : ℕ) → IsIn os' x → IsLeast d to x m
  right_of x inx = record {
    there = both x m inx mi;
    back = both m x mi inx;
    least = λ y p q. least y p q (nm.others y);
  }
    where
      x_closed : slice_index ls' x < n
      x_closed = elim (nm.others x)
          [ inl e ↦ named_now inx | inr p ↦ omega (arith, p.0, node_within m mi) ]
        where
          named_now : IsIn os' x → slice_index ls' x < n
          named_now (k, kl, e) =
              omega (arith, nm.named k kl, ap (slice_index ls') e, node_within m mi)

      y_closed : (y : ℕ) → Reach d to x y → slice_index ls' y < n
      y_closed y p = walk_closed n ls' w shut_now p (node_within x inx) x_closed

      least : (y : ℕ) → Reach d to x y → Reach d to y x → (slice_index ls' y ≡ slice_index ls y)
          ⊎ ((slice_index ls' y ≡ m) × IsIn os' y) → m ≤ y
      least y p q (inl e) = absurd
          (omega (
            arith,
            was_open x inx,
            stays_closed w h.shut q
                (stays_within w p (node_within x inx)) (omega (arith, e, y_closed y p)),
          ))
      least y p q (inr (e, (k, kl, ek))) = omega (arith, mb k kl)

  shut_after : IsShut n d to ls'
  shut_after = record {
    long = nm.long ∙ h.shut.long;
    right = right;
    shut = shut_now;
  }
    where
      right : (x : ℕ) → x < n → slice_index ls' x < n → IsLeast d to x (slice_index ls' x)
      right x xn l = elim (nm.others x) [
        | inl e ↦ subst (IsLeast d to x) (sym e) (h.shut.right x xn (omega (arith, e)))
        | inr p ↦ subst (IsLeast d to x) (sym p.0) (right_of x p.1)
      ]

  -- a node that stays open is none of the segment's
  apart : (k : ℕ) → k < length os → IsIn os' (slice_index os k) → ⊥
  apart k kl (j, jl, e) =
      let same : slice_index (os ++ os') (s + j) ≡ slice_index (os ++ os') k = closed_node j jl ∙ e
      ∙ sym (kept_node k kl) in
      omega (
        arith,
        es,
        ap (slice_index ps) same,
        h.stack.placed (s + j) (omega (arith, el, es)),
        h.stack.placed k (omega (arith, el)),
      )

  stack_after : IsStack n ps ls' os
  stack_after = record {
    long = h.stack.long;
    node = λ k kl. omega (arith, kept_node k kl, h.stack.node k (omega (arith, el)));
    placed = λ k kl. ap (slice_index ps) (sym (kept_node k kl))
        ∙ h.stack.placed k (omega (arith, el));
    unlabelled = unlabelled;
    seen = seen;
    same = λ x k xn e u. sym (kept_node k (seen x k xn e u)) ∙ h.stack.same x k xn e (still x u);
  }
    where
      unlabelled : (k : ℕ) → k < length os → n ≤ slice_index ls' (slice_index os k)
      unlabelled k kl = elim (nm.others (slice_index os k)) [
        | inl e ↦ omega (
          arith,
          e,
          ap (slice_index ls) (kept_node k kl),
          h.stack.unlabelled k (omega (arith, el)),
        )
        | inr p ↦ absurd (apart k kl p.1)
      ]

      seen : (x k : ℕ) → x < n → slice_index ps x ≡ k + 1 → n ≤ slice_index ls' x → k < length os
      seen x k xn e u = elim (cases_lt k (length os)) [
        | inl lt ↦ lt
        | inr ge ↦
            let kl = h.stack.seen x k xn e (still x u) in
            let kc : k - s < length os' = omega (arith, el, es, kl) in
            let at_k : slice_index os' (k - s) ≡ x = sym (closed_node (k - s) kc)
            ∙ ap (slice_index (os ++ os')) (omega (arith, es))
            ∙ h.stack.same x k xn e (still x u) in
            absurd (omega (arith, nm.named (k - s) kc, ap (slice_index ls') at_k, node_within m mi))
      ]

  linked_after : IsLinked d to os ss
  linked_after = record {
    up = λ i j ij jl. rw (← kept_node i (omega arith), ← kept_node j jl)
        (h.linked.up i j ij (omega (arith, el)));
    down = λ i j ij jl b. rw (← kept_node i (omega arith), ← kept_node j jl)
        (h.linked.down i j ij (omega (arith, el)) (bound i j jl b));
    first = λ l. sym (old_start 0 l) ∙ h.linked.first (omega (arith, sl));
    none = λ e. omega (
      arith,
      es,
      start,
      ap (slice_index (ss ++ s ∷ [])) e,
      h.linked.first (omega (arith, sl)),
    );
    below = λ q ql. omega (
      arith,
      es,
      old_start q ql,
      start,
      h.linked.rise q (length ss) ql (omega (arith, sl)),
    );
    rise = λ q u qu ul. omega (
      arith,
      old_start q (omega arith),
      old_start u ul,
      h.linked.rise q u qu (omega (arith, sl)),
    );
  }
    where
      bound : (i j : ℕ) → j < length os → ((q : ℕ) → q < length ss → i < slice_index ss q
          → j < slice_index ss q) → (q : ℕ) → q < length (ss ++ s ∷ [])
          → i < slice_index (ss ++ s ∷ []) q → j < slice_index (ss ++ s ∷ []) q
      bound i j jl b q ql iq = elim (last_or_below q (length ss) (omega (arith, sl))) [
        | inl lt ↦ omega (arith, old_start q lt, b q lt (omega (arith, old_start q lt)))
        | inr e ↦ omega (arith, es, start, ap (slice_index (ss ++ s ∷ [])) e)
      ]

  followed_after : IsFollowed n d to cs ps ls' os ss
  followed_after = record {
    long = h.followed.long;
    most = h.followed.most;
    fresh = h.followed.fresh;
    kept = kept;
  }
    where
      kept : (k a q : ℕ) → k < length os → a < slice_index cs (slice_index os k) → q < length ss
          → slice_index ss q ≤ k → n ≤ slice_index ls' (to (slice_index os k) a)
          → slice_index ss q < slice_index ps (to (slice_index os k) a)
      kept k a q kl al ql qk u =
          let e = kept_node k kl in
          let was = h.followed.kept k a q (omega (arith, el)) (omega (arith, ap (slice_index cs) e))
          (omega (arith, sl)) (omega (arith, old_start q ql))
          (subst (λ x. n ≤ slice_index ls (to x a)) (sym e) (still _ u)) in
          omega (arith, old_start q ql, ap (λ x. slice_index ps (to x a)) e, was)

  waits_after : IsWaiting d cs os qs
  waits_after = record {
    left = λ k kl l. h.waits.left k (omega (arith, el))
        (omega (arith, ap (slice_index cs) (kept_node k kl)));
    below = λ q ql. omega (arith, es, low q ql);
    rise = h.waits.rise;
  }

  pub search_close : IsSearch n d to cs ps ls' os ss qs
  search_close = record {
    shut = shut_after;
    stack = stack_after;
    linked = linked_after;
    followed = followed_after;
    waits = waits_after;
  }
