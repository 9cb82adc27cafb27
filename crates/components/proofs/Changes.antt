-- What the search keeps true as its lists change, where the new lists are known by equations.
use Rattle.std.proofs.Common.{◌≡◌, ℕ, ◌+◌, ◌-◌, ◌*◌, ◌<◌, ◌≤◌, ◌⊎◌, inl, inr, List, [], ◌∷◌, ◌++◌}
use Rattle.std.proofs.Common.{length, slice_index, set, take, drop, sum, refl, sym, ap, subst}
use Rattle.std.proofs.Common.{arith, ◌∙◌, zero, suc}
use Rattle.std.proofs.lemmas.List.{take_more, take_all, length-take-le, get_or-drop, length-drop}
use Rattle.std.proofs.lemmas.List.{take-append-drop, length-set, get_or-set_same, get_or-set_other}
use Rattle.std.proofs.lemmas.List.Sums.{sum_by-set, sum_by-le}
use Rattle.std.proofs.lemmas.List.Elements.{All-from_get_or}
use Rattle.std.proofs.lemmas.Bool.{cases_eq}
use Rattle.std.proofs.Math.Nat.{mul-le-mul_left}
use Rattle.components.specs.Components.{Reach, target, IsGraph}
use Rattle.components.specs.Search.{IsIn, IsWithin, IsLinked, IsSearch, IsNamed}
use Rattle.components.proofs.Paths.{then}
use Rattle.components.proofs.Pushing.{search_push}
use Rattle.components.proofs.Joining.{linked_join}
use Rattle.components.proofs.Closing.{search_close}
use Rattle.components.proofs.Following.{search_done}
use Rattle.components.proofs.Places.{last_or_below}

pub search_pushed : {n d : ℕ} {to : ℕ → ℕ → ℕ} {cs ps ls os ss qs os' ss' qs' : List ℕ} (t p : ℕ)
    → IsSearch n d to cs ps ls os ss qs → t < n → slice_index ps t ≡ 0 → n ≤ slice_index ls t
    → ((k : ℕ) → k + 1 ≡ length os → Reach d to (slice_index os k) t) → p ≡ length os
    → os' ≡ os ++ t ∷ [] → ss' ≡ ss ++ length os ∷ [] → qs' ≡ qs ++ length os ∷ []
    → IsSearch n d to cs (set ps t (p + 1)) ls os' ss' qs'
search_pushed t p h tn unseen free r ep eo es eq =
    rw (eo, es, eq, ep) (search_push t h tn unseen free r)

-- a list is its first elements and its last
pub as_pushed : (xs : List ℕ) → 0 < length xs
    → xs ≡ take (length xs - 1) xs ++ slice_index xs (length xs - 1) ∷ []
as_pushed xs h = sym (take_all (length xs - 1 + 1) xs (omega arith))
    ∙ take_more xs (length xs - 1) 0 (omega arith)

pub linked_take : {d : ℕ} {to : ℕ → ℕ → ℕ} {os ss ss' : List ℕ} (k : ℕ) → IsLinked d to os ss
    → 0 < length ss → ss' ≡ take (length ss - 1) ss → k < length os
    → ((z : ℕ) → z + 1 ≡ length os → Reach d to (slice_index os z) (slice_index os k))
    → k < slice_index ss (length ss - 1) → IsLinked d to os ss'
linked_take {d = d} {to = to} {os = os} {ss = ss} k h l e kl r ks =
    subst (IsLinked d to os) (sym e) (linked_join (slice_index ss (length ss - 1)) (length os - 1) k
    (subst (IsLinked d to os) (as_pushed ss l) h) (omega arith) ks
    (r (length os - 1) (omega arith)))

pub starts_some : {d : ℕ} {to : ℕ → ℕ → ℕ} {os ss : List ℕ} (k : ℕ) → IsLinked d to os ss
    → k < length os → 0 < length ss
starts_some {ss = ss} k h kl = some (length ss) refl
  where
    some : (m : ℕ) → length ss ≡ m → 0 < length ss
    some zero e = absurd (omega (arith, h.none e))
    some (suc m) e = omega arith

-- the starts are below a bound that the last one keeps
pub starts_below : {d : ℕ} {to : ℕ → ℕ → ℕ} {os ss : List ℕ} (p : ℕ) → IsLinked d to os ss
    → slice_index ss (length ss - 1) ≤ p → (q : ℕ) → q < length ss → slice_index ss q ≤ p
starts_below {ss = ss} p h l q ql = by_case (last_or_below q (length ss - 1) (omega arith))
  where
    by_case : (q < length ss - 1) ⊎ (q ≡ length ss - 1) → slice_index ss q ≤ p
    by_case (inl lt) = omega (arith, h.rise q (length ss - 1) lt (omega arith))
    by_case (inr e) = omega (arith, ap (slice_index ss) e)

pub edge_place : {nodes degree : ℕ} {targets : List ℕ} (x a : ℕ) → IsGraph nodes degree targets
    → x < nodes → a < degree → x * degree + a < length targets
edge_place {nodes = nodes} {degree = degree} x a g xn ad =
    omega (arith, g.long, mul-le-mul_left degree next)
  where
    next : x + 1 ≤ nodes
    next = omega arith

pub graph_within : {nodes degree : ℕ} {targets : List ℕ} → IsGraph nodes degree targets
    → IsWithin nodes degree (target degree targets)
graph_within {degree = degree} g =
    record { within = λ x a xn ad. g.within (x * degree + a) 0 (edge_place x a g xn ad) }

-- the last open node reaches those of the last segment, and what these reach
pub last_reaches : {d : ℕ} {to : ℕ → ℕ → ℕ} {os ss : List ℕ} {x : ℕ} (p : ℕ) → IsLinked d to os ss
    → slice_index ss (length ss - 1) ≤ p → p < length os → Reach d to (slice_index os p) x → (k : ℕ)
    → k + 1 ≡ length os → Reach d to (slice_index os k) x
last_reaches {ss = ss} p h l pl r k ke =
    then (h.down p k (omega arith) (omega arith)
    (λ q ql b. absurd (omega (arith, starts_below p h l q ql)))) r

pub search_closed : {n d : ℕ} {to : ℕ → ℕ → ℕ} {cs ps ls ls' os os' ss ss' qs : List ℕ} (s m : ℕ)
    → IsWithin n d to → IsSearch n d to cs ps ls os ss qs → 0 < length ss
    → s ≡ slice_index ss (length ss - 1) → ((q : ℕ) → q < length qs → slice_index qs q < s)
    → IsNamed (drop s os) m ls ls' → IsIn (drop s os) m
    → ((k : ℕ) → k < length (drop s os) → m ≤ slice_index (drop s os) k) → os' ≡ take s os
    → ss' ≡ take (length ss - 1) ss → IsSearch n d to cs ps ls' os' ss' qs
search_closed {n = n} {d = d} {to = to} {cs = cs} {ps = ps} {ls = ls} {ls' = ls'} {os = os}
    {ss = ss} {qs = qs} s m w h some es low nm mi mb eo eq =
    rw (eo, eq) (search_close n d to cs ps ls ls' (take s os) (drop s os) (take (length ss - 1) ss)
    qs s m w parted (length-take-le s os
    (omega (arith, h.linked.below (length ss - 1) (omega arith)))) low nm mi mb)
  where
    parted : IsSearch n d to cs ps ls (take s os ++ drop s os)
        (take (length ss - 1) ss ++ s ∷ []) qs
    parted = subst (λ xs. IsSearch n d to cs ps ls xs (take (length ss - 1) ss ++ s ∷ []) qs)
        (sym (take-append-drop s os)) (subst (λ xs. IsSearch n d to cs ps ls os xs qs)
        (as_pushed ss some ∙ ap (λ v. take (length ss - 1) ss ++ v ∷ []) (sym es)) h)

-- one edge more was followed
pub sum_next : {n d : ℕ} {to : ℕ → ℕ → ℕ} {cs ps ls os ss qs : List ℕ} (v c : ℕ)
    → IsSearch n d to cs ps ls os ss qs → v < n → slice_index cs v ≡ c → c < d
    → (sum (set cs v (c + 1)) ≡ sum cs + 1) × (sum cs + 1 ≤ n * d)
sum_next {n = n} {d = d} {cs = cs} v c h vn ec cd = (grown, omega (arith, grown, bound))
  where
    grown : sum (set cs v (c + 1)) ≡ sum cs + 1
    grown = omega (arith, ec, sum_by-set (λ x. x) cs v (c + 1) 0 (omega (arith, h.followed.long)))

    most : (x : ℕ) → x < n → slice_index (set cs v (c + 1)) x ≤ d
    most x xn = elim (cases_eq x v) [
      | inl e ↦ omega (
        arith,
        ap (slice_index (set cs v (c + 1))) e,
        get_or-set_same cs v (c + 1) 0 (omega (arith, h.followed.long)),
      )
      | inr ne ↦ omega (arith, get_or-set_other cs v x (c + 1) 0 ne, h.followed.most x xn)
    ]

    long : length (set cs v (c + 1)) ≡ n
    long = length-set cs v (c + 1) ∙ h.followed.long

    bound : sum (set cs v (c + 1)) ≤ n * d
    bound = subst (λ k. sum (set cs v (c + 1)) ≤ k * d) long
        (sum_by-le (λ x. x) d (set cs v (c + 1))
        (All-from_get_or (λ x. x ≤ d) (set cs v (c + 1)) 0 (λ x xl. most x (omega (arith, long)))))

pub unseen : {n d : ℕ} {to : ℕ → ℕ → ℕ} {cs ps ls os ss qs : List ℕ} (x : ℕ)
    → IsSearch n d to cs ps ls os ss qs → length ss ≡ 0 → x < n → n ≤ slice_index ls x
    → slice_index ps x ≡ 0
unseen {ps = ps} x h e xn u = elim (cases_eq (slice_index ps x) 0) [
  | inl z ↦ z
  | inr nz ↦ absurd (omega (
    arith,
    nz,
    h.linked.none e,
    h.stack.seen x (slice_index ps x - 1) xn (omega (arith, nz)) u,
  ))
]

-- what was closed before the last segment stays closed
pub stay_closed : {n d : ℕ} {to : ℕ → ℕ → ℕ} {cs ps ls ls' os ss qs : List ℕ} (s m : ℕ)
    → IsSearch n d to cs ps ls os ss qs → IsNamed (drop s os) m ls ls' → IsIn (drop s os) m
    → (x : ℕ) → slice_index ls x < n → slice_index ls' x < n
stay_closed {os = os} s m h nm (k, kl, e) x l = elim (nm.others x) [
  | inl e ↦ omega (arith, e)
  | inr p ↦ omega (
    arith,
    p.0,
    e,
    get_or-drop s os k 0,
    length-drop s os,
    h.stack.node (s + k) (omega (arith, length-drop s os)),
  )
]

pub search_waited : {n d : ℕ} {to : ℕ → ℕ → ℕ} {cs ps ls os ss qs qs' : List ℕ} (p : ℕ)
    → IsSearch n d to cs ps ls os ss qs → 0 < length qs → p ≡ slice_index qs (length qs - 1)
    → d ≤ slice_index cs (slice_index os p) → qs' ≡ take (length qs - 1) qs
    → IsSearch n d to cs ps ls os ss qs'
search_waited {n = n} {d = d} {to = to} {cs = cs} {ps = ps} {ls = ls} {os = os} {ss = ss} {qs = qs}
    p h some ep full e = rw e (search_done p (subst (λ xs. IsSearch n d to cs ps ls os ss xs)
    (as_pushed qs some ∙ ap (λ v. take (length qs - 1) qs ++ v ∷ []) (sym ep)) h) full)
