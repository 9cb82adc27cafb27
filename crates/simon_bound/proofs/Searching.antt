-- What the search for heights keeps true.
use Rattle.std.proofs.Common.{◌≡◌, ◌≢◌, ℕ, zero, suc, ◌+◌, ◌-◌, ◌*◌, ◌<◌, ◌≤◌}
use Rattle.std.proofs.Common.{◌⊎◌, inl, inr, List, []}
use Rattle.std.proofs.Common.{◌∷◌, ◌++◌, length, slice_index, set, sum, refl, sym, ap}
use Rattle.std.proofs.Common.{subst, arith, ◌∙◌}
use Rattle.std.proofs.lemmas.List.{get_or_append_left, length-append, get_or_push, length-set}
use Rattle.std.proofs.lemmas.List.{get_or-set_same, get_or-set_other}
use Rattle.std.proofs.lemmas.List.Sums.{sum_by-set, sum_by-le}
use Rattle.std.proofs.lemmas.List.Elements.{All-from_get_or}
use Rattle.std.proofs.lemmas.Bool.{cases_lt, cases_eq}
use Rattle.simon_bound.specs.Heights.{Leads, Falls, IsAcyclic, IsNext, IsSearch}
use Rattle.simon_bound.proofs.FallingPaths.{list_falls}

-- the search begins with node 0 on the path
pub search_first : (n : ℕ) (starts nodes cursors heights : List ℕ) → IsAcyclic n starts nodes
    → cursors ≡ starts → length heights ≡ n
    → ((c : ℕ) → c < n → slice_index heights c ≡ 0)
    → IsSearch n starts nodes cursors heights (0 ∷ [])
search_first n starts nodes cursors heights a e long none = record {
  right = record {
    long = long;
    few = λ c b. omega (arith, none c b);
    falls = λ c t b h l. absurd (omega (arith, none c b));
    next = λ c b h. absurd (omega (arith, none c b));
  };
  found = λ c b. omega (arith, none c b);
  long = ap (λ (xs : List ℕ). length xs) e ∙ a.long;
  small = small;
  from = λ c b. omega (arith, at c);
  to = λ c b. omega (arith, at c, a.order c b);
  opened = λ k b. on k b;
  linked = λ k b. absurd (omega arith);
  followed = λ c p b f l. absurd (omega (arith, at c));
  first = λ b. refl;
  last = λ b. absurd (omega arith);
}
  where
    at : (c : ℕ) → slice_index cursors c ≡ slice_index starts c
    at c = ap (λ (xs : List ℕ). slice_index xs c) e

    small : (c : ℕ) → c < n + 1 → slice_index cursors c ≤ length nodes
    small c b = elim (cases_eq c 0) [
      | inl e ↦ omega (
        arith,
        at c,
        ap (λ (z : ℕ). slice_index starts z) e,
        a.order 0 a.some,
        a.inside 0 a.some,
      )
      | inr o ↦ omega (
        arith,
        at c,
        subst (λ (z : ℕ). slice_index starts z ≤ length nodes)
            (before c o) (a.inside (c - 1) (omega arith)),
      )
    ]
      where
        before : (c : ℕ) → c ≢ 0 → c - 1 + 1 ≡ c
        before c o = omega arith

    on : (k : ℕ) → k < 1
        → (slice_index (0 ∷ []) k < n) × (slice_index heights (slice_index (0 ∷ []) k) ≡ 0)
    on zero b = (a.some, none 0 a.some)
    on (suc k) b = absurd (omega arith)

module _ (n : ℕ) (starts nodes cursors heights path : List ℕ) (a : IsAcyclic n starts nodes)
    (h : IsSearch n starts nodes cursors heights path) where
  -- no node stands twice on the path
  pub once : (i j : ℕ) → i < j → j < length path → slice_index path i ≢ slice_index path j
  once i j l b e =
      a.none (slice_index path j) (h.opened j b).0
      (subst (λ (z : ℕ). Falls starts nodes z (slice_index path j)) e
      (list_falls starts nodes path h.linked i (j - i - 1) j (omega arith) b))

  module _ (c : ℕ) (some : 0 < length path) (top : c ≡ slice_index path (length path - 1)) where
    pub top_within : c < n
    top_within = omega (arith, top, (h.opened (length path - 1) (omega arith)).0)

    pub top_zero : slice_index heights c ≡ 0
    top_zero = ap (λ (z : ℕ). slice_index heights z) top
        ∙ (h.opened (length path - 1) (omega arith)).1

    -- an edge of the last node was followed
    module _ (p : ℕ) (at : p ≡ slice_index cursors c) (left : p < slice_index starts (c + 1)) where
      moved_same : slice_index (set cursors c (p + 1)) c ≡ p + 1
      moved_same = get_or-set_same cursors c (p + 1) 0 (omega (arith, h.long, top_within))

      moved_other : (x : ℕ) → x ≢ c
          → slice_index (set cursors c (p + 1)) x ≡ slice_index cursors x
      moved_other x o = get_or-set_other cursors c x (p + 1) 0 o

      -- each cursor stays, or is the one that moved
      moved : (x : ℕ) → ((x ≡ c) × (slice_index (set cursors c (p + 1)) x ≡ p + 1))
          ⊎ (slice_index (set cursors c (p + 1)) x ≡ slice_index cursors x)
      moved x = elim (cases_eq x c) [
        | inl e ↦ inl (e, ap (λ (z : ℕ). slice_index (set cursors c (p + 1)) z) e ∙ moved_same)
        | inr o ↦ inr (moved_other x o)
      ]

      -- the edges before the cursors, where the path keeps its nodes
      module _ (later : List ℕ) (kept : (x t : ℕ) → IsNext path x t → IsNext later x t)
          (new : (0 < slice_index heights (slice_index nodes p))
          ⊎ IsNext later c (slice_index nodes p)) where
        keep : (x q : ℕ)
            → (0 < slice_index heights (slice_index nodes q)) ⊎ IsNext path x (slice_index nodes q)
            → (0 < slice_index heights (slice_index nodes q)) ⊎ IsNext later x (slice_index nodes q)
        keep x q (inl g) = inl g
        keep x q (inr f) = inr (kept x (slice_index nodes q) f)

        followed : (x q : ℕ) → x < n → slice_index starts x ≤ q
            → q < slice_index (set cursors c (p + 1)) x
            → (0 < slice_index heights (slice_index nodes q)) ⊎ IsNext later x (slice_index nodes q)
        followed x q b f l = by (moved x) (cases_eq q p)
          where
            by : ((x ≡ c) × (slice_index (set cursors c (p + 1)) x ≡ p + 1))
                ⊎ (slice_index (set cursors c (p + 1)) x ≡ slice_index cursors x)
                → (q ≡ p) ⊎ (q ≢ p)
                → (0 < slice_index heights (slice_index nodes q))
                ⊎ IsNext later x (slice_index nodes q)
            by (inr e) d = keep x q (h.followed x q b f (omega arith))
            by (inl (e, m)) (inl d) =
                subst (λ (z : ℕ). (0 < slice_index heights (slice_index nodes z))
                ⊎ IsNext later x (slice_index nodes z)) (sym d)
                (subst (λ (z : ℕ). (0 < slice_index heights (slice_index nodes p))
                ⊎ IsNext later z (slice_index nodes p)) (sym e) new)
            by (inl (e, m)) (inr d) =
                let same : slice_index cursors x ≡ p =
                ap (λ (z : ℕ). slice_index cursors z) e ∙ sym at in
                keep x q (h.followed x q b f (omega arith))

        -- what the search keeps, where the path keeps it
        search_on : ((k : ℕ) → k < length later
            → (slice_index later k < n) × (slice_index heights (slice_index later k) ≡ 0))
            → ((k : ℕ) → k + 1 < length later
            → Leads starts nodes (slice_index later k) (slice_index later (k + 1)))
            → (slice_index later 0 ≡ 0) → 0 < length later
            → IsSearch n starts nodes (set cursors c (p + 1)) heights later
        search_on on linked first more = record {
          right = h.right;
          found = h.found;
          long = length-set cursors c (p + 1) ∙ h.long;
          small = λ x b. small x b (moved x);
          from = λ x b. from x b (moved x);
          to = λ x b. to x b (moved x);
          opened = on;
          linked = linked;
          followed = followed;
          first = λ b. first;
          last = λ b. absurd (omega arith);
        }
          where
            small : (x : ℕ) → x < n + 1
                → ((x ≡ c) × (slice_index (set cursors c (p + 1)) x ≡ p + 1))
                ⊎ (slice_index (set cursors c (p + 1)) x ≡ slice_index cursors x)
                → slice_index (set cursors c (p + 1)) x ≤ length nodes
            small x b (inl m) = omega (arith, m.1, a.inside c top_within)
            small x b (inr m) = omega (arith, m, h.small x b)

            from : (x : ℕ) → x < n
                → ((x ≡ c) × (slice_index (set cursors c (p + 1)) x ≡ p + 1))
                ⊎ (slice_index (set cursors c (p + 1)) x ≡ slice_index cursors x)
                → slice_index starts x ≤ slice_index (set cursors c (p + 1)) x
            from x b (inl m) =
                omega (arith, m.1, ap (λ (z : ℕ). slice_index starts z) m.0, h.from c top_within)
            from x b (inr m) = omega (arith, m, h.from x b)

            to : (x : ℕ) → x < n → ((x ≡ c) × (slice_index (set cursors c (p + 1)) x ≡ p + 1))
                ⊎ (slice_index (set cursors c (p + 1)) x ≡ slice_index cursors x)
                → slice_index (set cursors c (p + 1)) x ≤ slice_index starts (x + 1)
            to x b (inl m) =
                omega (arith, m.1, ap (λ (z : ℕ). slice_index starts (z + 1)) m.0)
            to x b (inr m) = omega (arith, m, h.to x b)

      -- it leads to a node with a height
      pub search_met : 0 < slice_index heights (slice_index nodes p)
          → IsSearch n starts nodes (set cursors c (p + 1)) heights path
      search_met g =
          search_on path (λ x t f. f) (inl g) h.opened h.linked (h.first some) some

      -- it leads to a node without a height, which is put on the path
      pub search_pushed : slice_index heights (slice_index nodes p) ≡ 0
          → IsSearch n starts nodes (set cursors c (p + 1)) heights
          (path ++ slice_index nodes p ∷ [])
      search_pushed z =
          search_on (path ++ t ∷ []) kept (inr (length path - 1, omega (arith, long), under, over))
          on linked (old 0 some ∙ h.first some) (omega (arith, long))
        where
          t : ℕ
          t = slice_index nodes p

          long : length (path ++ t ∷ []) ≡ length path + 1
          long = length-append path (t ∷ [])

          old : (k : ℕ) → k < length path → slice_index (path ++ t ∷ []) k ≡ slice_index path k
          old k b = get_or_append_left path (t ∷ []) 0 k b

          new : (k : ℕ) → length path ≡ k → slice_index (path ++ t ∷ []) k ≡ t
          new k e = get_or_push path t 0 k e

          under : slice_index (path ++ t ∷ []) (length path - 1) ≡ c
          under = old (length path - 1) (omega arith) ∙ sym top

          over : slice_index (path ++ t ∷ []) (length path - 1 + 1) ≡ t
          over = new (length path - 1 + 1) (omega arith)

          kept : (x u : ℕ) → IsNext path x u → IsNext (path ++ t ∷ []) x u
          kept x u (k, b, e, f) = (
            k,
            omega (arith, long),
            old k (omega arith) ∙ e,
            old (k + 1) b ∙ f,
          )

          leads : Leads starts nodes c t
          leads = record {
            place = p;
            from = omega (arith, at, h.from c top_within);
            before = left;
            to = refl;
          }

          on : (k : ℕ) → k < length (path ++ t ∷ [])
              → (slice_index (path ++ t ∷ []) k < n)
              × (slice_index heights (slice_index (path ++ t ∷ []) k) ≡ 0)
          on k b = elim (cases_lt k (length path)) [
            | inl l ↦ (
              omega (arith, old k l, (h.opened k l).0),
              ap (λ (x : ℕ). slice_index heights x) (old k l) ∙ (h.opened k l).1,
            )
            | inr g ↦ (
              omega (
                arith,
                new k (omega (arith, long)),
                a.within c p top_within leads.from left,
              ),
              ap (λ (x : ℕ). slice_index heights x) (new k (omega (arith, long))) ∙ z,
            )
          ]

          linked : (k : ℕ) → k + 1 < length (path ++ t ∷ [])
              → Leads starts nodes (slice_index (path ++ t ∷ []) k)
              (slice_index (path ++ t ∷ []) (k + 1))
          linked k b = by (cases_lt (k + 1) (length path))
            where
              first : slice_index (path ++ t ∷ []) k ≡ slice_index path k
              first = old k (omega (arith, long))

              by : (k + 1 < length path) ⊎ (length path ≤ k + 1)
                  → Leads starts nodes (slice_index (path ++ t ∷ []) k)
                  (slice_index (path ++ t ∷ []) (k + 1))
              by (inl l) =
                  subst (λ (x : ℕ). Leads starts nodes x (slice_index (path ++ t ∷ []) (k + 1)))
                  (sym first)
                  (subst (λ (x : ℕ). Leads starts nodes (slice_index path k) x)
                  (sym (old (k + 1) l)) (h.linked k l))
              by (inr g) =
                  let place : length path - 1 ≡ k = omega (arith, long) in
                  let same : c ≡ slice_index (path ++ t ∷ []) k =
                  top ∙ (ap (λ (x : ℕ). slice_index path x) place ∙ sym first) in
                  subst (λ (x : ℕ). Leads starts nodes x (slice_index (path ++ t ∷ []) (k + 1)))
                  same (subst (λ (x : ℕ). Leads starts nodes c x)
                  (sym (new (k + 1) (omega (arith, long)))) leads)

      -- less is left to do
      pub sum_moved : (sum (set cursors c (p + 1)) ≡ sum cursors + 1)
          × (sum cursors + 1 ≤ (n + 1) * length nodes)
      sum_moved = (grown, omega (arith, grown, bound))
        where
          grown : sum (set cursors c (p + 1)) ≡ sum cursors + 1
          grown = omega (
            arith,
            at,
            sum_by-set (λ x. x) cursors c (p + 1) 0 (omega (arith, h.long, top_within)),
          )

          long : length (set cursors c (p + 1)) ≡ n + 1
          long = length-set cursors c (p + 1) ∙ h.long

          each : (x : ℕ) → x < n + 1 → slice_index (set cursors c (p + 1)) x ≤ length nodes
          each x b = elim (moved x) [
            | inl m ↦ omega (arith, m.1, a.inside c top_within)
            | inr m ↦ omega (arith, m, h.small x b)
          ]

          bound : sum (set cursors c (p + 1)) ≤ (n + 1) * length nodes
          bound = subst (λ k. sum (set cursors c (p + 1)) ≤ k * length nodes) long
              (sum_by-le (λ x. x) (length nodes) (set cursors c (p + 1))
              (All-from_get_or (λ x. x ≤ length nodes) (set cursors c (p + 1)) 0
              (λ x b. each x (omega (arith, long)))))
