-- The last node of the path gets its height.
use Rattle.std.proofs.Common.{◌≡◌, ◌≢◌, ℕ, ◌+◌, ◌-◌, ◌*◌, ◌<◌, ◌≤◌, ◌⊎◌, inl, inr, List}
use Rattle.std.proofs.Common.{length, slice_index, set, take, drop, min, sym, ap}
use Rattle.std.proofs.Common.{subst, arith, ◌∙◌}
use Rattle.std.proofs.lemmas.List.{length-set, get_or-set_same, get_or-set_other, get_or-take}
use Rattle.std.proofs.lemmas.List.{get_or-drop, length-take-le, length-drop}
use Rattle.std.proofs.lemmas.List.Sums.{sum_by-set, sum_by-le}
use Rattle.std.proofs.lemmas.List.Elements.{All-from_get_or}
use Rattle.std.proofs.lemmas.Bool.{cases_lt, cases_eq}
use Rattle.simon_bound.specs.Steps.{row_at}
use Rattle.simon_bound.specs.Heights.{Leads, IsAcyclic, IsNext, IsSearch, IsGreatest}
use Rattle.simon_bound.specs.Heights.{number_found}
use Rattle.simon_bound.proofs.Searching.{once, top_within, top_zero}

-- the numbers of a row, by their places in the whole list
module _ (n : ℕ) (starts nodes : List ℕ) (a : IsAcyclic n starts nodes) (c : ℕ) (b : c < n) where
  pub row_length : length (row_at starts nodes c)
      ≡ slice_index starts (c + 1) - slice_index starts c
  row_length = length-take-le (slice_index starts (c + 1) - slice_index starts c)
      (drop (slice_index starts c) nodes)
      (omega (arith, length-drop (slice_index starts c) nodes, a.inside c b, a.order c b))

  pub row_place : (k : ℕ) → k < length (row_at starts nodes c)
      → slice_index (row_at starts nodes c) k ≡ slice_index nodes (slice_index starts c + k)
  row_place k l =
      get_or-take (slice_index starts (c + 1) - slice_index starts c)
      (drop (slice_index starts c) nodes) k 0 (omega (arith, row_length))
      ∙ get_or-drop (slice_index starts c) nodes k 0

  pub row_leads : (k : ℕ) → k < length (row_at starts nodes c)
      → Leads starts nodes c (slice_index (row_at starts nodes c) k)
  row_leads k l = record {
    place = slice_index starts c + k;
    from = omega arith;
    before = omega (arith, row_length);
    to = sym (row_place k l);
  }

  pub row_within : (k : ℕ) → k < length (row_at starts nodes c)
      → slice_index (row_at starts nodes c) k < n
  row_within k l =
      omega (
        arith,
        row_place k l,
        a.within c (slice_index starts c + k) b (omega arith)
            (omega (arith, row_length)),
      )

  pub leads_in_row : (t : ℕ) → Leads starts nodes c t → (k : ℕ)
      × (k < length (row_at starts nodes c)) × (slice_index (row_at starts nodes c) k ≡ t)
  leads_in_row t l = (
    l.place - slice_index starts c,
    inside,
    row_place (l.place - slice_index starts c) inside
        ∙ (ap (λ (z : ℕ). slice_index nodes z) there ∙ l.to),
  )
    where
      inside : l.place - slice_index starts c < length (row_at starts nodes c)
      inside = omega (arith, row_length, l.from, l.before)

      there : slice_index starts c + (l.place - slice_index starts c) ≡ l.place
      there = omega (arith, l.from)

module _ (n : ℕ) (starts nodes cursors heights path : List ℕ) (a : IsAcyclic n starts nodes)
    (h : IsSearch n starts nodes cursors heights path) (c : ℕ) (some : 0 < length path)
    (top : c ≡ slice_index path (length path - 1))
    (done : slice_index starts (c + 1) ≤ slice_index cursors c) (g : ℕ)
    (m : IsGreatest heights (row_at starts nodes c) (length (row_at starts nodes c)) g) where
  within : c < n
  within = top_within n starts nodes cursors heights path a h c some top

  zero_before : slice_index heights c ≡ 0
  zero_before = top_zero n starts nodes cursors heights path a h c some top

  abbrev pub new : List ℕ
  new = set heights c (g + 1)

  -- an edge of the last node leads to a node with a height
  found_below : (t : ℕ) → Leads starts nodes c t → 0 < slice_index heights t
  found_below t l =
      subst (λ (z : ℕ). 0 < slice_index heights z) l.to
      (by (h.followed c l.place within l.from (omega (arith, done, l.before))))
    where
      by : (0 < slice_index heights (slice_index nodes l.place))
          ⊎ IsNext path c (slice_index nodes l.place)
          → 0 < slice_index heights (slice_index nodes l.place)
      by (inl f) = f
      by (inr (k, b, e, f)) =
          absurd (once n starts nodes cursors heights path a h k (length path - 1) (omega arith)
          (omega arith) (e ∙ top))

  most_below : (t : ℕ) → Leads starts nodes c t → slice_index heights t ≤ g
  most_below t l =
      let (k, b, e) = leads_in_row n starts nodes a c within t l in
      subst (λ (z : ℕ). slice_index heights z ≤ g) e (m.most k b)

  at_same : slice_index new c ≡ g + 1
  at_same = get_or-set_same heights c (g + 1) 0 (omega (arith, h.right.long, within))

  at_other : (x : ℕ) → x ≢ c → slice_index new x ≡ slice_index heights x
  at_other x o = get_or-set_other heights c x (g + 1) 0 o

  at : (x : ℕ) → ((x ≡ c) × (slice_index new x ≡ g + 1))
      ⊎ ((x ≢ c) × (slice_index new x ≡ slice_index heights x))
  at x = elim (cases_eq x c) [
    | inl e ↦ inl (e, ap (λ (z : ℕ). slice_index new z) e ∙ at_same)
    | inr o ↦ inr (o, at_other x o)
  ]

  -- a node with a height keeps it
  kept : (x : ℕ) → 0 < slice_index heights x → slice_index new x ≡ slice_index heights x
  kept x f = at_other x
      (λ e. absurd (omega (arith, zero_before, ap (λ (z : ℕ). slice_index heights z) e)))

  still : (x : ℕ) → 0 < slice_index heights x → 0 < slice_index new x
  still x f = omega (arith, kept x f)

  count : number_found new ≡ number_found heights + 1
  count = let one : min (g + 1) 1 ≡ 1 = omega arith in
      let none : min (slice_index heights c) 1 ≡ 0 = omega (arith, zero_before) in
      omega (
        arith,
        one,
        none,
        sum_by-set (λ x. min x 1) heights c (g + 1) 0 (omega (arith, h.right.long, within)),
      )

  few : number_found new ≤ n
  few = subst (λ (k : ℕ). number_found new ≤ k) count_of
      (sum_by-le (λ x. min x 1) 1 new
      (All-from_get_or (λ x. min x 1 ≤ 1) new 0 (λ x b. omega arith)))
    where
      count_of : length new * 1 ≡ n
      count_of = omega (arith, length-set heights c (g + 1), h.right.long)

  g_small : g ≤ number_found heights
  g_small = by (cases_lt 0 g)
    where
      by : (0 < g) ⊎ (g ≤ 0) → g ≤ number_found heights
      by (inr z) = omega arith
      by (inl f) =
          let (k, b, e) = m.reached f in
          omega (
            arith,
            e,
            h.found (slice_index (row_at starts nodes c) k)
                (row_within n starts nodes a c within k b),
          )

  found : (x : ℕ) → x < n → slice_index new x ≤ number_found new
  found x b = elim (at x) [
    | inl f ↦ omega (arith, f.1, count, g_small)
    | inr f ↦ omega (arith, f.1, count, h.found x b)
  ]

  falls : (x t : ℕ) → x < n → 0 < slice_index new x → Leads starts nodes x t
      → (0 < slice_index new t) × (slice_index new t < slice_index new x)
  falls x t b p l = by (at x)
    where
      by : ((x ≡ c) × (slice_index new x ≡ g + 1))
          ⊎ ((x ≢ c) × (slice_index new x ≡ slice_index heights x))
          → (0 < slice_index new t) × (slice_index new t < slice_index new x)
      by (inl (e, f)) =
          let low : Leads starts nodes c t = subst (λ (z : ℕ). Leads starts nodes z t) e l in
          let some = found_below t low in
          (still t some, omega (arith, f, kept t some, most_below t low))
      by (inr (o, f)) =
          let old = h.right.falls x t b (omega (arith, f)) l in
          (still t old.0, omega (arith, f, kept t old.0, old.1))

  next : (x : ℕ) → x < n → 1 < slice_index new x
      → (t : ℕ) × Leads starts nodes x t × (slice_index new t + 1 ≡ slice_index new x)
  next x b p = by (at x)
    where
      by : ((x ≡ c) × (slice_index new x ≡ g + 1))
          ⊎ ((x ≢ c) × (slice_index new x ≡ slice_index heights x))
          → (t : ℕ) × Leads starts nodes x t × (slice_index new t + 1 ≡ slice_index new x)
      by (inl (e, f)) =
          let (k, l, d) = m.reached (omega (arith, f)) in
          let t = slice_index (row_at starts nodes c) k in
          let low : Leads starts nodes c t = row_leads n starts nodes a c within k l in
          let same = kept t (found_below t low) in
          (t, subst (λ (z : ℕ). Leads starts nodes z t) (sym e) low, omega (arith, f, same, d))
      by (inr (o, f)) =
          let (t, l, d) = h.right.next x b (omega (arith, f)) in
          let low = h.right.falls x t b (omega (arith, f)) l in
          (t, l, omega (arith, f, d, kept t low.0))

  shorter : (path' : List ℕ) → path' ≡ take (length path - 1) path
      → length path' ≡ length path - 1
  shorter path' e = ap (λ (xs : List ℕ). length xs) e
      ∙ length-take-le (length path - 1) path (omega arith)

  -- what the search keeps when the last node has its height
  pub search_finished : (path' : List ℕ) → path' ≡ take (length path - 1) path
      → IsSearch n starts nodes cursors new path'
  search_finished path' e = record {
    right = record {
      long = length-set heights c (g + 1) ∙ h.right.long;
      few = λ x b. omega (arith, found x b, few);
      falls = falls;
      next = next;
    };
    found = found;
    long = h.long;
    small = h.small;
    from = h.from;
    to = h.to;
    opened = λ k b. opened k (omega (arith, long));
    linked = λ k b.
        subst (λ (z : ℕ). Leads starts nodes z (slice_index path' (k + 1)))
        (sym (place k (omega (arith, long))))
        (subst (λ (z : ℕ). Leads starts nodes (slice_index path k) z)
        (sym (place (k + 1) (omega (arith, long)))) (h.linked k (omega (arith, long))));
    followed = λ x q b f l. by x q (h.followed x q b f l);
    first = λ b. place 0 (omega (arith, long)) ∙ h.first some;
    last = λ z. last z;
  }
    where
      long : length path' ≡ length path - 1
      long = shorter path' e

      place : (k : ℕ) → k < length path - 1 → slice_index path' k ≡ slice_index path k
      place k b = ap (λ (xs : List ℕ). slice_index xs k) e
          ∙ get_or-take (length path - 1) path k 0 b

      opened : (k : ℕ) → k < length path - 1
          → (slice_index path' k < n) × (slice_index new (slice_index path' k) ≡ 0)
      opened k b =
          let old = h.opened k (omega arith) in
          let apart : slice_index path k ≢ c =
          (λ s. once n starts nodes cursors heights path a h k (length path - 1) b (omega arith)
          (s ∙ top)) in
          let same = at_other (slice_index path k) apart in (
            omega (arith, place k b, old.0),
            ap (λ (z : ℕ). slice_index new z) (place k b) ∙ (same ∙ old.1),
          )

      by : (x q : ℕ)
          → (0 < slice_index heights (slice_index nodes q)) ⊎ IsNext path x (slice_index nodes q)
          → (0 < slice_index new (slice_index nodes q)) ⊎ IsNext path' x (slice_index nodes q)
      by x q (inl f) = inl (still (slice_index nodes q) f)
      by x q (inr (k, b, s, f)) = split (cases_lt (k + 1) (length path - 1))
        where
          split : (k + 1 < length path - 1) ⊎ (length path - 1 ≤ k + 1)
              → (0 < slice_index new (slice_index nodes q)) ⊎ IsNext path' x (slice_index nodes q)
          split (inl l) = inr (
            k,
            omega (arith, long),
            place k (omega arith) ∙ s,
            place (k + 1) l ∙ f,
          )
          split (inr l) =
              let end : k + 1 ≡ length path - 1 = omega arith in
              let same : slice_index nodes q ≡ c =
              sym f ∙ (ap (λ (z : ℕ). slice_index path z) end ∙ sym top) in
              inl (omega (arith, at_same, ap (λ (z : ℕ). slice_index new z) same))

      last : length path' ≡ 0 → 0 < slice_index new 0
      last z =
          let end : length path - 1 ≡ 0 = omega (arith, long) in
          let same : c ≡ 0 =
          top ∙ (ap (λ (k : ℕ). slice_index path k) end ∙ h.first some) in
          omega (arith, at_same, ap (λ (k : ℕ). slice_index new k) same)
