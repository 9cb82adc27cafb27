-- The least elements that give the elements of a local submonoid.
use Rattle.std.proofs.Common.{◌≡◌, ◌⊎◌, inl, inr, ℕ, ◌+◌, ◌<◌, ◌≤◌, Bool, true, false, List, [], ◌∷◌, ◌++◌, length, replicate, get_or, set, refl, ap, sym, subst, ◌∙◌, arith}
use Rattle.std.specs.Prelude.{slice_index, map}
use Rattle.std.proofs.lemmas.Bool.{cases_lt}
use Rattle.std.proofs.lemmas.List.{get_or_read, get_or-set_same, get_or-set_other, length-set, length_push, get_or_append_left, get_or_push, get_or-replicate, get_or_past, length-replicate, length-map, get_or-map}
use Rattle.language_theory.proofs.Numbers.{equal_or_not, pigeonhole}
use Rattle.parallel_table.specs.ProductTables.{ProductTable, cell}
use Rattle.local_submonoids.specs.LocalTables.{local_element, CommuteAt, AreFirstBelow, AreOneProduct, AllCommute, IsFirstPair, IsLeastSwapAt, HasNoSwap}

-- ---- elements that commute

pub commute_moves : (p : ProductTable) (e s i j : ℕ) → local_element p e j ≡ local_element p e i
    → CommuteAt p e s i → CommuteAt p e s j
commute_moves p e s i j h c =
    subst (λ (m : ℕ). cell p (local_element p e s) m ≡ cell p m (local_element p e s)) (sym h) c

pub commute_moves_first : (p : ProductTable) (e t i j : ℕ) → local_element p e j
    ≡ local_element p e i → CommuteAt p e i t → CommuteAt p e j t
commute_moves_first p e t i j h c =
    subst (λ (m : ℕ). cell p m (local_element p e t) ≡ cell p (local_element p e t) m) (sym h) c

module _ (p : ProductTable) (e : ℕ) (firsts : List ℕ) (h : AreFirstBelow p e p.side firsts) where
  -- a smaller listed element has an earlier place
  earlier : (i n : ℕ) → i < length firsts → slice_index firsts i < slice_index firsts n → i < n
  earlier i n l m = elim (cases_lt i n) [
    | inl g ↦ g
    | inr g ↦ elim (cases_lt n i) [
      | inl f ↦ (let r = h.rise n i f l in absurd (omega arith))
      | inr f ↦ (let e : i ≡ n = omega arith in let r = ap (slice_index firsts) e in
          absurd (omega arith))
    ]
  ]

  -- what commutes with the listed elements before a place commutes with all smaller elements
  pub commutes_below : (s n j : ℕ) → n < length firsts
      → ((i : ℕ) → i < n → CommuteAt p e s (slice_index firsts i)) → j < slice_index firsts n
      → CommuteAt p e s j
  commutes_below s n j l before m =
      let w = h.within n l in
      let (i, li, low, same) = h.cover j (omega arith) in
      commute_moves p e s (slice_index firsts i) j same (before i (earlier i n li (omega arith)))

  pub commutes_all : (s j : ℕ)
      → ((i : ℕ) → i < length firsts → CommuteAt p e s (slice_index firsts i)) → j < p.side
      → CommuteAt p e s j
  commutes_all s j all m =
      let (i, li, low, same) = h.cover j m in
      commute_moves p e s (slice_index firsts i) j same (all i li)

  pub all_below : (n i j : ℕ) → n < length firsts
      → ((m : ℕ) → m < n → (t : ℕ) → t < p.side → CommuteAt p e (slice_index firsts m) t)
      → i < slice_index firsts n → j < p.side → CommuteAt p e i j
  all_below n i j l before low m =
      let w = h.within n l in
      let (a, la, f, same) = h.cover i (omega arith) in
      commute_moves_first p e j (slice_index firsts a) i same
      (before a (earlier a n la (omega arith)) j m)

  pub all_commute : (i j : ℕ)
      → ((m : ℕ) → m < length firsts → (t : ℕ) → t < p.side
      → CommuteAt p e (slice_index firsts m) t) → i < p.side → j < p.side → CommuteAt p e i j
  all_commute i j all l m =
      let (a, la, f, same) = h.cover i l in
      commute_moves_first p e j (slice_index firsts a) i same (all a la j m)

-- ---- the list, element by element

-- the marked elements are those that the listed ones give
pub record IsSeenBelow (p : ProductTable) (e n : ℕ) (is_seen : List Bool) (firsts : List ℕ) : Type 0
  where
    pub first : AreFirstBelow p e n firsts
    pub long : length is_seen ≡ p.side
    pub has : (i : ℕ) → i < length firsts
        → get_or is_seen (local_element p e (slice_index firsts i)) false ≡ true
    pub from : (m : ℕ) → get_or is_seen m false ≡ true → (i : ℕ) × (i < length firsts)
        × (local_element p e (slice_index firsts i) ≡ m)

no_mark : (n m : ℕ) → get_or (replicate n false) m false ≡ false
no_mark n m = elim (cases_lt m n) [
  | inl l ↦ get_or-replicate n m false false l
  | inr l ↦ (let e = length-replicate n false in
      get_or_past (replicate n false) m false (omega arith))
]

pub none_seen : (p : ProductTable) (e n : ℕ) (firsts : List ℕ) → n ≡ p.side → firsts ≡ []
    → IsSeenBelow p e 0 (replicate n false) firsts
none_seen p e n firsts h none =
    let empty : length firsts ≡ 0 = ap length none in
    record {
      first = record {
        within = λ i l. absurd (omega arith);
        rise = λ i j l m. absurd (omega arith);
        cover = λ s l. absurd (omega arith);
        apart = λ i j l m. absurd (omega arith);
      };
      long = length-replicate n false ∙ h;
      has = λ i l. absurd (omega arith);
      from = λ m t. let f = no_mark n m in cc;
    }

module _ (p : ProductTable) (e n : ℕ) (is_seen : List Bool) (firsts : List ℕ)
    (h : IsSeenBelow p e n is_seen firsts) where
  -- the next element is one that was seen
  pub none_more : get_or is_seen (local_element p e n) false ≡ true
      → IsSeenBelow p e (n + 1) is_seen firsts
  none_more t = record {
    first = record {
      within = λ i l. let w = h.first.within i l in omega arith;
      rise = h.first.rise;
      cover = λ s l. cover s (cases_lt s n) l;
      apart = h.first.apart;
    };
    long = h.long;
    has = h.has;
    from = h.from;
  }
    where
      cover : (s : ℕ) → (s < n) ⊎ (n ≤ s) → s < n + 1 → (i : ℕ) × (i < length firsts)
          × (slice_index firsts i ≤ s)
          × (local_element p e s ≡ local_element p e (slice_index firsts i))
      cover s (inl l) _ = h.first.cover s l
      cover s (inr l) m =
          let (i, li, g) = h.from (local_element p e n) t in
          let w = h.first.within i li in
          let same : n ≡ s = omega arith in
          (i, li, omega arith, ap (local_element p e) (sym same) ∙ sym g)

  -- the next element is a new one
  module _ (new : get_or is_seen (local_element p e n) false ≡ false)
      (inside : local_element p e n < p.side) where
    longer : length (firsts ++ n ∷ []) ≡ length firsts + 1
    longer = length_push firsts n

    old : (i : ℕ) → i < length firsts → slice_index (firsts ++ n ∷ []) i ≡ slice_index firsts i
    old i l = get_or_append_left firsts (n ∷ []) 0 i l

    last : (i : ℕ) → length firsts ≡ i → slice_index (firsts ++ n ∷ []) i ≡ n
    last i l = get_or_push firsts n 0 i l

    unlike : (i : ℕ) → i < length firsts
        → ¬ (local_element p e (slice_index firsts i) ≡ local_element p e n)
    unlike i l f = let t = h.has i l in let g = ap (λ (m : ℕ). get_or is_seen m false) f in cc

    by_place : (i : ℕ) → i < length (firsts ++ n ∷ []) → (i < length firsts) ⊎ (length firsts ≡ i)
    by_place i l = let m = longer in
        elim (cases_lt i (length firsts)) [ inl g ↦ inl g | inr g ↦ inr (omega arith) ]

    first_more : AreFirstBelow p e (n + 1) (firsts ++ n ∷ [])
    first_more = record {
      within = λ i l. within i (by_place i l);
      rise = λ i j l m. rise i j l (by_place j m);
      cover = λ s l. cover s (cases_lt s n) l;
      apart = λ i j l m. apart i j l (by_place j m);
    }
      where
        within : (i : ℕ) → (i < length firsts) ⊎ (length firsts ≡ i)
            → slice_index (firsts ++ n ∷ []) i < n + 1
        within i (inl l) = let a = old i l in let w = h.first.within i l in omega arith
        within i (inr l) = let a = last i l in omega arith

        rise : (i j : ℕ) → i < j → (j < length firsts) ⊎ (length firsts ≡ j)
            → slice_index (firsts ++ n ∷ []) i < slice_index (firsts ++ n ∷ []) j
        rise i j l (inl m) = let a = old i (omega arith) in let b = old j m in let r =
            h.first.rise i j l m in omega arith
        rise i j l (inr m) = let a = old i (omega arith) in let b = last j m in let w =
            h.first.within i (omega arith) in omega arith

        cover : (s : ℕ) → (s < n) ⊎ (n ≤ s) → s < n + 1 → (i : ℕ) × (i < length (firsts ++ n ∷ []))
            × (slice_index (firsts ++ n ∷ []) i ≤ s)
            × (local_element p e s ≡ local_element p e (slice_index (firsts ++ n ∷ []) i))
        cover s (inl l) _ =
            let (i, li, low, same) = h.first.cover s l in
            let a = old i li in
            let m = longer in
            (i, omega arith, omega arith, same ∙ ap (local_element p e) (sym a))
        cover s (inr l) m =
            let a = last (length firsts) refl in
            let b = longer in
            let same : n ≡ s = omega arith in
            (length firsts, omega arith, omega arith, ap (local_element p e) (sym same ∙ sym a))

        apart : (i j : ℕ) → i < j → (j < length firsts) ⊎ (length firsts ≡ j)
            → ¬ (local_element p e (slice_index (firsts ++ n ∷ []) i)
            ≡ local_element p e (slice_index (firsts ++ n ∷ []) j))
        apart i j l (inl m) f = h.first.apart i j l m
            (ap (local_element p e) (sym (old i (omega arith)))
            ∙ (f ∙ ap (local_element p e) (old j m)))
        apart i j l (inr m) f = unlike i (omega arith)
            (ap (local_element p e) (sym (old i (omega arith)))
            ∙ (f ∙ ap (local_element p e) (last j m)))

    pub one_more : IsSeenBelow p e (n + 1) (set is_seen (local_element p e n) true)
        (firsts ++ n ∷ [])
    one_more = record {
      first = first_more;
      long = length-set is_seen (local_element p e n) true ∙ h.long;
      has = λ i l. has i (by_place i l);
      from = λ m t. from m (equal_or_not m (local_element p e n)) t;
    }
      where
        marked : get_or (set is_seen (local_element p e n) true) (local_element p e n) false ≡ true
        marked = get_or-set_same is_seen (local_element p e n) true false (rw h.long inside)

        has : (i : ℕ) → (i < length firsts) ⊎ (length firsts ≡ i)
            → get_or (set is_seen (local_element p e n) true)
            (local_element p e (slice_index (firsts ++ n ∷ []) i)) false ≡ true
        has i (inl l) =
            ap (λ (s : ℕ). get_or (set is_seen (local_element p e n) true) (local_element p e s)
            false) (old i l)
            ∙ (get_or-set_other is_seen (local_element p e n)
            (local_element p e (slice_index firsts i)) true false (unlike i l) ∙ h.has i l)
        has i (inr l) =
            ap (λ (s : ℕ). get_or (set is_seen (local_element p e n) true) (local_element p e s)
            false) (last i l) ∙ marked

        from : (m : ℕ) → (m ≡ local_element p e n) ⊎ ¬ (m ≡ local_element p e n)
            → get_or (set is_seen (local_element p e n) true) m false ≡ true → (i : ℕ)
            × (i < length (firsts ++ n ∷ []))
            × (local_element p e (slice_index (firsts ++ n ∷ []) i) ≡ m)
        from m (inl f) t = let b = longer in
            (length firsts, omega arith, ap (local_element p e) (last (length firsts) refl) ∙ sym f)
        from m (inr f) t =
            let (i, li, g) =
            h.from m (sym (get_or-set_other is_seen (local_element p e n) m true false f)
            ∙ t) in
            let b = longer in
            (i, omega arith, ap (local_element p e) (old i li) ∙ g)

-- ---- the same of what a program has read

module _ (p : ProductTable) (e n : ℕ) (is_seen : List Bool) (firsts : List ℕ)
    (h : IsSeenBelow p e n is_seen firsts) (m : ℕ) (x : Bool) (is : m ≡ local_element p e n)
    (inside : m < p.side) (read : x ≡ get_or is_seen m x) where
  mark : x ≡ get_or is_seen (local_element p e n) false
  mark = get_or_read is_seen m x (rw h.long inside) read false
      ∙ ap (λ (i : ℕ). get_or is_seen i false) is

  pub one_more_read : x ≡ false → IsSeenBelow p e (n + 1) (set is_seen m true) (firsts ++ n ∷ [])
  one_more_read f =
      subst (λ (i : ℕ). IsSeenBelow p e (n + 1) (set is_seen i true) (firsts ++ n ∷ [])) (sym is)
      (one_more p e n is_seen firsts h (sym mark ∙ f) (subst (λ (i : ℕ). i < p.side) is inside))

  pub none_more_read : x ≡ true → IsSeenBelow p e (n + 1) is_seen firsts
  none_more_read t = none_more p e n is_seen firsts h (sym mark ∙ t)

-- ---- the first pair that does not commute

module _ (p : ProductTable) (e : ℕ) (firsts elements : List ℕ) (h : AreFirstBelow p e p.side firsts)
    (is : elements ≡ map (local_element p e) firsts) where
  same_length : length elements ≡ length firsts
  same_length = ap length is ∙ length-map firsts (local_element p e)

  element_at : (i : ℕ) → i < length firsts
      → slice_index elements i ≡ local_element p e (slice_index firsts i)
  element_at i l = ap (λ (es : List ℕ). slice_index es i) is
      ∙ get_or-map (local_element p e) firsts i 0 0 l

  commutes : (i j : ℕ) → i < length firsts → j < length firsts
      → AreOneProduct p (slice_index elements i) (slice_index elements j)
      → CommuteAt p e (slice_index firsts i) (slice_index firsts j)
  commutes i j li lj c = rw (sym (element_at i li), sym (element_at j lj)) c

  commutes_back : (i j : ℕ) → i < length firsts → j < length firsts
      → CommuteAt p e (slice_index firsts i) (slice_index firsts j)
      → AreOneProduct p (slice_index elements i) (slice_index elements j)
  commutes_back i j li lj c = rw (element_at i li, element_at j lj) c

  -- the first pair of elements that does not commute is the least swap
  pub pair_is_swap : (i j : ℕ) → IsFirstPair p elements i j
      → IsLeastSwapAt p e (slice_index firsts i) (slice_index firsts j)
  pair_is_swap i j f =
      let n = same_length in
      let li : i < length firsts = let b = f.within in omega arith in
      let lj : j < length firsts = let b = f.other_within in omega arith in
      record {
        within = h.within i li;
        other_within = h.within j lj;
        fails = λ c. f.fails (commutes_back i j li lj c);
        first = λ a b low m. all_below p e firsts h i a b li (λ c l q lq.
            commutes_all p e firsts h (slice_index firsts c) q (λ d ld.
            commutes c d (omega arith) ld (f.first c d l (omega arith))) lq) low m;
        second = λ b low. commutes_below p e firsts h (slice_index firsts i) j b lj (λ d ld.
            commutes i d li (omega arith) (f.second d ld)) low;
      }

  -- where all the elements commute, there is no swap
  pub no_pair_no_swap : AllCommute p elements → HasNoSwap p e
  no_pair_no_swap f s o ls lo =
      let n = same_length in
      all_commute p e firsts h s o (λ c l q lq.
      commutes_all p e firsts h (slice_index firsts c) q (λ d ld.
      commutes c d l ld (f c d (omega arith) (omega arith))) lq) ls lo

-- ---- how many there are

pub firsts_few : (p : ProductTable) (e n : ℕ) (firsts : List ℕ) → AreFirstBelow p e n firsts
    → length firsts ≤ n
firsts_few p e n firsts h =
    pigeonhole (length firsts) n (slice_index firsts) h.within
    (λ i j l m same. let r = h.rise i j l m in omega arith)
