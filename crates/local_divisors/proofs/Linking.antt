-- Lists that are linked through one table, with one more link, and with one link taken.
use Rattle.std.proofs.Common.{◌≡◌, ◌∙◌, ◌<◌, ◌≤◌, ◌+◌, ℕ, zero, suc, List, [], ◌∷◌, ◌++◌, length}
use Rattle.std.proofs.Common.{get_or, set, map, replicate, All, Some, refl, sym, ap, subst, arith}
use Rattle.std.proofs.Common.{slice_index_or, inl, inr, ◌≢◌, ◌-◌, true}
use Rattle.std.proofs.lemmas.Bool.{cases_lt}
use Rattle.std.proofs.lemmas.List.{map-set, get_or-map, get_or_append_left, get_or-append-add}
use Rattle.std.proofs.lemmas.List.{length-append}
use Rattle.std.proofs.lemmas.List.Elements.{All-set}
use Rattle.star_free_theory.specs.Construction.{is_some_pair}
use Rattle.local_divisors.specs.declared.grouping.Link.{Link}
use Rattle.local_divisors.specs.Grouping.{no_link, link_at, first_pairs, pairs_from, AreLinked, IsTaken}

-- a list goes on as before where there are more links
first_kept : (links more : List Link) → AreLinked links → (n place : ℕ) → place ≤ length links
    → first_pairs (links ++ more) n place ≡ first_pairs links n place
first_kept links more h zero zero l = refl
first_kept links more h (suc n) zero l = refl
first_kept links more h zero (suc k) l = refl
first_kept links more h (suc n) (suc k) l =
    let i : k < length links = omega arith in
    let b = h.back k i in
    let e : link_at (links ++ more) k ≡ link_at links k = get_or_append_left links more no_link k i in
    rw e (ap (λ ps. ((link_at links k).left, (link_at links k).right) ∷ ps)
    (first_kept links more h n (link_at links k).next (omega (arith, b))))

-- a list has no more pairs than its place says
all_first : (links : List Link) → AreLinked links → (n m place : ℕ) → place ≤ length links
    → place ≤ n → place ≤ m → first_pairs links n place ≡ first_pairs links m place
all_first links h zero zero zero l i j = refl
all_first links h (suc n) zero zero l i j = refl
all_first links h zero (suc m) zero l i j = refl
all_first links h (suc n) (suc m) zero l i j = refl
all_first links h zero m (suc k) l i j = absurd (omega arith)
all_first links h (suc n) zero (suc k) l i j = absurd (omega arith)
all_first links h (suc n) (suc m) (suc k) l i j =
    let b = h.back k (omega arith) in
    ap (λ ps. ((link_at links k).left, (link_at links k).right) ∷ ps)
    (all_first links h n m (link_at links k).next (omega (arith, b)) (omega (arith, b))
    (omega (arith, b)))

-- the list from a link on
pub list_at : (links : List Link) → AreLinked links → (k : ℕ) → k < length links
    → pairs_from links (suc k)
    ≡ ((link_at links k).left, (link_at links k).right) ∷ pairs_from links (link_at links k).next
list_at links h k l =
    let b = h.back k l in
    ap (λ ps. ((link_at links k).left, (link_at links k).right) ∷ ps)
    (all_first links h k (link_at links k).next (link_at links k).next (omega (arith, b)) b
    (omega arith))

pub linked_more : (links : List Link) (x : Link) → AreLinked links → x.next ≤ length links
    → AreLinked (links ++ x ∷ [])
linked_more links x h l = record {
  back = λ k i. elim (cases_lt k (length links)) [
    | inl d ↦
        let e : link_at (links ++ x ∷ []) k ≡ link_at links k =
        get_or_append_left links (x ∷ []) no_link k d in
        subst (λ (y : Link). y.next ≤ k) (sym e) (h.back k d)
    | inr d ↦
        let s = length-append links (x ∷ []) in
        let e : k ≡ length links + 0 = omega (arith, d) in
        let g : link_at (links ++ x ∷ []) k ≡ x =
        ap (link_at (links ++ x ∷ [])) e ∙ get_or-append-add links (x ∷ []) 0 no_link in
        subst (λ (y : Link). y.next ≤ k) (sym g) (omega (arith, d))
  ];
}

-- the list of a link that is put behind those that there are
list_put : (links : List Link) (x : Link) → AreLinked links → x.next ≤ length links
    → pairs_from (links ++ x ∷ []) (suc (length links)) ≡ (x.left, x.right) ∷ pairs_from links x.next
list_put links x h l =
    let s = length-append links (x ∷ []) in
    let m = linked_more links x h l in
    let e : link_at (links ++ x ∷ []) (length links) ≡ x =
    let z : length links ≡ length links + 0 = omega arith in
    ap (link_at (links ++ x ∷ [])) z ∙ get_or-append-add links (x ∷ []) 0 no_link in
    list_at (links ++ x ∷ []) m (length links) (omega arith)
    ∙ ap (λ (y : Link). (y.left, y.right) ∷ pairs_from (links ++ x ∷ []) y.next) e
    ∙ ap (λ ps. (x.left, x.right) ∷ ps) (first_kept links (x ∷ []) h x.next x.next l)

lists_kept : (links more : List Link) (heads : List ℕ) → AreLinked links
    → All (λ p. p ≤ length links) heads
    → map (pairs_from (links ++ more)) heads ≡ map (pairs_from links) heads
lists_kept links more [] h w = refl
lists_kept links more (p ∷ heads) h w =
    rw (
      first_kept links more h p p (w 0 0 (omega arith)),
      lists_kept links more heads h (λ i d l. w (suc i) d (omega arith)),
    ) refl

-- a pair is put before those of a group
pub lists_put : (links : List Link) (heads : List ℕ) (u : ℕ) (x : Link) → AreLinked links
    → All (λ p. p ≤ length links) heads → u < length heads → x.next ≡ get_or heads u 0
    → map (pairs_from (links ++ x ∷ [])) (set heads u (suc (length links)))
    ≡ set (map (pairs_from links) heads) u
    ((x.left, x.right) ∷ slice_index_or (map (pairs_from links) heads) u [])
lists_put links heads u x h w l e =
    let n : x.next ≤ length links = subst (λ (z : ℕ). z ≤ length links) (sym e) (w u 0 l) in
    map-set (pairs_from (links ++ x ∷ [])) heads u (suc (length links))
    ∙ ap (λ gs. set gs u (pairs_from (links ++ x ∷ []) (suc (length links))))
    (lists_kept links (x ∷ []) heads h w)
    ∙ ap (set (map (pairs_from links) heads) u) (list_put links x h n
    ∙ ap (λ ps. (x.left, x.right) ∷ ps) (ap (pairs_from links) e
    ∙ sym (get_or-map (pairs_from links) heads u 0 [] l)))

pub heads_put : (heads : List ℕ) (n u : ℕ) → All (λ p. p ≤ n) heads
    → All (λ p. p ≤ n + 1) (set heads u (suc n))
heads_put heads n u w = All-set (λ p. p ≤ n + 1) heads u (suc n) (omega arith)
    (λ i d l. let b = w i d l in omega arith)

pub lists_none : (n : ℕ) → map (pairs_from []) (replicate n 0) ≡ replicate n []
lists_none zero = refl
lists_none (suc n) = ap (λ gs. [] ∷ gs) (lists_none n)

-- whether a list has a pair
pub has_some : (links : List Link) (place : ℕ) → place ≢ 0 → is_some_pair (pairs_from links place) ≡ true
has_some links zero n = absurd (n refl)
has_some links (suc k) n = refl

-- the next pair
pub next_taken : (links : List Link) → AreLinked links → (place : ℕ) → place ≤ length links
    → 0 < place → IsTaken (pairs_from links place)
    (Some ((link_at links (place - 1)).left, (link_at links (place - 1)).right))
    (pairs_from links (link_at links (place - 1)).next)
next_taken links h zero l n = absurd (omega arith)
next_taken links h (suc k) l n =
    let z : suc k - 1 ≡ k = omega arith in
    rw z (list_at links h k (omega arith))
