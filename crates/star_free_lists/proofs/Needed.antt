-- Marks of the nodes that the root needs, and the lists of kept nodes.
use Rattle.std.proofs.Common.{◌≡◌, ◌≢◌, ◌∙◌, ◌<◌, ◌≤◌, ◌+◌, ℕ, zero, suc, Bool, true, false, List, [], ◌∷◌, ◌++◌, length, slice_index, set, replicate, refl, sym, ap, subst, ◌⊎◌, inl, inr, arith}
use Rattle.std.proofs.lemmas.Bool.{cases_lt}
use Rattle.std.proofs.lemmas.Bool.Decides.{eqb_tells}
use Rattle.std.proofs.lemmas.List.{length-set, get_or-set_same, get_or-set_other, length-replicate, length-append, get_or_append_left}
use Rattle.std.proofs.Math.ListN.{get_or-eq_default}
use Rattle.std.proofs.Math.Seq.{get_or-append_seam}
use Rattle.language_theory.specs.Automaton.{is_marked}
use Rattle.star_free_theory.specs.declared.nodes.SfNode.TheVariants as node
use Rattle.star_free_theory.specs.declared.nodes.SfNode.{SfNode}
use Rattle.star_free_theory.specs.StarFree.{IsStarFreeList, NamesBelow}
use Rattle.star_free_theory.specs.Pruning.{itself, part, IsAt, IsNeeded, IsPruning, IsRenumbered, Names, node_at}
use Rattle.star_free_theory.proofs.Denoting.{earlier_at}
use Rattle.star_free_lists.specs.Pruning.{AreNeeded, AreNamedMarked, IsMarking, AreKept}

pub names_below : (n : ℕ) (x : SfNode) (i : ℕ) → NamesBelow n x → Names x i → i < n
names_below n node.Empty i l m = absurd m
names_below n node.Eps i l m = absurd m
names_below n (node.Letter a) i l m = absurd m
names_below n (node.Not p) i l m = subst (λ (z : ℕ). z < n) m l
names_below n (node.Cat p q) i l (inl m) = subst (λ (z : ℕ). z < n) m l.0
names_below n (node.Cat p q) i l (inr m) = subst (λ (z : ℕ). z < n) m l.1
names_below n (node.Or p q) i l (inl m) = subst (λ (z : ℕ). z < n) m l.0
names_below n (node.Or p q) i l (inr m) = subst (λ (z : ℕ). z < n) m l.1
names_below n (node.And p q) i l (inl m) = subst (λ (z : ℕ). z < n) m l.0
names_below n (node.And p q) i l (inr m) = subst (λ (z : ℕ). z < n) m l.1

-- the nodes that node n names are below it
pub node_below : (nodes : List SfNode) (root n : ℕ) → IsStarFreeList nodes root → n < length nodes
    → NamesBelow n (node_at nodes n)
node_below nodes root n s l = let e : 0 + n ≡ n = omega arith in
    subst (λ (m : ℕ). NamesBelow m (node_at nodes n)) e (earlier_at 0 nodes n s.earlier l)

pub needed_within : (nodes : List SfNode) (root : ℕ) → IsStarFreeList nodes root → (i : ℕ)
    → IsNeeded nodes root i → i < length nodes
needed_within nodes root s i itself = s.inside
needed_within nodes root s i (part {j = j} _ n m) =
    let l = needed_within nodes root s j n in
    let b = names_below j (node_at nodes j) i (node_below nodes root j s l) m in
    omega arith

pub marked_within : (marks : List Bool) (i : ℕ) → is_marked marks i ≡ true → i < length marks
marked_within marks i e = elim (cases_lt i (length marks))
    [ inl l ↦ l | inr l ↦ absurd (let f = get_or-eq_default marks false l in cc) ]

-- the marks of one pass down

none_marked : (n i : ℕ) → is_marked (replicate n false) i ≡ false
none_marked zero i = refl
none_marked (suc n) zero = refl
none_marked (suc n) (suc i) = none_marked n i

pub marking_first : (nodes : List SfNode) (root n : ℕ) (marks : List Bool)
    → marks ≡ replicate (length nodes) false → root < length nodes → length nodes ≤ n
    → IsMarking nodes root n (set marks root true)
marking_first nodes root n marks e l m =
    let long : length marks ≡ length nodes = ap (λ (bs : List Bool). length bs) e
    ∙ length-replicate (length nodes) false in
    let none = λ (i : ℕ). ap (λ (bs : List Bool). is_marked bs i) e
    ∙ none_marked (length nodes) i in
    let only = λ (i : ℕ) (f : i ≢ root). get_or-set_other marks root i true false f ∙ none i in
    record {
      long = length-set marks root true ∙ long;
      needed = λ i t. elim (eqb_tells i root) [
        | inl g ↦ subst (IsNeeded nodes root) (sym g.1) itself
        | inr g ↦ absurd (let f = only i g.1 in cc)
      ];
      root_marked = get_or-set_same marks root true false (omega arith);
      closed = λ j i k t. absurd (let f = only j (λ g. omega arith) in cc);
    }

pub marking_skip : (nodes : List SfNode) (root n m : ℕ) (marks : List Bool) → m ≡ n + 1
    → IsMarking nodes root m marks → is_marked marks n ≡ false → IsMarking nodes root n marks
marking_skip nodes root n m marks a h e = record {
  long = h.long;
  needed = h.needed;
  root_marked = h.root_marked;
  closed = λ j i l t. elim (eqb_tells j n) [
    | inl f ↦ absurd
        (let g : is_marked marks j ≡ is_marked marks n = ap (is_marked marks) f.1 in cc)
    | inr f ↦ h.closed j i (let g = f.1 in omega arith) t
  ];
}

pub marking_more : (nodes : List SfNode) (root n m : ℕ) (marks new : List Bool) → m ≡ n + 1
    → IsStarFreeList nodes root → n < length nodes → IsMarking nodes root m marks
    → is_marked marks n ≡ true → AreNamedMarked (node_at nodes n) marks new
    → IsMarking nodes root n new
marking_more nodes root n m marks new a s b h e d = record {
  long = d.long ∙ h.long;
  needed = λ i t. elim ((d.marked i).0 t)
      [ inl o ↦ h.needed i o | inr o ↦ part i (h.needed n e) o ];
  root_marked = (d.marked root).1 (inl h.root_marked);
  closed = λ j i l t r. (d.marked i).1 (elim (eqb_tells j n) [
    | inl f ↦ inr (subst (λ (z : ℕ). Names (node_at nodes z) i) f.1 r)
    | inr f ↦ inl (elim ((d.marked j).0 t) [
      | inl o ↦ h.closed j i (let g = f.1 in omega arith) o r
      | inr o ↦ absurd (let g = names_below n (node_at nodes n) j (node_below nodes root n s b) o in
          omega arith)
    ])
  ]);
}

pub marking_all : (nodes : List SfNode) (root : ℕ) (marks : List Bool)
    → IsMarking nodes root 0 marks → AreNeeded nodes root marks
marking_all nodes root marks h = record { long = h.long; needed = λ i. (h.needed i, all i) }
  where
    all : (i : ℕ) → IsNeeded nodes root i → is_marked marks i ≡ true
    all i itself = h.root_marked
    all i (part {j = j} _ n m) = h.closed j i (omega arith) (all j n) m

-- the kept nodes of one pass up

at_more : (kept ys : List ℕ) (p i : ℕ) → IsAt kept p i → IsAt (kept ++ ys) p i
at_more kept ys p i a = (
  let e = length-append kept ys in let l = a.0 in omega arith,
  get_or_append_left kept ys 0 p a.0 ∙ a.1,
)

renumbered_more : (kept ys : List ℕ) (x y : SfNode) → IsRenumbered kept x y
    → IsRenumbered (kept ++ ys) x y
renumbered_more kept ys node.Empty node.Empty r = tt
renumbered_more kept ys node.Eps node.Eps r = tt
renumbered_more kept ys (node.Letter a) (node.Letter b) r = r
renumbered_more kept ys (node.Not i) (node.Not p) r = at_more kept ys p i r
renumbered_more kept ys (node.Cat i j) (node.Cat p q) r =
    (at_more kept ys p i r.0, at_more kept ys q j r.1)
renumbered_more kept ys (node.Or i j) (node.Or p q) r =
    (at_more kept ys p i r.0, at_more kept ys q j r.1)
renumbered_more kept ys (node.And i j) (node.And p q) r =
    (at_more kept ys p i r.0, at_more kept ys q j r.1)
renumbered_more kept ys _ _ r = absurd r

-- a place in a list with one more is one of the list, or the last
at_push : (kept : List ℕ) (n i p : ℕ) → IsAt (kept ++ n ∷ []) p i
    → IsAt kept p i ⊎ ((p ≡ length kept) × (i ≡ n))
at_push kept n i p a =
    let e : length (kept ++ n ∷ []) ≡ length kept + 1 = length-append kept (n ∷ []) in
    let m = a.0 in
    elim (cases_lt p (length kept)) [
      | inl l ↦ inl (l, sym (get_or_append_left kept (n ∷ []) 0 p l) ∙ a.1)
      | inr l ↦ let f : p ≡ length kept = omega arith in
          inr (f, sym a.1 ∙ ap (slice_index (kept ++ n ∷ [])) f ∙ get_or-append_seam kept n [] 0)
    ]

at_last : (kept : List ℕ) (n : ℕ) → IsAt (kept ++ n ∷ []) (length kept) n
at_last kept n =
    (let e = length-append kept (n ∷ []) in omega arith, get_or-append_seam kept n [] 0)

pub kept_none : (nodes : List SfNode) (marks : List Bool) (places : List ℕ)
    → length places ≡ length nodes → AreKept nodes marks 0 [] [] places
kept_none nodes marks places e = record {
  few = omega arith;
  rises = λ p q l m. absurd (omega arith);
  marked = λ i p a. absurd (let l = a.0 in omega arith);
  places_long = e;
  placed = λ i l. absurd (omega arith);
  long = refl;
  node = λ p l. absurd (omega arith);
}

pub kept_skip : (nodes : List SfNode) (marks : List Bool) (n : ℕ) (kept : List ℕ)
    (pruned : List SfNode) (places : List ℕ) → AreKept nodes marks n kept pruned places
    → is_marked marks n ≡ false → AreKept nodes marks (n + 1) kept pruned places
kept_skip nodes marks n kept pruned places h e = record {
  few = let f = h.few in omega arith;
  rises = h.rises;
  marked = λ i p a. let r = h.marked i p a in (let l = r.0 in omega arith, r.1);
  places_long = h.places_long;
  placed = λ i l t. elim (eqb_tells i n) [
    | inl f ↦ absurd
        (let g : is_marked marks i ≡ is_marked marks n = ap (is_marked marks) f.1 in cc)
    | inr f ↦ h.placed i (let g = f.1 in omega arith) t
  ];
  long = h.long;
  node = h.node;
}

pub kept_more : (nodes : List SfNode) (marks : List Bool) (n : ℕ) (kept : List ℕ)
    (pruned : List SfNode) (places : List ℕ) (x : SfNode)
    → AreKept nodes marks n kept pruned places → n < length nodes → is_marked marks n ≡ true
    → IsRenumbered kept (node_at nodes n) x
    → AreKept nodes marks (n + 1) (kept ++ n ∷ []) (pruned ++ x ∷ []) (set places n (length kept))
kept_more nodes marks n kept pruned places x h l e r =
    let ks = kept ++ n ∷ [] in
    let long : length ks ≡ length kept + 1 = length-append kept (n ∷ []) in
    let more : length (pruned ++ x ∷ []) ≡ length pruned + 1 = length-append pruned (x ∷ []) in
    let same = h.long in
    let wide : n < length places = let f = h.places_long in omega arith in
    record {
      few = let f = h.few in omega arith;
      rises = λ p q a b. elim (cases_lt q (length kept)) [
        | inl c ↦ let d = h.rises p q a c in
            let f = get_or_append_left kept (n ∷ []) 0 q c in
            let g = get_or_append_left kept (n ∷ []) 0 p (omega arith) in
            omega arith
        | inr c ↦ let d = (h.marked (slice_index kept p) p (omega arith, refl)).0 in
            let f : q ≡ length kept = omega arith in
            let g : slice_index ks q ≡ n = ap (slice_index ks) f ∙ get_or-append_seam kept n [] 0 in
            let k = get_or_append_left kept (n ∷ []) 0 p (omega arith) in
            omega arith
      ];
      marked = λ i p a. elim (at_push kept n i p a) [
        | inl b ↦ let c = h.marked i p b in (let d = c.0 in omega arith, c.1)
        | inr b ↦ (let c = b.1 in omega arith, ap (is_marked marks) b.1 ∙ e)
      ];
      places_long = length-set places n (length kept) ∙ h.places_long;
      placed = λ i m t. elim (eqb_tells i n) [
        | inl f ↦ subst (λ (z : ℕ). IsAt ks (slice_index (set places n (length kept)) z) z)
            (sym f.1)
            (subst (λ (p : ℕ). IsAt ks p n) (sym (get_or-set_same places n (length kept) 0 wide))
            (at_last kept n))
        | inr f ↦ subst (λ (p : ℕ). IsAt ks p i)
            (sym (get_or-set_other places n i (length kept) 0 f.1))
            (at_more kept (n ∷ []) (slice_index places i) i
            (h.placed i (let g = f.1 in omega arith) t))
      ];
      long = omega arith;
      node = λ p m. elim (cases_lt p (length kept)) [
        | inl c ↦ subst
            (λ (i : ℕ). IsRenumbered ks (node_at nodes i) (node_at (pruned ++ x ∷ []) p))
            (sym (get_or_append_left kept (n ∷ []) 0 p c))
            (subst (IsRenumbered ks (node_at nodes (slice_index kept p)))
            (sym (get_or_append_left pruned (x ∷ []) node.Empty p (omega arith)))
            (renumbered_more kept (n ∷ []) (node_at nodes (slice_index kept p)) (node_at pruned p)
            (h.node p c)))
        | inr c ↦ let f : p ≡ length kept = omega arith in
            let g : p ≡ length pruned = omega arith in
            subst (λ (i : ℕ). IsRenumbered ks (node_at nodes i) (node_at (pruned ++ x ∷ []) p))
            (sym (ap (slice_index ks) f ∙ get_or-append_seam kept n [] 0))
            (subst (IsRenumbered ks (node_at nodes n))
            (sym (ap (node_at (pruned ++ x ∷ [])) g ∙ get_or-append_seam pruned x [] node.Empty))
            (renumbered_more kept (n ∷ []) (node_at nodes n) x r))
      ];
    }

pub kept_all : (nodes : List SfNode) (root : ℕ) (marks : List Bool) (kept : List ℕ)
    (pruned : List SfNode) (places : List ℕ) → IsStarFreeList nodes root
    → AreNeeded nodes root marks → AreKept nodes marks (length nodes) kept pruned places
    → IsPruning nodes root kept pruned (slice_index places root)
kept_all nodes root marks kept pruned places s m h = record {
  rises = h.rises;
  needed = λ i. (
    λ n. (
      slice_index places i,
      h.placed i (needed_within nodes root s i n) ((m.needed i).1 n),
    ),
    λ a. (m.needed i).0 (h.marked i a.0 a.1).1,
  );
  long = h.long;
  node = h.node;
  root_at = h.placed root s.inside ((m.needed root).1 itself);
}

pub below_wider : (n m : ℕ) (x : SfNode) → NamesBelow n x → n ≤ m → NamesBelow m x
below_wider n m node.Empty l h = tt
below_wider n m node.Eps l h = tt
below_wider n m (node.Letter a) l h = tt
below_wider n m (node.Not i) l h = omega arith
below_wider n m (node.Cat i j) l h = (let a = l.0 in omega arith, let a = l.1 in omega arith)
below_wider n m (node.Or i j) l h = (let a = l.0 in omega arith, let a = l.1 in omega arith)
below_wider n m (node.And i j) l h = (let a = l.0 in omega arith, let a = l.1 in omega arith)

-- the places that are read are there, also where that of n itself is written before
pub names_placed : (nodes : List SfNode) (root n v : ℕ) (marks : List Bool) (kept : List ℕ)
    (pruned : List SfNode) (places : List ℕ) → IsStarFreeList nodes root
    → AreNeeded nodes root marks → AreKept nodes marks n kept pruned places → n < length nodes
    → is_marked marks n ≡ true → (i : ℕ) → Names (node_at nodes n) i
    → IsAt kept (slice_index (set places n v) i) i
names_placed nodes root n v marks kept pruned places s m h l e i o =
    let b : i < n = names_below n (node_at nodes n) i (node_below nodes root n s l) o in
    subst (λ (p : ℕ). IsAt kept p i) (sym (get_or-set_other places n i v 0 (λ f. omega arith)))
    (h.placed i b ((m.needed i).1 (part i ((m.needed n).0 e) o)))
