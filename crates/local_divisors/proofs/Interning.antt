-- The test of equal nodes, by which an index set finds one, is that of the definitions.
use Rattle.std.proofs.Common.{◌≡◌, ◌<◌, ◌≤◌, ◌+◌, ◌∙◌, ℕ, Bool, true, false, List, [], ◌∷◌, ◌++◌}
use Rattle.std.proofs.Common.{◌||◌, Option}
use Rattle.std.proofs.Common.{Some, None, length, refl, sym, ap, inl, inr, arith}
use Rattle.std.specs.List.{position, position_or_len, list_any}
use Rattle.std.proofs.lemmas.Bool.{cases_Bool, lt-ltb, le-ltb}
use Rattle.std.proofs.lemmas.List.{length-append}
use Rattle.indexmap.specs.IndexSet.{insert_key}
use Rattle.star_free_theory.specs.Construction.{put, place, done, nodes}
use Rattle.star_free_theory.specs.declared.nodes.SfNode.{SfNode}
use Rattle.star_free_theory.specs.declared.nodes.SfNode.TheVariants as node
use Rattle.star_free_theory.specs.contracts.nodes.SfNodePartialEq.TheImpl.{eq-value}
use Rattle.star_free_theory.specs.Construction.{same_node}

abbrev pub test : SfNode → SfNode → Bool
test = eq-value.it

test_is_same : (x y : SfNode) → test x y ≡ same_node x y
test_is_same node.Empty node.Empty = refl
test_is_same node.Empty node.Eps = refl
test_is_same node.Empty (node.Letter p) = refl
test_is_same node.Empty (node.Not p) = refl
test_is_same node.Empty (node.Cat p q) = refl
test_is_same node.Empty (node.Or p q) = refl
test_is_same node.Empty (node.And p q) = refl
test_is_same node.Eps node.Empty = refl
test_is_same node.Eps node.Eps = refl
test_is_same node.Eps (node.Letter p) = refl
test_is_same node.Eps (node.Not p) = refl
test_is_same node.Eps (node.Cat p q) = refl
test_is_same node.Eps (node.Or p q) = refl
test_is_same node.Eps (node.And p q) = refl
test_is_same (node.Letter i) node.Empty = refl
test_is_same (node.Letter i) node.Eps = refl
test_is_same (node.Letter i) (node.Letter p) = refl
test_is_same (node.Letter i) (node.Not p) = refl
test_is_same (node.Letter i) (node.Cat p q) = refl
test_is_same (node.Letter i) (node.Or p q) = refl
test_is_same (node.Letter i) (node.And p q) = refl
test_is_same (node.Not i) node.Empty = refl
test_is_same (node.Not i) node.Eps = refl
test_is_same (node.Not i) (node.Letter p) = refl
test_is_same (node.Not i) (node.Not p) = refl
test_is_same (node.Not i) (node.Cat p q) = refl
test_is_same (node.Not i) (node.Or p q) = refl
test_is_same (node.Not i) (node.And p q) = refl
test_is_same (node.Cat i j) node.Empty = refl
test_is_same (node.Cat i j) node.Eps = refl
test_is_same (node.Cat i j) (node.Letter p) = refl
test_is_same (node.Cat i j) (node.Not p) = refl
test_is_same (node.Cat i j) (node.Cat p q) = refl
test_is_same (node.Cat i j) (node.Or p q) = refl
test_is_same (node.Cat i j) (node.And p q) = refl
test_is_same (node.Or i j) node.Empty = refl
test_is_same (node.Or i j) node.Eps = refl
test_is_same (node.Or i j) (node.Letter p) = refl
test_is_same (node.Or i j) (node.Not p) = refl
test_is_same (node.Or i j) (node.Cat p q) = refl
test_is_same (node.Or i j) (node.Or p q) = refl
test_is_same (node.Or i j) (node.And p q) = refl
test_is_same (node.And i j) node.Empty = refl
test_is_same (node.And i j) node.Eps = refl
test_is_same (node.And i j) (node.Letter p) = refl
test_is_same (node.And i j) (node.Not p) = refl
test_is_same (node.And i j) (node.Cat p q) = refl
test_is_same (node.And i j) (node.Or p q) = refl
test_is_same (node.And i j) (node.And p q) = refl

pub same_position : (x : SfNode) (xs : List SfNode) → position (test x) xs ≡ place x xs
same_position x xs = ap (λ (f : SfNode → Bool). position f xs) (λ j y. test_is_same x y j)

-- a node that is found
pub put_found : (most : Option ℕ) (x : SfNode) (xs : List SfNode) (p : ℕ)
    → position (test x) xs ≡ Some p → put most (place x xs) xs x ≡ done (xs, p)
put_found most x xs p e = ap (λ (s : Option ℕ). put most s xs x) (sym (same_position x xs) ∙ e)

none_of : (x : SfNode) (xs : List SfNode) → position (test x) xs ≡ None → place x xs ≡ None
none_of x xs e = sym (same_position x xs) ∙ e

pub put_full : (m : ℕ) (x : SfNode) (xs : List SfNode) → position (test x) xs ≡ None → m ≤ length xs
    → put (Some m) (place x xs) xs x ≡ nodes
put_full m x xs e l = ap (λ (s : Option ℕ). put (Some m) s xs x) (none_of x xs e)
    ∙ rw (le-ltb (length xs) m l) refl

put_more : (m : ℕ) (x : SfNode) (xs : List SfNode) → position (test x) xs ≡ None → length xs < m
    → put (Some m) (place x xs) xs x ≡ done (xs ++ x ∷ [], length xs)
put_more m x xs e l = ap (λ (s : Option ℕ). put (Some m) s xs x) (none_of x xs e)
    ∙ rw (lt-ltb (length xs) m l) refl

-- where no node passes, none is found
none_found : (q : SfNode → Bool) (xs : List SfNode) → list_any q xs ≡ false
    → length xs ≤ position_or_len q xs
none_found q [] e = omega arith
none_found q (x ∷ xs) e = elim (cases_Bool (q x)) [
  | inl f ↦ absurd (let g : true ≡ false = sym (ap (λ (b : Bool). b || list_any q xs) f) ∙ e in cc)
  | inr f ↦
      let g : list_any q xs ≡ false = sym (ap (λ (b : Bool). b || list_any q xs) f) ∙ e in
      let h = none_found q xs g in
      rw f (omega (arith, h))
]

-- a node that is inserted where there is room, if no equal one is there
pub put_inserted : (m : ℕ) (x : SfNode) (xs ys : List SfNode) (i : ℕ) → length xs < m
    → ys ≡ insert_key test xs x → i ≡ position_or_len (test x) xs → i < length ys
    → put (Some m) (place x xs) xs x ≡ done (ys, i)
put_inserted m x xs ys i l e f w = elim (cases_Bool (list_any (test x) xs)) [
  | inl any ↦
      let g : ys ≡ xs = e ∙ rw any refl in
      let len : length ys ≡ length xs = ap (λ (zs : List SfNode). length zs) g in
      let h : position_or_len (test x) xs < length xs = omega arith in
      let s : position (test x) xs ≡ Some (position_or_len (test x) xs) =
      rw (lt-ltb (position_or_len (test x) xs) (length xs) h) refl in
      put_found (Some m) x xs (position_or_len (test x) xs) s ∙ rw (f, g) refl
  | inr any ↦
      let g : ys ≡ xs ++ x ∷ [] = e ∙ rw any refl in
      let len : length ys ≡ length xs + 1 = ap (λ (zs : List SfNode). length zs) g
      ∙ length-append xs (x ∷ []) in
      let n = none_found (test x) xs any in
      let s : position (test x) xs ≡ None =
      rw (le-ltb (position_or_len (test x) xs) (length xs) n) refl in
      let h : i ≡ length xs = omega arith in
      put_more m x xs s l ∙ rw (g, h) refl
]
