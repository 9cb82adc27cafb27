-- Taking a node: it denotes what it says, and the list goes on naming earlier nodes.
use Rattle.std.proofs.Common.{◌&&◌, ◌≡◌, ℕ, suc, ◌+◌, ◌<◌, true, false, cond, eqb, List, [], ◌∷◌, ◌++◌}
use Rattle.std.proofs.Common.{◌↔◌, append_assoc, sym, subst, ◌∙◌, ap, refl, ◌⊎◌, inl, inr, arith}
use Rattle.std.proofs.Common.{length, Option, Some, None}
use Rattle.std.proofs.lemmas.Bool.{eqb-true, cases_Bool}
use Rattle.std.proofs.lemmas.Bool.Decides.{eqb_tells}
use Rattle.std.proofs.lemmas.List.{append-nil, length-append}
use Rattle.std.proofs.lemmas.List.Quantifiers.{position-Some}
use Rattle.language_theory.specs.Words.{Over}
use Rattle.star_free_theory.specs.declared.nodes.SfNode.TheVariants as node
use Rattle.star_free_theory.specs.Construction.{has_room, opening, place, put, same_node, take}
use Rattle.star_free_theory.specs.Pruning.{node_at}
use Rattle.star_free_theory.specs.StarFree.{Concat, Denotes, Meaning, NameEarlier, NamesBelow, SfNode}
use Rattle.star_free_theory.specs.Treating.{Extends, IsBegun, Stands}
use Rattle.star_free_theory.proofs.Denoting.{denotes_at}
use Rattle.star_free_theory.proofs.Fits.{Concat-more}
use Rattle.star_free_theory.proofs.Gives.{Gives, gives_as, gives_done}
use Rattle.star_free_theory.proofs.Meanings.{denotes_over, extends_one, extends_self, in_opened, opening_one, opening_two, stands_alike, stands_one}

two_true : (a b c d : ℕ) → eqb a b && eqb c d ≡ true → (a ≡ b) × (c ≡ d)
two_true a b c d e = elim (eqb_tells a b)
    [ inl k ↦ (k.1, eqb-true c d (rw k.0 at e)) | inr k ↦ let f : false ≡ true = rw k.0 at e in cc ]

pub same_equal : (x y : SfNode) → same_node x y ≡ true → x ≡ y
same_equal node.Empty node.Empty e = refl
same_equal node.Eps node.Eps e = refl
same_equal (node.Letter a) (node.Letter b) e = ap node.Letter (eqb-true a b e)
same_equal (node.Not i) (node.Not p) e = ap node.Not (eqb-true i p e)
same_equal (node.Cat i j) (node.Cat p q) e = let r = two_true i p j q e in let a : i ≡ p = r.0 in
    let b : j ≡ q = r.1 in cc
same_equal (node.Or i j) (node.Or p q) e = let r = two_true i p j q e in let a : i ≡ p = r.0 in
    let b : j ≡ q = r.1 in cc
same_equal (node.And i j) (node.And p q) e = let r = two_true i p j q e in let a : i ≡ p = r.0 in
    let b : j ≡ q = r.1 in cc
same_equal x y e = cc

NameEarlier-append : (n : ℕ) (xs : List SfNode) (x : SfNode) (m : ℕ) → m ≡ n + length xs
    → NameEarlier n xs → NamesBelow m x → NameEarlier n (xs ++ x ∷ [])
NameEarlier-append n [] x m e o l = (subst (λ z. NamesBelow z x) (omega arith) l, tt)
NameEarlier-append n (y ∷ ys) x m e o l
    = (o.0, NameEarlier-append (suc n) ys x m (omega arith) o.1 l)

own : (k : ℕ) (xs : List SfNode) (n : ℕ) → n < length xs → Stands k xs n (Denotes k xs n)
own k xs n l = record { there = l; means = λ w. (λ x. x, λ x. x) }

append-nil' : (w : List ℕ) → w ++ [] ≡ w
append-nil' w = append-nil w

module _ (k : ℕ) (xs : List SfNode) (g : IsBegun xs) where
  eps_left : (j : ℕ) → j < length xs → Stands k xs j (Concat (Denotes k xs 2) (Denotes k xs j))
  eps_left j l =
      let two : Stands k xs 2 (λ w. w ≡ []) = in_opened k 2 (λ w. w ≡ []) (opening_two k) xs g.opens
      in
      stands_alike k xs j (Denotes k xs j) (Concat (Denotes k xs 2) (Denotes k xs j))
      (λ w. (
        λ x. ([], w, (two.means []).1 refl, x, refl),
        λ (u, v, a, b, e). subst (Denotes k xs j)
            (ap (λ z. z ++ v) (sym ((two.means u).0 a)) ∙ e) b,
      )) (own k xs j l)

  eps_right : (i : ℕ) → i < length xs → Stands k xs i (Concat (Denotes k xs i) (Denotes k xs 2))
  eps_right i l =
      let two : Stands k xs 2 (λ w. w ≡ []) = in_opened k 2 (λ w. w ≡ []) (opening_two k) xs g.opens
      in
      stands_alike k xs i (Denotes k xs i) (Concat (Denotes k xs i) (Denotes k xs 2))
      (λ w. (
        λ x. (w, [], x, (two.means []).1 refl, append-nil' w),
        λ (u, v, a, b, e). subst
            (Denotes k xs i) (sym (append-nil' u) ∙ ap (λ z. u ++ z) (sym ((two.means v).0 b)) ∙ e)
            a,
      )) (own k xs i l)

  all_left : (j : ℕ) → j < length xs → Stands k xs j (λ w. Denotes k xs 1 w × Denotes k xs j w)
  all_left j l =
      let one : Stands k xs 1 (Over k) = in_opened k 1 (Over k) (opening_one k) xs g.opens in
      stands_alike k xs j (Denotes k xs j) (λ w. Denotes k xs 1 w × Denotes k xs j w)
      (λ w. (λ x. ((one.means w).1 (denotes_over k xs j w x), x), λ x. x.1)) (own k xs j l)

-- a list after a node was taken, whose meaning is L
pub record Took (k : ℕ) (xs : List SfNode) (L : List ℕ → Type 0) (r : List SfNode × ℕ) : Type
    0 where
  pub begun : IsBegun r.0
  pub extends : Extends k xs r.0
  pub stands : Stands k r.0 r.1 L

module _ (k : ℕ) (most : Option ℕ) where
  put_right : (xs : List SfNode) (x : SfNode) (s : Option ℕ) → place x xs ≡ s → IsBegun xs
      → NamesBelow (length xs) x
      → Gives (most ≡ None) (put most s xs x) (Took k xs (Meaning k x (Denotes k xs)))
  put_right xs x (Some n) e g l =
      let r = position-Some (same_node x) xs n node.Empty e in
      let f : x ≡ node_at xs n = same_equal x (node_at xs n) r.1 in
      gives_done (most ≡ None) (xs, n) (Took k xs (Meaning k x (Denotes k xs)))
      (record {
        begun = g;
        extends = extends_self k xs;
        stands = record { there = r.0; means = λ w. subst (λ (y : SfNode). Denotes k xs n w ↔ Meaning k y (Denotes k xs) w) (sym f) (denotes_at k xs n g.earlier r.0 w) };
      })
  put_right xs x None e g l = elim (cases_Bool (has_room most (length xs))) [
    | inl r ↦ rw r (gives_done (most ≡ None) (xs ++ x ∷ [], length xs)
        (Took k xs (Meaning k x (Denotes k xs))) (record {
          begun = record {
            opens = (
              g.opens.0 ++ x ∷ [],
              sym (append_assoc opening g.opens.0 (x ∷ []))
                  ∙ ap (λ z. z ++ x ∷ []) g.opens.1,
            );
            earlier = NameEarlier-append 0 xs x (length xs) (omega arith) g.earlier l;
          };
          extends = extends_one k xs x;
          stands = stands_one k xs x;
        }))
    | inr r ↦ rw r (record {
      right = λ z f. cc;
      there = λ m. let f : has_room None (length xs) ≡ false
          = subst (λ o. has_room o (length xs) ≡ false) m r in cc;
    })
  ]

  pub take_right : (xs : List SfNode) (x : SfNode) → IsBegun xs → NamesBelow (length xs) x
      → Gives (most ≡ None) (take most xs x) (Took k xs (Meaning k x (Denotes k xs)))
  take_right xs node.Empty g l = put_right xs node.Empty (place node.Empty xs) refl g l
  take_right xs node.Eps g l = put_right xs node.Eps (place node.Eps xs) refl g l
  take_right xs (node.Letter a) g l = put_right xs (node.Letter a) (place (node.Letter a) xs) refl
      g l
  take_right xs (node.Not i) g l = put_right xs (node.Not i) (place (node.Not i) xs) refl g l
  take_right xs (node.Or i j) g l = put_right xs (node.Or i j) (place (node.Or i j) xs) refl g l
  take_right xs (node.Cat i j) g l = elim (eqb_tells i 2) [
    | inl a ↦ rw a.0 (gives_done (most ≡ None) (xs, j)
        (Took k xs (Meaning k (node.Cat i j) (Denotes k xs)))
        (record {
          begun = g;
          extends = extends_self k xs;
          stands
              = subst (λ z. Stands k xs j (Concat (Denotes k xs z) (Denotes k xs j))) (sym a.1)
              (eps_left k xs g j l.1);
        }))
    | inr a ↦ elim (eqb_tells j 2) [
      | inl b ↦ rw (a.0, b.0)
          (gives_done (most ≡ None) (xs, i) (Took k xs (Meaning k (node.Cat i j) (Denotes k xs)))
          (record {
            begun = g;
            extends = extends_self k xs;
            stands
                = subst (λ z. Stands k xs i (Concat (Denotes k xs i) (Denotes k xs z))) (sym b.1)
                (eps_right k xs g i l.0);
          }))
      | inr b ↦ rw (a.0, b.0) (put_right xs (node.Cat i j) (place (node.Cat i j) xs) refl g l)
    ]
  ]
  take_right xs (node.And i j) g l = elim (eqb_tells i 1) [
    | inl a ↦ rw a.0 (gives_done (most ≡ None) (xs, j)
        (Took k xs (Meaning k (node.And i j) (Denotes k xs)))
        (record {
          begun = g;
          extends = extends_self k xs;
          stands
              = subst (λ z. Stands k xs j (λ w. Denotes k xs z w × Denotes k xs j w)) (sym a.1)
              (all_left k xs g j l.1);
        }))
    | inr a ↦ rw a.0 (put_right xs (node.And i j) (place (node.And i j) xs) refl g l)
  ]

  -- taking a node whose meaning is known as L
  took_as : (xs : List SfNode) (x : SfNode) (L : List ℕ → Type 0) → IsBegun xs
      → NamesBelow (length xs) x → ((w : List ℕ) → Meaning k x (Denotes k xs) w ↔ L w)
      → Gives (most ≡ None) (take most xs x) (Took k xs L)
  took_as xs x L g l f = gives_as (most ≡ None) (most ≡ None) (take most xs x)
      (Took k xs (Meaning k x (Denotes k xs))) (Took k xs L) (λ m. m)
      (λ r t. record {
        begun = t.begun;
        extends = t.extends;
        stands = stands_alike k r.0 r.1
            (Meaning k x (Denotes k xs)) L f t.stands;
      })
      (take_right xs x g l)

  pub take_letter : (xs : List SfNode) (a : ℕ) → IsBegun xs
      → Gives (most ≡ None) (take most xs (node.Letter a)) (Took k xs (λ w. (a < k) × (w ≡ a ∷ [])))
  take_letter xs a g = took_as xs (node.Letter a) (λ w. (a < k) × (w ≡ a ∷ [])) g tt
      (λ w. (λ x. x, λ x. x))

  pub take_cat : (xs : List SfNode) (i j : ℕ) (L K : List ℕ → Type 0) → IsBegun xs → Stands k xs i L
      → Stands k xs j K → Gives (most ≡ None) (take most xs (node.Cat i j)) (Took k xs (Concat L K))
  take_cat xs i j L K g a b = took_as xs (node.Cat i j) (Concat L K) g (a.there, b.there)
      (λ w. (
        Concat-more (Denotes k xs i) (Denotes k xs j) L K (λ v. (a.means v).0)
            (λ v. (b.means v).0) w,
        Concat-more L K (Denotes k xs i) (Denotes k xs j)
            (λ v. (a.means v).1) (λ v. (b.means v).1) w,
      ))

  pub take_or : (xs : List SfNode) (i j : ℕ) (L K : List ℕ → Type 0) → IsBegun xs → Stands k xs i L
      → Stands k xs j K → Gives (most ≡ None) (take most xs (node.Or i j))
      (Took k xs (λ w. L w ⊎ K w))
  take_or xs i j L K g a b = took_as xs (node.Or i j) (λ w. L w ⊎ K w) g (a.there, b.there)
      (λ w. (
        elim [ inl x ↦ inl ((a.means w).0 x) | inr x ↦ inr ((b.means w).0 x) ],
        elim
            [ inl x ↦ inl ((a.means w).1 x) | inr x ↦ inr ((b.means w).1 x) ],
      ))

  pub take_and : (xs : List SfNode) (i j : ℕ) (L K : List ℕ → Type 0) → IsBegun xs → Stands k xs i L
      → Stands k xs j K → Gives (most ≡ None) (take most xs (node.And i j))
      (Took k xs (λ w. L w × K w))
  take_and xs i j L K g a b = took_as xs (node.And i j) (λ w. L w × K w) g (a.there, b.there)
      (λ w. (
        λ x. ((a.means w).0 x.0, (b.means w).0 x.1),
        λ x.
            ((a.means w).1 x.0, (b.means w).1 x.1),
      ))

  pub take_not : (xs : List SfNode) (i : ℕ) (L : List ℕ → Type 0) → IsBegun xs → Stands k xs i L
      → Gives (most ≡ None) (take most xs (node.Not i)) (Took k xs (λ w. Over k w × ¬ (L w)))
  take_not xs i L g a = took_as xs (node.Not i) (λ w. Over k w × ¬ (L w)) g a.there
      (λ w. (λ x. (x.0, λ y. x.1 ((a.means w).1 y)), λ x. (x.0, λ y. x.1 ((a.means w).0 y))))
