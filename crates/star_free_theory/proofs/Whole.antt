-- The whole construction denotes the words whose value is among the finals.
use Rattle.std.proofs.Common.{◌≡◌, ℕ, zero, suc, ◌+◌, ◌<◌, ◌≤◌, List, [], ◌∷◌, ◌↔◌, sym, subst, ◌∙◌}
use Rattle.std.proofs.Common.{ap, refl, ◌⊎◌, inl, inr, arith, length, Option, Some, None}
use Rattle.std.proofs.lemmas.Bool.{cases_lt}
use Rattle.language_theory.specs.Words.{Over}
use Rattle.star_free_theory.specs.declared.nodes.SfNode.TheVariants as node
use Rattle.star_free_theory.specs.Construction.{Algebra, IsAlgebra, construction, count_from, done}
use Rattle.star_free_theory.specs.Construction.{join, join_finals, opened_list, opening, or_empty}
use Rattle.star_free_theory.specs.Construction.{take, treat_within, whole_task}
use Rattle.star_free_theory.specs.Instance.{AllAmong, Among, Distinct, IsUniverse, Piece, Writes}
use Rattle.star_free_theory.specs.Instance.{image, joined, room, value}
use Rattle.star_free_theory.specs.StarFree.{Denotes, SfNode}
use Rattle.star_free_theory.specs.Treating.{Extends, IsBegun, IsFitted, IsTreated, Stands, Wanted}
use Rattle.star_free_theory.specs.Treating.{meant}
use Rattle.star_free_theory.proofs.Cutting.{Writes-alike}
use Rattle.star_free_theory.proofs.Gives.{Gives, gives_as, gives_bind, gives_done}
use Rattle.star_free_theory.proofs.Joining.{HasEach, MayJoin, MayStand, by_take, each_right}
use Rattle.star_free_theory.proofs.Joining.{empty_stands, join_right, may_stand_alike}
use Rattle.star_free_theory.proofs.Meanings.{extends_on, extends_self, in_opened, opening_one}
use Rattle.star_free_theory.proofs.Meanings.{stands_alike, stands_later}
use Rattle.star_free_theory.proofs.Step.{universe_alike}
use Rattle.star_free_theory.proofs.Taking.{Took, take_letter}
use Rattle.star_free_theory.proofs.Treating.{Deep, treat_within_right}

pub among_count : (a n x : ℕ) → Among (count_from a n) x → (a ≤ x) × (x < a + n)
among_count a zero x i = elim i [ ]
among_count a (suc n) x (inl e) = (omega arith, omega arith)
among_count a (suc n) x (inr i) = let r = among_count (suc a) n x i in
    (omega (arith, r.0), omega (arith, r.1))

pub count_among : (a n x : ℕ) → a ≤ x → x < a + n → Among (count_from a n) x
count_among a zero x l m = absurd (omega arith)
count_among a (suc n) x l m = elim (le_or a x l)
    [ inl e ↦ inl (sym e) | inr d ↦ inr (count_among (suc a) n x d (omega arith)) ]
  where
    le_or : (a x : ℕ) → a ≤ x → (a ≡ x) ⊎ (suc a ≤ x)
    le_or a x l = elim (cases_lt a x) [ inl h ↦ inr h | inr h ↦ inl (omega arith) ]

pub count_distinct : (a n : ℕ) → Distinct (count_from a n)
count_distinct a zero = tt
count_distinct a (suc n)
    = (
      (λ i. let r = among_count (suc a) n a i in absurd (omega (arith, r.0))),
      count_distinct
          (suc a) n,
    )

pub length-count : (a n : ℕ) → length (count_from a n) ≡ n
length-count a zero = refl
length-count a (suc n) = ap suc (length-count (suc a) n)

-- each word is written in single letters, in one way
pub singles : List ℕ → List (ℕ × List ℕ)
singles [] = []
singles (a ∷ w) = (a, a ∷ []) ∷ singles w

module _ (k : ℕ) where
  abbrev Single : ℕ → List ℕ → Type 0
  Single a w = (a < k) × (w ≡ a ∷ [])

  singles_write : (w : List ℕ) → Over k w → Writes Single (singles w)
  unfolding singles
  singles_write [] o = tt
  singles_write (a ∷ w) o = ((o.0, refl), singles_write w o.1)

  joined-singles : (w : List ℕ) → joined (singles w) ≡ w
  unfolding singles
  joined-singles [] = refl
  joined-singles (a ∷ w) = ap (◌∷◌ a) (joined-singles w)

  are_singles : (ps : List (ℕ × List ℕ)) → Writes Single ps → (ps ≡ singles (joined ps))
      × Over k (joined ps)
  unfolding singles
  are_singles [] i = (refl, tt)
  are_singles ((a, x) ∷ ps) i =
      let r = are_singles ps i.1 in
      let e : x ≡ a ∷ [] = i.0.1 in
      (rw e (ap (λ z. (a, a ∷ []) ∷ z) r.0), rw e (i.0.0, r.1))

  pub single_universe : IsUniverse Single (Over k)
  single_universe = record {
    covers = λ w. (
      λ o. (singles w, singles_write w o, joined-singles w),
      λ r. subst (Over k) r.2
          (are_singles r.0 r.1).1,
    );
    once = λ ps qs i j e. (are_singles ps i).0 ∙ ap singles e ∙ sym (are_singles qs j).0;
  }

  image-singles : (mul : ℕ → ℕ → ℕ) (one : ℕ) (img : ℕ → ℕ) (w : List ℕ)
      → image mul one img (singles w) ≡ value mul one img w
  unfolding singles
  image-singles mul one img [] = refl
  image-singles mul one img (a ∷ w) = ap (mul (img a)) (image-singles mul one img w)

pub Over_all : (k : ℕ) (w : List ℕ) → Over k w → AllAmong (count_from 0 k) w
Over_all k [] o = tt
Over_all k (a ∷ w) o = (count_among 0 k a (omega arith) (omega (arith, o.0)), Over_all k w o.1)

opening_begun : IsBegun opening
opening_begun = record { opens = ([], refl); earlier = (tt, (omega arith, (tt, tt))) }

pub all_over : (k : ℕ) (w : List ℕ) → AllAmong (count_from 0 k) w → Over k w
all_over k [] i = tt
all_over k (a ∷ w) i = (let r = among_count 0 k a i.0 in omega (arith, r.1), all_over k w i.1)

module _ (k : ℕ) where
  abbrev pub One : ℕ → List ℕ → Type 0
  One a w = (a < k) × (w ≡ a ∷ [])

  abbrev pub IsOne : List SfNode → ℕ → ℕ → Type 0
  IsOne ys a n = Stands k ys n (One a)

  module _ (most : Option ℕ) (M : Type 0) (unlimited : M → most ≡ None) where
    letters_right : Gives M (opened_list most k)
        (HasEach k opening IsOne (λ a. ⊥ ⊎ Among (count_from 0 k) a))
    letters_right = each_right k most M unlimited (λ ys a. take most ys (node.Letter a)) IsOne
        (λ ys zs a n x q. stands_later k ys zs n (One a) x q) (count_from 0 k) (λ a. 0) (λ a. ⊥)
        opening opening opening_begun (extends_self k opening) (λ a i. absurd i)
        (λ ys a i g x. gives_as M M (take most ys (node.Letter a)) (Took k ys (One a))
        (λ r. IsBegun r.0 × Extends k ys r.0 × IsOne r.0 a r.1) (λ m. m)
        (λ r t. (t.begun, t.extends, t.stands))
        (by_take k most M unlimited (take most ys (node.Letter a)) (Took k ys (One a))
        (take_letter k most ys a g)))

    -- the join of the nodes of each p
    finals_right : (e : ℕ → ℕ) (E : ℕ → List ℕ → Type 0) (ps : List ℕ) (xs : List SfNode)
        (s : Option ℕ) (L : List ℕ → Type 0) → IsBegun xs → MayStand k xs s L
        → ((p : ℕ) → Among ps p → Stands k xs (e p) (E p))
        → Gives M (join_finals most e ps s xs)
        (MayJoin k xs (λ w. L w ⊎ ((p : ℕ) × Among ps p × E p w)))
    finals_right e E [] xs s L g h f = gives_done M (xs, s)
        (MayJoin k xs (λ w. L w ⊎ ((p : ℕ) × ⊥ × E p w))) (record {
          begun = g;
          extends = extends_self k xs;
          stands = may_stand_alike k xs s L (λ w. L w ⊎ ((p : ℕ) × ⊥ × E p w))
              (λ w. (λ x. inl x, elim [ inl x ↦ x | inr x ↦ absurd x.1 ])) h;
        })
    finals_right e E (p ∷ ps) xs s L g h f =
        let R = MayJoin k xs (λ w. L w ⊎ ((q : ℕ) × Among (p ∷ ps) q × E q w)) in
        gives_bind M (join most s xs (e p)) (λ o. join_finals most e ps (Some o.1) o.0)
        (Took k xs (λ w. L w ⊎ E p w)) R
        (join_right k most M unlimited xs s (e p) L (E p) g h (f p (inl refl)))
        (λ o t. gives_as M M (join_finals most e ps (Some o.1) o.0)
        (MayJoin k o.0 (λ w. (L w ⊎ E p w) ⊎ ((q : ℕ) × Among ps q × E q w))) R (λ m. m)
        (λ r q. record {
          begun = q.begun;
          extends = extends_on k xs o.0 r.0 t.extends q.extends;
          stands = may_stand_alike k r.0 r.1 (λ w. (L w ⊎ E p w) ⊎ ((q : ℕ) × Among ps q × E q w))
              (λ w. L w ⊎ ((q : ℕ) × Among (p ∷ ps) q × E q w)) (λ w. (left w, right w)) q.stands;
        })
        (finals_right e E ps o.0 (Some o.1) (λ w. L w ⊎ E p w) t.begun t.stands
        (λ q i. stands_later k xs o.0 (e q) (E q) t.extends (f q (inr i)))))
      where
        left : (w : List ℕ) → (L w ⊎ E p w) ⊎ ((q : ℕ) × Among ps q × E q w) → L w
            ⊎ ((q : ℕ) × Among (p ∷ ps) q × E q w)
        left w (inl (inl x)) = inl x
        left w (inl (inr x)) = inr (p, inl refl, x)
        left w (inr (q, i, x)) = inr (q, inr i, x)

        right : (w : List ℕ) → L w ⊎ ((q : ℕ) × Among (p ∷ ps) q × E q w) → (L w ⊎ E p w)
            ⊎ ((q : ℕ) × Among ps q × E q w)
        right w (inl x) = inl (inl x)
        right w (inr (q, inl e, x)) = inl (inr (subst (λ z. E z w) e x))
        right w (inr (q, inr i, x)) = inr (q, i, x)

  module _ (A : Algebra) (h : IsAlgebra k A) (ls : List SfNode × (ℕ → ℕ))
      (hl : HasEach k opening IsOne (λ a. ⊥ ⊎ Among (count_from 0 k) a) ls) where
    one_stands : Stands k ls.0 1 (Over k)
    one_stands = in_opened k 1 (Over k) (opening_one k) ls.0 hl.begun.opens

    one_at : (a : ℕ) → Among (count_from 0 k) a → Stands k ls.0 (ls.1 a) (One a)
    one_at a i = hl.each a (inr i)

    -- the first instance fits
    whole_fitted : IsFitted k ls.0 (whole_task k A ls.1)
    whole_fitted = record {
      fit = record {
        generated = h.generated;
        aperiodic = h.aperiodic;
        universe = universe_alike One (Piece (meant k ls.0 (whole_task k A ls.1))) (Over k)
            (Denotes k ls.0 1)
            (λ a w. (
              λ p. let i = count_among 0 k a (omega arith) (omega (arith, p.0)) in
                  (i, ((one_at a i).means w).1 p),
              λ p. ((one_at a p.0).means w).0 p.1,
            ))
            (λ w. ((one_stands.means w).1, (one_stands.means w).0)) (single_universe k);
      };
      nodes = λ a i. (one_at a i).there;
      universe = one_stands.there;
    }

    -- the words of the first instance with image p
    wanted_value : (p : ℕ) (w : List ℕ) → Wanted k ls.0 (whole_task k A ls.1) p w ↔ Over k w
        × (value A.product A.identity A.image w ≡ p)
    wanted_value p w =
        let P = Piece (meant k ls.0 (whole_task k A ls.1)) in
        let to : (ps : List (ℕ × List ℕ)) → Writes P ps
        → Writes One ps = Writes-alike P One (λ a x q. ((one_at a q.0).means x).0 q.1) in
        let from : (ps : List (ℕ × List ℕ)) → Writes One ps
        → Writes P ps = Writes-alike One P
        (λ a x q. let i = count_among 0 k a (omega arith) (omega (arith, q.0)) in
        (i, ((one_at a i).means x).1 q)) in (
          λ (ps, i, e, f).
              let r = are_singles k ps (to ps i) in (
                subst (Over k) e r.1,
                sym (image-singles k A.product A.identity A.image w)
                    ∙ ap (image A.product A.identity A.image) (sym (r.0 ∙ ap singles e)) ∙ f,
              ),
          λ (o, f). (
            singles w,
            from (singles w) (singles_write k w o),
            joined-singles k w,
            image-singles k A.product A.identity A.image w ∙ f,
          ),
        )

  -- the list denotes exactly the words over k letters whose value is among the finals
  pub record IsRightList (A : Algebra) (finals : List ℕ) (r : List SfNode × ℕ) : Type 0 where
    pub begun : IsBegun r.0
    pub stands : Stands k r.0 r.1
        (λ w. Over k w × Among finals (value A.product A.identity A.image w))

  abbrev pub IsEnough : Option ℕ → ℕ → Algebra → Type 0
  IsEnough most n A = (most ≡ None) × (k + room (length A.elements) ≤ n)

  pub construction_right : (most : Option ℕ) (n : ℕ) (A : Algebra) (finals : List ℕ) → IsAlgebra k A
      → ((p : ℕ) → Among finals p → Among A.elements p)
      → Gives (IsEnough most n A) (construction most n k A finals) (IsRightList A finals)
  construction_right most n A finals h inside =
      let M : Type 0 = IsEnough most n A in
      let R = IsRightList A finals in
      let V : List ℕ → Type 0 = λ w. Over k w × Among finals (value A.product A.identity A.image w)
      in
      let len : length (count_from 0 k) ≡ k = length-count 0 k in
      gives_bind M (opened_list most k) _
      (HasEach k opening IsOne (λ a. ⊥ ⊎ Among (count_from 0 k) a)) R
      (letters_right most M (λ m. m.0))
      (λ ls hl. let T = whole_task k A ls.1 in
      let W : ℕ → List ℕ → Type 0 = Wanted k ls.0 T in
      let Z : List ℕ → Type 0 = λ w. ⊥ ⊎ ((p : ℕ) × Among finals p × W p w) in
      gives_bind M (treat_within most n ls.0 T) _ (IsTreated k ls.0 T) R
      (gives_as (Deep most n T) M (treat_within most n ls.0 T) (IsTreated k ls.0 T)
      (IsTreated k ls.0 T) (λ m. (m.0, omega (arith, m.1))) (λ e t. t)
      (treat_within_right k most n ls.0 T hl.begun (whole_fitted A h ls hl)))
      (λ e t. gives_bind M (join_finals most e.1 finals None e.0) (λ r. done (r.0, or_empty r.1))
      (MayJoin k e.0 Z) R (finals_right most M (λ m. m.0) e.1 W finals e.0 None (λ w. ⊥) t.begun
      (λ w z. z) (λ p i. t.stands p (inside p i)))
      (λ r j. gives_done M (r.0, or_empty r.1) R (record {
        begun = j.begun;
        stands = stands_alike k r.0 (or_empty r.1) Z V
            (λ w. (
              elim [
                | inl x ↦ absurd x
                | inr (p, i, x) ↦ let y = (wanted_value A h ls hl p w).0 x in
                    (y.0, subst (Among finals) (sym y.1) i)
              ],
              λ (o, i). inr (
                value A.product A.identity A.image w,
                i,
                (wanted_value A h ls hl (value A.product A.identity A.image w) w).1 (o, refl),
              ),
            ))
            (empty_stands k r.0 r.1 Z j.begun j.stands);
      }))))
