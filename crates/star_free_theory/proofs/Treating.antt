-- An instance that fits is treated rightly where both instances made from it are.
use Rattle.std.proofs.Common.{◌≡◌, ℕ, zero, suc, ◌+◌, ◌<◌, ◌≤◌, true, false, List, [], ◌∷◌, ◌↔◌}
use Rattle.std.proofs.Common.{sym, subst, ◌∙◌, refl, ◌⊎◌, inl, inr, arith, length, map, Option}
use Rattle.std.proofs.Common.{None}
use Rattle.std.proofs.lemmas.Bool.Decides.{eqb_tells}
use Rattle.std.proofs.lemmas.Bool.{cases_Bool}
use Rattle.star_free_theory.specs.declared.nodes.SfNode.TheVariants as node
use Rattle.star_free_theory.specs.Construction.{Task, Treating, chosen, divisor, done, each, ends}
use Rattle.star_free_theory.specs.Construction.{first_task, free, has, is_none_left, is_some_pair}
use Rattle.star_free_theory.specs.Construction.{join_all, local_elements, opened, pairs}
use Rattle.star_free_theory.specs.Construction.{second_task, submonoid, take, treat, treat_ends}
use Rattle.star_free_theory.specs.Construction.{treat_first, treat_second, treat_whole}
use Rattle.star_free_theory.specs.Construction.{treat_within, when, without}
use Rattle.star_free_theory.specs.Instance.{Among, Has, Instance, IsFit, Piece, room}
use Rattle.star_free_theory.specs.StarFree.{Concat, Denotes, SfNode}
use Rattle.star_free_theory.specs.Treating.{Extends, IsBegun, IsFitted, IsTreated, Stands, Wanted}
use Rattle.star_free_theory.specs.Treating.{meant}
use Rattle.star_free_theory.proofs.Depths.{has_some, other_found, room_gap, room_rises, room_some}
use Rattle.star_free_theory.proofs.FiniteLists.{among_has, among_keep, has_among, keep_among}
use Rattle.star_free_theory.proofs.FiniteLists.{length-without, local_fewer, no_more, without_among}
use Rattle.star_free_theory.proofs.Fits.{Concat-more, first_fits, one_right, second_fits, span_in}
use Rattle.star_free_theory.proofs.Fits.{step_right}
use Rattle.star_free_theory.proofs.Gives.{Gives, gives_as, gives_bind, gives_done}
use Rattle.star_free_theory.proofs.Joining.{HasEach, MayStand, by_take, each_right, free_right}
use Rattle.star_free_theory.proofs.Joining.{join_all_right, opened_right}
use Rattle.star_free_theory.proofs.Meanings.{denotes_over, extends_on, extends_self, stands_alike}
use Rattle.star_free_theory.proofs.Meanings.{stands_later}
use Rattle.star_free_theory.proofs.OneLetter.{lone_free, lone_opened}
use Rattle.star_free_theory.proofs.Pairs.{AmongPairs, AnyPair, pairs_among}
use Rattle.star_free_theory.proofs.Parts.{Ended, Free, IsRight, IsSpan, Opened, Whole, first}
use Rattle.star_free_theory.proofs.Parts.{joined_up, second}
use Rattle.star_free_theory.proofs.Spans.{span_spans}
use Rattle.star_free_theory.proofs.Step.{Has-alike, universe_alike}
use Rattle.star_free_theory.proofs.Taking.{Took, take_cat}

-- the same instance, with other languages that mean the same
fit_alike : (I : Instance) (language : ℕ → List ℕ → Type 0) (universe : List ℕ → Type 0)
    → ((a : ℕ) → Among I.letters a → (w : List ℕ) → I.language a w ↔ language a w)
    → ((w : List ℕ) → I.universe w ↔ universe w) → IsFit I
    → IsFit (record {
      elements = I.elements;
      product = I.product;
      identity = I.identity;
      letters
          = I.letters;
      image = I.image;
      language = language;
      universe = universe;
    })
fit_alike I language universe f g h = record {
  generated = h.generated;
  aperiodic = h.aperiodic;
  universe = universe_alike (Piece I) (λ a w. Among I.letters a × language a w) I.universe universe
      (λ a w. (λ p. (p.0, (f a p.0 w).0 p.1), λ p. (p.0, (f a p.0 w).1 p.1))) g h.universe;
}

own_right : (I : Instance) → IsRight I (Has (Piece I) I.product I.identity I.image)
own_right I = record { exact = record { means = λ p i w. (λ x. x, λ x. x) } }

may_when : (k : ℕ) (xs : List SfNode) (els : List ℕ) (p n : ℕ) (L : List ℕ → Type 0)
    → (Among els p → Stands k xs n L) → MayStand k xs (when (has els p) n) (λ w. Among els p × L w)
may_when k xs els p n L f = elim (cases_Bool (has els p)) [
  | inl e ↦ rw e (let i = has_among els p e in
      stands_alike k xs n L (λ w. Among els p × L w) (λ w. (λ x. (i, x), λ x. x.1)) (f i))
  | inr e ↦ rw e (λ w x. let d : has els p ≡ true = among_has els p x.0 in
      let b : true ≡ false = sym d ∙ e in cc)
]

pub locals_in : (mul : ℕ → ℕ → ℕ) (m : ℕ) (els : List ℕ) (a : ℕ)
    → Among (local_elements mul m els) a → Among els a
locals_in mul m els a i = (keep_among (has (m ∷ map (λ s. mul (mul m s) m) els)) els a i).0

none_is : (ls : List ℕ) → is_none_left ls ≡ true → ls ≡ []
none_is [] e = refl
none_is (a ∷ ls) e = cc

some_pair : (ps : List (ℕ × ℕ)) (r t : ℕ) → AmongPairs ps r t → is_some_pair ps ≡ true
some_pair [] r t i = elim i [ ]
some_pair (p ∷ ps) r t i = refl

-- what is joined for each product, and for each element, is what both instances give together
module _ (mul : ℕ → ℕ → ℕ) (els loc : List ℕ) (N : List ℕ → Type 0)
    (E F : ℕ → List ℕ → Type 0) where
  abbrev pub joined_for : ℕ → List ℕ → Type 0
  joined_for v = AnyPair F (λ p. Concat N (E p)) (pairs mul loc els v)

  ended_pairs : (v : ℕ) (w : List ℕ) → joined_for v w ↔ Ended (Among els) (Among loc) mul N E F v w
  ended_pairs v w = (
    λ (a, b, i, x). let z = (pairs_among mul loc els v a b).0 i in (a, b, z.0, z.1, z.2, x),
    λ (a, b, i, j, e, x). (a, b, (pairs_among mul loc els v a b).1 (i, j, e), x),
  )

  whole_pairs : (us : List ℕ)
      → ((v : ℕ) (w : List ℕ) → Ended (Among els) (Among loc) mul N E F v w → Among us v)
      → (p : ℕ) (w : List ℕ) → (Among els p × E p w) ⊎ AnyPair E joined_for (pairs mul els us p) w
      ↔ Whole (Among els) (Among loc) mul N E F p w
  whole_pairs us f p w = (
    elim [
      | inl x ↦ inl x
      | inr (q, v, j, x) ↦ let z = (pairs_among mul els us p q v).0 j in
          inr (
            q,
            v,
            z.0,
            z.2,
            Concat-more (E q) (joined_for v) (E q)
                (Ended (Among els) (Among loc) mul N E F v) (λ y i. i) (λ y. (ended_pairs v y).0) w
                x,
          )
    ],
    elim [
      | inl x ↦ inl x
      | inr (q, v, i, e, (y, z, a, b, d)) ↦ inr (
        q,
        v,
        (pairs_among mul els us p q v).1 (i, f v z b, e),
        (y, z, a, (ended_pairs v z).1 b, d),
      )
    ],
  )

-- no node counts as too many, and the depth is enough for the task
abbrev pub Deep : Option ℕ → ℕ → Task → Type 0
Deep most bound T = (most ≡ None) × (length T.letters + room (length T.elements) ≤ bound)

abbrev pub IsTreating : ℕ → Option ℕ → ℕ → Treating → Type 0
IsTreating k most bound rec = (ys : List SfNode) (S : Task) → IsBegun ys → IsFitted k ys S
    → Gives (Deep most bound S) (rec ys S) (IsTreated k ys S)

-- a task that fits and has more than one element
module _ (k : ℕ) (xs : List SfNode) (T : Task) (g : IsBegun xs) (fits : IsFitted k xs T)
    (many : ¬ (length T.elements ≡ 1)) where
  abbrev pub I : Instance
  I = meant k xs T

  abbrev pub els : List ℕ
  els = submonoid T

  abbrev pub N : List ℕ → Type 0
  N = Denotes k xs (T.node (chosen T))

  abbrev pub U : List ℕ → Type 0
  U = Denotes k xs T.universe

  abbrev pub J : Instance
  J = first I (chosen T) els

  abbrev pub E : ℕ → List ℕ → Type 0
  E = Has (Piece J) J.product J.identity J.image

  abbrev pub B : ℕ → List ℕ → Type 0
  B p = Concat N (E p)

  abbrev pub K : Instance
  K = second I (chosen T) els E

  abbrev pub F : ℕ → List ℕ → Type 0
  F = Has (Piece K) K.product K.identity K.image

  abbrev pub H : ℕ → List ℕ → Type 0
  H = joined_for T.product els (divisor T) N E F

  other : Among T.letters (chosen T) × ¬ (T.image (chosen T) ≡ T.identity)
  other = other_found T.elements T.letters T.product T.identity T.image fits.fit.generated many

  spans : IsSpan T.product T.identity T.image (without (chosen T) T.letters) els
  spans = span_spans T.product T.identity T.image (without (chosen T) T.letters) T.elements
      fits.fit.generated.monoid fits.fit.generated.distinct
      (λ a i. fits.fit.generated.images a (without_among (chosen T) T.letters a i).0)

  els_in : (x : ℕ) → Among els x → Among T.elements x
  els_in = span_in I fits.fit.generated (chosen T) other.0 els spans

  node_stands : Stands k xs (T.node (chosen T)) N
  node_stands = record { there = fits.nodes (chosen T) other.0; means = λ w. (λ x. x, λ x. x) }

  universe_stands : Stands k xs T.universe U
  universe_stands = record { there = fits.universe; means = λ w. (λ x. x, λ x. x) }

  module _ (most : Option ℕ) (bound : ℕ) (rec : Treating)
      (right : IsTreating k most bound rec) where
    abbrev M : Type 0
    M = Deep most (suc bound) T

    first_deep : (u : ℕ) → M → Deep most bound (first_task T u)
    first_deep u m =
        let e1 : suc (length (without (chosen T) T.letters)) ≡ length T.letters = length-without
        (chosen T) T.letters fits.fit.generated.once other.0 in
        let e2 : length els ≤ length T.elements = no_more els T.elements fits.fit.generated.distinct
        spans.distinct els_in in
        let e3 : room (length els) ≤ room (length T.elements) = room_rises (length els)
        (length T.elements) e2 in
        (m.0, omega (arith, m.1))

    second_deep : (b : ℕ → ℕ) (u : ℕ) → M → Deep most bound (second_task T b u)
    second_deep b u m =
        let e2 : length els ≤ length T.elements = no_more els T.elements fits.fit.generated.distinct
        spans.distinct els_in in
        let less : length (divisor T) < length T.elements = local_fewer T.elements T.product
        T.identity fits.fit.generated.monoid (T.image (chosen T))
        (fits.fit.generated.images (chosen T) other.0) fits.fit.aperiodic other.1
        fits.fit.generated.distinct in
        let e4 : suc (length T.elements) + room (length (divisor T)) ≤ room (length T.elements)
        = room_gap (length (divisor T)) (length T.elements) less in
        (m.0, omega (arith, m.1))

    -- the list grew, and each element of the submonoid has its node
    pub record HasFirst (e : List SfNode × (ℕ → ℕ)) : Type 0 where
      pub begun : IsBegun e.0
      pub extends : Extends k xs e.0
      pub each : (p : ℕ) → Among els p → Stands k e.0 (e.1 p) (E p)

    language1 : (ys : List SfNode) → Extends k xs ys → (a : ℕ) → Among J.letters a → (w : List ℕ)
        → Denotes k xs (T.node a) w ↔ Denotes k ys (T.node a) w
    language1 ys x a i w = let q = x.stays (T.node a)
        (fits.nodes a (without_among (chosen T) T.letters a i).0) w in (q.1, q.0)

    fitted1 : (b : List SfNode × ℕ) → Took k xs (Free U N) b → IsFitted k b.0 (first_task T b.1)
    fitted1 b t = record {
      fit = fit_alike J (λ a. Denotes k b.0 (T.node a)) (Denotes k b.0 b.1)
          (language1 b.0 t.extends) (λ w. ((t.stands.means w).1, (t.stands.means w).0))
          (first_fits I fits.fit (chosen T) other.0 els spans);
      nodes = λ a i. let z : T.node a < length xs = fits.nodes a
          (without_among (chosen T) T.letters a i).0 in
          let y : length xs ≤ length b.0 = t.extends.longer in omega arith;
      universe = t.stands.there;
    }

    pub first_right : Gives M (treat_first most rec xs T) HasFirst
    first_right =
        let flag = is_none_left (without (chosen T) T.letters) in
        gives_bind M (free most flag xs (T.node (chosen T)) T.universe)
        (λ b. rec b.0 (first_task T b.1)) (Took k xs (Free U N)) HasFirst
        (free_right k most M (λ m. m.0) flag xs (T.node (chosen T)) T.universe N U g node_stands
        universe_stands (denotes_over k xs T.universe)
        (λ e. lone_free I fits.fit (chosen T) other.0 (none_is (without (chosen T) T.letters) e)
        els spans))
        (λ b t. let S = first_task T b.1 in
        gives_as (Deep most bound S) M (rec b.0 S) (IsTreated k b.0 S) HasFirst (first_deep b.1)
        (λ e r. record {
          begun = r.begun;
          extends = extends_on k xs b.0 e.0 t.extends r.extends;
          each = λ p i. stands_alike k e.0 (e.1 p) (Wanted k b.0 S p) (E p)
              (λ w. (
                Has-alike (Piece (meant k b.0 S)) (Piece J) T.product T.identity T.image
                    (λ a x q. (q.0, (language1 b.0 t.extends a q.0 x).1 q.1)) p w,
                Has-alike (Piece J) (Piece (meant k b.0 S)) T.product T.identity T.image
                    (λ a x q. (q.0, (language1 b.0 t.extends a q.0 x).0 q.1)) p w,
              )) (r.stands p i);
        })
        (right b.0 S t.begun (fitted1 b t)))

    -- the list grew, and each letter and each element of the second instance has its node
    pub record HasSecond (ys : List SfNode) (r : List SfNode × ((ℕ → ℕ) × (ℕ → ℕ))) : Type 0 where
      pub begun : IsBegun r.0
      pub extends : Extends k ys r.0
      pub letters : (p : ℕ) → Among els p → Stands k r.0 (r.1.0 p) (B p)
      pub each : (p : ℕ) → Among (divisor T) p → Stands k r.0 (r.1.1 p) (F p)

    -- a list in which each element of the submonoid has its node
    module _ (e : List SfNode × (ℕ → ℕ)) (he : HasFirst e) where
      fitted2 : (u : List SfNode × ℕ) → Took k e.0 (Opened U N) u → (b : List SfNode × (ℕ → ℕ))
          → HasEach k u.0 (λ ys p n. Stands k ys n (B p)) (λ p. ⊥ ⊎ Among els p) b
          → IsFitted k b.0 (second_task T b.1 u.1)
      fitted2 u t b hb =
          let su : Stands k b.0 u.1 (Opened U N) = stands_later k u.0 b.0 u.1 (Opened U N)
          hb.extends t.stands in
          record {
            fit = fit_alike K (λ a. Denotes k b.0 (b.1 a)) (Denotes k b.0 u.1)
                (λ a i w. let q = (hb.each a (inr i)).means w in (q.1, q.0))
                (λ w. ((su.means w).1, (su.means w).0))
                (second_fits I fits.fit (chosen T) other.0 els spans E (own_right J));
            nodes = λ a i. (hb.each a (inr i)).there;
            universe = su.there;
          }

      pub second_right : Gives M (treat_second most rec e.1 e.0 T) (HasSecond e.0)
      second_right =
          let flag = is_none_left (without (chosen T) T.letters) in
          let c = T.node (chosen T) in
          let R = HasSecond e.0 in
          let Q : List SfNode → ℕ → ℕ → Type 0 = λ ys p n. Stands k ys n (B p) in
          gives_bind M (opened most flag e.0 c T.universe) _ (Took k e.0 (Opened U N)) R
          (opened_right k most M (λ m. m.0) flag e.0 c T.universe N U he.begun
          (stands_later k xs e.0 c N he.extends node_stands)
          (stands_later k xs e.0 T.universe U he.extends universe_stands)
          (λ d. lone_opened I fits.fit (chosen T) other.0
          (none_is (without (chosen T) T.letters) d)))
          (λ u tu. let xu = extends_on k xs e.0 u.0 he.extends tu.extends in
          gives_bind M (each (λ ys t. take most ys (node.Cat c (e.1 t))) els (λ p. 0) u.0) _
          (HasEach k u.0 Q (λ p. ⊥ ⊎ Among els p)) R
          (each_right k most M (λ m. m.0) (λ ys t. take most ys (node.Cat c (e.1 t))) Q
          (λ ys zs p n x q. stands_later k ys zs n (B p) x q) els (λ p. 0) (λ p. ⊥) u.0 u.0
          tu.begun (extends_self k u.0) (λ p i. absurd i)
          (λ ys p i gy x. gives_as M M (take most ys (node.Cat c (e.1 p))) (Took k ys (B p))
          (λ r. IsBegun r.0 × Extends k ys r.0 × Q r.0 p r.1) (λ m. m)
          (λ r t. (t.begun, t.extends, t.stands))
          (by_take k most M (λ m. m.0) (take most ys (node.Cat c (e.1 p))) (Took k ys (B p))
          (take_cat k most ys c (e.1 p) N (E p) gy
          (stands_later k xs ys c N (extends_on k xs u.0 ys xu x) node_stands)
          (stands_later k e.0 ys (e.1 p) (E p) (extends_on k e.0 u.0 ys tu.extends x)
          (he.each p i))))))
          (λ b hb. let S = second_task T b.1 u.1 in
          gives_bind M (rec b.0 S) (λ f. done (f.0, (b.1, f.1))) (IsTreated k b.0 S) R
          (gives_as (Deep most bound S) M (rec b.0 S) (IsTreated k b.0 S) (IsTreated k b.0 S)
          (second_deep b.1 u.1) (λ f r. r) (right b.0 S hb.begun (fitted2 u tu b hb)))
          (λ f r. gives_done M (f.0, (b.1, f.1)) R (record {
            begun = r.begun;
            extends = extends_on k e.0 u.0 f.0 tu.extends
                (extends_on k u.0 b.0 f.0 hb.extends r.extends);
            letters = λ p i. stands_later k b.0 f.0 (b.1 p) (B p) r.extends (hb.each p (inr i));
            each = λ p i. stands_alike k f.0 (f.1 p) (Wanted k b.0 S p) (F p)
                (λ w. (
                  Has-alike (Piece (meant k b.0 S)) (Piece K) K.product K.identity K.image
                      (λ a x q. (q.0, ((hb.each a (inr q.0)).means x).0 q.1)) p w,
                  Has-alike (Piece K) (Piece (meant k b.0 S)) K.product K.identity K.image
                      (λ a x q. (q.0, ((hb.each a (inr q.0)).means x).1 q.1)) p w,
                )) (r.stands p i);
          }))))

  -- each element that is a product r t has its node
  pub record HasEnds (ys : List SfNode) (r : List SfNode × (ℕ → ℕ)) : Type 0 where
    pub begun : IsBegun r.0
    pub extends : Extends k ys r.0
    pub each : (v : ℕ) → Among (ends T.product (divisor T) els T.elements) v
        → Stands k r.0 (r.1 v) (H v)

  module _ (most : Option ℕ) (M : Type 0) (unlimited : M → most ≡ None) where
    pub ends_right : (b f : ℕ → ℕ) (ys : List SfNode) → IsBegun ys
        → ((p : ℕ) → Among els p → Stands k ys (b p) (B p))
        → ((p : ℕ) → Among (divisor T) p → Stands k ys (f p) (F p))
        → Gives M (treat_ends most b f ys T) (HasEnds ys)
    ends_right b f ys gy sb sf =
        let ts = pairs T.product (divisor T) els in
        let us = ends T.product (divisor T) els T.elements in
        let Q : List SfNode → ℕ → ℕ → Type 0 = λ zs v n. Stands k zs n (H v) in
        let put = λ (zs : List SfNode) (v : ℕ). join_all most f b None (ts v) zs in
        gives_as M M (each put us (λ p. 0) ys) (HasEach k ys Q (λ p. ⊥ ⊎ Among us p)) (HasEnds ys)
        (λ m. m)
        (λ r h. record { begun = h.begun; extends = h.extends; each = λ v i. h.each v (inr i) })
        (each_right k most M unlimited put Q (λ zs vs p n x q. stands_later k zs vs n (H p) x q) us
        (λ p. 0) (λ p. ⊥) ys ys gy (extends_self k ys) (λ p i. absurd i)
        (λ zs v i gz x. gives_as M M (put zs v) (Took k zs (λ w. ⊥ ⊎ H v w))
        (λ r. IsBegun r.0 × Extends k zs r.0 × Q r.0 v r.1) (λ m. m)
        (λ r t. (
          t.begun,
          t.extends,
          stands_alike k r.0 r.1 (λ w. ⊥ ⊎ H v w) (H v)
              (λ w. (elim [ inl z ↦ absurd z | inr z ↦ z ], λ z. inr z)) t.stands,
        ))
        (join_all_right k most M unlimited f b F B (ts v) zs None (λ w. ⊥) gz (λ w z. z)
        (λ a d j. let z = (pairs_among T.product (divisor T) els v a d).0 j in (
          stands_later k ys zs (f a) (F a) x (sf a z.0),
          stands_later k ys zs (b d) (B d) x
              (sb d z.1),
        )))))

    in_ends : (v : ℕ) (w : List ℕ) → Ended (Among els) (Among (divisor T)) T.product N E F v w
        → Among (ends T.product (divisor T) els T.elements) v
    in_ends v w (a, d, i, j, z, y) =
        among_keep (λ u. is_some_pair (pairs T.product (divisor T) els u)) T.elements v
        (subst (Among T.elements) z
        (fits.fit.generated.monoid.mul_in a d
        (locals_in T.product (T.image (chosen T)) T.elements a i) (els_in d j)))
        (some_pair (pairs T.product (divisor T) els v) a d
        ((pairs_among T.product (divisor T) els v a d).1 (i, j, z)))

    -- a list in which the elements of the submonoid and the products have their nodes
    pub whole_right : (e u : ℕ → ℕ) (ys : List SfNode) → IsBegun ys
        → ((p : ℕ) → Among els p → Stands k ys (e p) (E p))
        → ((v : ℕ) → Among (ends T.product (divisor T) els T.elements) v → Stands k ys (u v) (H v))
        → Gives M (treat_whole most e u ys T)
        (HasEach k ys (λ zs p n. Stands k zs n (Wanted k xs T p)) (λ p. ⊥ ⊎ Among T.elements p))
    whole_right e u ys gy se su =
        let us = ends T.product (divisor T) els T.elements in
        let Q : List SfNode → ℕ → ℕ → Type 0 = λ zs p n. Stands k zs n (Wanted k xs T p) in
        let put = λ (zs : List SfNode) (p : ℕ). join_all most e u (when (has els p) (e p))
        (pairs T.product els us p) zs in
        let exact : IsRight I (joined_up I (chosen T) els E F) = step_right I fits.fit (chosen T)
        other.0 els spans E (own_right J) F (own_right K) in
        each_right k most M unlimited put Q
        (λ zs vs p n x q. stands_later k zs vs n (Wanted k xs T p) x q) T.elements (λ p. 0)
        (λ p. ⊥) ys ys gy (extends_self k ys) (λ p i. absurd i)
        (λ zs p i gz x.
        let V : List ℕ → Type 0 = λ w. (Among els p × E p w)
        ⊎ AnyPair E H (pairs T.product els us p) w in
        gives_as M M (put zs p) (Took k zs V) (λ r. IsBegun r.0 × Extends k zs r.0 × Q r.0 p r.1)
        (λ m. m)
        (λ r t. (
          t.begun,
          t.extends,
          stands_alike k r.0 r.1 V (Wanted k xs T p)
              (λ w. let z = whole_pairs T.product els (divisor T) N E F us in_ends p w in
              let y = exact.exact.means p i w in (λ v. y.0 (z.0 v), λ v. z.1 (y.1 v))) t.stands,
        ))
        (join_all_right k most M unlimited e u E H (pairs T.product els us p) zs
        (when (has els p) (e p)) (λ w. Among els p × E p w) gz
        (may_when k zs els p (e p) (E p) (λ j. stands_later k ys zs (e p) (E p) x (se p j)))
        (λ a v j.
        let z = (pairs_among T.product els us p a v).0 j in (
          stands_later k ys zs (e a) (E a) x (se a z.0),
          stands_later k ys zs (u v) (H v) x
              (su v z.1),
        ))))

  pub treat_right : (most : Option ℕ) (bound : ℕ) (rec : Treating) → IsTreating k most bound rec
      → Gives (Deep most (suc bound) T) (treat most rec xs T) (IsTreated k xs T)
  treat_right most bound rec right =
      let M : Type 0 = Deep most (suc bound) T in
      let R = IsTreated k xs T in
      gives_bind M (treat_first most rec xs T) _ (HasFirst most bound rec right) R
      (first_right most bound rec right)
      (λ e he. gives_bind M (treat_second most rec e.1 e.0 T) _ (HasSecond most bound rec right e.0)
      R (second_right most bound rec right e he)
      (λ r hr. gives_bind M (treat_ends most r.1.0 r.1.1 r.0 T) _ (HasEnds r.0) R
      (ends_right most M (λ m. m.0) r.1.0 r.1.1 r.0 hr.begun hr.letters hr.each)
      (λ u hu. let eu : Extends k e.0 u.0 = extends_on k e.0 r.0 u.0 hr.extends hu.extends in
      gives_as M M (treat_whole most e.1 u.1 u.0 T)
      (HasEach k u.0 (λ zs p n. Stands k zs n (Wanted k xs T p)) (λ p. ⊥ ⊎ Among T.elements p))
      R (λ m. m)
      (λ z hz. record {
        begun = hz.begun;
        extends = extends_on k xs u.0 z.0
            (extends_on k xs e.0 u.0 he.extends eu) hz.extends;
        stands = λ p i. hz.each p (inr i);
      })
      (whole_right most M (λ m. m.0) e.1 u.1 u.0 hu.begun
      (λ p i. stands_later k e.0 u.0 (e.1 p) (E p) eu (he.each p i)) hu.each))))

-- where the depth is enough and nodes are not counted, the instance is treated; what comes out is
-- right
pub treat_within_right : (k : ℕ) (most : Option ℕ) (n : ℕ)
    → IsTreating k most n (treat_within most n)
unfolding treat_within
treat_within_right k most zero xs T g fits = record {
  right = λ r e. cc;
  there = λ m. absurd (let h = fits.fit.generated in
      let i : 1 ≤ length T.elements = has_some T.elements T.letters T.product T.identity T.image h
      in let r : 1 ≤ room (length T.elements) = room_some (length T.elements) i in
      omega (arith, m.1));
}
treat_within_right k most (suc n) xs T g fits = elim (eqb_tells (length T.elements) 1) [
  | inl q ↦ rw (q.0, treat_within)
      (gives_done (Deep most (suc n) T) (xs, λ p. T.universe) (IsTreated k xs T) (record {
        begun = g;
        extends = extends_self k xs;
        stands = λ p i. record {
          there = fits.universe;
          means = λ w. (one_right (meant k xs T) fits.fit q.1).exact.means p
              i w;
        };
      }))
  | inr q ↦ rw (q.0, treat_within)
      (treat_right k xs T g fits q.1 most n (treat_within most n) (treat_within_right k most n))
]
