-- Steps that take several nodes.
use Rattle.std.proofs.Common.{◌≡◌, ℕ, Bool, true, false, List, [], ◌∷◌, ◌↔◌, sym, subst, refl, ◌⊎◌}
use Rattle.std.proofs.Common.{inl, inr, Option, Some, None}
use Rattle.std.proofs.lemmas.Bool.Decides.{eqb_tells}
use Rattle.language_theory.specs.Words.{Over}
use Rattle.star_free_theory.specs.declared.nodes.SfNode.TheVariants as node
use Rattle.star_free_theory.specs.Construction.{Outcome, bind, done, each, free, join, join_all}
use Rattle.star_free_theory.specs.Construction.{join_pairs, opened, or_empty, take, with}
use Rattle.star_free_theory.specs.Instance.{Among}
use Rattle.star_free_theory.specs.StarFree.{Concat, SfNode}
use Rattle.star_free_theory.specs.Treating.{Extends, IsBegun, Stands}
use Rattle.star_free_theory.proofs.Fits.{Concat-more}
use Rattle.star_free_theory.proofs.Gives.{Gives, gives_as, gives_bind, gives_done}
use Rattle.star_free_theory.proofs.Meanings.{extends_on, extends_self, in_opened, opening_two}
use Rattle.star_free_theory.proofs.Meanings.{opening_zero, stands_alike, stands_later}
use Rattle.star_free_theory.proofs.Pairs.{AmongPairs, AnyPair}
use Rattle.star_free_theory.proofs.Parts.{Free, Opened}
use Rattle.star_free_theory.proofs.Taking.{Took, take_and, take_cat, take_not, take_or}

-- node s means L, or L has no word
abbrev pub MayStand : ℕ → List SfNode → Option ℕ → (List ℕ → Type 0) → Type 0
MayStand k xs None L = (w : List ℕ) → ¬ (L w)
MayStand k xs (Some n) L = Stands k xs n L

pub may_stand_alike : (k : ℕ) (xs : List SfNode) (s : Option ℕ) (L K : List ℕ → Type 0)
    → ((w : List ℕ) → L w ↔ K w) → MayStand k xs s L → MayStand k xs s K
may_stand_alike k xs None L K f h = λ w x. h w ((f w).1 x)
may_stand_alike k xs (Some n) L K f h = stands_alike k xs n L K f h

pub may_stand_later : (k : ℕ) (xs ys : List SfNode) (s : Option ℕ) (L : List ℕ → Type 0)
    → Extends k xs ys → MayStand k xs s L → MayStand k ys s L
may_stand_later k xs ys None L e h = h
may_stand_later k xs ys (Some n) L e h = stands_later k xs ys n L e h

pub empty_stands : (k : ℕ) (xs : List SfNode) (s : Option ℕ) (L : List ℕ → Type 0) → IsBegun xs
    → MayStand k xs s L → Stands k xs (or_empty s) L
empty_stands k xs None L g h = stands_alike k xs 0 (λ w. ⊥) L (λ w. (λ x. absurd x, λ x. h w x))
    (in_opened k 0 (λ w. ⊥) (opening_zero k) xs g.opens)
empty_stands k xs (Some n) L g h = h

-- the list after nodes were joined, of which some may be there
pub record MayJoin (k : ℕ) (xs : List SfNode) (L : List ℕ → Type 0) (r : List SfNode × Option ℕ) :
    Type 0 where
  pub begun : IsBegun r.0
  pub extends : Extends k xs r.0
  pub stands : MayStand k r.0 r.1 L

-- the list after each element of ts got a node, where Q says what is right of one
pub record HasEach (k : ℕ) (xs : List SfNode) (Q : List SfNode → ℕ → ℕ → Type 0) (D : ℕ → Type 0)
    (r : List SfNode × (ℕ → ℕ)) : Type 0 where
  pub begun : IsBegun r.0
  pub extends : Extends k xs r.0
  pub each : (p : ℕ) → D p → Q r.0 p (r.1 p)

module _ (k : ℕ) (most : Option ℕ) (M : Type 0) (unlimited : M → most ≡ None) where
  pub by_take : (o : Outcome (List SfNode × ℕ)) (Q : List SfNode × ℕ → Type 0)
      → Gives (most ≡ None) o Q → Gives M o Q
  by_take o Q h = gives_as (most ≡ None) M o Q Q unlimited (λ r q. q) h

  pub join_right : (xs : List SfNode) (s : Option ℕ) (j : ℕ) (L K : List ℕ → Type 0) → IsBegun xs
      → MayStand k xs s L → Stands k xs j K
      → Gives M (join most s xs j) (Took k xs (λ w. L w ⊎ K w))
  join_right xs None j L K g h i = gives_done M (xs, j) (Took k xs (λ w. L w ⊎ K w)) (record {
    begun = g;
    extends = extends_self k xs;
    stands = stands_alike k xs j K (λ w. L w ⊎ K w)
        (λ w. (λ x. inr x, elim [ inl x ↦ absurd (h w x) | inr x ↦ x ])) i;
  })
  join_right xs (Some n) j L K g h i = by_take (take most xs (node.Or n j))
      (Took k xs (λ w. L w ⊎ K w)) (take_or k most xs n j L K g h i)

  pub join_pairs_right : (f g : ℕ → ℕ) (F G : ℕ → List ℕ → Type 0) (ps : List (ℕ × ℕ))
      (xs : List SfNode) (s : Option ℕ) (L : List ℕ → Type 0) → IsBegun xs → MayStand k xs s L
      → ((a b : ℕ) → AmongPairs ps a b → Stands k xs (f a) (F a) × Stands k xs (g b) (G b))
      → Gives M (join_pairs most f g s ps xs) (MayJoin k xs (λ w. L w ⊎ AnyPair F G ps w))
  join_pairs_right f g F G [] xs s L i h m = gives_done M (xs, s)
      (MayJoin k xs (λ w. L w ⊎ AnyPair F G [] w)) (record {
        begun = i;
        extends = extends_self k xs;
        stands = may_stand_alike k xs s L (λ w. L w ⊎ AnyPair F G [] w)
            (λ w. (λ x. inl x, elim [ inl x ↦ x | inr x ↦ absurd x.2 ])) h;
      })
  join_pairs_right f g F G (p ∷ ps) xs s L i h m =
      let P : List ℕ → Type 0 = Concat (F p.0) (G p.1) in
      let R = MayJoin k xs (λ w. L w ⊎ AnyPair F G (p ∷ ps) w) in
      let a = m p.0 p.1 (inl (refl, refl)) in
      gives_bind M (take most xs (node.Cat (f p.0) (g p.1)))
      (λ r. bind (join most s r.0 r.1) (λ o. join_pairs most f g (Some o.1) ps o.0))
      (Took k xs P) R
      (by_take (take most xs (node.Cat (f p.0) (g p.1))) (Took k xs P)
      (take_cat k most xs (f p.0) (g p.1) (F p.0) (G p.1) i a.0 a.1))
      (λ r t. gives_bind M (join most s r.0 r.1) (λ o. join_pairs most f g (Some o.1) ps o.0)
      (Took k r.0 (λ w. L w ⊎ P w)) R
      (join_right r.0 s r.1 L P t.begun (may_stand_later k xs r.0 s L t.extends h) t.stands)
      (λ o u.
      let eo : Extends k xs o.0 = extends_on k xs r.0 o.0 t.extends u.extends in
      gives_as M M (join_pairs most f g (Some o.1) ps o.0)
      (MayJoin k o.0 (λ w. (L w ⊎ P w) ⊎ AnyPair F G ps w)) R (λ n. n)
      (λ out q. record {
        begun = q.begun;
        extends = extends_on k xs o.0 out.0 eo q.extends;
        stands = may_stand_alike k out.0 out.1 (λ w. (L w ⊎ P w) ⊎ AnyPair F G ps w)
            (λ w. L w ⊎ AnyPair F G (p ∷ ps) w) (λ w. (left w, right w)) q.stands;
      })
      (join_pairs_right f g F G ps o.0 (Some o.1) (λ w. L w ⊎ P w) u.begun u.stands
      (λ a b l. let z = m a b (inr l) in
      (stands_later k xs o.0 (f a) (F a) eo z.0, stands_later k xs o.0 (g b) (G b) eo z.1)))))
    where
      left : (w : List ℕ) → (L w ⊎ Concat (F p.0) (G p.1) w) ⊎ AnyPair F G ps w → L w
          ⊎ AnyPair F G (p ∷ ps) w
      left w (inl (inl x)) = inl x
      left w (inl (inr x)) = inr (p.0, p.1, inl (refl, refl), x)
      left w (inr (a, b, l, x)) = inr (a, b, inr l, x)

      right : (w : List ℕ) → L w ⊎ AnyPair F G (p ∷ ps) w → (L w ⊎ Concat (F p.0) (G p.1) w)
          ⊎ AnyPair F G ps w
      right w (inl x) = inl (inl x)
      right w (inr (a, b, inl e, x))
          = inl (inr (Concat-more (F a) (G b) (F p.0) (G p.1) (λ v y. subst (λ z. F z v) e.0 y)
          (λ v y. subst (λ z. G z v) e.1 y) w x))
      right w (inr (a, b, inr l, x)) = inr (a, b, l, x)

  pub join_all_right : (f g : ℕ → ℕ) (F G : ℕ → List ℕ → Type 0) (ps : List (ℕ × ℕ))
      (xs : List SfNode) (s : Option ℕ) (L : List ℕ → Type 0) → IsBegun xs → MayStand k xs s L
      → ((a b : ℕ) → AmongPairs ps a b → Stands k xs (f a) (F a) × Stands k xs (g b) (G b))
      → Gives M (join_all most f g s ps xs) (Took k xs (λ w. L w ⊎ AnyPair F G ps w))
  join_all_right f g F G ps xs s L i h m =
      let V : List ℕ → Type 0 = λ w. L w ⊎ AnyPair F G ps w in
      gives_bind M (join_pairs most f g s ps xs) (λ r. done (r.0, or_empty r.1)) (MayJoin k xs V)
      (Took k xs V) (join_pairs_right f g F G ps xs s L i h m)
      (λ r j. gives_done M (r.0, or_empty r.1) (Took k xs V)
      (record {
        begun = j.begun;
        extends = j.extends;
        stands = empty_stands k r.0 r.1 V j.begun
            j.stands;
      }))

  pub each_right : (f : List SfNode → ℕ → Outcome (List SfNode × ℕ))
      (Q : List SfNode → ℕ → ℕ → Type 0)
      → ((xs ys : List SfNode) (p n : ℕ) → Extends k xs ys → Q xs p n → Q ys p n)
      → (ts : List ℕ) (E : ℕ → ℕ) (D : ℕ → Type 0) (base xs : List SfNode) → IsBegun xs
      → Extends k base xs → ((p : ℕ) → D p → Q xs p (E p))
      → ((ys : List SfNode) (p : ℕ) → Among ts p → IsBegun ys → Extends k base ys
      → Gives M (f ys p) (λ r. IsBegun r.0 × Extends k ys r.0 × Q r.0 p r.1))
      → Gives M (each f ts E xs) (HasEach k xs Q (λ p. D p ⊎ Among ts p))
  each_right f Q later [] E D base xs g e d m = gives_done M (xs, E) (HasEach k xs Q (λ p. D p ⊎ ⊥))
      (record {
        begun = g;
        extends = extends_self k xs;
        each = λ p. elim
            [ inl i ↦ d p i | inr i ↦ absurd i ];
      })
  each_right f Q later (t ∷ ts) E D base xs g e d m =
      let R = HasEach k xs Q (λ p. D p ⊎ ((p ≡ t) ⊎ Among ts p)) in
      gives_bind M (f xs t) (λ r. each f ts (with E t r.1) r.0)
      (λ r. IsBegun r.0 × Extends k xs r.0 × Q r.0 t r.1) R (m xs t (inl refl) g e)
      (λ r a. gives_as M M (each f ts (with E t r.1) r.0)
      (HasEach k r.0 Q (λ p. (D p ⊎ (p ≡ t)) ⊎ Among ts p)) R (λ n. n)
      (λ s b. record {
        begun = b.begun;
        extends = extends_on k xs r.0 s.0 a.1 b.extends;
        each = λ p. elim [
          | inl i ↦ b.each p (inl (inl i))
          | inr i ↦ elim i
              [ inl l ↦ b.each p (inl (inr l)) | inr l ↦ b.each p (inr l) ]
        ];
      })
      (each_right f Q later ts (with E t r.1) (λ p. D p ⊎ (p ≡ t)) base r.0 a.0
      (extends_on k base xs r.0 e a.1) (one r a.1 a.2) (λ ys p i. m ys p (inr i))))
    where
      one : (r : List SfNode × ℕ) → Extends k xs r.0 → Q r.0 t r.1 → (p : ℕ) → D p ⊎ (p ≡ t)
          → Q r.0 p (with E t r.1 p)
      one r x q p i = elim (eqb_tells p t) [
        | inl l ↦ rw l.0 (subst (λ z. Q r.0 z r.1) (sym l.1) q)
        | inr l ↦ rw l.0 (elim i
            [ inl j ↦ later xs r.0 p (E p) x (d p j) | inr j ↦ absurd (l.1 j) ])
      ]

  pub free_right : (b : Bool) (xs : List SfNode) (n u : ℕ) (N U : List ℕ → Type 0) → IsBegun xs
      → Stands k xs n N → Stands k xs u U → ((w : List ℕ) → U w → Over k w)
      → (b ≡ true → (w : List ℕ) → Free U N w ↔ (w ≡ []))
      → Gives M (free most b xs n u) (Took k xs (Free U N))
  free_right true xs n u N U g sn su over one = gives_done M (xs, 2) (Took k xs (Free U N))
      (record {
        begun = g;
        extends = extends_self k xs;
        stands = stands_alike k xs 2 (λ w. w ≡ []) (Free U N)
            (λ w. ((one refl w).1, (one refl w).0))
            (in_opened k 2 (λ w. w ≡ []) (opening_two k) xs g.opens);
      })
  free_right false xs n u N U g sn su over one =
      let R = Took k xs (Free U N) in
      let X : List ℕ → Type 0 = Concat U N in
      let Y : List ℕ → Type 0 = Concat X U in
      let Z : List ℕ → Type 0 = λ w. Over k w × ¬ (Y w) in
      gives_bind M (take most xs (node.Cat u n)) _ (Took k xs X) R
      (by_take (take most xs (node.Cat u n)) (Took k xs X) (take_cat k most xs u n U N g su sn))
      (λ x tx. let ux = stands_later k xs x.0 u U tx.extends su in
      gives_bind M (take most x.0 (node.Cat x.1 u)) _ (Took k x.0 Y) R
      (by_take (take most x.0 (node.Cat x.1 u)) (Took k x.0 Y)
      (take_cat k most x.0 x.1 u X U tx.begun tx.stands ux))
      (λ y ty. let uy = stands_later k x.0 y.0 u U ty.extends ux in
      gives_bind M (take most y.0 (node.Not y.1)) _ (Took k y.0 Z) R
      (by_take (take most y.0 (node.Not y.1)) (Took k y.0 Z)
      (take_not k most y.0 y.1 Y ty.begun ty.stands))
      (λ z tz. let uz = stands_later k y.0 z.0 u U tz.extends uy in
      gives_as M M (take most z.0 (node.And u z.1)) (Took k z.0 (λ w. U w × Z w)) R (λ m. m)
      (λ v tv. record {
        begun = tv.begun;
        extends = extends_on k xs z.0 v.0
            (extends_on k xs y.0 z.0 (extends_on k xs x.0 y.0 tx.extends ty.extends) tz.extends)
            tv.extends;
        stands = stands_alike k v.0 v.1 (λ w. U w × Z w) (Free U N)
            (λ w. (λ p. (p.0, p.1.1), λ p. (p.0, (over w p.0, p.1)))) tv.stands;
      })
      (by_take (take most z.0 (node.And u z.1)) (Took k z.0 (λ w. U w × Z w))
      (take_and k most z.0 u z.1 U Z tz.begun uz tz.stands)))))

  pub opened_right : (b : Bool) (xs : List SfNode) (n u : ℕ) (N U : List ℕ → Type 0) → IsBegun xs
      → Stands k xs n N → Stands k xs u U → (b ≡ true → (w : List ℕ) → Opened U N w ↔ U w)
      → Gives M (opened most b xs n u) (Took k xs (Opened U N))
  opened_right true xs n u N U g sn su one = gives_done M (xs, u) (Took k xs (Opened U N))
      (record {
        begun = g;
        extends = extends_self k xs;
        stands = stands_alike k xs u U (Opened U N)
            (λ w. ((one refl w).1, (one refl w).0)) su;
      })
  opened_right false xs n u N U g sn su one =
      let X : List ℕ → Type 0 = Concat N U in
      let E : List ℕ → Type 0 = λ w. w ≡ [] in
      gives_bind M (take most xs (node.Cat n u)) _ (Took k xs X) (Took k xs (Opened U N))
      (by_take (take most xs (node.Cat n u)) (Took k xs X) (take_cat k most xs n u N U g sn su))
      (λ x tx. gives_as M M (take most x.0 (node.Or x.1 2)) (Took k x.0 (λ w. X w ⊎ E w))
      (Took k xs (Opened U N)) (λ m. m)
      (λ v tv. record {
        begun = tv.begun;
        extends = extends_on k xs x.0 v.0 tx.extends tv.extends;
        stands = stands_alike k v.0 v.1 (λ w. X w ⊎ E w) (Opened U N) (λ w. (λ p. p, λ p. p))
            tv.stands;
      })
      (by_take (take most x.0 (node.Or x.1 2)) (Took k x.0 (λ w. X w ⊎ E w))
      (take_or k most x.0 x.1 2 X E tx.begun tx.stands
      (in_opened k 2 E (opening_two k) x.0 tx.begun.opens))))
