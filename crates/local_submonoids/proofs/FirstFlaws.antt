-- The first flaw of a table of products as the least witness on words.
use Rattle.std.proofs.Common.{◌≡◌, ◌↔◌, inl, inr, ℕ, ◌<◌, Bool, IsTrue, List, [], ◌++◌, length, ap, sym, subst, ◌∙◌, arith}
use Rattle.language_theory.specs.Words.{Over, word_at}
use Rattle.monoid_theory.specs.Green.{IsIdempotent}
use Rattle.monoid_theory.specs.Separation.{IsSeparation}
use Rattle.cayley_tables.specs.CayleyGraphs.{CayleyGraphs}
use Rattle.parallel_table.specs.ProductTables.{ProductTable, IsTableOf}
use Rattle.syntactic_monoid.specs.SyntacticMonoid.{SyntacticMonoid, IsSyntactic, IsNonemptyWordOf, recognised}
use Rattle.language_theory.proofs.Shortlex.{over_append}
use Rattle.answers.specs.declared.factors.LtKind.TheVariants as kind
use Rattle.local_submonoids.specs.declared.submonoids.Flaw.{Flaw}
use Rattle.local_submonoids.specs.declared.submonoids.Flaw.TheVariants as flaw
use Rattle.local_submonoids.specs.LocalSubmonoids.{local, Commute, FailsByRepeat, Fails, IsIdempotentWord, IsIdempotentPlace, IsLocallyIdempotentAndCommutative}
use Rattle.local_submonoids.specs.Witness.{IsFirstFailing, IsFirstRepeat, IsFirstSwap, IsOfFirstFailing, IsRepeatWitness, IsSwapWitness}
use Rattle.local_submonoids.specs.LocalTables.{HasNoFlaw, IsFlawAt, IsIdempotentAt, IsFirstFlaw, IsFlawOf}
use Rattle.local_submonoids.proofs.LocalWords.{local_over, idempotent_moves}
use Rattle.local_submonoids.proofs.LocalTables.{first_repeat_on_words, first_swap_on_words, no_repeat_on_words, no_swap_on_words}
use Rattle.local_submonoids.proofs.Elements.{congruent, is_congruence, representatives, element_over, product_table, idempotent_place, nonempty_word_is}

module _ (m : SyntacticMonoid) (h : IsSyntactic m) where
  module _ (t : ProductTable) (p : IsTableOf m.graphs t) where
    within_words : (e : ℕ) → e < t.side → e < length m.graphs.words
    within_words e l = let s = p.side in omega arith

    -- an element without a flaw has no failing local submonoid, at each word of its class
    module _ (e : ℕ) (l : e < length m.graphs.words) (x : List ℕ)
        (o : Over m.graphs.right.letters x) (is : congruent m (word_at m.graphs.words e) x) where
      repeat_at : (s : ℕ) → IsFlawAt t e (flaw.Repeat s)
          → IsFirstRepeat (congruent m) m.graphs.words x s
      repeat_at =
          first_repeat_on_words m.graphs.right.letters (congruent m) (is_congruence m h)
          m.graphs.words (representatives m h) t (product_table m h t p) e x l o is

      swap_at : (s q : ℕ) → IsFlawAt t e (flaw.Swap s q)
          → IsFirstSwap (congruent m) m.graphs.words x s q
      swap_at s q f =
          first_swap_on_words m.graphs.right.letters (congruent m) (is_congruence m h)
          m.graphs.words (representatives m h) t (product_table m h t p) e x l o is s q f.1

      none_repeats : HasNoFlaw t e → (w : List ℕ) → Over m.graphs.right.letters w
          → IsIdempotent (congruent m) (local x w)
      none_repeats f =
          no_repeat_on_words m.graphs.right.letters (congruent m) (is_congruence m h)
          m.graphs.words (representatives m h) t (product_table m h t p) e x l o is f.no_repeat

      no_repeat_here : (s q : ℕ) → IsFlawAt t e (flaw.Swap s q)
          → ¬ FailsByRepeat m.graphs.right.letters (congruent m) x
      no_repeat_here s q f (w, ow, fails) =
          fails (no_repeat_on_words m.graphs.right.letters (congruent m) (is_congruence m h)
          m.graphs.words (representatives m h) t (product_table m h t p) e x l o is f.0 w ow)

      none_swaps : HasNoFlaw t e → (w v : List ℕ) → Over m.graphs.right.letters w
          → Over m.graphs.right.letters v → Commute (congruent m) x w v
      none_swaps f =
          no_swap_on_words m.graphs.right.letters (congruent m) (is_congruence m h)
          m.graphs.words (representatives m h) t (product_table m h t p) e x l o is f.no_swap

      no_failure : HasNoFlaw t e → ¬ Fails m.graphs.right.letters (congruent m) x
      no_failure f (inl (w, ow, fails)) = fails (none_repeats f w ow)
      no_failure f (inr (w, v, ow, ov, fails)) = fails (none_swaps f w v ow ov)

      failure : (f : Flaw) → IsFlawAt t e f → Fails m.graphs.right.letters (congruent m) x
      failure (flaw.Repeat s) f =
          let r = repeat_at s f in
          inl (word_at m.graphs.words s, element_over m h s r.within, r.fails)
      failure (flaw.Swap s q) f =
          let r = swap_at s q f in
          inr (
            word_at m.graphs.words s,
            word_at m.graphs.words q,
            element_over m h s r.within,
            element_over m h q r.other_within,
            r.fails,
          )

    itself : (e : ℕ) → (l : e < length m.graphs.words)
        → congruent m (word_at m.graphs.words e) (word_at m.graphs.words e)
    itself e l = (is_congruence m h).equivalence.refl (word_at m.graphs.words e)
        (element_over m h e l)

    -- the first flaw is that of the first class that fails
    first_failing : (e : ℕ) (f : Flaw) → IsFirstFlaw m t e f
        → IsFirstFailing m.graphs.right.letters (congruent m) m.graphs.words e
    first_failing e f g =
        let l = within_words e g.within in
        record {
          idempotent = (idempotent_place m h t p e l).0 g.idempotent;
          fails = failure e l (word_at m.graphs.words e) (element_over m h e l) (itself e l) f
              g.flaw;
          first = λ j b i.
              let lj = i.within in
              no_failure j lj (word_at m.graphs.words j) (element_over m h j lj) (itself j lj)
              (g.first j b ((idempotent_place m h t p j lj).1 i));
        }

    -- where no idempotent class has a flaw, all local submonoids are idempotent and commutative
    pub no_flaw_anywhere : ((e : ℕ) → e < t.side → IsIdempotentAt m t e → HasNoFlaw t e)
        → IsLocallyIdempotentAndCommutative m.graphs.right.letters (congruent m)
    no_flaw_anywhere none = record {
      idempotent = λ x i s os. let (e, l, o, is, f) = at x i in
          none_repeats e l x o is f s os;
      commute = λ x i s v os ov. let (e, l, o, is, f) = at x i in
          none_swaps e l x o is f s v os ov;
    }
      where
        at : (x : List ℕ) → IsIdempotentWord m.graphs.right.letters (congruent m) x → (e : ℕ)
            × (e < length m.graphs.words) × Over m.graphs.right.letters x
            × congruent m (word_at m.graphs.words e) x × HasNoFlaw t e
        at x i =
            let (e, place) = (representatives m h).place x i.over in
            let l = place.within in
            let s = p.side in
            let back = (is_congruence m h).equivalence.symm (word_at m.graphs.words e) x
            (element_over m h e l) i.over place.related in
            let q : IsIdempotentPlace m.graphs.right.letters (congruent m) m.graphs.words e =
            record {
              within = l;
              idempotent = idempotent_moves m.graphs.right.letters (congruent m)
                  (is_congruence m h) x (word_at m.graphs.words e) i.over (element_over m h e l)
                  back
                  i.idempotent;
              some = (x, i.over, i.some, place.related);
            } in (
              e,
              l,
              i.over,
              place.related,
              none e (omega arith) ((idempotent_place m h t p e l).1 q),
            )

  -- what a flaw gives for the least nonempty word x of its class
  module _ (e : ℕ) (x : List ℕ) (w : IsNonemptyWordOf m e x) where
    pub flaw_within : (f : Flaw) → IsFlawOf m e f → e < length m.graphs.words
    flaw_within f (t, p, g) = let s = p.side in let l = g.within in omega arith

    pub flaw_failing : (f : Flaw) → IsFlawOf m e f
        → IsOfFirstFailing m.graphs.right.letters (recognised m) m.graphs.words x
    flaw_failing f (t, p, g) = record {
      e = e;
      failing = first_failing t p e f g;
      least = nonempty_word_is m h e x (within_words t p e g.within) w;
    }

    related : (l : e < length m.graphs.words) → congruent m (word_at m.graphs.words e) x
    related l = (nonempty_word_is m h e x l w).holds.1

    pub flaw_repeat : (s : ℕ) → IsFlawOf m e (flaw.Repeat s)
        → IsFirstRepeat (congruent m) m.graphs.words x s
    flaw_repeat s (t, p, g) =
        let l = within_words t p e g.within in
        repeat_at t p e l x w.over (related l) s g.flaw

    pub flaw_swap : (s q : ℕ) → IsFlawOf m e (flaw.Swap s q)
        → IsFirstSwap (congruent m) m.graphs.words x s q
    flaw_swap s q (t, p, g) =
        let l = within_words t p e g.within in
        swap_at t p e l x w.over (related l) s q g.flaw

    pub flaw_no_repeat : (s q : ℕ) → IsFlawOf m e (flaw.Swap s q)
        → ¬ FailsByRepeat m.graphs.right.letters (congruent m) x
    flaw_no_repeat s q (t, p, g) =
        let l = within_words t p e g.within in
        no_repeat_here t p e l x w.over (related l) s q g.flaw

    -- the two words of a repeat are not congruent
    pub repeat_apart : (s : ℕ) → IsFlawOf m e (flaw.Repeat s) → (y : List ℕ)
        → y ≡ word_at m.graphs.words s
        → ¬ congruent m (local x y) (local x y ++ local x y)
    repeat_apart s f y same r =
        let g = flaw_repeat s f in
        let oy : Over m.graphs.right.letters y = subst (Over m.graphs.right.letters) (sym same)
        (element_over m h s g.within) in
        let ol = local_over m.graphs.right.letters x y w.over oy in
        let back = (is_congruence m h).equivalence.symm (local x y) (local x y ++ local x y) ol
        (over_append m.graphs.right.letters (local x y) (local x y) ol ol) r in
        g.fails (subst (λ (v : List ℕ). IsIdempotent (congruent m) (local x v)) same back)

    -- the two words of a swap are not congruent
    pub swap_apart : (s q : ℕ) → IsFlawOf m e (flaw.Swap s q) → (y z : List ℕ)
        → y ≡ word_at m.graphs.words s → z ≡ word_at m.graphs.words q
        → ¬ congruent m (local x y ++ local x z) (local x z ++ local x y)
    swap_apart s q f y z same other r =
        let g = flaw_swap s q f in
        g.fails (subst (λ (v : List ℕ). Commute (congruent m) x (word_at m.graphs.words s) v) other
        (subst (λ (v : List ℕ). Commute (congruent m) x v z) same r))

  -- the letters of a flaw's words are in range
  pub word_over : (s : ℕ) (y : List ℕ) → s < length m.graphs.words → y ≡ word_at m.graphs.words s
      → Over m.graphs.right.letters y
  word_over s y l e = subst (Over m.graphs.right.letters) (sym e) (element_over m h s l)

-- the word that a program reads is listed
pub listed_in : (m : SyntacticMonoid) (g : CayleyGraphs) (s : ℕ) (y : List ℕ) → y
    ≡ word_at g.words s
    → g ≡ m.graphs → y ≡ word_at m.graphs.words s
listed_in m g s y e same = e ∙ ap (λ (c : CayleyGraphs). word_at c.words s) same

-- ---- the witnesses, of what a program has made of the words of a flaw

module _ (m : SyntacticMonoid) (h : IsSyntactic m) (e : ℕ) (x : List ℕ)
    (w : IsNonemptyWordOf m e x) where
  module _ (s : ℕ) (f : IsFlawOf m e (flaw.Repeat s)) (y once twice : List ℕ)
      (listed : y ≡ word_at m.graphs.words s) (o : once ≡ local x y) (t : twice ≡ once ++ once)
    where
      once_over : Over m.graphs.right.letters once
      once_over =
          let oy = word_over m h s y (flaw_repeat m h e x w s f).within listed in
          subst (Over m.graphs.right.letters) (sym o)
          (local_over m.graphs.right.letters x y w.over oy)

      square : twice ≡ local x y ++ local x y
      square = t ∙ ap (λ (p : List ℕ). p ++ p) o

      pub repeat_words : Over m.graphs.right.letters once × Over m.graphs.right.letters twice
          × ¬ congruent m once twice
      repeat_words = (
        once_over,
        subst (Over m.graphs.right.letters) (sym t)
            (over_append m.graphs.right.letters once once once_over once_over),
        λ r. repeat_apart m h e x w s f y listed
            (subst (λ (p : List ℕ). congruent m p (local x y ++ local x y)) o
            (subst (congruent m once) square r)),
      )

      pub repeat_witness_is : (z u v : List ℕ) (b : Bool) → z ≡ []
          → IsSeparation m.graphs.right.letters (recognised m) once twice u v
          → IsTrue b ↔ recognised m (u ++ (once ++ v))
          → IsRepeatWitness m.graphs.right.letters (recognised m) m.graphs.words (record {
            kind = kind.Repeat;
            u = u;
            x = x;
            y = y;
            z = z;
            v = v;
            first_in = b;
          })
      repeat_witness_is z u v b none context first_in = record {
        failing = flaw_failing m h e x w (flaw.Repeat s) f;
        s = s;
        repeat = flaw_repeat m h e x w s f;
        y = listed;
        z = none;
        context =
            subst (λ (p : List ℕ). IsSeparation m.graphs.right.letters (recognised m) p
            (local x y ++ local x y) u v) o
            (subst (λ (p : List ℕ). IsSeparation m.graphs.right.letters (recognised m) once p u v)
            square context);
        first_in = subst (λ (p : List ℕ). IsTrue b ↔ recognised m (u ++ (p ++ v))) o first_in;
      }

  module _ (s q : ℕ) (f : IsFlawOf m e (flaw.Swap s q)) (y z first second : List ℕ)
      (listed : y ≡ word_at m.graphs.words s) (listed_too : z ≡ word_at m.graphs.words q)
      (forth : first ≡ local x y ++ local x z) (backwards : second ≡ local x z ++ local x y) where
    one_over : Over m.graphs.right.letters (local x y)
    one_over = local_over m.graphs.right.letters x y w.over
        (word_over m h s y (flaw_swap m h e x w s q f).within listed)

    other_over : Over m.graphs.right.letters (local x z)
    other_over = local_over m.graphs.right.letters x z w.over
        (word_over m h q z (flaw_swap m h e x w s q f).other_within listed_too)

    pub swap_words : Over m.graphs.right.letters first × Over m.graphs.right.letters second
        × ¬ congruent m first second
    swap_words = (
      subst (Over m.graphs.right.letters) (sym forth)
          (over_append m.graphs.right.letters (local x y) (local x z) one_over other_over),
      subst (Over m.graphs.right.letters) (sym backwards)
          (over_append m.graphs.right.letters (local x z) (local x y) other_over one_over),
      λ r. swap_apart m h e x w s q f y z listed listed_too
          (subst (λ (p : List ℕ). congruent m p (local x z ++ local x y)) forth
          (subst (congruent m first) backwards r)),
    )

    pub swap_witness_is : (u v : List ℕ) (mark : Bool)
        → IsSeparation m.graphs.right.letters (recognised m) first second u v
        → IsTrue mark ↔ recognised m (u ++ (first ++ v))
        → IsSwapWitness m.graphs.right.letters (recognised m) m.graphs.words (record {
          kind = kind.Swap;
          u = u;
          x = x;
          y = y;
          z = z;
          v = v;
          first_in = mark;
        })
    swap_witness_is u v mark context first_in = record {
      failing = flaw_failing m h e x w (flaw.Swap s q) f;
      no_repeat = flaw_no_repeat m h e x w s q f;
      s = s;
      t = q;
      swap = flaw_swap m h e x w s q f;
      y = listed;
      z = listed_too;
      context =
          subst (λ (p : List ℕ). IsSeparation m.graphs.right.letters (recognised m) p
          (local x z ++ local x y) u v) forth
          (subst (λ (p : List ℕ). IsSeparation m.graphs.right.letters (recognised m) first p u v)
          backwards context);
      first_in = subst (λ (p : List ℕ). IsTrue mark ↔ recognised m (u ++ (p ++ v))) forth first_in;
    }
