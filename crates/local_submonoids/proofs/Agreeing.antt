-- Languages with the same words have the same local work and the same witness.
use Rattle.std.proofs.Common.{◌≡◌, ◌↔◌, inl, inr, ℕ, ◌<◌, Bool, IsTrue, List, ◌++◌, length, sym, subst, arith}
use Rattle.std.specs.Prelude.{slice_index}
use Rattle.language_theory.specs.Words.{Over, word_at}
use Rattle.language_theory.specs.Languages.{ExactlyOne, HaveSameWords}
use Rattle.language_theory.specs.Congruence.{Syntactic, Agree}
use Rattle.language_theory.specs.Representatives.{AreRepresentatives}
use Rattle.language_theory.proofs.Congruences.{both_directions, other_direction, syntactic_agrees, agree_turned}
use Rattle.language_theory.proofs.Representatives.{agreeing_list}
use Rattle.language_theory.proofs.Shortlex.{over_append}
use Rattle.monoid_theory.specs.Green.{IsIdempotent}
use Rattle.monoid_theory.specs.Separation.{Separates, CanSeparate, IsSeparation}
use Rattle.answers.specs.declared.factors.LtKind.{LtKind}
use Rattle.answers.specs.declared.factors.LtKind.TheVariants as kind
use Rattle.answers.specs.declared.factors.LtWitness.{LtWitness}
use Rattle.local_submonoids.specs.LocalSubmonoids.{local, Commute, FailsByRepeat, FailsBySwap, Fails, GiveOne, IsIdempotentWord, IsIdempotentPlace, IsLocalSize, IsSizeAt, IsLocalWork, IsLocallyIdempotentAndCommutative}
use Rattle.local_submonoids.specs.Witness.{IsFirstFailing, IsFirstRepeat, IsFirstSwap, IsOfFirstFailing, IsRepeatWitness, IsSwapWitness, IsWitnessOf, IsWitness, IsLeastNonempty}
use Rattle.local_submonoids.proofs.LocalWords.{local_over}

-- relations that agree on words over k letters
module _ (k : ℕ) (same alike : List ℕ → List ℕ → Type 0) (a : Agree k same alike) where
  idempotent_agrees : (s : List ℕ) → Over k s → IsIdempotent same s ↔ IsIdempotent alike s
  idempotent_agrees s o = a.both (s ++ s) s (over_append k s s o o) o

  local_agrees : (e s : List ℕ) → Over k e → Over k s
      → IsIdempotent same (local e s) ↔ IsIdempotent alike (local e s)
  local_agrees e s oe os = idempotent_agrees (local e s) (local_over k e s oe os)

  commute_agrees : (e s t : List ℕ) → Over k e → Over k s → Over k t
      → Commute same e s t ↔ Commute alike e s t
  commute_agrees e s t oe os ot =
      let x = local_over k e s oe os in
      let y = local_over k e t oe ot in
      a.both (local e s ++ local e t) (local e t ++ local e s)
      (over_append k (local e s) (local e t) x y) (over_append k (local e t) (local e s) y x)

  repeat_again : (e : List ℕ) → Over k e → FailsByRepeat k same e → FailsByRepeat k alike e
  repeat_again e oe (s, os, f) = (s, os, λ i. f ((local_agrees e s oe os).1 i))

  swap_again : (e : List ℕ) → Over k e → FailsBySwap k same e → FailsBySwap k alike e
  swap_again e oe (s, t, os, ot, f) = (s, t, os, ot, λ i. f ((commute_agrees e s t oe os ot).1 i))

  fails_again : (e : List ℕ) → Over k e → Fails k same e → Fails k alike e
  fails_again e oe (inl f) = inl (repeat_again e oe f)
  fails_again e oe (inr f) = inr (swap_again e oe f)

  word_again : (e : List ℕ) → IsIdempotentWord k same e → IsIdempotentWord k alike e
  word_again e h = record {
    over = h.over;
    some = h.some;
    idempotent = (idempotent_agrees e h.over).0 h.idempotent;
  }

  give_one_agrees : (e : List ℕ) → Over k e → Agree k (GiveOne same e) (GiveOne alike e)
  give_one_agrees e oe = record {
    both = λ u v ou ov. a.both (local e u) (local e v) (local_over k e u oe ou)
        (local_over k e v oe ov);
  }

  size_again : (e : List ℕ) (n : ℕ) → Over k e → IsLocalSize k same e n → IsLocalSize k alike e n
  size_again e n oe h = record {
    elements = h.elements;
    representatives = agreeing_list k (GiveOne same e) (GiveOne alike e) (give_one_agrees e oe)
        h.elements h.representatives;
    long = h.long;
  }

  module _ (words : List (List ℕ))
      (o : (i : ℕ) → i < length words → Over k (word_at words i)) where
    place_again : (e : ℕ) → IsIdempotentPlace k same words e → IsIdempotentPlace k alike words e
    place_again e h =
        let (w, ow, some, related) = h.some in
        let oe = o e h.within in
        record {
          within = h.within;
          idempotent = (idempotent_agrees (word_at words e) oe).0 h.idempotent;
          some = (w, ow, some, (a.both (word_at words e) w oe ow).0 related);
        }

    first_repeat_again : (x : List ℕ) (s : ℕ) → Over k x → IsFirstRepeat same words x s
        → IsFirstRepeat alike words x s
    first_repeat_again x s ox h = record {
      within = h.within;
      fails = λ i. h.fails ((local_agrees x (word_at words s) ox (o s h.within)).1 i);
      first = λ j b. (local_agrees x (word_at words j) ox (o j (below j s b h.within))).0
          (h.first j b);
    }
      where
        below : (j s : ℕ) → j < s → s < length words → j < length words
        below j s b l = omega arith

    first_swap_again : (x : List ℕ) (s t : ℕ) → Over k x → IsFirstSwap same words x s t
        → IsFirstSwap alike words x s t
    first_swap_again x s t ox h = record {
      within = h.within;
      other_within = h.other_within;
      fails = λ i. h.fails ((commute_agrees x (word_at words s) (word_at words t) ox
          (o s h.within) (o t h.other_within)).1 i);
      first = λ i j b l. (commute_agrees x (word_at words i) (word_at words j) ox
          (o i (below i s b h.within)) (o j l)).0 (h.first i j b l);
      second = λ j b. (commute_agrees x (word_at words s) (word_at words j) ox (o s h.within)
          (o j (below j t b h.other_within))).0 (h.second j b);
    }
      where
        below : (j s : ℕ) → j < s → s < length words → j < length words
        below j s b l = omega arith

-- both ways
module _ (k : ℕ) (same alike : List ℕ → List ℕ → Type 0) (a : Agree k same alike) where
  back : Agree k alike same
  back = agree_turned k same alike a

  pub locally_again : IsLocallyIdempotentAndCommutative k same
      → IsLocallyIdempotentAndCommutative k alike
  locally_again h = record {
    idempotent = λ e i s os. let j = word_again k alike same back e i in
        (local_agrees k same alike a e s j.over os).0 (h.idempotent e j s os);
    commute = λ e i s t os ot. let j = word_again k alike same back e i in
        (commute_agrees k same alike a e s t j.over os ot).0 (h.commute e j s t os ot);
  }

  module _ (words : List (List ℕ))
      (o : (i : ℕ) → i < length words → Over k (word_at words i)) where
    size_at_again : (e n : ℕ) → e < length words → IsSizeAt k same words e n
        → IsSizeAt k alike words e n
    size_at_again e n l (inl (i, h)) = inl (
      place_again k same alike a words o e i,
      size_again k same alike a (word_at words e) n (o e l) h,
    )
    size_at_again e n l (inr (not, h)) =
        inr (λ i. not (place_again k alike same back words o e i), h)

    pub work_again : (work : ℕ) → IsLocalWork k same words work → IsLocalWork k alike words work
    work_again work h = record {
      sizes = h.sizes;
      long = h.long;
      each = λ e l. size_at_again e (slice_index h.sizes e) l (h.each e l);
      sum = h.sum;
    }

    failing_again : (e : ℕ) → IsFirstFailing k same words e → IsFirstFailing k alike words e
    failing_again e h = record {
      idempotent = place_again k same alike a words o e h.idempotent;
      fails = fails_again k same alike a (word_at words e) (o e h.idempotent.within) h.fails;
      first = λ j b i f. h.first j b (place_again k alike same back words o j i)
          (fails_again k alike same back (word_at words j) (o j i.within) f);
    }

    nonempty_again : (e : ℕ) (x : List ℕ) → e < length words → IsLeastNonempty k same words e x
        → IsLeastNonempty k alike words e x
    nonempty_again e x l h = record {
      over = h.over;
      holds = (h.holds.0, (a.both (word_at words e) x (o e l) h.over).0 h.holds.1);
      least = λ v ov p. h.least v ov (p.0, (a.both (word_at words e) v (o e l) ov).1 p.1);
    }

-- ---- languages

exactly_one_again : {P Q R S : Type 0} → P ↔ R → Q ↔ S → ExactlyOne P Q → ExactlyOne R S
exactly_one_again f g (inl (p, n)) = inl (f.0 p, λ s. n (g.1 s))
exactly_one_again f g (inr (n, q)) = inr (λ r. n (f.1 r), g.0 q)

module _ (k : ℕ) (L M : List ℕ → Type 0) (a : HaveSameWords k L M) (s t : List ℕ) (os : Over k s)
    (ot : Over k t) where
  separates_again : (u v : List ℕ) → Over k u → Over k v → Separates L s t u v ↔ Separates M s t u v
  separates_again u v ou ov =
      let f = a.both (u ++ (s ++ v)) (over_append k u (s ++ v) ou (over_append k s v os ov)) in
      let g = a.both (u ++ (t ++ v)) (over_append k u (t ++ v) ou (over_append k t v ot ov)) in
      (exactly_one_again f g, exactly_one_again (other_direction f) (other_direction g))

  separation_again : (u v : List ℕ) → IsSeparation k L s t u v → IsSeparation k M s t u v
  separation_again u v h = record {
    before = record {
      over = h.before.over;
      holds = forth u h.before.over h.before.holds;
      least = λ w ow p. h.before.least w ow (backwards w ow p);
    };
    behind = record {
      over = h.behind.over;
      holds = (separates_again u v h.before.over h.behind.over).0 h.behind.holds;
      least = λ w ow p. h.behind.least w ow ((separates_again u w h.before.over ow).1 p);
    };
  }
    where
      forth : (w : List ℕ) → Over k w → CanSeparate k L s t w → CanSeparate k M s t w
      forth w ow (x, ox, p) = (x, ox, (separates_again w x ow ox).0 p)

      backwards : (w : List ℕ) → Over k w → CanSeparate k M s t w → CanSeparate k L s t w
      backwards w ow (x, ox, p) = (x, ox, (separates_again w x ow ox).1 p)

module _ (k : ℕ) (L M : List ℕ → Type 0) (a : HaveSameWords k L M) (words : List (List ℕ))
    (r : AreRepresentatives k (Syntactic k L) words) where
  agree : Agree k (Syntactic k L) (Syntactic k M)
  agree = syntactic_agrees k L M a

  of_failing_again : (x : List ℕ) → IsOfFirstFailing k L words x → IsOfFirstFailing k M words x
  of_failing_again x h = record {
    e = h.e;
    failing = failing_again k (Syntactic k L) (Syntactic k M) agree words r.over h.e h.failing;
    least = nonempty_again k (Syntactic k L) (Syntactic k M) agree words r.over h.e x
        h.failing.idempotent.within h.least;
  }

  listed_over : (s : ℕ) (y : List ℕ) → s < length words → y ≡ word_at words s → Over k y
  listed_over s y l e = subst (Over k) (sym e) (r.over s l)

  in_again : (u s v : List ℕ) (b : Bool) → Over k u → Over k s → Over k v
      → IsTrue b ↔ L (u ++ (s ++ v)) → IsTrue b ↔ M (u ++ (s ++ v))
  in_again u s v b ou os ov h =
      both_directions h
      (a.both (u ++ (s ++ v)) (over_append k u (s ++ v) ou (over_append k s v os ov)))

  repeat_witness_again : (w : LtWitness) → IsRepeatWitness k L words w → IsRepeatWitness k M words w
  repeat_witness_again w h =
      let ox = h.failing.least.over in
      let oy = listed_over h.s w.y h.repeat.within h.y in
      let ol = local_over k w.x w.y ox oy in
      record {
        failing = of_failing_again w.x h.failing;
        s = h.s;
        repeat = first_repeat_again k (Syntactic k L) (Syntactic k M) agree words r.over w.x h.s ox
            h.repeat;
        y = h.y;
        z = h.z;
        context = separation_again k L M a (local w.x w.y) (local w.x w.y ++ local w.x w.y) ol
            (over_append k (local w.x w.y) (local w.x w.y) ol ol) w.u w.v h.context;
        first_in = in_again w.u (local w.x w.y) w.v w.first_in h.context.before.over ol
            h.context.behind.over h.first_in;
      }

  swap_witness_again : (w : LtWitness) → IsSwapWitness k L words w → IsSwapWitness k M words w
  swap_witness_again w h =
      let ox = h.failing.least.over in
      let oy = listed_over h.s w.y h.swap.within h.y in
      let oz = listed_over h.t w.z h.swap.other_within h.z in
      let oxy = local_over k w.x w.y ox oy in
      let oxz = local_over k w.x w.z ox oz in
      let first = over_append k (local w.x w.y) (local w.x w.z) oxy oxz in
      record {
        failing = of_failing_again w.x h.failing;
        no_repeat = λ f. h.no_repeat (repeat_again k (Syntactic k M) (Syntactic k L)
            (agree_turned k (Syntactic k L) (Syntactic k M) agree) w.x ox f);
        s = h.s;
        t = h.t;
        swap = first_swap_again k (Syntactic k L) (Syntactic k M) agree words r.over w.x h.s h.t ox
            h.swap;
        y = h.y;
        z = h.z;
        context = separation_again k L M a (local w.x w.y ++ local w.x w.z)
            (local w.x w.z ++ local w.x w.y) first
            (over_append k (local w.x w.z) (local w.x w.y) oxz oxy) w.u w.v h.context;
        first_in = in_again w.u (local w.x w.y ++ local w.x w.z) w.v w.first_in
            h.context.before.over first h.context.behind.over h.first_in;
      }

  witness_of_kind : (of : LtKind) (w : LtWitness) → IsWitnessOf of k L words w
      → IsWitnessOf of k M words w
  witness_of_kind kind.Repeat = repeat_witness_again
  witness_of_kind kind.Swap = swap_witness_again

  pub witness_again : (w : LtWitness) → IsWitness k L words w → IsWitness k M words w
  witness_again w = witness_of_kind w.kind w
