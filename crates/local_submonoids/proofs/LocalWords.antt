-- Elements of local submonoids as words: related words give related elements.
use Rattle.std.proofs.Common.{ℕ, List, ◌++◌}
use Rattle.language_theory.specs.Words.{Over}
use Rattle.language_theory.specs.Congruence.{IsCongruence, IsEquivalence}
use Rattle.monoid_theory.specs.Green.{IsIdempotent}
use Rattle.language_theory.proofs.Shortlex.{over_append}
use Rattle.local_submonoids.specs.LocalSubmonoids.{local, Commute, GiveOne}

pub local_over : (k : ℕ) (e s : List ℕ) → Over k e → Over k s → Over k (local e s)
local_over k e s oe os = over_append k e (s ++ e) oe (over_append k s e os oe)

module _ (k : ℕ) (same : List ℕ → List ℕ → Type 0) (c : IsCongruence k same) where
  -- related words, put together, are related
  pub join : (s t u v : List ℕ) → Over k s → Over k t → Over k u → Over k v → same s t → same u v
      → same (s ++ u) (t ++ v)
  join s t u v os ot ou ov f g =
      c.equivalence.trans (s ++ u) (t ++ u) (t ++ v) (over_append k s u os ou)
      (over_append k t u ot ou) (over_append k t v ot ov) (c.right s t u os ot ou f)
      (c.left u v t ou ov ot g)

  pub local_moves : (e f s t : List ℕ) → Over k e → Over k f → Over k s → Over k t → same e f
      → same s t → same (local e s) (local f t)
  local_moves e f s t oe of os ot h g =
      join e f (s ++ e) (t ++ f) oe of (over_append k s e os oe) (over_append k t f ot of) h
      (join s t e f os ot oe of g h)

  pub idempotent_moves : (s t : List ℕ) → Over k s → Over k t → same s t → IsIdempotent same s
      → IsIdempotent same t
  idempotent_moves s t os ot h i =
      let back = c.equivalence.symm s t os ot h in
      c.equivalence.trans (t ++ t) s t (over_append k t t ot ot) os ot
      (c.equivalence.trans (t ++ t) (s ++ s) s (over_append k t t ot ot) (over_append k s s os os)
      os
      (join t s t s ot os ot os back back) i) h

  pub commute_moves : (e f s t u v : List ℕ) → Over k e → Over k f → Over k s → Over k t → Over k u
      → Over k v → same e f → same s u → same t v → Commute same e s t → Commute same f u v
  commute_moves e f s t u v oe of os ot ou ov h g i p =
      let a = local e s in
      let b = local e t in
      let x = local f u in
      let y = local f v in
      let oa = local_over k e s oe os in
      let ob = local_over k e t oe ot in
      let ox = local_over k f u of ou in
      let oy = local_over k f v of ov in
      let ax = local_moves e f s u oe of os ou h g in
      let by = local_moves e f t v oe of ot ov h i in
      let xa = c.equivalence.symm a x oa ox ax in
      let yb = c.equivalence.symm b y ob oy by in
      c.equivalence.trans (x ++ y) (b ++ a) (y ++ x) (over_append k x y ox oy)
      (over_append k b a ob oa) (over_append k y x oy ox)
      (c.equivalence.trans (x ++ y) (a ++ b) (b ++ a) (over_append k x y ox oy)
      (over_append k a b oa ob) (over_append k b a ob oa) (join x a y b ox oa oy ob xa yb) p)
      (join b y a x ob oy oa ox by ax)

  -- to give one element of a local submonoid is an equivalence
  pub give_one_equivalence : (e : List ℕ) → Over k e → IsEquivalence k (GiveOne same e)
  give_one_equivalence e oe = record {
    refl = λ u o. c.equivalence.refl (local e u) (local_over k e u oe o);
    symm = λ u v ou ov h. c.equivalence.symm (local e u) (local e v) (local_over k e u oe ou)
        (local_over k e v oe ov) h;
    trans = λ u v w ou ov ow h g. c.equivalence.trans (local e u) (local e v) (local e w)
        (local_over k e u oe ou) (local_over k e v oe ov) (local_over k e w oe ow) h g;
  }
